-- The factors of one number of letters, found one number after the other. Assumes nothing.
use mathlib.Core.Path.{◌≡◌, refl, sym, ap, ◌∙◌}
use mathlib.Core.List.{List, [], ◌∷◌, ◌++◌, map, map-append, append_assoc, append-nil}
use Prim.Native.Nat.{ℕ, ◌+◌, ◌<◌, ◌≤◌}
use native.Mathlib.Omega.{arith}
use native.Mathlib.Numerals.{add-one}
use lib.ListN.{length, get_or, take, drop, length-append, take-append-drop}
use lib.Seq.{take-suc, take-take}
use borrow.Author.Tests.{eq-eqb, ne_eqb}
use Rattle.specification.specs.Lists.{select, joined}
use Rattle.theory.specs.Records.Factors.{of_size, of_size-append}
use Rattle.terms.specs.Numbers.{letters_of}
use Rattle.record_writing.specs.Written.{Written}
use Rattle.record_writing.proofs.Writes.{written_then}

-- lists one behind the other, joined
pub joined-append : {A : Type 0} (xs ys : List (List A)) → joined (xs ++ ys) ≡ joined xs ++ joined ys
unfolding joined
joined-append [] ys = refl
joined-append (x ∷ xs) ys = ap (λ l. x ++ l) (joined-append xs ys) ∙ sym (append_assoc x (joined xs) (joined ys))

-- the factors of so many letters among numbers
abbrev pub sized : ℕ → List ℕ → List (List ℕ)
sized size ks = of_size size (map letters_of ks)

sized-append : (size : ℕ) (ks ls : List ℕ) → sized size (ks ++ ls) ≡ sized size ks ++ sized size ls
sized-append size ks ls = rw (map-append letters_of ks ls) (of_size-append size (map letters_of ks) (map letters_of ls))

module _ (size : ℕ) (f : List ℕ) (i : ℕ) (h : i < length f) where
  sized_next : sized size (take (i + 1) f) ≡ sized size (take i f) ++ sized size (get_or f i 0 ∷ [])
  sized_next = rw (add-one, take-suc f i 0 h) (sized-append size (take i f) (get_or f i 0 ∷ []))

  -- one more
  pub sized_more : length (letters_of (get_or f i 0)) ≡ size → sized size (take (i + 1) f) ≡ sized size (take i f) ++ letters_of (get_or f i 0) ∷ []
  unfolding select
  sized_more e = sized_next ∙ rw (eq-eqb (length (letters_of (get_or f i 0))) size e)

  -- or none
  pub sized_same : (length (letters_of (get_or f i 0)) ≡ size → ⊥) → sized size (take (i + 1) f) ≡ sized size (take i f)
  unfolding select
  sized_same e = sized_next ∙ rw (ne_eqb (length (letters_of (get_or f i 0))) size e) (append-nil (sized size (take i f)))

  -- and its letters
  pub joined-more : length (letters_of (get_or f i 0)) ≡ size → joined (sized size (take (i + 1) f)) ≡ joined (sized size (take i f)) ++ letters_of (get_or f i 0)
  unfolding joined
  joined-more e = ap joined (sized_more e) ∙ joined-append (sized size (take i f)) (letters_of (get_or f i 0) ∷ []) ∙ rw append-nil

-- no letters of no factors
pub joined-none : (size : ℕ) (f : List ℕ) → joined (sized size (take 0 f)) ≡ []
unfolding select joined
joined-none size f = refl

-- the letters of the first factors are not more than those of all
joined-within : (size : ℕ) (f : List ℕ) (i n : ℕ) → i ≤ n → length (joined (sized size (take i f))) ≤ length (joined (sized size (take n f)))
joined-within size f i n h =
    let e : joined (sized size (take n f)) ≡ joined (sized size (take i f)) ++ joined (sized size (drop i (take n f))) =
    ap (λ (ks : List ℕ). joined (sized size ks)) (sym (take-append-drop i (take n f)))
    ∙ ap joined (sized-append size (take i (take n f)) (drop i (take n f)))
    ∙ joined-append (sized size (take i (take n f))) (sized size (drop i (take n f)))
    ∙ ap (λ (ks : List ℕ). joined (sized size ks) ++ joined (sized size (drop i (take n f)))) (take-take i n f h) in
    omega (arith, simp length-append at (ap length e))

-- ════ a turn of a loop over the numbers

module _ (size : ℕ) (f : List ℕ) (i r : ℕ) (h : i < length f) (is_long : r ≡ length (letters_of (get_or f i 0))) where
  -- a factor of so many letters is counted
  pub counted_more : (count next : ℕ) → r ≡ size → count ≡ length (sized size (take i f)) → next ≡ count + 1 → next ≡ length (sized size (take (i + 1) f))
  counted_more count next e p q = rw (sized_more size f i h (sym is_long ∙ e)) (simp length-append (omega (arith, p, q)))

  -- another one is not
  pub counted_same : (count next : ℕ) → (r ≡ size → ⊥) → count ≡ length (sized size (take i f)) → next ≡ count → next ≡ length (sized size (take (i + 1) f))
  counted_same count next e p q = rw (sized_same size f i h (λ w. e (is_long ∙ w))) (q ∙ p)

  -- there is room for its letters where there is room for all
  pub joined-room : (n at k room : ℕ) → r ≡ size → i < n → at + length (joined (sized size (take n f))) ≤ room → k ≡ at + length (joined (sized size (take i f)))
      → k + length (letters_of (get_or f i 0)) ≤ room
  joined-room n at k room e g p q =
      let l = joined-within size f (i + 1) n (omega arith) in
      let m = joined-more size f i h (sym is_long ∙ e) in
      omega (arith, l, simp length-append at (ap length m))

  -- its letters are written behind those before
  pub joined_written : (a b c : List ℕ) (at k next : ℕ) → r ≡ size → at ≤ length a → Written a b at k (joined (sized size (take i f)))
      → Written b c k next (letters_of (get_or f i 0)) → Written a c at next (joined (sized size (take (i + 1) f)))
  joined_written a b c at k next e l p q = rw (joined-more size f i h (sym is_long ∙ e)) (written_then a b c at k next _ _ l p q)

  -- those of another one are not
  pub joined_same : (a b : List ℕ) (at k : ℕ) → (r ≡ size → ⊥) → Written a b at k (joined (sized size (take i f))) → Written a b at k (joined (sized size (take (i + 1) f)))
  joined_same a b at k e p = rw (sized_same size f i h (λ w. e (is_long ∙ w))) p
