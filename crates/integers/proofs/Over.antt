-- Laws of `over`, a part of a list written over: its length, what stands before and behind, and writes one after the other.
-- Assumes nothing.
use mathlib.Core.Path.{◌≡◌, sym, ap, ap₂, ◌∙◌}
use mathlib.Core.List.{List, [], ◌∷◌, ◌++◌, append_assoc}
use Prim.Native.Nat.{ℕ, suc, ◌+◌, ◌-◌, ◌≤◌, ◌<◌}
use native.Mathlib.Nat.{add_assoc, le_refl}
use native.Mathlib.Omega.{arith}
use lib.ListN.{length, get_or, take, drop, set, length-append, length-drop}
use lib.Seq.{sets, sets-eq, paste-zero, length-take-le, take-append-le, take-take, take_at, drop_at, drop-drop, get_or-take, get_or-drop}
use Rattle.algebra.specs.Lists.{window}
use Rattle.integers.specs.Over.{over}

module _ {ℓ} {A : Type ℓ} where
  -- ════ the length, and the parts

  -- the length up to the end of what is written
  length_before : (l : List A) (at : ℕ) (xs : List A) → at ≤ length l → length (take at l ++ xs) ≡ at + length xs
  length_before l at xs h = length-append (take at l) xs ∙ ap (λ (k : ℕ). k + length xs) (length-take-le at l h)

  -- a write that fits keeps the length
  pub length_over : (l : List A) (at : ℕ) (xs : List A) → at + length xs ≤ length l → length (over l at xs) ≡ length l
  unfolding over
  length_over l at xs h =
      let e = length_before l at xs (omega arith) in
      simp (length-append (take at l ++ xs), e, length-drop) (omega arith)

  -- what stands before the position is kept
  pub take_over : (n : ℕ) (l : List A) (at : ℕ) (xs : List A) → n ≤ at → at ≤ length l → take n (over l at xs) ≡ take n l
  unfolding over
  take_over n l at xs h g =
      let f = length_before l at xs g in
      let e = length-take-le at l g in
      take-append-le n (take at l ++ xs) (drop (at + length xs) l) (omega arith)
      ∙ take-append-le n (take at l) xs (omega arith)
      ∙ take-take n at l h

  -- up to the end of what is written
  pub take_over-end : (l : List A) (at : ℕ) (xs : List A) → at ≤ length l → take (at + length xs) (over l at xs) ≡ take at l ++ xs
  unfolding over
  take_over-end l at xs h = take_at (take at l ++ xs) (drop (at + length xs) l) (at + length xs) (length_before l at xs h)

  -- from the position on
  pub drop_over-start : (l : List A) (at : ℕ) (xs : List A) → at ≤ length l → drop at (over l at xs) ≡ xs ++ drop (at + length xs) l
  unfolding over
  drop_over-start l at xs h =
      rw (append_assoc (take at l) xs (drop (at + length xs) l)) (drop_at (take at l) (xs ++ drop (at + length xs) l) at (length-take-le at l h))

  -- what stands behind is kept
  pub drop_over : (n : ℕ) (l : List A) (at : ℕ) (xs : List A) → at + length xs ≤ n → at ≤ length l → drop n (over l at xs) ≡ drop n l
  unfolding over
  drop_over n l at xs h g =
      let e : at + length xs + (n - (at + length xs)) ≡ n = omega arith in
      rw (← e, ← drop-drop (n - (at + length xs)) (at + length xs) (over l at xs), drop_at (take at l ++ xs) (drop (at + length xs) l) (at + length xs) (length_before l at xs g), drop-drop)

  -- an element before the position stands
  pub get_d_before : (l : List A) (at : ℕ) (xs : List A) (j : ℕ) (d : A) → j < at → at ≤ length l → get_or (over l at xs) j d ≡ get_or l j d
  get_d_before l at xs j d k h =
      sym (get_or-take (suc j) (over l at xs) j d (le_refl (suc j))) ∙ ap (λ (m : List A). get_or m j d) (take_over (suc j) l at xs k h)
      ∙ get_or-take (suc j) l j d (le_refl (suc j))

  -- and one behind what is written
  pub get_d_behind : (l : List A) (at : ℕ) (xs : List A) (j : ℕ) (d : A) → at + length xs ≤ j → at ≤ length l → get_or (over l at xs) j d ≡ get_or l j d
  get_d_behind l at xs j d k h =
      let e : j + 0 ≡ j = omega arith in
      ap (λ (i : ℕ). get_or (over l at xs) i d) (sym e) ∙ sym (get_or-drop j (over l at xs) 0 d) ∙ ap (λ (m : List A). get_or m 0 d) (drop_over j l at xs k h)
      ∙ get_or-drop j l 0 d ∙ ap (λ (i : ℕ). get_or l i d) e

  -- a part that ends before the position stands
  pub window-before : (l : List A) (at : ℕ) (xs : List A) (s n : ℕ) → s + n ≤ at → at + length xs ≤ length l → take n (drop s (over l at xs)) ≡ take n (drop s l)
  window-before l at xs s n k h =
      window (over l at xs) s n (omega (arith, length_over l at xs h)) ∙ ap (drop s) (take_over (s + n) l at xs k (omega arith)) ∙ sym (window l s n (omega arith))

  -- ════ writes

  -- a run of stores
  pub sets_over : (l : List A) (at : ℕ) (xs : List A) → at + length xs ≤ length l → sets l at xs ≡ over l at xs
  unfolding over
  sets_over l at xs h = sets-eq xs l at h

  -- a single store
  pub set-over : (l : List A) (at : ℕ) (x : A) → at < length l → set l at x ≡ over l at (x ∷ [])
  set-over l at x h = sets_over l at (x ∷ []) (omega arith)

  -- nothing written
  pub over-nil : (l : List A) (at : ℕ) → l ≡ over l at []
  unfolding over
  over-nil l at = paste-zero l at []

  -- two lists written one after the other
  pub over-append : (l : List A) (at : ℕ) (xs ys : List A) → at ≤ length l → over (over l at xs) (at + length xs) ys ≡ over l at (xs ++ ys)
  unfolding over
  over-append l at xs ys h =
      rw (take_over-end l at xs h, drop_over (at + length xs + length ys) l at xs (omega arith) h, append_assoc (take at l) xs ys, length-append xs ys, ← add_assoc at (length xs) (length ys))

  -- the same, as two calls leave it
  pub over-then : (l m n : List A) (at k : ℕ) (xs ys : List A) → at ≤ length l → m ≡ over l at xs → k ≡ at + length xs → n ≡ over m k ys → n ≡ over l at (xs ++ ys)
  over-then l m n at k xs ys h p q r = r ∙ rw (p, q) (over-append l at xs ys h)

  -- one more element behind what is written
  pub over_more : (l : List A) (at : ℕ) (xs : List A) (x : A) → at + length xs < length l → set (over l at xs) (at + length xs) x ≡ over l at (xs ++ x ∷ [])
  over_more l at xs x k =
      set-over (over l at xs) (at + length xs) x (omega (arith, length_over l at xs (omega arith))) ∙ over-append l at xs (x ∷ []) (omega arith)

  -- what is written before what is written already
  pub over-front : (l : List A) (at : ℕ) (xs ys : List A) → at + length xs ≤ length l → over (over l (at + length xs) ys) at xs ≡ over l at (xs ++ ys)
  unfolding over
  over-front l at xs ys k =
      let t : take at (over l (at + length xs) ys) ≡ take at l = take_over at l (at + length xs) ys (omega arith) k in
      let d : drop (at + length xs) (over l (at + length xs) ys) ≡ ys ++ drop (at + length xs + length ys) l = drop_over-start l (at + length xs) ys k in
      let e : at + length xs + length ys ≡ at + length (xs ++ ys) = omega (arith, length-append xs ys) in
      ap₂ (λ (p q : List A). p ++ xs ++ q) t d
      ∙ sym (append_assoc (take at l ++ xs) ys (drop (at + length xs + length ys) l))
      ∙ ap₂ (λ (p : List A) (i : ℕ). p ++ drop i l) (append_assoc (take at l) xs ys) e
