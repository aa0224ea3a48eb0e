-- Where lines end, and empty lines passed one after the other. Assumes nothing.
use mathlib.Core.Path.{◌≡◌, refl, sym, ◌∙◌, ap, subst}
use mathlib.Core.Bool.{Bool, true, false, not, true≢false}
use mathlib.Core.List.{List, [], ◌∷◌, ◌++◌, append_assoc, append-nil}
use Prim.Native.Nat.{ℕ, zero, suc, ◌+◌, ◌-◌, ◌≤◌, ◌<◌}
use native.Mathlib.Omega.{arith}
use native.Mathlib.Numerals.{add-one, sub-one}
use borrow.Author.Tests.{eq-eqb, ne_eqb}
use lib.Dec.{T, eqb, ltb, ltb→lt, nltb→le}
use lib.ListN.{length, get_or, take, drop, length-drop, drop_of_length-le}
use lib.Seq.{drop-cons, drop-length, take-suc, get_or-drop}
use Rattle.specification.specs.Lists.{all}
use Rattle.specification.specs.Results.{when◌then◌else◌}
use Rattle.specification.specs.Lines as L
use Rattle.specification.specs.Lines.{first_line, behind_line, line_of, next_line, is_empty_line, at_end, past_empty, to_line}
use Rattle.lines.specs.declared.places.Place.{Place}
use Rattle.lines.specs.Places.{place_of, Inside, LineEnd, Reached}

-- ════ where a line ends

-- no newline up to a position
pub record NoEnd (s : List ℕ) (at i : ℕ) : Type 0 where
  pub from : at ≤ i
  pub within : i ≤ length s
  pub line : take (i - at) (drop at s) ++ first_line (drop i s) ≡ first_line (drop at s)
  pub rest : behind_line (drop i s) ≡ behind_line (drop at s)

module _ (s : List ℕ) (at : ℕ) where
  -- at first
  pub none_passed : at ≤ length s → NoEnd s at at
  none_passed h = record {
    from = omega arith;
    within = h;
    line = ap (λ (k : ℕ). take k (drop at s) ++ first_line (drop at s)) (none at);
    rest = refl;
  }
    where
      none : (n : ℕ) → n - n ≡ 0
      none n = omega arith

  module _ (i : ℕ) (h : NoEnd s at i) where
    -- another byte
    pub byte-passed : i < length s → (get_or s i 0 ≡ 10 → ⊥) → NoEnd s at (i + 1)
    unfolding first_line behind_line
    byte-passed k n =
        let b = get_or s i 0 in
        let more : i + 1 - at ≡ suc (i - at) = omega (arith, h.from) in
        let place : at + (i - at) ≡ i = omega (arith, h.from) in
        let here : drop i s ≡ b ∷ drop (i + 1) s = drop-cons s i 0 k ∙ ap (λ (j : ℕ). b ∷ drop j s) (sym (add-one i)) in
        let taken : take (i + 1 - at) (drop at s) ≡ take (i - at) (drop at s) ++ b ∷ [] =
        ap (λ (j : ℕ). take j (drop at s)) more
        ∙ take-suc (drop at s) (i - at) 0 (omega (arith, length-drop at s, h.from))
        ∙ ap (λ (x : ℕ). take (i - at) (drop at s) ++ x ∷ []) (get_or-drop at s (i - at) 0 ∙ ap (λ (j : ℕ). get_or s j 0) place) in
        let first : first_line (drop i s) ≡ b ∷ first_line (drop (i + 1) s) = ap first_line here ∙ rw (ne_eqb b 10 n) in
        let behind : behind_line (drop i s) ≡ behind_line (drop (i + 1) s) = ap behind_line here ∙ rw (ne_eqb b 10 n) in
        record {
          from = omega (arith, h.from);
          within = omega arith;
          line = ap (λ (l : List ℕ). l ++ first_line (drop (i + 1) s)) taken
              ∙ append_assoc (take (i - at) (drop at s)) (b ∷ []) (first_line (drop (i + 1) s))
              ∙ ap (λ (l : List ℕ). take (i - at) (drop at s) ++ l) (sym first)
              ∙ h.line;
          rest = sym behind ∙ h.rest;
        }

    -- a newline
    pub newline-there : i < length s → get_or s i 0 ≡ 10 → LineEnd s at i
    unfolding first_line behind_line
    newline-there k e =
        let b = get_or s i 0 in
        let here : drop i s ≡ b ∷ drop (i + 1) s = drop-cons s i 0 k ∙ ap (λ (j : ℕ). b ∷ drop j s) (sym (add-one i)) in
        let first : first_line (drop i s) ≡ [] = ap first_line here ∙ rw (eq-eqb b 10 e) in
        let behind : behind_line (drop i s) ≡ drop (i + 1) s = ap behind_line here ∙ rw (eq-eqb b 10 e) in
        record {
          from = h.from;
          within = h.within;
          line = sym (append-nil (take (i - at) (drop at s))) ∙ ap (λ (l : List ℕ). take (i - at) (drop at s) ++ l) (sym first) ∙ h.line;
          rest = sym behind ∙ h.rest;
        }

    -- the end of the text
    pub text-ends : length s ≤ i → LineEnd s at i
    unfolding first_line behind_line
    text-ends k =
        let here : drop i s ≡ [] = drop_of_length-le s k in
        record {
          from = h.from;
          within = h.within;
          line = sym (append-nil (take (i - at) (drop at s))) ∙ ap (λ (l : List ℕ). take (i - at) (drop at s) ++ first_line l) (sym here) ∙ h.line;
          rest = (let l : length s ≤ i + 1 = omega arith in drop_of_length-le s l) ∙ ap behind_line (sym here) ∙ h.rest;
        }

-- ════ empty lines

module _ (line : List ℕ) (i : ℕ) where
  -- another byte than a blank
  pub not_empty : is_empty_line line ≡ is_empty_line (drop i line) → i < length line → (get_or line i 0 ≡ 32 → ⊥) → false ≡ is_empty_line line
  unfolding is_empty_line all
  not_empty h k n = sym (h ∙ rw (drop-cons line i 0 k, ne_eqb (get_or line i 0) 32 n))

  -- a blank is passed
  pub blank-passed : is_empty_line line ≡ is_empty_line (drop i line) → i < length line → get_or line i 0 ≡ 32 → is_empty_line line ≡ is_empty_line (drop (i + 1) line)
  unfolding is_empty_line all
  blank-passed h k e = h ∙ rw (drop-cons line i 0 k, eq-eqb (get_or line i 0) 32 e, add-one)

  -- all are passed
  pub all_blank : is_empty_line line ≡ is_empty_line (drop i line) → length line ≤ i → true ≡ is_empty_line line
  unfolding is_empty_line all
  all_blank h k = sym (h ∙ rw (drop_of_length-le line k))

-- ════ the next line

module _ (s : List ℕ) (p : Place) (h : Inside s p) (k : p.at < length s) (end : ℕ) (e : LineEnd s p.at end) where
  -- behind a newline
  pub next_behind : end < length s → Reached s (next_line (place_of s p)) (record { number = p.number + 1; at = end + 1 })
  next_behind l = record {
    is = λ i. (p.number + 1, e.rest i);
    inside = record { within = omega arith; few = omega (arith, h.few, e.from) };
  }

  -- at the end
  pub next-end : length s ≤ end → Reached s (next_line (place_of s p)) (record { number = p.number + 1; at = length s })
  next-end l =
      let far : length s ≤ end + 1 = omega arith in
      let z : drop (length s) s ≡ drop (end + 1) s = drop-length s ∙ sym (drop_of_length-le s far) in
      record {
        is = λ i. (p.number + 1, (z ∙ e.rest) i);
        inside = record { within = omega arith; few = omega (arith, h.few) };
      }

-- the line at a place
pub line_at : (s : List ℕ) (p : Place) (end : ℕ) → LineEnd s p.at end → take (end - p.at) (drop p.at s) ≡ line_of (place_of s p)
line_at s p end e = e.line

-- ════ past empty lines

-- nothing is passed at the end
end-stops : (k n : ℕ) → past_empty k (n, []) ≡ (n, [])
unfolding past_empty at_end
end-stops zero n = refl
end-stops (suc k) n = refl

-- one line, where there is one
one_turn : (k : ℕ) (p : L.Place) → 0 < k → (p.1 ≡ [] → ⊥) → past_empty k p ≡ (when is_empty_line (line_of p) then past_empty (k - 1) (next_line p) else p)
unfolding past_empty at_end
one_turn zero p h n = absurd (omega arith)
one_turn (suc k) p h n =
    let some : length p.1 ≡ 0 → ⊥ = λ z. n (no_bytes p.1 z) in
    rw (ne_eqb (length p.1) 0 some, sub-one (suc k))
  where
    no_bytes : (r : List ℕ) → length r ≡ 0 → r ≡ []
    no_bytes [] z = refl
    no_bytes (b ∷ r) z = absurd (omega (arith, z))

-- what is left to be passed from a place on
pub record PassingFrom (s : List ℕ) (first : L.Place) (q : Place) (left : ℕ) : Type 0 where
  pub same : past_empty left (place_of s q) ≡ to_line first
  pub inside : Inside s q

-- at first
pub passing_begins : (s : List ℕ) (p : Place) → Inside s p → PassingFrom s (place_of s p) p (length s - p.at)
unfolding to_line
passing_begins s p h = record { same = ap (λ (k : ℕ). past_empty k (place_of s p)) (sym (length-drop p.at s)); inside = h }

module _ (s : List ℕ) (first : L.Place) (q : Place) (left : ℕ) (h : PassingFrom s first q left) where
  -- no more are passed
  pub passing-done : left ≤ 0 → Reached s (to_line first) q
  unfolding past_empty
  passing-done z = let e : left ≡ 0 = omega arith in record { is = ap (λ (k : ℕ). past_empty k (place_of s q)) (sym e) ∙ h.same; inside = h.inside }

  -- at the end nothing is passed
  pub passing-ends : length s ≤ q.at → Reached s (to_line first) q
  passing-ends l = record { is = sym (stops left p.0 p.1 (drop_of_length-le s l)) ∙ h.same; inside = h.inside }
    where
      p : L.Place
      p = place_of s q

      stops : (k n : ℕ) (r : List ℕ) → r ≡ [] → past_empty k (n, r) ≡ (n, r)
      stops k n r e = subst (λ (r : List ℕ). past_empty k (n, r) ≡ (n, r)) (sym e) (nothing k)
        where
          nothing : (k : ℕ) → past_empty k (n, []) ≡ (n, [])
          nothing k = end-stops k n

  module _ (k : 0 < left) (l : q.at < length s) (t : Bool) (e : t ≡ is_empty_line (line_of (place_of s q))) where
    -- another line stands
    pub passing-stands : t ≡ false → Reached s (to_line first) q
    passing-stands z =
        record { is = sym (ap (λ (b : Bool). when b then past_empty (left - 1) (next_line (place_of s q)) else place_of s q) (sym e ∙ z)) ∙ sym (turn left k) ∙ h.same; inside = h.inside }
      where
        turn : (n : ℕ) → 0 < n → past_empty n (place_of s q) ≡ (when is_empty_line (line_of (place_of s q)) then past_empty (n - 1) (next_line (place_of s q)) else place_of s q)
        turn n z = one_turn n (place_of s q) z (λ w. omega (arith, length-drop q.at s, ap length w))

    -- an empty one is passed
    pub passing_on : (r : Place) → t ≡ true → Reached s (next_line (place_of s q)) r → PassingFrom s first r (left - 1)
    passing_on r z n = record {
      same = ap (past_empty (left - 1)) n.is
          ∙ ap (λ (b : Bool). when b then past_empty (left - 1) (next_line (place_of s q)) else place_of s q) (sym z ∙ e)
          ∙ sym (one_turn left (place_of s q) k (λ w. omega (arith, length-drop q.at s, ap length w)))
          ∙ h.same;
      inside = n.inside;
    }

-- the line behind the next place
pub to_next : (s : List ℕ) (p : L.Place) (q r : Place) → Reached s p q → Reached s (to_line (place_of s q)) r → Reached s (to_line p) r
to_next s p q r h k = record { is = k.is ∙ ap to_line h.is; inside = k.inside }

-- a place is in the text, or nothing stands there
pub inside_or : (s : List ℕ) (at : ℕ) → (drop at s ≡ [] → ⊥) → at < length s
inside_or s at n = go (ltb at (length s)) (ltb→lt at (length s)) (nltb→le at (length s))
  where
    go : (b : Bool) → (T b → at < length s) → (T (not b) → length s ≤ at) → at < length s
    go true f g = f tt
    go false f g = absurd (n (drop_of_length-le s (g tt)))
