-- The letters of a rule by a mask over the pool. Assumes nothing.
use mathlib.Core.Path.{◌≡◌, refl, sym, ap, subst, ◌∙◌}
use mathlib.Core.Bool.{Bool, true, false}
use mathlib.Core.List.{List, [], ◌∷◌, ◌++◌}
use Prim.Native.Nat.{ℕ, ◌+◌, ◌-◌, ◌%◌, ◌^◌, ◌<◌, ◌≤◌}
use native.Mathlib.Omega.{arith}
use borrow.Author.Tests.{eqb-true, ltb-true, ltb-false, lt-ltb, le-ltb, le-leb, lt-leb, eq-eqb, ne_eqb}
use lib.Dec.{T, eqb, leb, ltb}
use lib.ListN.{length, get_or, take, drop, length-append}
use lib.Seq.{length-take-le, get_or-take}
use Rattle.specification.specs.Results.{when◌then◌else◌}
use Rattle.specification.specs.Lists.{ascend}
use Rattle.specification.specs.Rules.{rule_letters, is_rule}
use Rattle.theory.specs.Elements.{All}
use Rattle.theory.proofs.Rules.Table.{by-rule}
use Rattle.theory.specs.Shortening.Masks.{taken, left_over}
use Rattle.theory.specs.Shortening.Candidates.{block_size, in_rule_order, block_is_first}
use Rattle.terms.proofs.Arrays.{rest_at, nothing_left_lem}
use Rattle.std.specs.Prelude.{Option, Some, None}
use Rattle.picks.specs.Choosing.{MaskTaken, picks, RuleOrdered, PickedBy}
use Rattle.picks.proofs.Masks.{left_taken, taken_left-long, taken_all}

-- ════ numbers that ascend strictly

module _ (f : List ℕ) (n i : ℕ) (h : n ≤ length f) where
  -- two that do not
  pub ascend-stops : i + 1 < n → get_or f (i + 1) 0 ≤ get_or f i 0 → ascend ltb (drop i (take n f)) ≡ false
  unfolding ascend
  ascend-stops g e = rw (rest_at f n i 0 h (omega arith), rest_at f n (i + 1) 0 h g, le-ltb (get_or f i 0) (get_or f (i + 1) 0) e)

  -- two that do
  pub ascend_more : i + 1 < n → get_or f i 0 < get_or f (i + 1) 0 → ascend ltb (drop i (take n f)) ≡ ascend ltb (drop (i + 1) (take n f))
  unfolding ascend
  ascend_more g e = rw (rest_at f n i 0 h (omega arith), rest_at f n (i + 1) 0 h g, lt-ltb (get_or f i 0) (get_or f (i + 1) 0) e)

  -- no two are left
  pub ascend-ends : n ≤ i + 1 → ascend ltb (drop i (take n f)) ≡ true
  unfolding ascend
  ascend-ends g = go (ltb i n) refl
    where
      go : (b : Bool) → ltb i n ≡ b → ascend ltb (drop i (take n f)) ≡ true
      go true e = rw (rest_at f n i 0 h (ltb-true i n e), nothing_left_lem f n (i + 1) h g)
      go false e = rw (nothing_left_lem f n i h (ltb-false i n e))

-- ════ the order of a rule

-- the numbers of a list of seven
seven : (P : List ℕ → Type 0) → ((a b c d e f g : ℕ) → P (a ∷ b ∷ c ∷ d ∷ e ∷ f ∷ g ∷ [])) → (l : List ℕ) → length l ≡ 7 → P l
seven P h (a ∷ b ∷ c ∷ d ∷ e ∷ f ∷ g ∷ []) q = h a b c d e f g
seven P h (a ∷ b ∷ c ∷ d ∷ e ∷ f ∷ g ∷ i ∷ l) q = absurd (omega arith)
seven P h [] q = absurd (omega arith)
seven P h (a ∷ []) q = absurd (omega arith)
seven P h (a ∷ b ∷ []) q = absurd (omega arith)
seven P h (a ∷ b ∷ c ∷ []) q = absurd (omega arith)
seven P h (a ∷ b ∷ c ∷ d ∷ []) q = absurd (omega arith)
seven P h (a ∷ b ∷ c ∷ d ∷ e ∷ []) q = absurd (omega arith)
seven P h (a ∷ b ∷ c ∷ d ∷ e ∷ f ∷ []) q = absurd (omega arith)

abbrev Small : List ℕ → Type 0
Small l = All (λ (n : ℕ). n < 256) l

low : (n : ℕ) → n < 256 → n % 256 ≡ n
low n h = omega arith

-- the letters that the code stores
abbrev pub stored : (rule : ℕ) (x y : List ℕ) → List ℕ
stored r x y =
    get_or x 0 0 % 256 ∷ get_or x 1 0 % 256 ∷ get_or x 2 0 % 256 ∷ (when eqb r 2 then get_or x 3 0 else get_or y 0 0) % 256 ∷ (when eqb r 3 then get_or x 3 0 else get_or y 1 0)
    % 256 ∷ get_or y 2 0 % 256 ∷ []

pub chosen : (a b r k : ℕ) → r ≡ k → a ≡ (when eqb r k then a else b)
chosen a b r k e = rw (eq-eqb r k e)

pub not_chosen : (a b r k : ℕ) → (r ≡ k → ⊥) → b ≡ (when eqb r k then a else b)
not_chosen a b r k e = rw (ne_eqb r k e)

abbrev InOrder : (rule : ℕ) (x y : List ℕ) → Type 0
InOrder r x y = Small (take (block_size r) x) → Small (take (rule_letters r - block_size r) y)
    → take (rule_letters r) (stored r x y) ≡ in_rule_order r (take (block_size r) x ++ take (rule_letters r - block_size r) y)

rule-order : (r : ℕ) → T (is_rule r) → (x y : List ℕ) → length x ≡ 7 → length y ≡ 7 → InOrder r x y
unfolding block_size rule_letters in_rule_order
rule-order r t x y hx hy =
    seven (λ x. InOrder r x y) (λ x0 x1 x2 x3 x4 x5 x6. seven (λ y. InOrder r (x0 ∷ x1 ∷ x2 ∷ x3 ∷ x4 ∷ x5 ∷ x6 ∷ []) y) (λ y0 y1 y2 y3 y4 y5 y6.
    by-rule (λ (r : ℕ). InOrder r (x0 ∷ x1 ∷ x2 ∷ x3 ∷ x4 ∷ x5 ∷ x6 ∷ []) (y0 ∷ y1 ∷ y2 ∷ y3 ∷ y4 ∷ y5 ∷ y6 ∷ []))
    (λ a b i. low x0 a.0 i ∷ low x1 a.1.0 i ∷ low x2 a.1.1.0 i ∷ low y0 b.0 i ∷ [])
    (λ a b i. low x0 a.0 i ∷ low x1 a.1.0 i ∷ low x2 a.1.1.0 i ∷ low x3 a.1.1.1.0 i ∷ [])
    (λ a b i. low x0 a.0 i ∷ low x1 a.1.0 i ∷ low x2 a.1.1.0 i ∷ low y0 b.0 i ∷ low x3 a.1.1.1.0 i ∷ [])
    (λ a b i. low x0 a.0 i ∷ low x1 a.1.0 i ∷ low x2 a.1.1.0 i ∷ low y0 b.0 i ∷ low y1 b.1.0 i ∷ [])
    (λ a b i. low x0 a.0 i ∷ low x1 a.1.0 i ∷ low x2 a.1.1.0 i ∷ low y0 b.0 i ∷ low y1 b.1.0 i ∷ low y2 b.1.1.0 i ∷ []) r t) y hy) x hx

pub rule-ordered : (r : ℕ) → T (is_rule r) → (x y l : List ℕ) → length x ≡ 7 → length y ≡ 7 → l ≡ stored r x y → RuleOrdered r x y l
rule-ordered r t x y l hx hy e = record {
  is = λ u v hu hv su sv eu ev.
      let others : length v ≡ rule_letters r - block_size r = omega (arith, hu, hv, length-append u v) in
      let eu' : take (block_size r) x ≡ u = ap (λ (n : ℕ). take n x) (sym hu) ∙ eu in
      let ev' : take (rule_letters r - block_size r) y ≡ v = ap (λ (n : ℕ). take n y) (sym others) ∙ ev in
      ap (take (rule_letters r)) e ∙ rule-order r t x y hx hy (subst Small (sym eu') su) (subst Small (sym ev') sv) ∙ (λ i. in_rule_order r (eu' i ++ ev' i));
}

-- ════ the tests of a pick

pub picked_as : (p : List ℕ) {m n rule j : ℕ} {r : Option (List ℕ)} → n ≡ m → PickedBy (take n p) rule j r → PickedBy (take m p) rule j r
picked_as p {m} {n} {rule} {j} {r} e w = subst (λ (i : ℕ). PickedBy (take i p) rule j r) e w

five-sizes : (r : ℕ) → r ≡ 5 → (block_size r ≡ 3) × (rule_letters r ≡ 6)
unfolding block_size rule_letters
five-sizes r e = rw e (refl, refl)

module _ (w : List ℕ) (rule j : ℕ) where
  -- the picks that fail
  no-letters : picks rule w j ≡ false → PickedBy w rule j None
  no-letters e = record { is = sym e; letters = tt }

  module _ (a : ℕ) (x : List ℕ) (tx : MaskTaken w j x a) (few : length w ≤ 7) where
    block-long : length (taken j w) ≡ a
    block-long = ap length (sym tx.is) ∙ length-take-le a x (omega (arith, tx.few, tx.places))

    pub wrong_size : (s : ℕ) → s ≡ block_size rule → (a ≡ s → ⊥) → PickedBy w rule j None
    unfolding picks
    wrong_size s es h = no-letters (rw (ne_eqb (length (taken j w)) (block_size rule) (λ e. h (sym block-long ∙ e ∙ sym es))))

    module _ (s : ℕ) (es : s ≡ block_size rule) (size : a ≡ s) where
      right-size : eqb (length (taken j w)) (block_size rule) ≡ true
      right-size = eq-eqb (length (taken j w)) (block_size rule) (block-long ∙ size ∙ es)

      pub block_falls : (b : Bool) → b ≡ ascend ltb (take a x) → b ≡ false → PickedBy w rule j None
      unfolding picks
      block_falls b eb h = no-letters (rw (right-size, ap (ascend ltb) (sym tx.is) ∙ sym eb ∙ h))

      module _ (b : Bool) (eb : b ≡ ascend ltb (take a x)) (hb : b ≡ true) (c : ℕ) (y : List ℕ) (left : ℕ) (inside : j < 2 ^ length w)
          (el : left ≡ 2 ^ length w - 1 - j) (ty : MaskTaken w left y c) where
        others-are : take c y ≡ left_over j w
        others-are = ty.is ∙ ap (λ (m : ℕ). taken m w) el ∙ sym (left_taken w j inside)

        block-rises : ascend ltb (taken j w) ≡ true
        block-rises = ap (ascend ltb) (sym tx.is) ∙ sym eb ∙ hb

        pub others-fall : (d : Bool) → d ≡ ascend ltb (take c y) → d ≡ false → PickedBy w rule j None
        unfolding picks
        others-fall d ed h = no-letters (rw (right-size, block-rises, ap (ascend ltb) (sym others-are) ∙ sym ed ∙ h))

        module _ (d : Bool) (ed : d ≡ ascend ltb (take c y)) (hd : d ≡ true) (rules : T (is_rule rule)) (long : length w ≡ rule_letters rule) where
          others-rise : ascend ltb (left_over j w) ≡ true
          others-rise = ap (ascend ltb) (sym others-are) ∙ sym ed ∙ hd

          others-long : length (left_over j w) ≡ c
          others-long = ap length (sym others-are) ∙ length-take-le c y (omega (arith, ty.few, ty.places))

          first-is : block_is_first rule (taken j w) (left_over j w) ≡ (when eqb rule 5 then leb (get_or x 0 0) (get_or y 0 0) else true)
          unfolding block_is_first
          first-is = go (eqb rule 5) refl
            where
              go : (q : Bool) → eqb rule 5 ≡ q → (when q then leb (get_or (taken j w) 0 0) (get_or (left_over j w) 0 0) else true) ≡ (when q then leb (get_or x 0 0)
                  (get_or y 0 0) else true)
              go false e = refl
              go true e =
                  let n = five-sizes rule (eqb-true rule 5 e) in
                  let block : get_or (taken j w) 0 0 ≡ get_or x 0 0 = ap (λ (l : List ℕ). get_or l 0 0) (sym tx.is) ∙ get_or-take a x 0 0 (omega (
                    arith,
                    size,
                    es,
                    n.0,
                  )) in
                  let others : get_or (left_over j w) 0 0 ≡ get_or y 0 0 =
                  ap (λ (l : List ℕ). get_or l 0 0) (sym others-are) ∙ get_or-take c y 0 0 (omega (
                    arith,
                    taken_left-long j w,
                    block-long,
                    others-long,
                    long,
                    size,
                    es,
                    n.0,
                    n.1,
                  )) in
                  λ i. leb (block i) (others i)

          picks-are : picks rule w j ≡ (when eqb rule 5 then leb (get_or x 0 0) (get_or y 0 0) else true)
          unfolding picks
          picks-are = rw (right-size, block-rises, others-rise) first-is

          -- in rule 5 the other letters come first
          pub block-not_first : rule ≡ 5 → get_or y 0 0 < get_or x 0 0 → PickedBy w rule j None
          block-not_first e h = no-letters (picks-are ∙ rw (eq-eqb rule 5 e, lt-leb (get_or x 0 0) (get_or y 0 0) h))

          -- a pick
          pub picked_is : (l : List ℕ) → RuleOrdered rule x y l → All (λ (n : ℕ). n < 256) w → (rule ≡ 5 → get_or x 0 0 ≤ get_or y 0 0)
              → PickedBy w rule j (Some l)
          picked_is l o small first = record {
            is = sym (picks-are ∙ go (eqb rule 5) refl);
            letters = o.is (taken j w) (left_over j w) (block-long ∙ size ∙ es) (length-append (taken j w) (left_over j w) ∙ taken_left-long j w ∙ long)
                (taken_all (λ (n : ℕ). n < 256) j w small) (subst (All (λ (n : ℕ). n < 256)) (ap (λ (m : ℕ). taken m w) el ∙ sym (left_taken w j inside))
                (taken_all (λ (n : ℕ). n < 256) left w small))
                (ap (λ (n : ℕ). take n x) block-long ∙ tx.is) (ap (λ (n : ℕ). take n y) others-long ∙ others-are);
          }
            where
              go : (q : Bool) → eqb rule 5 ≡ q → (when q then leb (get_or x 0 0) (get_or y 0 0) else true) ≡ true
              go true e = le-leb (get_or x 0 0) (get_or y 0 0) (first (eqb-true rule 5 e))
              go false e = refl
