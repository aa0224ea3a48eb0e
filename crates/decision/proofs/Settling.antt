-- The decision of two forms that passed every test: the components compared one after the other. Assumes nothing.
use mathlib.Core.Path.{◌≡◌, refl, sym, ◌∙◌, ap, ap₂, subst}
use mathlib.Core.Bool.{Bool, true, false, ◌&&◌}
use mathlib.Core.Logic.{inl, inr}
use mathlib.Core.List.{List, [], ◌∷◌}
use Prim.Native.Nat.{ℕ, zero, suc, ◌+◌, ◌*◌, ◌/◌, ◌%◌, ◌≤◌, ◌<◌}
use native.Mathlib.Nat as N
use native.Mathlib.Omega.{arith}
use lib.Dec.{T, leb, eqb}
use borrow.Author.Tests.{eq-eqb, ne_eqb, eqb-true, le-leb}
use lib.IntN.{ℤ, pos, ◌+ℤ◌, ◌-ℤ◌, ◌*ℤ◌}
use lib.IntN as I
use lib.ListN.{length, get_or, take}
use Rattle.algebra.specs.Integers.{sub_zero→eq}
use Rattle.specification.specs.Results.{when◌then◌else◌}
use Rattle.specification.specs.Lists.{each, all}
use Rattle.specification.specs.Letters.{scalar, vector, kind_of}
use Rattle.specification.specs.Records.{part_fits}
use Rattle.specification.specs.Values.{Vec, scalar_value, ◌•◌}
use Rattle.specification.specs.Terms as S
use Rattle.specification.specs.Evaluation.{assignment, part_value, term_value, terms_value, value, factors_value}
use Rattle.specification.specs.Decision.{letter_in_range, whole, Holds, Differs}
use Rattle.theory.specs.Elements.{All, all_T, T_each}
use Rattle.theory.specs.Values.Vectors.{by-components}
use Rattle.theory.specs.Values.Firsts.{whole-bytes}
use Rattle.theory.specs.Shape.Terms.{term-opens, kind_of_part}
use Rattle.theory.specs.Shape.Letters.{Known, FactorKnown, AllKnown, known_is, terms_known}
use Rattle.terms.specs.declared.types.Form.{Form}
use Rattle.terms.specs.Abstraction.{form_of}
use Rattle.terms.specs.Valid.{FormValid}
use Rattle.polynomials.specs.Summands.{Summand, total, is_some}
use Rattle.polynomials.specs.Memory.{summands}
use Rattle.polynomials.specs.Expansion.{LettersBelow}
use Rattle.elimination.specs.Differences.{TermBelow, difference, Comparable, Compared}
use Rattle.elimination.specs.Elimination.{limit_of, Eliminable, Gives, ZeroBefore}
use Rattle.firsts.specs.Keeping.{SoFar}
use Rattle.decision.specs.Values.{component, variables}
use Rattle.decision.specs.Settling.{Components, Decidable}
use Rattle.polynomials.proofs.Bytes.{length-summands}
use Rattle.decision.proofs.Contents.{AllHas}
use Rattle.decision.proofs.ExpandedValues.{component_zero, component-plus, Sound, difference_value}
use Rattle.elimination.proofs.Differences.{in_shape_lem, few_all, all_modest}
use Rattle.decision.proofs.Gathered.{gathered_value, gathered-polynomial}

-- ════ assignments in bytes

-- no number is above 6
limit-six : (table : List ℕ) (x : ℕ) → limit_of table x ≤ 6
unfolding limit_of
limit-six table x = go (eqb (kind_of table (x / 3)) vector) (eqb (x % 3) 0)
  where
    go : (a b : Bool) → (when a then 6 else when b then 2 else 0) ≤ 6
    go true b = omega arith
    go false true = omega arith
    go false false = omega arith

-- a scalar letter's numbers
module _ (table : List ℕ) (n : ℕ) (e : kind_of table n ≡ scalar) where
  scalar-limit : (x : ℕ) → x / 3 ≡ n → (x % 3 ≡ 0 → limit_of table x ≡ 2) × (¬ (x % 3 ≡ 0) → limit_of table x ≡ 0)
  unfolding limit_of
  scalar-limit x q =
      let k : eqb (kind_of table (x / 3)) vector ≡ false = ne_eqb (kind_of table (x / 3)) vector (λ z. omega (arith, z, ap (kind_of table) q, e)) in
      (λ z. rw (k, eq-eqb (x % 3) 0 z), λ z. rw (k, ne_eqb (x % 3) 0 z))

-- the three numbers of a letter, each within its limit
letter_in_range_lem : (table b : List ℕ) (n : ℕ) → get_or b (3 * n) 0 ≤ limit_of table (3 * n) → get_or b (3 * n + 1) 0 ≤ limit_of table (3 * n + 1) → get_or b (3 * n + 2) 0 ≤ limit_of table (3 * n + 2)
    → T (letter_in_range table b n)
unfolding letter_in_range
letter_in_range_lem table b n p q r = go (eqb (kind_of table n) scalar) refl
  where
    go : (t : Bool) → eqb (kind_of table n) scalar ≡ t
        → T (when t
        then leb (get_or b (3 * n) 0) 2 && eqb (get_or b (3 * n + 1) 0) 0 && eqb (get_or b (3 * n + 2) 0) 0
        else leb (get_or b (3 * n) 0) 6 && leb (get_or b (3 * n + 1) 0) 6 && leb (get_or b (3 * n + 2) 0) 6)
    go true e =
        let k = eqb-true (kind_of table n) scalar e in
        let a : limit_of table (3 * n) ≡ 2 = (scalar-limit table n k (3 * n) (omega arith)).0 (omega arith) in
        let c : limit_of table (3 * n + 1) ≡ 0 = (scalar-limit table n k (3 * n + 1) (omega arith)).1 (λ z. omega arith) in
        let d : limit_of table (3 * n + 2) ≡ 0 = (scalar-limit table n k (3 * n + 2) (omega arith)).1 (λ z. omega arith) in
        rw (
          le-leb (get_or b (3 * n) 0) 2 (omega (arith, p, a)),
          eq-eqb (get_or b (3 * n + 1) 0) 0 (omega (arith, q, c)),
          eq-eqb (get_or b (3 * n + 2) 0) 0 (omega (arith, r, d)),
        ) tt
    go false e =
        rw (
          le-leb (get_or b (3 * n) 0) 6 (omega (arith, p, limit-six table (3 * n))),
          le-leb (get_or b (3 * n + 1) 0) 6 (omega (arith, q, limit-six table (3 * n + 1))),
          le-leb (get_or b (3 * n + 2) 0) 6 (omega (arith, r, limit-six table (3 * n + 2))),
        ) tt

-- numbers within their limits are in range
in-range : (table b : List ℕ) → ((x : ℕ) → x < 3 * length table → get_or b x 0 ≤ limit_of table x) → T (each (length table) (letter_in_range table b))
in-range table b h = T_each (letter_in_range table b) (length table) letter
  where
    letter : (n : ℕ) → n < length table → T (letter_in_range table b n)
    letter n l = letter_in_range_lem table b n (h (3 * n) (omega arith)) (h (3 * n + 1) (omega arith)) (h (3 * n + 2) (omega arith))

-- a whole number is the value of its variable
whole-gives : (table s : List ℕ) → Gives table s (variables (whole s))
unfolding Gives variables whole component
whole-gives table s x h = go (x % 3) refl (omega arith)
  where
    go : (r : ℕ) → x % 3 ≡ r → r < 3 → component r (whole s (x / 3)) ≡ pos (get_or s x 0)
    go zero e l = let q : 3 * (x / 3) ≡ x = omega arith in ap (λ (i : ℕ). pos (get_or s i 0)) q
    go (suc zero) e l = let q : 3 * (x / 3) + 1 ≡ x = omega arith in ap (λ (i : ℕ). pos (get_or s i 0)) q
    go (suc (suc zero)) e l = let q : 3 * (x / 3) + 2 ≡ x = omega arith in ap (λ (i : ℕ). pos (get_or s i 0)) q
    go (suc (suc (suc r))) e l = absurd (omega arith)

-- and so is a byte up to 6
byte-gives : (table b : List ℕ) → ((x : ℕ) → x < 3 * length table → get_or b x 0 ≤ 6) → Gives table b (variables (assignment b))
unfolding Gives variables
byte-gives table b few x h =
    ap (component (x % 3)) (sym (whole-bytes (length table) b b (λ i l. refl) few (x / 3) (omega arith))) ∙ whole-gives table b x h

-- ════ scalar forms

-- a term without a vector part has 0 in the second and third component
no_part : (τ : ℕ → Vec) (i : ℕ) (t : S.Term) → T (part_fits 0 t) → component (suc i) (term_value τ t) ≡ pos 0
unfolding term_value part_value component part_fits S.term_kind
no_part τ i t h =
    let e : t.part ≡ [] = go t.part h in
    ap (λ (p : List ℕ). component (suc i) ((t.coef *ℤ factors_value τ t.factors) • part_value τ p)) e ∙ none i (t.coef *ℤ factors_value τ t.factors)
  where
    go : (p : List ℕ) → T (eqb (when eqb (length p) 0 then scalar else vector) 0) → p ≡ []
    go [] z = refl
    go (a ∷ p) z = absurd (subst (λ (b : Bool). T (eqb (when b then scalar else vector) 0)) (ne_eqb (length (a ∷ p)) 0 (λ e. omega arith)) z)

    none : (i : ℕ) (k : ℤ) → component (suc i) (k • part_value τ []) ≡ pos 0
    none zero k = I.*ℤ-zero k
    none (suc i) k = I.*ℤ-zero k

-- the second and third component of terms without a vector part are 0
no_parts : (τ : ℕ → Vec) (i : ℕ) (ts : List S.Term) → All (λ (t : S.Term). T (part_fits 0 t)) ts → component (suc i) (terms_value τ ts) ≡ pos 0
unfolding terms_value
no_parts τ i [] h = component_zero (suc i)
no_parts τ i (t ∷ ts) h =
    component-plus (suc i) (term_value τ t) (terms_value τ ts) ∙ ap₂ (λ (x y : ℤ). x +ℤ y) (no_part τ i t h.0) (no_parts τ i ts h.1)

-- the terms of a scalar form have none
scalars : (f : Form) → FormValid f → f.kind ≡ 0 → All (λ (t : S.Term). T (part_fits 0 t)) (form_of f).terms
unfolding form_of
scalars f v e = all_T (part_fits 0) (form_of f).terms (subst (λ (y : ℕ). T (all (part_fits y) (form_of f).terms)) e v.in_shape.parts)

-- ════ two forms

-- the first k of a list are some
some_left : (k : ℕ) (l : List Summand) → 0 < k → k ≤ length l → is_some (take k l) ≡ true
unfolding is_some
some_left zero l p q = absurd (omega arith)
some_left (suc k) [] p q = absurd (omega arith)
some_left (suc k) (m ∷ l) p q = refl

-- there are at most three components
pub three : (kind m i : ℕ) → Components kind m → i < m → i < 3
unfolding Components
three kind m i (inl e) l = omega (arith, e.0)
three kind m i (inr e) l = omega arith

module _ (table : List ℕ) (f g : Form) (buffer work : List ℕ) (w : Decidable table f g buffer work) where
  letters_below_lem : (kind : ℕ) (ls : List ℕ) → All (Known table kind) ls → LettersBelow ls
  letters_below_lem kind [] k = tt
  letters_below_lem kind (l ∷ ls) k = (N.le_trans (known_is table kind l k.0).0 w.letters, letters_below_lem kind ls k.1)

  factors-below : (fs : List (List ℕ)) → All (FactorKnown table) fs → All LettersBelow fs
  factors-below [] k = tt
  factors-below (x ∷ fs) k = (letters_below_lem (when eqb (length x) 1 then scalar else vector) x k.0, factors-below fs k.1)

  terms-below : (ts : List S.Term) → AllKnown table ts → All TermBelow ts
  terms-below [] k = tt
  terms-below (t ∷ ts) k = (record { factors = factors-below t.factors k.0.factors; part = letters_below_lem vector t.part k.0.part }, terms-below ts k.1)

  sound : (τ : ℕ → Vec) (ts : List S.Term) → All (λ (t : S.Term). T (S.term_in_shape t)) ts → AllKnown table ts → All (Sound table τ w.letters) ts
  sound τ [] h k = tt
  sound τ (t ∷ ts) h k = (((kind_of_part t.part, (term-opens t h.0).fits), k.0), sound τ ts h.1 k.1)

  firsts : AllKnown table (form_of f).terms
  firsts = terms_known table (form_of f).terms w.tested_first

  seconds : AllKnown table (form_of g).terms
  seconds = terms_known table (form_of g).terms w.tested_second

  abbrev es : ℕ → List Summand
  es i = difference i (form_of f) (form_of g)

  -- the summands of a component of the difference have its value, with keys of forms
  values : (τ : ℕ → Vec) (i : ℕ) → i < 3 → (total (variables τ) (es i) ≡ component i (value τ (form_of f)) -ℤ component i (value τ (form_of g))) × AllHas table 6 2 (es i)
  values τ i h =
      difference_value table τ w.letters i (form_of f) (form_of g) h (sound τ (form_of f).terms (in_shape_lem f w.valid_first) firsts) (sound τ (form_of g).terms (in_shape_lem g w.valid_second) seconds)

  module _ (now : List ℕ) (same : length now ≡ length work) (i : ℕ) (h : i < 3) where
    -- a component can be compared
    pub compare-asks : Comparable f g i (summands now)
    compare-asks =
        record {
          room = omega (arith, length-summands now, w.work_room, same);
          valid_first = w.valid_first;
          valid_second = w.valid_second;
          below_first = terms-below (form_of f).terms firsts;
          below_second = terms-below (form_of g).terms seconds;
          component = h;
        }

    module _ (r : ℕ) (ns : List Summand) (c : Compared (es i) r (summands now) ns) where
      abbrev tau : ℕ → Vec
      tau l = scalar_value (pos 0)

      -- what is left has the value of the difference
      pub same_value_lem : (σ : ℕ → ℤ) → total σ (take r ns) ≡ total σ (es i)
      same_value_lem σ = gathered_value table w.letters (es i) (all_modest f g i (summands now) compare-asks) (values tau i h).1 (few_all f g i (summands now) compare-asks) r (summands now) ns c σ

      -- something is left: numbers can be chosen
      pub eliminate-asks : (b : List ℕ) → length b ≡ length buffer → 0 < r → Eliminable table r ns b
      eliminate-asks b room l =
          let few : r ≤ length ns = omega (arith, c.few, c.same, few_all f g i (summands now) compare-asks, length-summands now, w.work_room, same) in
          record {
            letters = w.letters;
            there = few;
            room = omega (arith, w.room, room);
            polynomial = gathered-polynomial table w.letters (es i) (all_modest f g i (summands now) compare-asks) (values tau i h).1
                (few_all f g i (summands now) compare-asks) r (summands now) ns c (some_left r ns l few);
          }

  -- all components are looked at: one of a scalar form, three of a vector form
  module _ (m : ℕ) (k : Components f.kind m) where
    -- where the difference of each is 0, the forms have the same value
    module _ (τ : ℕ → Vec) (z : (i : ℕ) → i < m → total (variables τ) (es i) ≡ pos 0) where
      same_component : (i : ℕ) → i < 3 → i < m → component i (value τ (form_of f)) ≡ component i (value τ (form_of g))
      same_component i h l = sub_zero→eq (component i (value τ (form_of f))) (component i (value τ (form_of g))) (sym (values τ i h).0 ∙ z i l)

      other-component : (i : ℕ) → suc i < 3 → component (suc i) (value τ (form_of f)) ≡ component (suc i) (value τ (form_of g))
      unfolding value form_of Components
      other-component i h = go k
        where
          go : Components f.kind m → component (suc i) (value τ (form_of f)) ≡ component (suc i) (value τ (form_of g))
          go (inr e) = same_component (suc i) h (omega arith)
          go (inl e) =
              no_parts τ i (form_of f).terms (scalars f w.valid_first e.1)
              ∙ sym (no_parts τ i (form_of g).terms (scalars g w.valid_second (sym w.kinds ∙ e.1)))

      first_component : component 0 (value τ (form_of f)) ≡ component 0 (value τ (form_of g))
      unfolding Components
      first_component = same_component 0 (omega arith) (go k)
        where
          go : Components f.kind m → 0 < m
          go (inl e) = omega (arith, e.0)
          go (inr e) = omega arith

      same_values : value τ (form_of f) ≡ value τ (form_of g)
      unfolding component
      same_values = by-components first_component (other-component 0 (omega arith)) (other-component 1 (omega arith))

    -- none is found that is not 0: the forms are equal under every assignment
    pub equal : (b : List ℕ) (i : ℕ) (found : Bool) → found ≡ false → m ≤ i → SoFar table es i found buffer b → Holds (form_of f) (form_of g) buffer b
    unfolding SoFar
    equal b i found e h known =
        let n = subst (λ (x : Bool). SoFar table es i x buffer b) e known in
        record { equal = λ τ. same_values τ (λ j l. n.zeros j (N.le_trans l h) (variables τ)); buffer_stands = n.stands }

    -- the numbers found tell the forms apart, and none before them do
    pub differs : (b : List ℕ) (i : ℕ) (found : Bool) → found ≡ true → m ≤ i → i ≤ m → SoFar table es i found buffer b
        → Differs table (form_of f) (form_of g) buffer b
    unfolding SoFar ZeroBefore
    differs b i found e h h' known =
        let n = subst (λ (x : Bool). SoFar table es i x buffer b) e known in
        let τ = assignment b in
        let c = n.which in
        record {
          same_length = n.same_length;
          in_range = in-range table b n.within;
          unequal = λ q. n.nonzero (variables τ) (byte-gives table b (λ x l. N.le_trans (n.within x l) (limit-six table x)))
              ((values τ c (three f.kind m c k (N.le_trans n.is_one h'))).0 ∙ ap (λ (v : Vec). component c v -ℤ component c (value τ (form_of g))) q
              ∙ I.+ℤ_invr (component c (value τ (form_of g))));
          first = λ s rest before. same_values (whole s) (λ j l. n.earliest j (N.le_trans l h) s (variables (whole s)) (whole-gives table s) before);
          rest_stands = n.behind;
        }
