-- The five rules as a table: a rule at some letters is the rule at the letters 0 to 5 with those put for these.
-- So computed tests at 0 to 5 say for all letters that both sides have the same value, and that the terms are bare, of the rule's size and kind, with the rule's letters alone.
-- Assumes nothing.
use Rattle.std.specs.Prelude.{◌≡◌, Bool, true, false, ◌&&◌, ℕ, zero, suc, ◌<◌, eqb, leb, length, get_or, pos, ◌*ℤ◌}
use Rattle.std.proofs.Math.Path.{refl}
use Rattle.std.proofs.Common.{sym, ◌∙◌, ap, subst, arith, leb→le, ltb→lt, eqb→eq}
use mathlib.Core.List.{List, [], ◌∷◌, ◌++◌, map, map-append}
use Rattle.std.proofs.Math.Dec.{T, ltb}
use Rattle.std.proofs.lemmas.List.{length-map}
use Rattle.algebra.specs.Integers as R
use Rattle.specification.specs.Results.{when◌then◌else◌}
use Rattle.specification.specs.Lists.{all}
use Rattle.specification.specs.Values.{Vec, scalar_value, ◌+v◌, ◌•◌}
use Rattle.specification.specs.Letters.{scalar, vector}
use Rattle.specification.specs.Terms.{Term, times_term, negated}
use Rattle.specification.specs.Rules.{Sides, rule1, rule2, rule3, rule4, bracket, rule5, sides, rule_letters, rule_kind, is_rule, Step, step_terms}
use Rattle.specification.specs.Evaluation.{factor_value, factors_value, part_value, term_value, terms_value}
use Rattle.theory.specs.Tests.{and_split}
use Rattle.theory.specs.Elements.{All, all_map, all-at, all_T}
use Rattle.theory.specs.Order.{monomial}
use Rattle.theory.specs.Shape.Bare.{Bare, all_bare, shapes}
use Rattle.theory.specs.Shape.Letters.{Known, FactorKnown, MonomialKnown, AllKnown}
use Rattle.theory.specs.Values.Vectors.{+v_negated}
use Rattle.theory.specs.Values.Expressions.{terms_e, SameE, same_vectors, terms-expand, expanding}
use Rattle.theory.proofs.Values.Terms.{append_value, negated-values}

-- ════ letters put for the letters 0 to 5

-- the letters 0 to 5, as many as a rule has at most
abbrev pub positions : List ℕ
positions = 0 ∷ 1 ∷ 2 ∷ 3 ∷ 4 ∷ 5 ∷ []

-- a term with other letters
abbrev pub relabel : (ℕ → ℕ) → Term → Term
relabel f t = record { coef = t.coef; factors = map (map f) t.factors; part = map f t.part }

-- both sides with other letters
abbrev relabel_sides : (ℕ → ℕ) → Sides → Sides
relabel_sides f s = record { left = map (relabel f) s.left; right = map (relabel f) s.right }

-- what holds of the five rules holds of every rule
pub by-rule : (P : ℕ → Type 0) → P 1 → P 2 → P 3 → P 4 → P 5 → (r : ℕ) → T (is_rule r) → P r
unfolding is_rule
by-rule P a b c d e zero h = absurd h
by-rule P a b c d e (suc zero) h = a
by-rule P a b c d e (suc (suc zero)) h = b
by-rule P a b c d e (suc (suc (suc zero))) h = c
by-rule P a b c d e (suc (suc (suc (suc zero)))) h = d
by-rule P a b c d e (suc (suc (suc (suc (suc zero))))) h = e
by-rule P a b c d e (suc (suc (suc (suc (suc (suc n)))))) h =
    let r : ℕ = suc (suc (suc (suc (suc (suc n))))) in absurd (omega (arith, leb→le r 5 (and_split (leb 1 r) (leb r 5) h).1))

sides-relabelled : (r : ℕ) → T (is_rule r) → (ls : List ℕ) → sides r ls ≡ relabel_sides (λ i. get_or ls i 0) (sides r positions)
unfolding sides rule1 rule2 rule3 rule4 bracket rule5
sides-relabelled =
    by-rule (λ (r : ℕ). (ls : List ℕ) → sides r ls ≡ relabel_sides (λ i. get_or ls i 0) (sides r positions)) (λ ls. refl) (λ ls. refl) (λ ls. refl) (λ ls. refl) (λ ls. refl)

-- ════ values

module _ (σ : ℕ → Vec) (f : ℕ → ℕ) where
  -- the assignment behind the letters
  abbrev τ : ℕ → Vec
  τ n = σ (f n)

  factor-relabelled : (g : List ℕ) → factor_value σ (map f g) ≡ factor_value τ g
  unfolding factor_value
  factor-relabelled [] = refl
  factor-relabelled (a ∷ []) = refl
  factor-relabelled (a ∷ b ∷ []) = refl
  factor-relabelled (a ∷ b ∷ c ∷ g) = refl

  factors-relabelled : (gs : List (List ℕ)) → factors_value σ (map (map f) gs) ≡ factors_value τ gs
  unfolding factors_value
  factors-relabelled [] = refl
  factors-relabelled (g ∷ gs) = λ i. factor-relabelled g i *ℤ factors-relabelled gs i

  part-relabelled : (p : List ℕ) → part_value σ (map f p) ≡ part_value τ p
  unfolding part_value
  part-relabelled [] = refl
  part-relabelled (a ∷ []) = refl
  part-relabelled (a ∷ b ∷ p) = refl

  terms-relabelled : (ts : List Term) → terms_value σ (map (relabel f) ts) ≡ terms_value τ ts
  unfolding terms_value term_value
  terms-relabelled [] = refl
  terms-relabelled (t ∷ ts) = λ i. (t.coef *ℤ factors-relabelled t.factors i) • part-relabelled t.part i +v terms-relabelled ts i

-- the test: both sides at the letters 0 to 5 have the same normal forms
positions-balanced : (r : ℕ) → T (is_rule r) → SameE (terms_e (sides r positions).left) (terms_e (sides r positions).right)
unfolding sides rule1 rule2 rule3 rule4 bracket rule5 expanding
positions-balanced =
    by-rule (λ (r : ℕ). SameE (terms_e (sides r positions).left) (terms_e (sides r positions).right))
    (refl, refl, refl) (refl, refl, refl) (refl, refl, refl) (refl, refl, refl) (refl, refl, refl)

-- P5: both sides of a rule have the same value, whatever the letters
pub sides-balanced : (σ : ℕ → Vec) (r : ℕ) → T (is_rule r) → (ls : List ℕ) → terms_value σ (sides r ls).left ≡ terms_value σ (sides r ls).right
sides-balanced σ r h ls =
    let f : ℕ → ℕ = λ i. get_or ls i 0 in
    let left : List Term = (sides r positions).left in
    let right : List Term = (sides r positions).right in
    ap (λ (s : Sides). terms_value σ s.left) (sides-relabelled r h ls) ∙ terms-relabelled σ f left
    ∙ sym (terms-expand (τ σ f) left) ∙ same_vectors (terms_e left) (terms_e right) (τ σ f) (positions-balanced r h) ∙ terms-expand (τ σ f) right
    ∙ sym (ap (λ (s : Sides). terms_value σ s.right) (sides-relabelled r h ls) ∙ terms-relabelled σ f right)

-- ════ a rule as one list

-- the left side, and the right side negated
unfoldable pub rule_terms : (rule : ℕ) (letters : List ℕ) → List Term
rule_terms r ls = (sides r ls).left ++ map negated (sides r ls).right

negated-times : (m : Term) (l : List Term) → map negated (map (times_term m) l) ≡ map (times_term m) (map negated l)
unfolding times_term
negated-times m [] = refl
negated-times m (u ∷ l) =
    λ i. record { coef = sym (R.*ℤ_neg m.coef u.coef) i; factors = m.factors ++ u.factors; part = m.part ++ u.part } ∷ negated-times m l i

-- a step adds M times the terms of its rule
pub step_terms-rule : (s : Step) → step_terms s ≡ map (times_term s.m) (rule_terms s.rule s.letters)
unfolding step_terms rule_terms
step_terms-rule s =
    ap (λ (l : List Term). map (times_term s.m) (sides s.rule s.letters).left ++ l) (negated-times s.m (sides s.rule s.letters).right)
    ∙ sym (map-append (times_term s.m) (sides s.rule s.letters).left (map negated (sides s.rule s.letters).right))

-- their value is 0
pub rule_terms_vanish : (σ : ℕ → Vec) (r : ℕ) → T (is_rule r) → (ls : List ℕ) → terms_value σ (rule_terms r ls) ≡ scalar_value (pos 0)
unfolding rule_terms
rule_terms_vanish σ r h ls =
    let right : List Term = (sides r ls).right in
    append_value σ (sides r ls).left (map negated right) ∙ (λ i. sides-balanced σ r h ls i +v negated-values σ right i) ∙ +v_negated (terms_value σ right)

-- they are bare terms of the rule's kind with as many letters as the rule has
pub rule_terms_bare : (r : ℕ) → T (is_rule r) → (ls : List ℕ) → All (Bare (rule_kind r) (rule_letters r)) (rule_terms r ls)
unfolding rule_terms sides rule1 rule2 rule3 rule4 bracket rule5 rule_kind rule_letters shapes
rule_terms_bare =
    by-rule (λ (r : ℕ). (ls : List ℕ) → All (Bare (rule_kind r) (rule_letters r)) (rule_terms r ls))
    (λ ls. all_bare vector 4 (rule_terms 1 ls) tt)
    (λ ls. all_bare vector 4 (rule_terms 2 ls) tt)
    (λ ls. all_bare scalar 5 (rule_terms 3 ls) tt)
    (λ ls. all_bare vector 5 (rule_terms 4 ls) tt)
    (λ ls. all_bare scalar 6 (rule_terms 5 ls) tt)

-- ════ letters

-- the letters are below n
unfoldable below : ℕ → List ℕ → Bool
below n ls = all (λ i. ltb i n) ls

-- dots, triples and a vector part with letters below n
unfoldable letters_below : ℕ → Term → Bool
letters_below n t = all (λ f. ltb 1 (length f) && below n f) t.factors && below n t.part

-- the test: at 0 to 5 a rule has no letter but its own
positions-below : (r : ℕ) → T (is_rule r) → T (all (letters_below (rule_letters r)) (rule_terms r positions))
unfolding rule_terms sides rule1 rule2 rule3 rule4 bracket rule5 rule_letters all below letters_below
positions-below = by-rule (λ (r : ℕ). T (all (letters_below (rule_letters r)) (rule_terms r positions))) tt tt tt tt tt

rule_terms-relabelled : (r : ℕ) → T (is_rule r) → (ls : List ℕ) → rule_terms r ls ≡ map (relabel (λ i. get_or ls i 0)) (rule_terms r positions)
unfolding rule_terms sides rule1 rule2 rule3 rule4 bracket rule5
rule_terms-relabelled =
    by-rule (λ (r : ℕ). (ls : List ℕ) → rule_terms r ls ≡ map (relabel (λ i. get_or ls i 0)) (rule_terms r positions)) (λ ls. refl) (λ ls. refl) (λ ls. refl) (λ ls. refl) (λ ls. refl)

module _ (table ls : List ℕ) (known : All (Known table vector) ls) where
  -- the letter at a position
  abbrev put : ℕ → ℕ
  put i = get_or ls i 0

  below_known : (g : List ℕ) → T (below (length ls) g) → All (Known table vector) (map put g)
  unfolding below
  below_known g h =
      all_map (λ (i : ℕ). T (ltb i (length ls))) (Known table vector) put (λ i t. all-at (Known table vector) ls i 0 known (ltb→lt i (length ls) t)) g (all_T (λ i. ltb i (length ls)) g h)

  -- more than one letter: a dot or a triple
  factor_known : (g : List ℕ) → T (ltb 1 (length g) && below (length ls) g) → FactorKnown table (map put g)
  factor_known g h =
      let w = and_split (ltb 1 (length g)) (below (length ls) g) h in
      several (map put g) (subst (λ (n : ℕ). 1 < n) (sym (length-map g put)) (ltb→lt 1 (length g) w.0)) (below_known g w.1)
    where
      several : (k : List ℕ) → 1 < length k → All (Known table vector) k → FactorKnown table k
      several k l h = go (eqb (length k) 1) (eqb→eq (length k) 1)
        where
          go : (b : Bool) → (T b → length k ≡ 1) → All (Known table (when b then scalar else vector)) k
          go true e = absurd (omega (arith, e tt))
          go false e = h

  term_known : (t : Term) → T (letters_below (length ls) t) → MonomialKnown table (monomial (relabel put t))
  unfolding letters_below
  term_known t h =
      let w = and_split (all (λ f. ltb 1 (length f) && below (length ls) f) t.factors) (below (length ls) t.part) h in
      record {
        factors = all_map (λ (f : List ℕ). T (ltb 1 (length f) && below (length ls) f)) (FactorKnown table) (map put) factor_known t.factors (all_T (λ f. ltb 1 (length f) && below (length ls) f) t.factors w.0);
        part = below_known t.part w.1;
      }

  -- a rule's terms have the rule's letters alone
  pub rule_terms_known : (r : ℕ) → T (is_rule r) → length ls ≡ rule_letters r → AllKnown table (rule_terms r ls)
  rule_terms_known r h long =
      subst (AllKnown table) (sym (rule_terms-relabelled r h ls))
      (all_map (λ (t : Term). T (letters_below (length ls) t)) (λ (t : Term). MonomialKnown table (monomial t)) (relabel put) term_known (rule_terms r positions)
      (all_T (letters_below (length ls)) (rule_terms r positions) (subst (λ (n : ℕ). T (all (letters_below n) (rule_terms r positions))) (sym long) (positions-below r h))))
