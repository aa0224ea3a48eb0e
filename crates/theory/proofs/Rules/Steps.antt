-- A step that is taken keeps value, kind and shape (P5): M times the left side less M times the right side is 0 under every assignment. Assumes nothing.
use Rattle.std.specs.Prelude.{◌≡◌, refl, ◌⊎◌, Bool, true, false, ◌&&◌, ℕ, ◌+◌, ◌≤◌, pos, ◌*ℤ◌, T, leb, eqb, length}
use Rattle.std.proofs.Math.Path.{sym, ap, subst}
use Rattle.std.proofs.Common.{◌∙◌, inl, inr, leb→le, eqb→eq}
use mathlib.Core.List.{List, [], ◌∷◌, ◌++◌, map, append-nil}
use Rattle.std.proofs.Math.IntN.{ℤ}
use Rattle.std.proofs.Math.IntN as I
use Rattle.algebra.specs.Integers as R
use Rattle.specification.specs.Results.{given, when◌then◌else◌}
use Rattle.specification.specs.Values.{Vec, scalar_value, ◌+v◌, ◌•◌}
use Rattle.specification.specs.Letters.{scalar, vector, test_letters}
use Rattle.specification.specs.Terms.{Term, Form, term_kind, times_term, gather, within, vector_letters, term_in_shape}
use Rattle.specification.specs.Records.{test_term}
use Rattle.specification.specs.Rules.{Step, rule_letters, rule_kind, is_rule, step_kinds_fit, step_terms, take_step, test_step_letters, step_in_shape, step_at}
use Rattle.specification.specs.Evaluation.{factors_value, part_value, term_value, terms_value, value}
use Rattle.theory.specs.Tests.{and_both, and_split, eqb_T, required, tested}
use Rattle.theory.specs.Elements.{All, all_append, all_implies, all_map}
use Rattle.theory.specs.Order.{monomial}
use Rattle.theory.specs.Shape.Terms.{kind_of_part, no_part, Fits, TermShape, term-opens}
use Rattle.theory.specs.Shape.Forms.{FormInShape, AllFit, form-fits}
use Rattle.theory.specs.Shape.Bare.{Bare, times-fits}
use Rattle.theory.specs.Shape.Letters.{MonomialKnown, AllKnown, letters_known, term_known, times_known}
use Rattle.theory.specs.Values.Vectors.{+v_zero, zero_•, •_zero, •-•, +-•}
use Rattle.theory.proofs.Values.Terms.{append_value}
use Rattle.theory.proofs.Reduction.Products.{Denotes, within_denotes, factors-append, times-values}
use Rattle.theory.proofs.Rules.Table.{rule_terms, step_terms-rule, rule_terms_vanish, rule_terms_bare, rule_terms_known}

-- ════ what the tests of a step say

-- the shape of a step: a rule, its letters, M in shape
pub record StepShape (s : Step) : Type 0 where
  pub rule : T (is_rule s.rule)
  pub long : length s.letters ≡ rule_letters s.rule
  pub m : T (term_in_shape s.m)

-- what the test of a step's shape says
pub step-opens : (s : Step) → T (step_in_shape s) → StepShape s
unfolding step_in_shape
step-opens s h =
    let w = and_split (is_rule s.rule && eqb (length s.letters) (rule_letters s.rule)) (term_in_shape s.m) h in
    let v = and_split (is_rule s.rule) (eqb (length s.letters) (rule_letters s.rule)) w.0 in
    record { rule = v.0; long = eqb→eq (length s.letters) (rule_letters s.rule) v.1; m = w.1 }

-- and what makes it hold
pub step-closes : (s : Step) → StepShape s → T (step_in_shape s)
unfolding step_in_shape
step-closes s h =
    and_both (is_rule s.rule && eqb (length s.letters) (rule_letters s.rule)) (term_in_shape s.m)
    (and_both (is_rule s.rule) (eqb (length s.letters) (rule_letters s.rule)) h.rule (eqb_T (length s.letters) (rule_letters s.rule) h.long)) h.m

-- a vector rule has M without a vector part and a vector form; a scalar rule has M of the form's kind
pub data Agreeing (f : Form) (s : Step) : Type 0 where
  vector_rule : rule_kind s.rule ≡ vector → s.m.part ≡ [] → f.kind ≡ vector → Agreeing f s
  scalar_rule : rule_kind s.rule ≡ scalar → kind_of_part s.m.part ≡ f.kind → Agreeing f s

-- the kind of a rule, by the tests for 3 and for 5
abbrev kind_by : Bool → Bool → ℕ
kind_by a b = when a then scalar else when b then scalar else vector

-- what the test of the kinds says
pub agreeing : (f : Form) (s : Step) → T (step_kinds_fit f s) → Agreeing f s
unfolding step_kinds_fit term_kind rule_kind
agreeing f s h = go (eqb s.rule 3) (eqb s.rule 5) refl h
  where
    go : (a b : Bool) → rule_kind s.rule ≡ kind_by a b
        → T (when eqb (kind_by a b) vector then eqb (kind_of_part s.m.part) scalar && eqb f.kind vector else eqb f.kind (kind_of_part s.m.part)) → Agreeing f s
    go true b e h = scalar_rule e (sym (eqb→eq f.kind (kind_of_part s.m.part) h))
    go false true e h = scalar_rule e (sym (eqb→eq f.kind (kind_of_part s.m.part) h))
    go false false e h =
        let w = and_split (eqb (kind_of_part s.m.part) scalar) (eqb f.kind vector) h in
        vector_rule e (no_part s.m.part (eqb→eq (kind_of_part s.m.part) scalar w.0)) (eqb→eq f.kind vector w.1)

-- a step that is taken: the kinds agree (6), the letters are not too many (8), and what is gathered is within the limits (9, 10)
pub record Taken (f : Form) (s : Step) (g : Form) : Type 0 where
  pub agree : Agreeing f s
  pub few : vector_letters s.m + rule_letters s.rule ≤ 6
  pub gathers : within f.kind (gather (f.terms ++ step_terms s)) ≡ given g

-- what the tests of a step that is taken say
pub step_taken : (f : Form) (s : Step) (g : Form) → take_step f s ≡ given g → Taken f s g
unfolding take_step
step_taken f s g e =
    let w₁ = required (step_kinds_fit f s) 6 _ g e in
    let w₂ = required (leb (vector_letters s.m + rule_letters s.rule) 6) 8 _ g w₁.1 in
    record { agree = agreeing f s w₁.0; few = leb→le (vector_letters s.m + rule_letters s.rule) 6 w₂.0; gathers = w₂.1 }

-- an admissible step: in shape (11), with letters of the table (5, 6), and taken
pub record Admitted (table : List ℕ) (f : Form) (s : Step) (g : Form) : Type 0 where
  pub shape : StepShape s
  pub known : test_step_letters table s ≡ given tt
  pub takes : take_step f s ≡ given g

-- what the tests of an admissible step say
pub step-admitted : (table : List ℕ) (f : Form) (s : Step) (g : Form) → step_at table f s ≡ given g → Admitted table f s g
unfolding step_at
step-admitted table f s g e =
    let w₁ = required (step_in_shape s) 11 _ g e in
    let w₂ = tested (test_step_letters table s) (take_step f s) g w₁.1 in
    record { shape = step-opens s w₁.0; known = w₂.0; takes = w₂.1 }

-- ════ a term times terms without a vector part

module _ (σ : ℕ → Vec) (t : Term) where
  scalar_value_lem : (u : Term) → u.part ≡ [] → term_value σ (times_term t u) ≡ (term_value σ u).x • term_value σ t
  unfolding times_term term_value part_value
  scalar_value_lem u none =
      let v : ℤ = factors_value σ t.factors in
      let w : ℤ = factors_value σ u.factors in
      let p : Vec = part_value σ t.part in
      (λ i. ((t.coef *ℤ u.coef) *ℤ factors-append σ t.factors u.factors i) • part_value σ ((ap (λ (q : List ℕ). t.part ++ q) none ∙ append-nil t.part) i))
      ∙ ap (λ (k : ℤ). k • p) (R.*ℤ_interchange t.coef u.coef v w ∙ I.*ℤ_comm (t.coef *ℤ v) (u.coef *ℤ w))
      ∙ sym (•-• (u.coef *ℤ w) (t.coef *ℤ v) p)
      ∙ ap (λ (k : ℤ). k • ((t.coef *ℤ v) • p)) (sym (ap (λ (q : List ℕ). (u.coef *ℤ w) *ℤ (part_value σ q).x) none ∙ R.*ℤ-1 (u.coef *ℤ w)))

  scalar-values : (us : List Term) → All (λ (u : Term). u.part ≡ []) us → terms_value σ (map (times_term t) us) ≡ (terms_value σ us).x • term_value σ t
  unfolding terms_value
  scalar-values [] h = sym (zero_• (term_value σ t))
  scalar-values (u ∷ us) h =
      (λ i. scalar_value_lem u h.0 i +v scalar-values us h.1 i) ∙ sym (+-• (term_value σ u).x (terms_value σ us).x (term_value σ t))

-- ════ what a step adds

-- the terms of a scalar rule have no vector part
scalar_rule_lem : (s : Step) → StepShape s → rule_kind s.rule ≡ scalar → All (λ (u : Term). u.part ≡ []) (rule_terms s.rule s.letters)
scalar_rule_lem s o r =
    all_implies (Bare (rule_kind s.rule) (rule_letters s.rule)) (λ (u : Term). u.part ≡ []) (λ u b. no_part u.part (b.kind_is ∙ r))
    (rule_terms s.rule s.letters) (rule_terms_bare s.rule o.rule s.letters)

module _ (f : Form) (s : Step) (agree : Agreeing f s) (shape : StepShape s) where
  -- the terms of the rule at its letters
  abbrev rs : List Term
  rs = rule_terms s.rule s.letters

  -- what they are
  abbrev IsRuleTerm : Term → Type 0
  IsRuleTerm u = Bare (rule_kind s.rule) (rule_letters s.rule) u

  bare : All IsRuleTerm rs
  bare = rule_terms_bare s.rule shape.rule s.letters

  -- its value is 0
  step_terms_vanish : (σ : ℕ → Vec) → terms_value σ (step_terms s) ≡ scalar_value (pos 0)
  step_terms_vanish σ = ap (terms_value σ) (step_terms-rule s) ∙ go agree
    where
      nothing : terms_value σ rs ≡ scalar_value (pos 0)
      nothing = rule_terms_vanish σ s.rule shape.rule s.letters

      go : Agreeing f s → terms_value σ (map (times_term s.m) rs) ≡ scalar_value (pos 0)
      go (vector_rule r p k) =
          let c : ℤ = s.m.coef *ℤ factors_value σ s.m.factors in
          times-values σ s.m rs p ∙ ap (λ (v : Vec). c • v) nothing ∙ •_zero c
      go (scalar_rule r k) =
          scalar-values σ s.m rs (scalar_rule_lem s shape r)
          ∙ ap (λ (v : Vec). v.x • term_value σ s.m) nothing ∙ zero_• (term_value σ s.m)

  -- the parts of M and of a rule's term together
  parts-together : (u : Term) → IsRuleTerm u → (length (s.m.part ++ u.part) ≤ 2) × (kind_of_part (s.m.part ++ u.part) ≡ f.kind)
  parts-together u b = go agree
    where
      go : Agreeing f s → (length (s.m.part ++ u.part) ≤ 2) × (kind_of_part (s.m.part ++ u.part) ≡ f.kind)
      go (vector_rule r p k) =
          let e : s.m.part ++ u.part ≡ u.part = ap (λ (q : List ℕ). q ++ u.part) p in
          (subst (λ (q : List ℕ). length q ≤ 2) (sym e) b.part, ap kind_of_part e ∙ b.kind_is ∙ r ∙ sym k)
      go (scalar_rule r k) =
          let e : s.m.part ++ u.part ≡ s.m.part = ap (λ (q : List ℕ). s.m.part ++ q) (no_part u.part (b.kind_is ∙ r)) ∙ append-nil s.m.part in
          (subst (λ (q : List ℕ). length q ≤ 2) (sym e) (term-opens s.m shape.m).fits.part, ap kind_of_part e ∙ k)

  -- its terms are of the form's kind and within the limits
  step_terms-fit : vector_letters s.m + rule_letters s.rule ≤ 6 → AllFit f.kind (step_terms s)
  unfolding vector_letters
  step_terms-fit few =
      let m : TermShape s.m = term-opens s.m shape.m in
      subst (AllFit f.kind) (sym (step_terms-rule s))
      (all_map IsRuleTerm (λ (t : Term). Fits f.kind (monomial t)) (times_term s.m)
      (λ u b. times-fits f.kind (rule_kind s.rule) (rule_letters s.rule) s.m u m.fits.lengths m.fits.scalars few (parts-together u b).0 (parts-together u b).1 b)
      rs bare)

  -- and their letters are known
  step_terms_known : (table : List ℕ) → test_step_letters table s ≡ given tt → AllKnown table (step_terms s)
  unfolding test_step_letters
  step_terms_known table e =
      let w = tested (test_letters table vector s.letters) (test_term table s.m) tt e in
      subst (AllKnown table) (sym (step_terms-rule s))
      (all_map (λ (t : Term). MonomialKnown table (monomial t)) (λ (t : Term). MonomialKnown table (monomial t)) (times_term s.m)
      (λ u known. times_known table s.m u (term_known table s.m w.1) known) rs
      (rule_terms_known table s.letters (letters_known table vector s.letters w.0) s.rule shape.rule shape.long))

-- ════ the theorem

-- the terms that a step gathers are of the form's kind and within the limits
pub step_fits : (f : Form) (s : Step) → FormInShape f → StepShape s → Agreeing f s → vector_letters s.m + rule_letters s.rule ≤ 6 → AllFit f.kind (f.terms ++ step_terms s)
step_fits f s shape o a few =
    all_append (λ (t : Term). Fits f.kind (monomial t)) f.terms (step_terms s) (form-fits f shape) (step_terms-fit f s a o few)

-- M has no vector part, or the rule's terms have none
pub step-parts : (f : Form) (s : Step) → StepShape s → Agreeing f s → (s.m.part ≡ []) ⊎ All (λ (u : Term). u.part ≡ []) (rule_terms s.rule s.letters)
step-parts f s o a = go a
  where
    go : Agreeing f s → (s.m.part ≡ []) ⊎ All (λ (u : Term). u.part ≡ []) (rule_terms s.rule s.letters)
    go (vector_rule r p k) = inl p
    go (scalar_rule r k) = inr (scalar_rule_lem s o r)

-- P5: a step that is taken keeps the value, the kind and the shape, and brings in no letter that is not in the table
pub step_keeps : (table : List ℕ) (f : Form) (s : Step) (g : Form) → FormInShape f → AllKnown table f.terms
    → T (step_in_shape s) → test_step_letters table s ≡ given tt → take_step f s ≡ given g → Denotes table g f.kind (λ σ. value σ f)
unfolding value
step_keeps table f s g shape known in_shape tests e =
    let t : Taken f s g = step_taken f s g e in
    let a : Agreeing f s = t.agree in
    let o : StepShape s = step-opens s in_shape in
    let d = within_denotes table f.kind (f.terms ++ step_terms s) g shape.kind
    (step_fits f s shape o a t.few)
    (all_append (λ (t : Term). MonomialKnown table (monomial t)) f.terms (step_terms s) known (step_terms_known f s a o table tests))
    t.gathers in
    record {
      kind_is = d.kind_is;
      in_shape = d.in_shape;
      known = d.known;
      value_is = λ σ. d.value_is σ ∙ append_value σ f.terms (step_terms s) ∙ ap (λ (v : Vec). terms_value σ f.terms +v v) (step_terms_vanish f s a o σ)
          ∙ +v_zero (terms_value σ f.terms);
    }
