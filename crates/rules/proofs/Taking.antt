-- A step taken: the kinds and letters tested, the products with the rule's rows brought in, the limits tested. Assumes nothing.
use mathlib.Core.Path.{◌≡◌, refl, ap, sym, subst, ◌∙◌}
use mathlib.Core.Logic.{◌⊎◌, inl, inr, ⊎_elim}
use mathlib.Core.Bool.{Bool, true, false, ◌&&◌}
use mathlib.Core.List.{List, [], ◌∷◌, ◌++◌, map}
use Prim.Native.Nat.{ℕ, ◌+◌, ◌*◌, ◌%◌, ◌<◌, ◌≤◌}
use native.Mathlib.Nat.{suc-mul, mul-le-mul_right}
use native.Mathlib.Numerals.{add-one}
use native.Mathlib.Omega.{arith}
use borrow.Author.Tests.{eq-eqb, ne_eqb}
use lib.Dec.{T, eqb, leb, leb→le}
use lib.IntN.{ℤ, nat_abs}
use lib.ListN.{length, get_or, take}
use lib.Seq.{length-take-le}
use Rattle.specification.specs.Results.{Test, refused, given, ◌>>◌, require, when◌then◌else◌}
use Rattle.specification.specs.Terms.{times_term, insert, term_kind, vector_letters, scalar_letters, within, gather, gather_into}
use Rattle.specification.specs.Terms as S
use Rattle.specification.specs.Rules.{rule_kind, rule_letters, step_kinds_fit, step_terms, take_step}
use Rattle.theory.specs.Elements.{All}
use Rattle.theory.specs.Shape.Terms.{kind_of_part, term-opens, in_limit}
use Rattle.theory.specs.Tests.{required, passed}
use Rattle.theory.specs.Shape.Forms.{FormInShape, AllFit, form-gathered, within_given, within-in_shape}
use Rattle.theory.specs.Gathering.Gathered.{into-join, gather-onto}
use Rattle.theory.proofs.Rules.Table.{step_terms-rule}
use Rattle.theory.proofs.Rules.Steps.{StepShape, agreeing, step_fits, step-parts}
use Rattle.terms.specs.declared.types.Term.{Term}
use Rattle.terms.specs.Numbers.{letters_of}
use Rattle.terms.specs.Abstraction.{part_of, term_of}
use Rattle.terms.specs.Valid.{TermValid}
use Rattle.terms.proofs.Arrays.{mapped-behind}
use Rattle.terms.specs.declared.shape.Used.{Used}
use Rattle.terms.specs.Used.{UsedBy}
use Rattle.terms.proofs.InShape.{factors_count}
use Rattle.rows.specs.Rows.{term_by, RowOf, run_of, Run, Light, form_by, FormRun, RowsGive}
use Rattle.gathering.specs.Bringing.{BroughtIn}
use Rattle.limits.specs.Limits.{RunTested, limited_of}
use Rattle.rows.proofs.RowForms.{light_more}
use Rattle.std.specs.Prelude.{Ok, Err}
use Rattle.std.specs.Prelude as Std
use Rattle.refusal.specs.declared.Refusal.{Refusal}
use Rattle.refusal.specs.declared.Refusal.TheVariants.{WrongKind, ManyLetters}
use Rattle.refusal.specs.Numbers.{number_of}
use Rattle.refusal.specs.Tests.{test_of}
use Rattle.rows.proofs.RowForms.{rows_refused, rows_given}
use Rattle.rules.specs.declared.steps.Step.{Step}
use Rattle.rule_table.specs.Table.{rule_rows, part_at, row_term, row_terms, first_row, row_count, TimesRow}
use Rattle.rules.specs.Steps.{step_of, StepValid, step_tests, StepFits, StepBrought}
use Rattle.rule_table.proofs.Tied.{tied, row_next, row_all, row_at}

-- ════ the tests

-- the kinds by the rule's and M's
kinds_are : (kind : ℕ) (s : Step) → step_kinds_fit (record { kind = kind; terms = [] }) (step_of s)
    ≡ (when eqb (rule_kind s.rule) 1 then eqb (kind_of_part (part_of s.m.part)) 0 && eqb kind 1 else eqb kind (kind_of_part (part_of s.m.part)))
unfolding step_kinds_fit step_of term_kind term_of
kinds_are kind s = refl

module _ (kind a b : ℕ) (s : Step) (ea : a ≡ rule_kind s.rule) (eb : b ≡ kind_of_part (part_of s.m.part)) where
  pub scalar-kinds : (a ≡ 1 → ⊥) → eqb kind b ≡ step_kinds_fit (record { kind = kind; terms = [] }) (step_of s)
  scalar-kinds h = sym (kinds_are kind s ∙ rw (← ea, ← eb, ne_eqb a 1 h))

  pub vector-no : a ≡ 1 → (b ≡ 0 → ⊥) → false ≡ step_kinds_fit (record { kind = kind; terms = [] }) (step_of s)
  vector-no h k = sym (kinds_are kind s ∙ rw (← ea, ← eb, eq-eqb a 1 h, ne_eqb b 0 k))

  pub vector-kinds : a ≡ 1 → b ≡ 0 → eqb kind 1 ≡ step_kinds_fit (record { kind = kind; terms = [] }) (step_of s)
  vector-kinds h k = sym (kinds_are kind s ∙ rw (← ea, ← eb, eq-eqb a 1 h, eq-eqb b 0 k))

-- M's letters and the rule's
pub letters-are : (s : Step) (u : Used) (p n : ℕ) → UsedBy (map letters_of (take s.m.factor_count s.m.factors)) u
    → p ≡ length (part_of s.m.part) → n ≡ rule_letters s.rule
    → leb (u.vectors + p + n) 6 ≡ leb (vector_letters (step_of s).m + rule_letters s.rule) 6
unfolding step_of vector_letters term_of
letters-are s u p n h e k = λ i. leb (h.vectors i + e i + k i) 6

-- ════ a valid step

pub few-letters : (r : ℕ) → rule_letters r ≤ 6
unfolding rule_letters
few-letters r = go (leb r 2) (leb r 4)
  where
    go : (a b : Bool) → (when a then 4 else when b then 5 else 6) ≤ 6
    go true b = omega arith
    go false true = omega arith
    go false false = omega arith

some_letters : (r : ℕ) → 4 ≤ rule_letters r
unfolding rule_letters
some_letters r = go (leb r 2) (leb r 4)
  where
    go : (a b : Bool) → 4 ≤ (when a then 4 else when b then 5 else 6)
    go true b = omega arith
    go false true = omega arith
    go false false = omega arith

step-shape : (s : Step) → StepValid s → length s.letters ≡ 6 → StepShape (step_of s)
unfolding step_of
step-shape s v l = record {
  rule = v.rule;
  long = length-take-le (rule_letters s.rule) s.letters (omega (arith, l, few-letters s.rule));
  m = v.m.in_shape;
}

-- M of a step that passed the test of letters has few factors
few_factors_lem : (s : Step) → StepValid s → s.m.factor_count ≤ length s.m.factors → vector_letters (step_of s).m + rule_letters s.rule ≤ 6
    → s.m.factor_count ≤ 4
unfolding vector_letters scalar_letters step_of term_of
few_factors_lem s v l h =
    let o = term-opens (term_of s.m) v.m.in_shape in
    omega (
      arith,
      some_letters s.rule,
      o.fits.scalars,
      factors_count (take s.m.factor_count s.m.factors),
      length-take-le s.m.factor_count s.m.factors l,
    )

-- ════ the products

-- the rule's rows at the letters
abbrev pub rows : Step → List S.Term
rows s = row_terms s.letters (first_row s.rule) (row_count s.rule)

-- the products of M with the first of them, brought in among n rows
pub record Turned (s : Step) (n : ℕ) (before : List (List ℕ)) (coefs : List ℤ) (i m : ℕ) (before' : List (List ℕ)) (coefs' : List ℤ) : Type 0 where
  pub is : run_of m before' coefs' ≡ gather_into (run_of n before coefs) (map (times_term (term_of s.m)) (take i (rows s)))
  pub run : Run m before' coefs'
  pub light : (b : ℕ) → Light b n coefs → Light (b + i * nat_abs s.m.coef) m coefs'
  pub count : m ≤ n + i

module _ (s : Step) (v : StepValid s) (six : length s.letters ≡ 6) where
  -- a product is no larger than a coefficient
  pub product-light : (t : Term) (k : ℕ) → TimesRow s.m s.letters k t → nat_abs t.coef ≤ 2147483647
  unfolding term_of
  product-light t k b = omega (arith, b.light, in_limit (term_of s.m) v.m.in_shape)

  module _ (n : ℕ) (before : List (List ℕ)) (coefs : List ℤ) where
    -- none yet
    pub turned_none : Run n before coefs → Turned s n before coefs 0 n before coefs
    unfolding gather_into
    turned_none r = record { is = refl; run = r; light = λ b. light_more b (b + 0 * nat_abs s.m.coef) n coefs (omega arith); count = omega arith }

    -- one more
    pub turned_more : (i m : ℕ) (rows' : List (List ℕ)) (coefs' : List ℤ) (t : Term) (r : List ℕ) (c : ℤ) (m' : ℕ) (rows'' : List (List ℕ)) (coefs'' : List ℤ)
        → i < row_count s.rule
        → Turned s n before coefs i m rows' coefs' → TimesRow s.m s.letters (get_or rule_rows (first_row s.rule + i) 0) t
        → RowOf t r → c ≡ t.coef → BroughtIn m rows' coefs' r c m' rows'' coefs'' → Turned s n before coefs (i + 1) m' rows'' coefs''
    unfolding gather_into
    turned_more i m rows' coefs' t r c m' rows'' coefs'' h w b o ec q =
        let g = times_term (term_of s.m) in
        let k = row_term s.letters (get_or rule_rows (first_row s.rule + i) 0) in
        let big = nat_abs s.m.coef in
        let size : (i + 1) * big ≡ i * big + big = ap (λ (j : ℕ). j * big) (add-one i) ∙ suc-mul i big in
        record {
          is = q.is ∙ (λ j. insert ((ap (term_by r) ec ∙ o.is ∙ b.is) j) (w.is j))
              ∙ sym (ap (λ (l : List S.Term). gather_into (run_of n before coefs) (map g l)) (row_next s.letters (first_row s.rule) (row_count s.rule) i h)
              ∙ ap (gather_into (run_of n before coefs)) (mapped-behind g (take i (rows s)) k)
              ∙ into-join (run_of n before coefs) (map g (take i (rows s))) (g k ∷ []));
          run = q.run;
          light = λ d l. light_more (d + i * big + nat_abs c) (d + (i + 1) * big) m' coefs'' (omega (arith, size, b.light, ap nat_abs ec))
              (q.light (d + i * big) (w.light d l));
          count = omega (arith, q.count, w.count);
        }

    -- all of them are what the step adds
    pub turned_all : (i m : ℕ) (rows' : List (List ℕ)) (coefs' : List ℤ) → i ≡ row_count s.rule → i ≤ 7 → Turned s n before coefs i m rows' coefs'
        → StepBrought n before coefs s m rows' coefs'
    unfolding step_of
    turned_all i m rows' coefs' e few w = record {
      is = w.is ∙ ap (λ (k : ℕ). gather_into (run_of n before coefs) (map (times_term (term_of s.m)) (take k (rows s)))) e
          ∙ ap (λ (l : List S.Term). gather_into (run_of n before coefs) (map (times_term (term_of s.m)) l))
          (row_all s.letters (first_row s.rule) (row_count s.rule) ∙ tied s.rule v.rule s.letters six)
          ∙ ap (gather_into (run_of n before coefs)) (sym (step_terms-rule (step_of s)));
      run = w.run;
      light = λ d l. light_more (d + i * nat_abs s.m.coef) (d + 7 * nat_abs s.m.coef) m coefs'
          (omega (arith, mul-le-mul_right (nat_abs s.m.coef) few)) (w.light d l);
      six = six;
    }

  -- what the tests say
  module _ (w : StepFits s) where
    passed-kinds : T (step_kinds_fit (record { kind = w.kind; terms = [] }) (step_of s)) × T (leb (vector_letters (step_of s).m + rule_letters s.rule) 6)
    unfolding step_tests step_of
    passed-kinds =
        let a = required (step_kinds_fit (record { kind = w.kind; terms = [] }) (step_of s)) 6 _ tt w.passes in
        (a.0, passed (leb (vector_letters (step_of s).m + rule_letters s.rule) 6) 8 a.1)

    few-vectors : vector_letters (step_of s).m + rule_letters s.rule ≤ 6
    few-vectors = leb→le (vector_letters (step_of s).m + rule_letters s.rule) 6 passed-kinds.1

    -- a row times M
    pub row_fits : (i : ℕ) → i < row_count s.rule → s.m.factor_count ≤ length s.m.factors
        → (TermValid s.m × (s.m.factor_count ≤ 4))
        × ((part_of s.m.part ≡ []) ⊎ (part_at s.letters (get_or rule_rows (first_row s.rule + i) 0 % 64) ≡ []))
    unfolding step_of term_of row_term
    row_fits i h n = (
      (v.m, few_factors_lem s v n few-vectors),
      ⊎_elim inl
          (λ a. inr (row_at (λ (u : S.Term). u.part ≡ []) s.letters (first_row s.rule) (row_count s.rule) i h
          (subst (All (λ (u : S.Term). u.part ≡ [])) (sym (tied s.rule v.rule s.letters six)) a)))
          (step-parts (record { kind = w.kind; terms = [] }) (step_of s) (step-shape s v six) (agreeing (record { kind = w.kind; terms = [] }) (step_of s)
          passed-kinds.0)),
    )

-- ════ the tests of a step

module _ (kind : ℕ) (s : Step) (k : Bool) (ek : k ≡ step_kinds_fit (record { kind = kind; terms = [] }) (step_of s)) where
  -- the kinds do not agree
  pub test-six : k ≡ false → test_of (Err WrongKind) ≡ step_tests kind (step_of s)
  unfolding step_tests
  test-six h = rw (← ek, h)

  module _ (hk : k ≡ true) (l : Bool) (el : l ≡ leb (vector_letters (step_of s).m + rule_letters s.rule) 6) where
    -- too many letters
    pub test-eight : l ≡ false → test_of (Err ManyLetters) ≡ step_tests kind (step_of s)
    unfolding step_tests step_of
    test-eight h = rw (← ek, hk, ← el, h)

    pub test_none : l ≡ true → test_of (Ok tt) ≡ step_tests kind (step_of s)
    unfolding step_tests step_of
    test_none h = rw (← ek, hk, ← el, h)

-- ════ a step at a form

module _ (f : S.Form) (s : Step) where
  -- the tests come first
  step_tested : take_step f (step_of s) ≡ (step_tests f.kind (step_of s) >> within f.kind (gather (f.terms ++ step_terms (step_of s))))
  unfolding take_step step_tests step_kinds_fit
  step_tested = go (step_kinds_fit f (step_of s)) (leb (vector_letters (step_of s).m + rule_letters (step_of s).rule) 6)
    where
      go : (a b : Bool)
          → (require a 6 >> (require b 8 >> within f.kind (gather (f.terms ++ step_terms (step_of s)))))
          ≡ ((require a 6 >> require b 8) >> within f.kind (gather (f.terms ++ step_terms (step_of s))))
      go true true = refl
      go true false = refl
      go false b = refl

  -- refused
  pub step_refused_lem : (e : Refusal) → test_of (Err e) ≡ step_tests f.kind (step_of s) → take_step f (step_of s) ≡ refused (number_of e)
  step_refused_lem e t = step_tested ∙ ap (λ (x : Test). x >> within f.kind (gather (f.terms ++ step_terms (step_of s)))) (sym t)

  module _ (u : Unit {0}) (t : test_of (Ok u) ≡ step_tests f.kind (step_of s)) where
    abbrev pub step-fitting : StepFits s
    step-fitting = record { kind = f.kind; passes = sym t }

    -- what is gathered
    gathers : take_step f (step_of s) ≡ within f.kind (gather (f.terms ++ step_terms (step_of s)))
    gathers = step_tested ∙ ap (λ (x : Test). x >> within f.kind (gather (f.terms ++ step_terms (step_of s)))) (sym t)

    module _ (v : StepValid s) (six : length s.letters ≡ 6) (shape : FormInShape f) where
      fits : AllFit f.kind (f.terms ++ step_terms (step_of s))
      unfolding step_kinds_fit step_of
      fits = step_fits f (step_of s) shape (step-shape s v six) (agreeing f (step_of s) (passed-kinds s v six step-fitting).0)
          (few-vectors s v six step-fitting)

      -- the terms that stand afterwards, their limits tested
      module _ (us : List S.Term) (is : us ≡ gather_into f.terms (step_terms (step_of s))) where
        tested : (r : Std.Result (Unit {0}) Refusal) → within f.kind us ≡ limited_of r f.kind us → take_step f (step_of s) ≡ limited_of r f.kind us
        tested r le = gathers ∙ ap (within f.kind) (sym (is ∙ gather-onto f.terms (step_terms (step_of s)) (form-gathered f shape))) ∙ le

        -- in shape where they are within
        pub limits-in_shape : (w : Unit {0}) → within f.kind us ≡ limited_of (Ok w) f.kind us → FormInShape (record { kind = f.kind; terms = us })
        unfolding limited_of
        limits-in_shape w le =
            within-in_shape f.kind (f.terms ++ step_terms (step_of s)) (record { kind = f.kind; terms = us }) shape.kind fits
            (within_given f.kind (gather (f.terms ++ step_terms (step_of s))) (record { kind = f.kind; terms = us }) (sym gathers ∙ tested (Ok w) le))

-- ════ a step at a form in rows

module _ (kind n : ℕ) (rows₀ : List (List ℕ)) (coefs₀ : List ℤ) (s : Step) where
  -- refused by the tests
  pub step_stays : (e : Refusal) → test_of (Err e) ≡ step_tests kind (step_of s) → (rows' : List (List ℕ)) (coefs' : List ℤ)
      → RowsGive (take_step (form_by kind n rows₀ coefs₀) (step_of s)) (Err e) rows' coefs'
  step_stays e t rows' coefs' = rows_refused _ e rows' coefs' (step_refused_lem (form_by kind n rows₀ coefs₀) s e t)

  -- its terms brought in, and the limits tested
  module _ (u : Unit {0}) (t : test_of (Ok u) ≡ step_tests kind (step_of s)) (w : FormRun kind n rows₀ coefs₀) (v : StepValid s)
      (m : ℕ) (rows' : List (List ℕ)) (coefs' : List ℤ) (b : StepBrought n rows₀ coefs₀ s m rows' coefs') where
    abbrev form : S.Form
    form = form_by kind n rows₀ coefs₀

    abbrev us : List S.Term
    us = run_of m rows' coefs'

    pub step-beyond : (e : Refusal) → RunTested m coefs' (Err e) → RowsGive (take_step form (step_of s)) (Err e) rows' coefs'
    unfolding limited_of
    step-beyond e le = rows_refused _ e rows' coefs' (tested form s u t v b.six w.in_shape us b.is (Err e) (le.is rows' b.run.room kind))

    pub step-moves : (x : Unit {0}) → RunTested m coefs' (Ok x) → RowsGive (take_step form (step_of s)) (Ok (record { kind = kind; count = m })) rows' coefs'
    unfolding limited_of
    step-moves x le =
        let l = le.is rows' b.run.room kind in
        rows_given _ (record { kind = kind; count = m }) rows' coefs' (tested form s u t v b.six w.in_shape us b.is (Ok x) l)
        (record { run = b.run; light = le.light; few = le.few; in_shape = limits-in_shape form s u t v b.six w.in_shape us b.is x l })
