-- The search over all terms and their places in one row: where every place is passed, no candidate is an admissible step to fewer terms. Assumes nothing.
use mathlib.Core.Path.{◌≡◌, refl, sym, ap, subst, ◌∙◌}
use mathlib.Core.Bool.{Bool, true, false}
use mathlib.Core.Logic.{⊎_elim}
use mathlib.Core.List.{List, []}
use Prim.Native.Nat.{ℕ, ◌+◌, ◌-◌, ◌*◌, ◌/◌, ◌%◌, ◌^◌, ◌<◌, ◌≤◌}
use native.Mathlib.Nat as N
use native.Mathlib.Omega.{arith}
use borrow.Author.Tests.{ltb-true, ltb-false}
use lib.Dec.{T, ltb, leb, leb→le}
use lib.IntN.{ℤ, pos, neg_ℤ, ◌*ℤ◌}
use lib.ListN.{length, length-map, get_or, take, drop, length-take}
use lib.Seq.{get_or-drop}
use lib.Pow.{pow_mono}
use Rattle.std.specs.Prelude.{Option, Some, None, Ok, Err}
use Rattle.refusal.specs.declared.Refusal.{Refusal}
use Rattle.specification.specs.Results.{given}
use Rattle.specification.specs.Terms.{term_in_shape}
use Rattle.specification.specs.Terms as S
use Rattle.specification.specs.Rules.{rule_letters, is_rule, step_at}
use Rattle.theory.specs.Elements as E
use Rattle.theory.specs.Elements.{all_T}
use Rattle.theory.specs.Tests.{and_split, given_same, refused≢given}
use Rattle.theory.specs.Order.{monomial}
use Rattle.theory.specs.Shape.Forms.{FormInShape}
use Rattle.theory.specs.Shape.Letters.{MonomialKnown, AllKnown}
use Rattle.theory.specs.Gathering.Coefficients.{term_at}
use Rattle.theory.proofs.Rules.Steps.{step-admitted}
use Rattle.theory.specs.Shortening.Candidates.{candidate, gain, is_candidate, NoCandidate}
use Rattle.terms.specs.declared.types.Term.{Term}
use Rattle.terms.specs.Abstraction.{term_of, Counted}
use Rattle.terms.specs.Valid.{TermValid}
use Rattle.terms.specs.Numbers.{letters_of}
use Rattle.rows.specs.declared.Worked.{Worked}
use Rattle.rows.specs.Rows.{head_of, factors_of, term_by, run_of, form_by, FormRun, RowsGive}
use Rattle.rows.proofs.Runs.{run_length, run_at}
use Rattle.rules.specs.declared.steps.Step.{Step}
use Rattle.rules.specs.Steps.{step_of}
use Rattle.rules.proofs.Taking.{few-letters}
use Rattle.candidates.specs.declared.trying.Next.{Next}
use Rattle.candidates.specs.Trying.{Hopeless, OnlyStep, Settled, mask_of, rule_of, pick_of, found_step, place_behind, NextPlace}
use Rattle.marking.specs.Marks.{Covering}
use Rattle.searching.specs.Searching.{Shorter}

-- no candidate by these indices shortens
abbrev Nothing : (table : List ℕ) (f : S.Form) (i mask rule pick : ℕ) → Type 0
Nothing table f i k r j =
    (c : ℤ) (reached : S.Form) → let t = term_at f.terms i in i < length f.terms → k < 2 ^ length t.factors → j < 2 ^ rule_letters r
    → MonomialKnown table (monomial t)
    → T (is_candidate t k r j) → c *ℤ gain t k r j ≡ neg_ℤ t.coef → step_at table f (candidate t k r j c) ≡ given reached
    → length f.terms ≤ length reached.terms

-- none at the place p of the term i
unfoldable pub NothingAt : (table : List ℕ) (f : S.Form) (i p : ℕ) → Type 0
NothingAt table f i p = Nothing table f i (mask_of p) (rule_of p) (pick_of p)

-- all places of the row before one
unfoldable pub RowPassed : (table : List ℕ) (f : S.Form) (first at : ℕ) → Type 0
RowPassed table f first at = (x : ℕ) → first * 40960 ≤ x → x < at → NothingAt table f (x / 40960) (x % 40960)

-- a step that does not shorten, where one is found
unfoldable pub Useless : (table : List ℕ) (f : S.Form) (found : Option Step) → Type 0
Useless table f None = Unit {0}
Useless table f (Some s) = (reached : S.Form) → step_at table f (step_of s) ≡ given reached → length f.terms ≤ length reached.terms

pub row-none : (table : List ℕ) (f : S.Form) (first : ℕ) → RowPassed table f first (first * 40960)
unfolding RowPassed
row-none table f first x a h = absurd (N.lt_irrefl x (omega arith))

-- up to the next
pub row_more : (marks table : List ℕ) (f : S.Form) (first at i : ℕ) (r : Option Next) → FormInShape f → Covering marks f.terms → at / 40960 ≡ i
    → RowPassed table f first at
    → NextPlace marks f.kind (term_at f.terms i) (at % 40960) r → Useless table f (found_step r)
    → RowPassed table f first (i * 40960 + place_behind 40960 r)
unfolding RowPassed NothingAt Settled Hopeless OnlyStep Useless
row_more marks table f first at i r shape cover e w n u x b h = go (ltb x at) refl
  where
    here : (k m j : ℕ) (found : Option Step) → Settled marks f.kind (term_at f.terms i) k m j found → Useless table f found → Nothing table f i k m j
    here k m j None hope u = λ c g inside hk hj known can ex s. hope hk hj table f c g shape cover refl known can ex s
    here k m j (Some v) settled u = λ c g inside hk hj known can ex s. ⊎_elim (λ hope. hope hk hj table f c g shape cover refl known can ex s)
        (λ only. u g (ap (step_at table f) (sym (only c can ex)) ∙ s)) settled

    go : (b : Bool) → ltb x at ≡ b → NothingAt table f (x / 40960) (x % 40960)
    go true q = w x b (ltb-true x at q)
    go false q =
        let same : x / 40960 ≡ i = omega (arith, ltb-false x at q, n.inside) in
        let from : at % 40960 ≤ x % 40960 = omega (arith, ltb-false x at q, n.inside) in
        let before : x % 40960 < place_behind 40960 r = omega (arith, ltb-false x at q, n.inside) in
        subst (λ (k : ℕ). NothingAt table f k (x % 40960)) (sym same) (here _ _ _ (found_step r) (n.all (x % 40960) from before) u)

-- past all places of a term
pub row_past : (table : List ℕ) (f : S.Form) (first i : ℕ) → RowPassed table f first (i * 40960 + 40960) → RowPassed table f first ((i + 1) * 40960)
row_past table f first i w = subst (RowPassed table f first) (omega arith) w

-- the whole row
pub row_all : (table : List ℕ) (f : S.Form) (at : ℕ) → ((i : ℕ) → i < length f.terms → length (term_at f.terms i).factors ≤ 7)
    → length f.terms * 40960 ≤ at
    → RowPassed table f 0 at → AllKnown table f.terms → NoCandidate table f
unfolding RowPassed NothingAt NoCandidate mask_of rule_of pick_of is_rule
row_all table f at few h w known i k r j c g hi hk rule hj can ex s =
    let masks : 2 ^ length (term_at f.terms i).factors ≤ 128 = pow_mono (few i hi) in
    let picks : 2 ^ rule_letters r ≤ 64 = pow_mono (few-letters r) in
    let low : 1 ≤ r = leb→le 1 r (and_split (leb 1 r) (leb r 5) rule).0 in
    let high : r ≤ 5 = leb→le r 5 (and_split (leb 1 r) (leb r 5) rule).1 in
    let p : ℕ = k * 320 + (r - 1) * 64 + j in
    let inside : p < 40960 = omega (arith, masks, picks, low, high, hk, hj) in
    let mask : p / 320 ≡ k = omega (arith, picks, low, high, hj) in
    let ruled : p / 64 % 5 + 1 ≡ r = omega (arith, picks, low, high, hj) in
    let pick : p % 64 ≡ j = omega (arith, picks, hj) in
    let x : ℕ = i * 40960 + p in
    let term : x / 40960 ≡ i = omega (arith, inside) in
    let place : x % 40960 ≡ p = omega (arith, inside) in
    let behind : x < at = omega (arith, inside, hi, h) in
    let there : NothingAt table f i p = subst (λ (n : ℕ). NothingAt table f n p) term (subst (NothingAt table f (x / 40960)) place (w x (omega arith) behind))
    in
    let here : Nothing table f i k r j =
    subst (λ (n : ℕ). Nothing table f i k r n) pick (subst (λ (n : ℕ). Nothing table f i k n (p % 64)) ruled (subst (λ (n : ℕ). Nothing table f i n (p / 64 % 5
    + 1) (p % 64)) mask there)) in
    here c g hi hk hj (E.all-at (λ (t : S.Term). MonomialKnown table (monomial t)) f.terms i _ known hi) can ex s

-- ════ the forms of the code

module _ (kind n : ℕ) (rows : List (List ℕ)) (coefs : List ℤ) (v : FormRun kind n rows coefs) where
  abbrev long : length (run_of n rows coefs) ≡ n
  long = run_length rows coefs n v.run.room v.run.beside

  module _ (i : ℕ) (h : i < n) where
    -- the term of a row
    pub row_term_lem : term_by (get_or rows i []) (get_or coefs i (pos 0)) ≡ term_at (run_of n rows coefs) i
    row_term_lem =
        let ts = run_of n rows coefs in
        let none : S.Term = record { coef = pos 0; factors = []; part = [] } in
        sym (ap (λ (k : ℕ). get_or ts k none) (sym (N.add-zero i)) ∙ sym (get_or-drop i ts 0 none)
        ∙ ap (λ (l : List S.Term). get_or l 0 none) (run_at rows coefs n v.run.room v.run.beside i h))

    -- as a value it is valid
    pub row-valid : (t : Term) (z : ℤ) → z ≡ get_or coefs i (pos 0) → (term_of t ≡ term_by (get_or rows i []) z) × Counted t → TermValid t
    row-valid t z e q = record {
      counted = q.1;
      in_shape = subst (λ (t : S.Term). T (term_in_shape t)) (sym (q.0 ∙ ap (term_by (get_or rows i [])) e ∙ row_term_lem))
          (E.all-at (λ (t : S.Term). T (term_in_shape t)) (run_of n rows coefs) i _ (all_T term_in_shape (run_of n rows coefs) v.in_shape.terms) (omega (
            arith,
            long,
          )));
    }

  terms-few : (i : ℕ) → i < length (run_of n rows coefs) → length (term_at (run_of n rows coefs) i).factors ≤ 7
  unfolding term_by factors_of
  terms-few i h =
      let inside : i < n = omega (arith, long) in
      subst (λ (t : S.Term). length t.factors ≤ 7) (row_term_lem i inside)
      (omega (
        arith,
        length-map (take (head_of (get_or rows i []) % 8) (drop 1 (get_or rows i []))) letters_of,
        length-take (head_of (get_or rows i []) % 8)
            (drop 1 (get_or rows i [])),
      ))

  -- the row of places by the code's numbers
  pub row-searched : (table : List ℕ) (first at end : ℕ) → end ≡ n * 40960 → end ≤ at → RowPassed table (form_by kind n rows coefs) first at → first ≡ 0
      → AllKnown table (run_of n rows coefs) → NoCandidate table (form_by kind n rows coefs)
  row-searched table first at end e h w z = row_all table (form_by kind n rows coefs) at terms-few (omega (arith, long, e, h))
      (subst (λ (k : ℕ). RowPassed table (form_by kind n rows coefs) k at) z w)

-- ════ trials

module _ (table : List ℕ) (f : S.Form) (s : Step) (rows : List (List ℕ)) (coefs : List ℤ) where
  pub refused_useless : (e : Refusal) → RowsGive (step_at table f (step_of s)) (Err e) rows coefs → Useless table f (Some s)
  unfolding Useless
  refused_useless e w g q = absurd (refused≢given (w.is ∙ q))

  module _ (r : Worked) (w : RowsGive (step_at table f (step_of s)) (Ok r) rows coefs) where
    pub long_useless : length f.terms ≤ r.count → Useless table f (Some s)
    unfolding Useless
    long_useless k g q =
        let same : form_by r.kind r.count rows coefs ≡ g = given_same (w.is ∙ q) in
        let v = w.form.run in
        subst (λ (g : S.Form). length f.terms ≤ length g.terms) same (omega (arith, run_length rows coefs r.count v.room v.beside))

    pub shorter : r.kind ≡ f.kind → r.count < length f.terms → Counted s.m → (i : ℕ) → i ≤ r.count
        → Shorter table f (record { behind = i; count = r.count; step = s }) rows coefs
    unfolding step_of
    shorter e k c i few =
        let reached : step_at table f (step_of s) ≡ given (form_by f.kind r.count rows coefs) = sym w.is
        ∙ ap (λ (n : ℕ). given (form_by n r.count rows coefs)) e in
        let a = step-admitted table f (step_of s) (form_by f.kind r.count rows coefs) reached in
        record {
          admissible = reached;
          fewer = k;
          form = subst (λ (n : ℕ). FormRun n r.count rows coefs) e w.form;
          step = record { rule = a.shape.rule; m = record { counted = c; in_shape = a.shape.m } };
          behind = omega (arith, few, w.form.few);
        }
