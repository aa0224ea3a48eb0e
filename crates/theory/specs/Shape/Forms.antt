-- A form in shape: what the tests of a form say. Its terms are gathered; and what is gathered from terms of one kind within the limits, and passes 9 and 10, is a form in shape.
-- Assumes nothing.
use Rattle.std.specs.Prelude.{◌≡◌, List, [], ◌∷◌, T, leb, length}
use Rattle.std.proofs.Common.{sym, ◌∙◌, subst, leb→le, le→leb, eqb→eq}
use Prim.Native.Nat.{ℕ, ◌≤◌, Ordering}
use Rattle.algebra.specs.Integers.{NonZero}
use Rattle.specification.specs.Results.{given}
use Rattle.specification.specs.Lists.{is_less, all, ascend}
use Rattle.specification.specs.Terms.{Term, Form, term_kind, tidy, gather, term_within, within, term_before, term_in_shape}
use Rattle.specification.specs.Records.{part_fits}
use Rattle.theory.specs.Tests.{and_both, and_split, eqb_T, given_same, required, passes}
use Rattle.theory.specs.Elements.{All, all_implies, all_T, T_all, both_all}
use Rattle.theory.specs.Order.{View, vlt, veq, vgt, Monomial, monomial, LtMonomial, monomial-laws, term-view}
use Rattle.theory.specs.Gathering.Tidy.{InOrder, tidy-in_order}
use Rattle.theory.specs.Gathering.Coefficients.{Ascending}
use Rattle.theory.specs.Gathering.Gathered.{Good, Unless0, gather_good, gather_asc, Gathered}
use Rattle.theory.specs.Shape.Terms.{kind_of_part, Fits, term-opens, term-closes, in_shape-tidy, tidy-fits}

-- ════ the order of terms

before : {m n : Monomial} {o : Ordering} → View LtMonomial m n o → T (is_less o) → LtMonomial m n
before (vlt h) t = h
before (veq h) t = absurd t
before (vgt h) t = absurd t

is_before : {m n : Monomial} {o : Ordering} → View LtMonomial m n o → LtMonomial m n → T (is_less o)
is_before (vlt h) e = tt
is_before {m} (veq h) e = monomial-laws.irr m (subst (λ (w : Monomial). LtMonomial m w) (sym h) e)
is_before {m} {n} (vgt h) e = monomial-laws.irr m (monomial-laws.trans m n m e h)

ascend-terms : (ts : List Term) → T (ascend term_before ts) → Ascending ts
unfolding ascend
ascend-terms [] t = tt
ascend-terms (u ∷ []) t = (tt, tt)
ascend-terms (u ∷ v ∷ ts) t =
    let w = and_split (term_before u v) (ascend term_before (v ∷ ts)) t in (before (term-view u v) w.0, ascend-terms (v ∷ ts) w.1)

-- and back
pub terms-ascend : (ts : List Term) → Ascending ts → T (ascend term_before ts)
unfolding ascend
terms-ascend [] a = tt
terms-ascend (u ∷ []) a = tt
terms-ascend (u ∷ v ∷ ts) a = and_both (term_before u v) (ascend term_before (v ∷ ts)) (is_before (term-view u v) a.0) (terms-ascend (v ∷ ts) a.1)

-- ════ forms in shape

-- a kind, at most 48 terms, each in shape and of the form's kind, strictly ascending
pub record FormInShape (f : Form) : Type 0 where
  pub kind : f.kind ≤ 1
  pub count : length f.terms ≤ 48
  pub terms : T (all term_in_shape f.terms)
  pub parts : T (all (part_fits f.kind) f.terms)
  pub ascending : T (ascend term_before f.terms)

-- the terms of a form in shape are gathered
pub form-gathered : (f : Form) → FormInShape f → Gathered f.terms
form-gathered f s =
    let h : All (λ (t : Term). T (term_in_shape t)) f.terms = all_T term_in_shape f.terms s.terms in
    record {
      tidied = all_implies (λ (t : Term). T (term_in_shape t)) (λ (t : Term). tidy t ≡ t) in_shape-tidy f.terms h;
      nonzero = all_implies (λ (t : Term). T (term_in_shape t)) (λ (t : Term). NonZero t.coef) (λ t h. (term-opens t h).nonzero) f.terms h;
      ascending = ascend-terms f.terms s.ascending;
    }

-- of the form's kind, and within the limits of a term
abbrev pub AllFit : (kind : ℕ) → List Term → Type 0
AllFit kind ts = All (λ (t : Term). Fits kind (monomial t)) ts

-- the terms of a form in shape
pub form-fits : (f : Form) → FormInShape f → AllFit f.kind f.terms
unfolding part_fits term_kind
form-fits f s =
    all_implies (λ (t : Term). T (term_in_shape t) × T (part_fits f.kind t)) (λ (t : Term). Fits f.kind (monomial t))
    (λ t h. subst (λ (k : ℕ). Fits k (monomial t)) (eqb→eq (kind_of_part t.part) f.kind h.1) (term-opens t h.0).fits)
    f.terms (both_all (λ (t : Term). T (term_in_shape t)) (λ (t : Term). T (part_fits f.kind t)) f.terms (all_T term_in_shape f.terms s.terms) (all_T (part_fits f.kind) f.terms s.parts))

-- ════ gathered within the limits

-- what 9 and 10 say of gathered terms, and the form that is given
pub record Within (kind : ℕ) (ts : List Term) (f : Form) : Type 0 where
  pub coefs : T (all term_within ts)
  pub short : length ts ≤ 48
  pub is : f ≡ record { kind = kind; terms = ts }

-- what 9 and 10 say of a form that is given
pub within_given : (kind : ℕ) (ts : List Term) (f : Form) → within kind ts ≡ given f → Within kind ts f
unfolding within
within_given kind ts f e =
    let w₁ = required (all term_within ts) 9 _ f e in
    let w₂ = required (leb (length ts) 48) 10 _ f w₁.1 in
    record { coefs = w₁.0; short = leb→le (length ts) 48 w₂.0; is = given_same (sym w₂.1) }

-- a form in shape is within the limits
pub form-within : (f : Form) → FormInShape f → within f.kind f.terms ≡ given f
unfolding within term_within
form-within f s =
    passes (all term_within f.terms) 9 _
    (T_all term_within f.terms (all_implies (λ (t : Term). T (term_in_shape t)) (λ (t : Term). T (term_within t)) (λ t h. (term-opens t h).within) f.terms (all_T term_in_shape f.terms s.terms)))
    ∙ passes (leb (length f.terms) 48) 10 _ (le→leb (length f.terms) 48 s.count)

-- in the order of forms, of the kind, within the limits
abbrev Whole : ℕ → Monomial → Type 0
Whole kind m = InOrder m × Fits kind m

-- terms of one kind within the limits, gathered and within 9 and 10, are a form in shape
pub within-in_shape : (kind : ℕ) (ts : List Term) (f : Form) → kind ≤ 1 → AllFit kind ts → Within kind (gather ts) f → FormInShape f
unfolding term_within part_fits term_kind
within-in_shape kind ts f k h w =
    let good : All (Good (Whole kind)) (gather ts) =
    gather_good (Whole kind) ts
    (all_implies (λ (t : Term). Fits kind (monomial t)) (λ (t : Term). Unless0 (Whole kind) (tidy t)) (λ t s z. (tidy-in_order t z, tidy-fits kind t s)) ts h) in
    subst FormInShape (sym w.is) (record {
      kind = k;
      count = w.short;
      terms = T_all term_in_shape (gather ts)
          (all_implies (λ (t : Term). Good (Whole kind) t × T (term_within t)) (λ (t : Term). T (term_in_shape t)) closes (gather ts)
          (both_all (Good (Whole kind)) (λ (t : Term). T (term_within t)) (gather ts) good (all_T term_within (gather ts) w.coefs)));
      parts = T_all (part_fits kind) (gather ts)
          (all_implies (Good (Whole kind)) (λ (t : Term). T (part_fits kind t)) (λ t g. eqb_T (kind_of_part t.part) kind g.1.1.kind_is) (gather ts) good);
      ascending = terms-ascend (gather ts) (gather_asc ts);
    })
  where
    closes : (t : Term) → Good (Whole kind) t × T (term_within t) → T (term_in_shape t)
    closes t g = term-closes t (record {
      nonzero = g.0.0;
      within = g.1;
      in_order = g.0.1.0;
      fits = subst (λ (k : ℕ). Fits k (monomial t)) (sym g.0.1.1.kind_is) g.0.1.1;
    })
