-- The tree of a printed form is worked to the form: partial sums of a form in shape are forms in shape, so that none is refused. Assumes nothing.
use Rattle.std.specs.Prelude.{◌≡◌, Bool, true, false, not, ◌&&◌, ℕ, zero, suc, ◌+◌, ◌<◌, ◌≤◌, ℤ, negsuc, nat_abs, length, T, eqb}
use Rattle.std.proofs.Math.Path.{refl, sym, ap, subst}
use Rattle.std.proofs.Common.{◌∙◌, arith, length-append, eqb→eq}
use mathlib.Core.List.{List, [], ◌∷◌, ◌++◌, map, append_assoc, append-nil}
use Rattle.std.proofs.Math.IntN.{pos, neg_ℤ}
use Rattle.algebra.specs.Integers.{NonZero, pos-nonzero}
use Rattle.specification.specs.Results.{Result, given, ◌>>=◌, ◌>>◌, require, when◌then◌else◌}
use Rattle.specification.specs.Lists.{all, joined, ascend}
use Rattle.specification.specs.Letters.{vector}
use Rattle.specification.specs.Terms.{Term, Form, term_kind, negated, gather, within, coef_within, term_before, term_in_shape}
use Rattle.specification.specs.Records.{part_fits}
use Rattle.specification.specs.Expressions.{Expr, Constant, Sum, Difference, Negation}
use Rattle.specification.specs.Printing.{is_nothing, name_of, print_part}
use Rattle.specification.specs.Reduction.{negate_form, sum_forms, work_with, work}
use Rattle.theory.specs.Tests.{and_both, and_split, eqb_T, passes}
use Rattle.theory.specs.Elements.{All}
use Rattle.theory.specs.Order.{monomial}
use Rattle.theory.specs.Gathering.Gathered.{gather-again}
use Rattle.theory.specs.Shape.Terms.{kind_of_part, TermShape, term-opens, term-closes}
use Rattle.theory.specs.Shape.Forms.{FormInShape, form-gathered, form-within}
use Rattle.theory.specs.Shape.Letters.{Known, FactorKnown, MonomialKnown, AllKnown}
use Rattle.theory.specs.Reduction.Standing.{one_term}
use Rattle.theory.specs.Text.Products.{unsized, chain, factors_text, left_out, term_expr}
use Rattle.theory.specs.Text.Sums.{joined_expr, first_expr, sum_expr, form_expr}
use Rattle.theory.specs.Text.Working.{sized, is_none, sized-works, unsized-works}

-- ════ a term

-- a coefficient without its sign
absolute : (k : ℤ) → NonZero k → T (coef_within k) → NonZero (pos (nat_abs k)) × T (coef_within (pos (nat_abs k)))
unfolding coef_within
absolute (pos n) z w = (z, w)
absolute (negsuc n) z w = (pos-nonzero n, w)

-- a term in shape without its sign is in shape
absolute-shape : (t : Term) → T (term_in_shape t) → T (term_in_shape (sized (nat_abs t.coef) t.factors t.part))
absolute-shape t h =
    let s = term-opens t h in
    let a = absolute t.coef s.nonzero s.within in
    term-closes (sized (nat_abs t.coef) t.factors t.part) (record { nonzero = a.0; within = a.1; in_order = s.in_order; fits = s.fits })

something : (names : List ℕ) (fs : List (List ℕ)) (p : List ℕ) → T (not (is_nothing (factors_text names fs ++ print_part names p))) → T (not (is_none fs p))
unfolding factors_text is_nothing is_none joined print_part
something names [] [] o = o
something names [] (a ∷ p) o = tt
something names (f ∷ fs) p o = tt

-- the tree of a printed term is worked to the term without its sign
pub term-works : (names table : List ℕ) (t : Term) → T (term_in_shape t) → MonomialKnown table (monomial t)
    → work (term_expr names table t) ≡ given (one_term (kind_of_part t.part) (sized (nat_abs t.coef) t.factors t.part))
unfolding term_expr left_out
term-works names table t h k =
    go (eqb n 1 && not (is_nothing (factors_text names fs ++ print_part names p))) (λ o. and_split (eqb n 1) (not (is_nothing (factors_text names fs ++ print_part names p))) o)
  where
    n : ℕ
    n = nat_abs t.coef

    fs : List (List ℕ)
    fs = t.factors

    p : List ℕ
    p = t.part

    go : (b : Bool) → (T b → T (eqb n 1) × T (not (is_nothing (factors_text names fs ++ print_part names p))))
        → work (when b then unsized table fs p else chain table (Constant (pos n)) fs p) ≡ given (one_term (kind_of_part p) (sized n fs p))
    go true o =
        let e : n ≡ 1 = eqb→eq n 1 (o tt).0 in
        subst (λ (m : ℕ). work (unsized table fs p) ≡ given (one_term (kind_of_part p) (sized m fs p))) (sym e)
        (unsized-works table fs p (something names fs p (o tt).1) (subst (λ (m : ℕ). T (term_in_shape (sized m fs p))) e (absolute-shape t h)) k.factors k.part)
    go false o = sized-works table n fs p (absolute-shape t h) k.factors k.part

-- ════ partial sums

all_prefix : (f : Term → Bool) (xs ys : List Term) → T (all f (xs ++ ys)) → T (all f xs)
unfolding all
all_prefix f [] ys h = tt
all_prefix f (x ∷ xs) ys h = let w = and_split (f x) (all f (xs ++ ys)) h in and_both (f x) (all f xs) w.0 (all_prefix f xs ys w.1)

ascend-prefix : (f : Term → Term → Bool) (xs ys : List Term) → T (ascend f (xs ++ ys)) → T (ascend f xs)
unfolding ascend
ascend-prefix f [] ys h = tt
ascend-prefix f (x ∷ []) ys h = tt
ascend-prefix f (x ∷ y ∷ xs) ys h =
    let w = and_split (f x y) (ascend f (y ∷ xs ++ ys)) h in and_both (f x y) (ascend f (y ∷ xs)) w.0 (ascend-prefix f (y ∷ xs) ys w.1)

all_middle : (f : Term → Bool) (xs : List Term) (y : Term) (ys : List Term) → T (all f (xs ++ y ∷ ys)) → T (f y)
unfolding all
all_middle f [] y ys h = (and_split (f y) (all f ys) h).0
all_middle f (x ∷ xs) y ys h = all_middle f xs y ys (and_split (f x) (all f (xs ++ y ∷ ys)) h).1

-- a kind and terms
abbrev pub form_of : ℕ → List Term → Form
form_of kind ts = record { kind = kind; terms = ts }

-- the first terms of a form in shape are a form in shape
pub form-prefix : (kind : ℕ) (xs ys : List Term) → FormInShape (form_of kind (xs ++ ys)) → FormInShape (form_of kind xs)
form-prefix kind xs ys s = record {
  kind = s.kind;
  count = omega (arith, s.count, length-append xs ys);
  terms = all_prefix term_in_shape xs ys s.terms;
  parts = all_prefix (part_fits kind) xs ys s.parts;
  ascending = ascend-prefix term_before xs ys s.ascending;
}

-- one more term of a form in shape is added with no refusal
add-works : (kind : ℕ) (ds : List Term) (t : Term) → FormInShape (form_of kind (ds ++ t ∷ [])) → sum_forms (form_of kind ds) (one_term kind t) ≡ given (form_of kind (ds ++ t ∷ []))
unfolding sum_forms
add-works kind ds t s =
    passes (eqb kind kind) 6 _ (eqb_T kind kind refl)
    ∙ ap (within kind) (gather-again (ds ++ t ∷ []) (form-gathered (form_of kind (ds ++ t ∷ [])) s))
    ∙ form-within (form_of kind (ds ++ t ∷ [])) s

module _ (names table : List ℕ) where
  -- the next term joined by its sign
  joined-works : (e : Expr) (kind : ℕ) (ds : List Term) (t : Term) → work e ≡ given (form_of kind ds) → work (term_expr names table t) ≡ given (one_term kind (sized (nat_abs t.coef) t.factors t.part))
      → FormInShape (form_of kind (ds ++ t ∷ [])) → work (joined_expr t.coef e (term_expr names table t)) ≡ given (form_of kind (ds ++ t ∷ []))
  unfolding joined_expr work_with negate_form
  joined-works e kind ds t we wt s = go t.coef refl
    where
      go : (k : ℤ) → t.coef ≡ k → work (joined_expr k e (term_expr names table t)) ≡ given (form_of kind (ds ++ t ∷ []))
      go (pos n) q =
          let x : sized (nat_abs t.coef) t.factors t.part ≡ t = λ i. record { coef = (ap (λ (k : ℤ). pos (nat_abs k)) q ∙ sym q) i; factors = t.factors; part = t.part } in
          rw (we, wt, x) (add-works kind ds t s)
      go (negsuc n) q =
          let x : negated (sized (nat_abs t.coef) t.factors t.part) ≡ t = λ i. record { coef = (ap (λ (k : ℤ). neg_ℤ (pos (nat_abs k))) q ∙ sym q) i; factors = t.factors; part = t.part } in
          rw (we, wt, x) (add-works kind ds t s)

  -- the first term with its sign
  first_works : (kind : ℕ) (t : Term) → work (term_expr names table t) ≡ given (one_term kind (sized (nat_abs t.coef) t.factors t.part))
      → work (first_expr t.coef (term_expr names table t)) ≡ given (one_term kind t)
  unfolding first_expr work_with negate_form
  first_works kind t wt = go t.coef refl
    where
      go : (k : ℤ) → t.coef ≡ k → work (first_expr k (term_expr names table t)) ≡ given (one_term kind t)
      go (pos n) q = wt ∙ ap (λ (u : Term). given (one_term kind u)) (λ i. record { coef = (ap (λ (k : ℤ). pos (nat_abs k)) q ∙ sym q) i; factors = t.factors; part = t.part })
      go (negsuc n) q =
          let x : negated (sized (nat_abs t.coef) t.factors t.part) ≡ t = λ i. record { coef = (ap (λ (k : ℤ). neg_ℤ (pos (nat_abs k))) q ∙ sym q) i; factors = t.factors; part = t.part } in
          rw (wt, x) refl

  -- a term of a form in shape
  middle-works : (kind : ℕ) (ds : List Term) (t : Term) (ts : List Term) → FormInShape (form_of kind (ds ++ t ∷ ts)) → MonomialKnown table (monomial t)
      → work (term_expr names table t) ≡ given (one_term kind (sized (nat_abs t.coef) t.factors t.part))
  unfolding part_fits term_kind
  middle-works kind ds t ts s k =
      subst (λ (m : ℕ). work (term_expr names table t) ≡ given (one_term m (sized (nat_abs t.coef) t.factors t.part)))
      (eqb→eq (kind_of_part t.part) kind (all_middle (part_fits kind) ds t ts s.parts))
      (term-works names table t (all_middle term_in_shape ds t ts s.terms) k)

  -- terms joined one after the other
  sum-works : (e : Expr) (kind : ℕ) (ds ts : List Term) → work e ≡ given (form_of kind ds) → FormInShape (form_of kind (ds ++ ts)) → AllKnown table ts
      → work (sum_expr names table e ts) ≡ given (form_of kind (ds ++ ts))
  unfolding sum_expr
  sum-works e kind ds [] w s k = w ∙ ap (λ (l : List Term). given (form_of kind l)) (sym (append-nil ds))
  sum-works e kind ds (t ∷ ts) w s k =
      let j : (ds ++ t ∷ []) ++ ts ≡ ds ++ t ∷ ts = append_assoc ds (t ∷ []) ts in
      let s₁ : FormInShape (form_of kind ((ds ++ t ∷ []) ++ ts)) = subst (λ (l : List Term). FormInShape (form_of kind l)) (sym j) s in
      subst (λ (l : List Term). work (sum_expr names table (joined_expr t.coef e (term_expr names table t)) ts) ≡ given (form_of kind l)) j
      (sum-works (joined_expr t.coef e (term_expr names table t)) kind (ds ++ t ∷ []) ts
      (joined-works e kind ds t w (middle-works kind ds t ts s k.0) (form-prefix kind (ds ++ t ∷ []) ts s₁)) s₁ k.1)

  -- the tree of a printed form is worked to the form
  pub form-works : (kind : ℕ) (t : Term) (ts : List Term) → FormInShape (form_of kind (t ∷ ts)) → AllKnown table (t ∷ ts) → work (form_expr names table (t ∷ ts)) ≡ given (form_of kind (t ∷ ts))
  unfolding form_expr
  form-works kind t ts s k =
      sum-works (first_expr t.coef (term_expr names table t)) kind (t ∷ []) ts (first_works kind t (middle-works kind [] t ts s k.0)) s k.1
