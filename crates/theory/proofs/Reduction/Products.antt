-- Products of forms: for a bilinear operation that the products of vector parts follow, the product of two forms has the operation's value, is in shape, and has letters of the table.
-- Assumes nothing.
use Rattle.std.specs.Prelude.{◌≡◌, pos, ◌*ℤ◌, T, leb}
use Rattle.std.proofs.Math.Path.{refl, sym, ap}
use Rattle.std.proofs.Common.{◌∙◌, subst}
use mathlib.Core.List.{List, [], ◌∷◌, ◌++◌, map, flat_map}
use Prim.Native.Nat.{ℕ, ◌*◌, ◌+◌, ◌≤◌}
use Rattle.std.proofs.Math.IntN.{ℤ}
use Rattle.std.proofs.Math.ListN.{length}
use Rattle.algebra.specs.Integers as R
use Rattle.specification.specs.Lists.{all}
use Rattle.specification.specs.Results.{given}
use Rattle.specification.specs.Values.{Vec, scalar_value, ◌+v◌, ◌•◌}
use Rattle.specification.specs.Letters.{vector}
use Rattle.specification.specs.Terms.{Term, Form, times_term, staying, gather, letters_fit, term_within, within}
use Rattle.specification.specs.Reduction.{joined_scalars, pair_terms, pairs_of, pair_staying, product_terms, product}
use Rattle.specification.specs.Evaluation.{factor_value, factors_value, part_value, term_value, terms_value, value}
use Rattle.theory.specs.Tests.{required}
use Rattle.theory.specs.Elements.{All, all_append, all_implies, both_all, all_T, all_map, flat_map-append, all_flat_map}
use Rattle.theory.specs.Order.{monomial}
use Rattle.theory.specs.Gathering.Staying.{staying-flat_map, all_staying}
use Rattle.theory.specs.Shape.Terms.{OneToThree, kind_of_part, Fits, Formed, fits-formed, formed-fits}
use Rattle.theory.specs.Shape.Forms.{FormInShape, AllFit, Within, within_given, within-in_shape}
use Rattle.theory.specs.Shape.Bare.{Bare}
use Rattle.theory.specs.Shape.Letters.{Known, FactorKnown, MonomialKnown, AllKnown, times_known, gather_known}
use Rattle.theory.specs.Values.Vectors.{one_•, zero_•, •_zero, •-•, •-+}
use Rattle.theory.proofs.Values.Terms.{append_value, gather_value, staying_value}

-- ════ what a form denotes

-- a form of a kind, in shape, with letters of the table, and with a value under every assignment
pub record Denotes (table : List ℕ) (f : Form) (kind : ℕ) (v : (ℕ → Vec) → Vec) : Type 0 where
  pub kind_is : f.kind ≡ kind
  pub in_shape : FormInShape f
  pub known : AllKnown table f.terms
  pub value_is : (σ : ℕ → Vec) → value σ f ≡ v σ

-- terms of one kind within the limits, gathered and within 9 and 10, are a form with their value
pub within_denotes : (table : List ℕ) (kind : ℕ) (ts : List Term) (f : Form) → kind ≤ 1 → AllFit kind ts → AllKnown table ts → within kind (gather ts) ≡ given f
    → Denotes table f kind (λ σ. terms_value σ ts)
unfolding value
within_denotes table kind ts f k h known e =
    let w : Within kind (gather ts) f = within_given kind (gather ts) f e in
    record {
      kind_is = ap (λ (f : Form). f.kind) w.is;
      in_shape = within-in_shape kind ts f k h w;
      known = subst (λ (f : Form). AllKnown table f.terms) (sym w.is) (gather_known table ts known);
      value_is = λ σ. ap (λ (f : Form). terms_value σ f.terms) w.is ∙ gather_value σ kind ts (all_implies (λ (t : Term). Fits kind (monomial t)) (Formed kind) (fits-formed kind) ts h);
    }

-- ════ a term without a vector part times a term

module _ (σ : ℕ → Vec) where
  -- joined factors multiply
  pub factors-append : (fs gs : List (List ℕ)) → factors_value σ (fs ++ gs) ≡ factors_value σ fs *ℤ factors_value σ gs
  unfolding factors_value
  factors-append [] gs = sym (R.one_*ℤ (factors_value σ gs))
  factors-append (f ∷ fs) gs =
      ap (λ (k : ℤ). factor_value σ f *ℤ k) (factors-append fs gs) ∙ sym (R.*ℤ_assoc (factor_value σ f) (factors_value σ fs) (factors_value σ gs))

  times_value : (t u : Term) → t.part ≡ [] → term_value σ (times_term t u) ≡ (t.coef *ℤ factors_value σ t.factors) • term_value σ u
  unfolding times_term term_value
  times_value t u e =
      let v : ℤ = factors_value σ t.factors in
      let w : ℤ = factors_value σ u.factors in
      (λ i. ((t.coef *ℤ u.coef) *ℤ factors-append t.factors u.factors i) • part_value σ (e i ++ u.part))
      ∙ ap (λ (k : ℤ). k • part_value σ u.part) (R.*ℤ_interchange t.coef u.coef v w)
      ∙ sym (•-• (t.coef *ℤ v) (u.coef *ℤ w) (part_value σ u.part))

  -- a term without a vector part times each of some terms
  pub times-values : (t : Term) (us : List Term) → t.part ≡ []
      → terms_value σ (map (times_term t) us) ≡ (t.coef *ℤ factors_value σ t.factors) • terms_value σ us
  unfolding terms_value
  times-values t [] e = sym (•_zero (t.coef *ℤ factors_value σ t.factors))
  times-values t (u ∷ us) e =
      (λ i. times_value t u e i +v times-values t us e i) ∙ sym (•-+ (t.coef *ℤ factors_value σ t.factors) (term_value σ u) (terms_value σ us))

-- ════ bilinear operations

-- sums and multiples come out on both sides
pub record Bilinear (op : Vec → Vec → Vec) : Type 0 where
  pub sum_left : (a b c : Vec) → op (a +v b) c ≡ op a c +v op b c
  pub sum_right : (a b c : Vec) → op a (b +v c) ≡ op a b +v op a c
  pub scaled : (k l : ℤ) (a b : Vec) → op (k • a) (l • b) ≡ (k *ℤ l) • op a b

-- a vector part of a kind: nothing in a scalar, one letter or two in a vector
pub record PartOf (kind : ℕ) (p : List ℕ) : Type 0 where
  pub short : length p ≤ 2
  pub kind_is : kind_of_part p ≡ kind

-- what two vector parts of their kinds make: the value of the operation, bare terms of a kind, and the parts' letters
pub record Follows (op : Vec → Vec → Vec) (parts : List ℕ → List ℕ → List Term) (left right kind : ℕ) : Type 0 where
  pub parts_value : (σ : ℕ → Vec) (p q : List ℕ) → PartOf left p → PartOf right q → terms_value σ (parts p q) ≡ op (part_value σ p) (part_value σ q)
  pub parts_bare : (p q : List ℕ) → PartOf left p → PartOf right q → All (Bare kind (length p + length q)) (parts p q)
  pub parts_known : (table p q : List ℕ) → PartOf left p → PartOf right q → All (Known table vector) p → All (Known table vector) q → AllKnown table (parts p q)

-- what holds of the terms of two lists holds of their pairs
pairs_all : (P Q : Term → Type 0) (ts us : List Term) → All P ts → All Q us → All (λ (p : Term × Term). P p.0 × Q p.1) (pairs_of ts us)
unfolding pairs_of
pairs_all P Q ts us h k =
    all_flat_map P (λ (p : Term × Term). P p.0 × Q p.1) (λ (t : Term). map (λ (u : Term). (t, u)) us)
    (λ t ht. all_map Q (λ (p : Term × Term). P p.0 × Q p.1) (λ (u : Term). (t, u)) (λ u hu. (ht, hu)) us k) ts h

-- ════ what stays of a product

-- the terms that stay, of all pairs together
pub terms_that_stay : (parts : List ℕ → List ℕ → List Term) (ts us : List Term) → product_terms parts ts us ≡ staying (flat_map (pair_terms parts) (pairs_of ts us))
unfolding product_terms pair_staying
terms_that_stay parts ts us = staying-flat_map (pair_terms parts) (pairs_of ts us)

-- what holds of the terms of all pairs holds of those that stay
of_those_that_stay : (parts : List ℕ → List ℕ → List Term) (P : Term → Type 0) (ts us : List Term) → All P (flat_map (pair_terms parts) (pairs_of ts us)) → All P (product_terms parts ts us)
of_those_that_stay parts P ts us h = subst (All P) (sym (terms_that_stay parts ts us)) (all_staying P (flat_map (pair_terms parts) (pairs_of ts us)) h)

-- ════ limits and letters of a product

part_of : (kind : ℕ) (t : Term) → Fits kind (monomial t) → PartOf kind t.part
part_of kind t h = record { short = h.part; kind_is = h.kind_is }

module _ (op : Vec → Vec → Vec) (parts : List ℕ → List ℕ → List Term) (left right kind : ℕ) (P : Follows op parts left right kind) where
  pair-formed : (t u : Term) → Fits left (monomial t) → Fits right (monomial u) → All (Formed kind) (pair_terms parts (t, u))
  unfolding pair_terms joined_scalars times_term
  pair-formed t u h k =
      all_map (Bare kind (length t.part + length u.part)) (Formed kind) (times_term (joined_scalars t u))
      (λ x b. record {
        lengths = all_append OneToThree (t.factors ++ u.factors) x.factors (all_append OneToThree t.factors u.factors h.lengths k.lengths) b.lengths;
        part = b.part;
        kind_is = b.kind_is;
      })
      (parts t.part u.part) (P.parts_bare t.part u.part (part_of left t h) (part_of right u k))

  pair_known : (table : List ℕ) (t u : Term) → Fits left (monomial t) → Fits right (monomial u) → MonomialKnown table (monomial t) → MonomialKnown table (monomial u)
      → AllKnown table (pair_terms parts (t, u))
  unfolding pair_terms joined_scalars
  pair_known table t u h k m n =
      all_map (λ (x : Term). MonomialKnown table (monomial x)) (λ (x : Term). MonomialKnown table (monomial x)) (times_term (joined_scalars t u))
      (λ x known. times_known table (joined_scalars t u) x
      (record { factors = all_append (FactorKnown table) t.factors u.factors m.factors n.factors; part = tt }) known)
      (parts t.part u.part) (P.parts_known table t.part u.part (part_of left t h) (part_of right u k) m.part n.part)

  -- the terms that all pairs make are of the product's kind
  pairs-formed : (ts us : List Term) → AllFit left ts → AllFit right us → All (Formed kind) (flat_map (pair_terms parts) (pairs_of ts us))
  pairs-formed ts us h k =
      all_flat_map (λ (p : Term × Term). Fits left (monomial p.0) × Fits right (monomial p.1)) (Formed kind) (pair_terms parts)
      (λ p b. pair-formed p.0 p.1 b.0 b.1) (pairs_of ts us)
      (pairs_all (λ (t : Term). Fits left (monomial t)) (λ (t : Term). Fits right (monomial t)) ts us h k)

  -- those that stay and pass the test of their letters are within the limits
  pub product_fits : (ts us : List Term) → AllFit left ts → AllFit right us → T (all letters_fit (product_terms parts ts us)) → AllFit kind (product_terms parts ts us)
  product_fits ts us h k l =
      all_implies (λ (t : Term). Formed kind t × T (letters_fit t)) (λ (t : Term). Fits kind (monomial t)) (λ t b. formed-fits kind t b.0 b.1) (product_terms parts ts us)
      (both_all (Formed kind) (λ (t : Term). T (letters_fit t)) (product_terms parts ts us)
      (of_those_that_stay parts (Formed kind) ts us (pairs-formed ts us h k)) (all_T letters_fit (product_terms parts ts us) l))

-- ════ the value of a product

module _ (op : Vec → Vec → Vec) (L : Bilinear op) where
  zero_left : (a : Vec) → op (scalar_value (pos 0)) a ≡ scalar_value (pos 0)
  zero_left a =
      (λ i. op (sym (zero_• (scalar_value (pos 0))) i) (sym (one_• a) i)) ∙ L.scaled (pos 0) (pos 1) (scalar_value (pos 0)) a
      ∙ zero_• (op (scalar_value (pos 0)) a)

  zero_right : (a : Vec) → op a (scalar_value (pos 0)) ≡ scalar_value (pos 0)
  zero_right a =
      (λ i. op (sym (one_• a) i) (sym (zero_• (scalar_value (pos 0))) i)) ∙ L.scaled (pos 1) (pos 0) a (scalar_value (pos 0))
      ∙ zero_• (op a (scalar_value (pos 0)))

  module _ (parts : List ℕ → List ℕ → List Term) (left right kind : ℕ) (P : Follows op parts left right kind) where
    -- ---- values

    pair_value : (σ : ℕ → Vec) (t u : Term) → Fits left (monomial t) → Fits right (monomial u)
        → terms_value σ (pair_terms parts (t, u)) ≡ op (term_value σ t) (term_value σ u)
    unfolding pair_terms joined_scalars term_value
    pair_value σ t u h k =
        let v : ℤ = factors_value σ t.factors in
        let w : ℤ = factors_value σ u.factors in
        let p : Vec = part_value σ t.part in
        let q : Vec = part_value σ u.part in
        times-values σ (joined_scalars t u) (parts t.part u.part) refl
        ∙ (λ i. ((t.coef *ℤ u.coef) *ℤ factors-append σ t.factors u.factors i) • P.parts_value σ t.part u.part (part_of left t h) (part_of right u k) i)
        ∙ ap (λ (c : ℤ). c • op p q) (R.*ℤ_interchange t.coef u.coef v w)
        ∙ sym (L.scaled (t.coef *ℤ v) (u.coef *ℤ w) p q)

    -- the pairs of one term
    row : Term → List Term → List (Term × Term)
    row t us = map (λ u. (t, u)) us

    row_value : (σ : ℕ → Vec) (t : Term) (us : List Term) → Fits left (monomial t) → AllFit right us
        → terms_value σ (flat_map (pair_terms parts) (row t us)) ≡ op (term_value σ t) (terms_value σ us)
    unfolding row flat_map terms_value
    row_value σ t [] h k = sym (zero_right (term_value σ t))
    row_value σ t (u ∷ us) h k =
        append_value σ (pair_terms parts (t, u)) (flat_map (pair_terms parts) (row t us))
        ∙ (λ i. pair_value σ t u h k.0 i +v row_value σ t us h k.1 i)
        ∙ sym (L.sum_right (term_value σ t) (term_value σ u) (terms_value σ us))

    pairs_value : (σ : ℕ → Vec) (ts us : List Term) → AllFit left ts → AllFit right us
        → terms_value σ (flat_map (pair_terms parts) (pairs_of ts us)) ≡ op (terms_value σ ts) (terms_value σ us)
    unfolding pairs_of row flat_map terms_value
    pairs_value σ [] us h k = sym (zero_left (terms_value σ us))
    pairs_value σ (t ∷ ts) us h k =
        ap (terms_value σ) (flat_map-append (pair_terms parts) (row t us) (pairs_of ts us))
        ∙ append_value σ (flat_map (pair_terms parts) (row t us)) (flat_map (pair_terms parts) (pairs_of ts us))
        ∙ (λ i. row_value σ t us h.0 k i +v pairs_value σ ts us h.1 k i)
        ∙ sym (L.sum_left (term_value σ t) (terms_value σ ts) (terms_value σ us))

    -- ---- the product

    -- the product of two forms denotes the operation on their values
    pub product_denotes : (table : List ℕ) (f g r : Form) → kind ≤ 1 → AllFit left f.terms → AllFit right g.terms
        → AllKnown table f.terms → AllKnown table g.terms → product kind parts f g ≡ given r
        → Denotes table r kind (λ σ. op (value σ f) (value σ g))
    unfolding product value
    product_denotes table f g r small h k m n e =
        let pairs : List (Term × Term) = pairs_of f.terms g.terms in
        let terms : List Term = product_terms parts f.terms g.terms in
        let w₁ = required (leb (length f.terms * length g.terms) 48) 7 _ r e in
        let w₂ = required (all letters_fit terms) 8 _ r w₁.1 in
        let w₃ = required (all term_within terms) 9 _ r w₂.1 in
        let Left : Term → Type 0 = λ t. Fits left (monomial t) × MonomialKnown table (monomial t) in
        let Right : Term → Type 0 = λ t. Fits right (monomial t) × MonomialKnown table (monomial t) in
        let Both : Term × Term → Type 0 = λ p. Left p.0 × Right p.1 in
        let both : All Both pairs = pairs_all Left Right f.terms g.terms
        (both_all (λ (t : Term). Fits left (monomial t)) (λ (t : Term). MonomialKnown table (monomial t)) f.terms h m)
        (both_all (λ (t : Term). Fits right (monomial t)) (λ (t : Term). MonomialKnown table (monomial t)) g.terms k n) in
        let fit : AllFit kind terms = product_fits op parts left right kind P f.terms g.terms h k w₂.0 in
        let known : AllKnown table terms = of_those_that_stay parts (λ (t : Term). MonomialKnown table (monomial t)) f.terms g.terms
        (all_flat_map Both (λ (t : Term). MonomialKnown table (monomial t)) (pair_terms parts)
        (λ p b. pair_known op parts left right kind P table p.0 p.1 b.0.0 b.1.0 b.0.1 b.1.1) pairs both) in
        let d : Denotes table r kind (λ σ. terms_value σ terms) = within_denotes table kind terms r small fit known w₃.1 in
        record { kind_is = d.kind_is; in_shape = d.in_shape; known = d.known; value_is = λ σ. d.value_is σ ∙ stays σ ∙ pairs_value σ f.terms g.terms h k }
      where
        stays : (σ : ℕ → Vec) → terms_value σ (product_terms parts f.terms g.terms) ≡ terms_value σ (flat_map (pair_terms parts) (pairs_of f.terms g.terms))
        stays σ =
            ap (terms_value σ) (terms_that_stay parts f.terms g.terms)
            ∙ staying_value σ kind (flat_map (pair_terms parts) (pairs_of f.terms g.terms)) (pairs-formed op parts left right kind P f.terms g.terms h k)
