-- Values of factors, vector parts, terms and forms as the functions make them: products and sums from the last to the first. Assumes nothing.
use mathlib.Core.Path.{◌≡◌, ap, sym, ◌∙◌}
use mathlib.Core.Bool.{true}
use mathlib.Core.List.{List, [], ◌∷◌, map}
use Prim.Native.Nat.{ℕ, zero, suc, ◌+◌, ◌-◌, ◌*◌, ◌^◌, ◌≤◌, ◌<◌}
use native.Mathlib.Nat as N
use native.Mathlib.Omega.{arith}
use lib.Dec.{T}
use lib.IntN.{ℤ, pos, nat_abs, ◌*ℤ◌}
use lib.ListN.{length, get_or, take, drop, length-map, length-drop}
use lib.Seq.{length-take-le}
use mir.Syntax.{w64}
use mir.Val.{SFits}
use Rattle.specification.specs.Lists.{all}
use Rattle.specification.specs.Terms.{vector_letters_of, scalar_letters_of, term_in_shape}
use Rattle.specification.specs.Values.{Vec, ◌+v◌, ◌•◌, dot, wedge, triple}
use Rattle.specification.specs.Evaluation.{signed_byte, six_or_less, assignment, factor_value, factors_value, part_value, term_value, terms_value, value}
use Rattle.algebra.specs.Integers.{nat_abs_*ℤ}
use Rattle.integers.proofs.Machine.{back, back_is}
use Rattle.theory.specs.Elements.{All, all_T}
use Rattle.theory.specs.Shape.Terms.{OneToThree, term-opens}
use Rattle.terms.specs.declared.factors.Factor.{Factor}
use Rattle.terms.specs.declared.factors.Factor.TheVariants.{Scalar, Dot, Triple}
use Rattle.terms.specs.declared.types.Part.{Part}
use Rattle.terms.specs.declared.types.Part.TheVariants.{Nothing, Letter, Wedge}
use Rattle.terms.specs.declared.types.Term.{Term}
use Rattle.terms.specs.declared.types.Form.{Form}
use Rattle.terms.specs.Numbers.{letters_of}
use Rattle.terms.specs.Abstraction.{factor_of, part_of, term_of, form_of}
use Rattle.terms.specs.Valid.{TermValid, FormValid}
use Rattle.terms.proofs.Arrays.{rest_at, nothing_left_lem}
use Rattle.terms.proofs.Letters as L
use Rattle.evaluation.specs.declared.vectors.Vector.{Vector}
use Rattle.evaluation.specs.Vectors.{vec_of, Within}
use Rattle.evaluation.proofs.Bounds.{within_more, assignment-small, letters-most, factors-small, scalar-small, term-small, terms-small}

-- ════ what is left of a list

all_rest : {A B : Type 0} (P : B → Type 0) (g : A → B) (i : ℕ) (l : List A) → All P (map g l) → All P (map g (drop i l))
all_rest P g zero l h = h
all_rest P g (suc i) [] h = tt
all_rest P g (suc i) (x ∷ l) h = all_rest P g i l h.1

vectors-rest : (i : ℕ) (l : List ℕ) → vector_letters_of (map letters_of (drop i l)) ≤ vector_letters_of (map letters_of l)
unfolding vector_letters_of
vectors-rest zero l = N.le_refl (vector_letters_of (map letters_of l))
vectors-rest (suc i) [] = omega arith
vectors-rest (suc i) (k ∷ l) = omega (arith, vectors-rest i l)

scalars-rest : (i : ℕ) (l : List ℕ) → scalar_letters_of (map letters_of (drop i l)) ≤ scalar_letters_of (map letters_of l)
unfolding scalar_letters_of
scalars-rest zero l = N.le_refl (scalar_letters_of (map letters_of l))
scalars-rest (suc i) [] = omega arith
scalars-rest (suc i) (k ∷ l) = omega (arith, scalars-rest i l)

-- ════ letters

module _ (s : List ℕ) (small : all six_or_less s ≡ true) (a : ℕ) (v : Vector) (e : vec_of v ≡ assignment s a) where
  pub letter-small : Within 6 (vec_of v)
  letter-small = rw e (assignment-small s small a)

  pub letter-small-for-dot : Within 72 (vec_of v)
  letter-small-for-dot = within_more 6 72 (vec_of v) (omega arith) letter-small

-- ════ a factor

module _ (s : List ℕ) (k : ℕ) (f : Factor) (e : factor_of f ≡ letters_of k) (m : ℤ) (fits : SFits w64 m) where
  pub factor_one : (x : ℕ) → f ≡ Scalar x → m ≡ signed_byte (get_or s (3 * x) 0) → back m ≡ factor_value (assignment s) (letters_of k)
  unfolding factor_value assignment
  factor_one x h r = back_is fits ∙ r ∙ rw (L.scalar_is k f e x h)

  pub factor_two : (x y : ℕ) (u v : Vector) → f ≡ Dot x y → vec_of u ≡ assignment s x → vec_of v ≡ assignment s y
      → m ≡ dot (vec_of u) (vec_of v) → back m ≡ factor_value (assignment s) (letters_of k)
  unfolding factor_value
  factor_two x y u v h a b r = back_is fits ∙ r ∙ (λ i. dot (a i) (b i)) ∙ rw (L.dot_is k f e x y h)

  pub factor-three : (x y z : ℕ) (u v w : Vector) → f ≡ Triple x y z → vec_of u ≡ assignment s x → vec_of v ≡ assignment s y → vec_of w ≡ assignment s z
      → m ≡ triple (vec_of u) (vec_of v) (vec_of w) → back m ≡ factor_value (assignment s) (letters_of k)
  unfolding factor_value
  factor-three x y z u v w h a b c r = back_is fits ∙ r ∙ (λ i. triple (a i) (b i) (c i)) ∙ rw (L.triple_is k f e x y z h)

-- ════ a vector part

module _ (s : List ℕ) (p : Part) where
  pub part-nothing : p ≡ Nothing → vec_of (record { x = pos 1; y = pos 0; z = pos 0 }) ≡ part_value (assignment s) (part_of p)
  unfolding vec_of part_value
  part-nothing e = rw (L.nothing_is p e)

  pub part-letter : (a : ℕ) (v : Vector) → p ≡ Letter a → vec_of v ≡ assignment s a → vec_of v ≡ part_value (assignment s) (part_of p)
  unfolding part_value
  part-letter a v e h = h ∙ rw (L.letter_is p a e)

  pub part-wedge : (a b : ℕ) (u v w : Vector) → p ≡ Wedge a b → vec_of u ≡ assignment s a → vec_of v ≡ assignment s b → vec_of w ≡ wedge (vec_of u) (vec_of v)
      → vec_of w ≡ part_value (assignment s) (part_of p)
  unfolding part_value
  part-wedge a b u v w e h g r = r ∙ (λ i. wedge (h i) (g i)) ∙ rw (L.wedge_is p a b e)

-- ════ a product of factors

module _ (s f : List ℕ) (n : ℕ) (fl : n ≤ length f) where
  -- the product of those from a place on
  abbrev Product : ℕ → ℤ
  Product i = factors_value (assignment s) (map letters_of (drop i (take n f)))

  pub no-factors : pos 1 ≡ Product n
  unfolding factors_value
  no-factors = rw (nothing_left_lem f n n fl (N.le_refl n))

  module _ (i : ℕ) (v x : ℤ) (h : 0 < i) (g : i ≤ n) (e : v ≡ Product i) (q : SFits w64 x) (r : x ≡ factor_value (assignment s) (letters_of (get_or f (i - 1) 0))) where
    one_factor : back x *ℤ v ≡ Product (i - 1)
    unfolding factors_value
    one_factor =
        let b : i - 1 + 1 ≡ i = omega arith in
        let d : drop (i - 1) (take n f) ≡ get_or f (i - 1) 0 ∷ drop i (take n f) = rest_at f n (i - 1) 0 fl (omega arith) ∙ ap (λ (m : ℕ). get_or f (i - 1) 0 ∷ drop m (take n f)) b in
        (λ j. (back_is q ∙ r) j *ℤ e j) ∙ ap (λ (l : List ℕ). factors_value (assignment s) (map letters_of l)) (sym d)

    -- one more
    pub factor_more : (m : ℤ) → SFits w64 m → m ≡ back x *ℤ v → back m ≡ Product (i - 1)
    factor_more m o p = back_is o ∙ p ∙ one_factor

    -- fits
    pub factor-asks : all six_or_less s ≡ true → All OneToThree (map letters_of (take n f)) → vector_letters_of (map letters_of (take n f)) ≤ 6 → scalar_letters_of (map letters_of (take n f)) ≤ 2
        → nat_abs (back x) * nat_abs v < 2 ^ 63
    factor-asks small o vs ss =
        let fs = map letters_of (drop (i - 1) (take n f)) in
        let b : nat_abs (back x) * nat_abs v ≡ nat_abs (Product (i - 1)) = sym (nat_abs_*ℤ (back x) v) ∙ ap nat_abs one_factor in
        omega (
          arith,
          b,
          factors-small (assignment s) (assignment-small s small) fs (all_rest OneToThree letters_of (i - 1) (take n f) o),
          letters-most (vector_letters_of fs) (scalar_letters_of fs) (N.le_trans (vectors-rest (i - 1) (take n f)) vs) (N.le_trans (scalars-rest (i - 1) (take n f)) ss),
        )

-- the factors of a valid term, as the bounds ask for them
pub record Factors (t : Term) : Type 0 where
  pub lengths : All OneToThree (map letters_of (take t.factor_count t.factors))
  pub vectors : vector_letters_of (map letters_of (take t.factor_count t.factors)) ≤ 6
  pub scalars : scalar_letters_of (map letters_of (take t.factor_count t.factors)) ≤ 2

pub factors_of_lem : (t : Term) → TermValid t → Factors t
unfolding term_of
factors_of_lem t v = let o = (term-opens (term_of t) v.in_shape).fits in record { lengths = o.lengths; vectors = omega (arith, o.vectors); scalars = o.scalars }

-- ════ a term

module _ (s : List ℕ) (small : all six_or_less s ≡ true) (t : Term) (v : TermValid t) (x : ℤ) (f : SFits w64 t.coef) (g : SFits w64 x) (e : x ≡ factors_value (assignment s) (term_of t).factors) where
  scalar_is : back t.coef *ℤ back x ≡ t.coef *ℤ factors_value (assignment s) (term_of t).factors
  scalar_is = λ i. back_is f i *ℤ (back_is g ∙ e) i

  -- the coefficient times the factors fits
  pub scalar-asks : nat_abs (back t.coef) * nat_abs (back x) < 2 ^ 63
  unfolding term_of
  scalar-asks =
      let o = factors_of_lem t v in
      let b : nat_abs (back t.coef) * nat_abs (back x) ≡ nat_abs (t.coef *ℤ factors_value (assignment s) (term_of t).factors) = sym (nat_abs_*ℤ (back t.coef) (back x)) ∙ ap nat_abs scalar_is in
      omega (arith, b, scalar-small (assignment s) (assignment-small s small) (term_of t) v.in_shape, letters-most _ _ o.vectors o.scalars)

  module _ (m : ℤ) (p : Vector) (h : SFits w64 m) (q : m ≡ back t.coef *ℤ back x) (r : vec_of p ≡ part_value (assignment s) (part_of t.part)) where
    term_is : back m • vec_of p ≡ term_value (assignment s) (term_of t)
    unfolding term_value term_of
    term_is = λ i. (back_is h ∙ q ∙ scalar_is) i • r i

    -- times the vector part too
    pub term_asks : Within (2 ^ 57) (back m • vec_of p)
    term_asks = rw term_is (term-small (assignment s) (assignment-small s small) (term_of t) v.in_shape)

    pub term-gives : (w : Vector) → vec_of w ≡ back m • vec_of p → vec_of w ≡ term_value (assignment s) (term_of t)
    term-gives w d = d ∙ term_is

-- ════ a sum of terms

module _ (s : List ℕ) (ts : List Term) (n : ℕ) (fl : n ≤ length ts) where
  -- the sum of those from a place on
  abbrev Sum : ℕ → Vec
  Sum i = terms_value (assignment s) (map term_of (drop i (take n ts)))

  pub no-terms : vec_of (record { x = pos 0; y = pos 0; z = pos 0 }) ≡ Sum n
  unfolding vec_of terms_value
  no-terms = rw (nothing_left_lem ts n n fl (N.le_refl n))

  -- one more
  pub term_more : (i : ℕ) (d : Term) (v x r : Vector) → 0 < i → i ≤ n → vec_of v ≡ Sum i → vec_of x ≡ term_value (assignment s) (term_of (get_or ts (i - 1) d)) → vec_of r ≡ vec_of x +v vec_of v
      → vec_of r ≡ Sum (i - 1)
  unfolding terms_value
  term_more i d v x r h g e q p =
      let b : i - 1 + 1 ≡ i = omega arith in
      let o : drop (i - 1) (take n ts) ≡ get_or ts (i - 1) d ∷ drop i (take n ts) = rest_at ts n (i - 1) d fl (omega arith) ∙ ap (λ (m : ℕ). get_or ts (i - 1) d ∷ drop m (take n ts)) b in
      p ∙ (λ j. q j +v e j) ∙ ap (λ (l : List Term). terms_value (assignment s) (map term_of l)) (sym o)

  -- the terms so far are small enough for one more
  pub sum_small : (i : ℕ) (v : Vector) → all six_or_less s ≡ true → All (λ t. T (term_in_shape t)) (map term_of (take n ts)) → n ≤ 48 → 0 < i → vec_of v ≡ Sum i → Within (47 * 2 ^ 57) (vec_of v)
  sum_small i v small h m g e =
      let us = map term_of (drop i (take n ts)) in
      let l : length us ≤ 47 = rw (length-map (drop i (take n ts)) term_of, length-drop i (take n ts), length-take-le n ts fl) (omega arith) in
      rw e (within_more (length us * 2 ^ 57) (47 * 2 ^ 57) _ (omega arith) (terms-small (assignment s) (assignment-small s small) us (all_rest (λ t. T (term_in_shape t)) term_of i (take n ts) h)))

-- a valid term is small
pub summand-small : (s : List ℕ) (t : Term) (v : Vector) → all six_or_less s ≡ true → TermValid t → vec_of v ≡ term_value (assignment s) (term_of t) → Within (2 ^ 57) (vec_of v)
summand-small s t v small h e = rw e (term-small (assignment s) (assignment-small s small) (term_of t) h.in_shape)

-- the terms of a valid form are in shape
pub terms_of_lem : (f : Form) → FormValid f → All (λ t. T (term_in_shape t)) (map term_of (take f.count f.terms))
unfolding form_of
terms_of_lem f v = all_T term_in_shape (map term_of (take f.count f.terms)) v.in_shape.terms

-- all of them are the form
pub all_terms : (s : List ℕ) (f : Form) (i : ℕ) (v : Vector) → i ≤ 0 → vec_of v ≡ terms_value (assignment s) (map term_of (drop i (take f.count f.terms)))
    → vec_of v ≡ value (assignment s) (form_of f)
unfolding value form_of
all_terms s f zero v h e = e
all_terms s f (suc i) v h e = absurd (omega arith)

-- and all factors the term
pub all_factors : (s : List ℕ) (t : Term) (i : ℕ) (v : ℤ) → i ≤ 0 → v ≡ factors_value (assignment s) (map letters_of (drop i (take t.factor_count t.factors)))
    → v ≡ factors_value (assignment s) (term_of t).factors
unfolding term_of
all_factors s t zero v h e = e
all_factors s t (suc i) v h e = absurd (omega arith)
