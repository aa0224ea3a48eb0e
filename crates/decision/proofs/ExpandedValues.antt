-- The polynomials of factors and of vector parts have their values; so has the difference of two forms. Assumes nothing.
use mathlib.Core.Path.{◌≡◌, refl, sym, ◌∙◌, ap, ap₂, subst}
use mathlib.Core.Logic.{inl}
use mathlib.Core.List.{List, [], ◌∷◌}
use Prim.Native.Nat.{ℕ, zero, suc, ◌+◌, ◌*◌, ◌/◌, ◌%◌, ◌≤◌, ◌<◌}
use native.Mathlib.Nat as N
use native.Mathlib.Numerals.{add-one}
use native.Mathlib.Omega.{arith}
use lib.Dec.{eqb}
use lib.IntN.{ℤ, pos, negsuc, ◌+ℤ◌, ◌-ℤ◌, ◌*ℤ◌}
use lib.IntN as I
use lib.ListN.{length}
use Rattle.algebra.specs.Integers as R
use Rattle.algebra.proofs.Normaliser.{Ex, var, lit, ◌⊕◌, ◌⊖◌, ◌⊗◌, solve, normalising}
use Rattle.specification.specs.Results.{when◌then◌else◌}
use Rattle.specification.specs.Lists.{joined}
use Rattle.specification.specs.Values.{Vec, scalar_value, dot, triple, ◌•◌, ◌+v◌}
use Rattle.specification.specs.Terms as S
use Rattle.specification.specs.Terms.{vector_letters_of, scalar_letters_of}
use Rattle.specification.specs.Evaluation.{factor_value, factors_value, part_value, term_value, terms_value, value}
use Rattle.theory.specs.Elements.{All, all_append}
use Rattle.theory.specs.Order.{monomial}
use Rattle.theory.specs.Shape.Terms.{OneToThree, Fits}
use Rattle.theory.specs.Shape.Letters.{FactorKnown, MonomialKnown}
use Rattle.polynomials.specs.Keys.{digit_value, key_value, Ordered, tally}
use Rattle.polynomials.specs.Summands.{Summand, weigh, total}
use Rattle.polynomials.specs.Memory.{summand}
use Rattle.polynomials.specs.Expansion.{digit_of, piece_sign, cross_piece, piece_at, count_of, pieces, block_of, part_block, times_block, times_factors, expand_term}
use Rattle.elimination.specs.Differences.{expand_terms, difference}
use Rattle.elimination.specs.Elimination.{vector_digit, scalar_digit, strange_digit, Has}
use Rattle.decision.specs.Values.{component, variables}
use Rattle.polynomials.proofs.Keys.{value_zero}
use Rattle.polynomials.proofs.Summands.{weigh-append}
use Rattle.decision.proofs.Contents.{AllHas, pieces_value, pieces_all, factor_has_lem, part_has}

-- the components of three vectors as variables
nine : Vec → Vec → Vec → ℕ → ℤ
nine a b c zero = a.x
nine a b c (suc zero) = a.y
nine a b c (suc (suc zero)) = a.z
nine a b c (suc (suc (suc zero))) = b.x
nine a b c (suc (suc (suc (suc zero)))) = b.y
nine a b c (suc (suc (suc (suc (suc zero))))) = b.z
nine a b c (suc (suc (suc (suc (suc (suc zero)))))) = c.x
nine a b c (suc (suc (suc (suc (suc (suc (suc zero))))))) = c.y
nine a b c (suc (suc (suc (suc (suc (suc (suc (suc n)))))))) = c.z

-- a product with its sign
abbrev product : ℤ → Ex → Ex → Ex → Ex
product s c b a = lit s ⊗ (c ⊗ (b ⊗ a))

abbrev one : Ex
one = lit (pos 1)

abbrev none : Ex
none = lit (pos 0)

-- the products of a dot, as they are multiplied out
dot-sum : (a b : Vec) → pos 1 *ℤ (pos 1 *ℤ (b.x *ℤ a.x)) +ℤ (pos 1 *ℤ (pos 1 *ℤ (b.y *ℤ a.y)) +ℤ (pos 1 *ℤ (pos 1 *ℤ (b.z *ℤ a.z)) +ℤ pos 0)) ≡ dot a b
unfolding normalising nine
dot-sum a b =
    solve (product (pos 1) one (var 3) (var 0) ⊕ (product (pos 1) one (var 4) (var 1) ⊕ (product (pos 1) one (var 5) (var 2) ⊕ none)))
    (var 0 ⊗ var 3 ⊕ var 1 ⊗ var 4 ⊕ var 2 ⊗ var 5) (nine a b a) refl

-- minus one
abbrev minus : ℤ
minus = negsuc 0

-- of a triple
triple-sum : (a b c : Vec) → pos 1 *ℤ (c.x *ℤ (b.z *ℤ a.y)) +ℤ (minus *ℤ (c.x *ℤ (b.y *ℤ a.z)) +ℤ (pos 1 *ℤ (c.y *ℤ (b.x *ℤ a.z)) +ℤ (minus *ℤ (c.y *ℤ (b.z *ℤ a.x))
    +ℤ (pos 1 *ℤ (c.z *ℤ (b.y *ℤ a.x)) +ℤ (minus *ℤ (c.z *ℤ (b.x *ℤ a.y)) +ℤ pos 0))))) ≡ triple a b c
unfolding normalising nine
triple-sum a b c =
    solve (product (pos 1) (var 6) (var 5) (var 1) ⊕ (product minus (var 6) (var 4) (var 2) ⊕ (product (pos 1) (var 7) (var 3) (var 2) ⊕ (product minus (var 7) (var 5) (var 0)
    ⊕ (product (pos 1) (var 8) (var 4) (var 0) ⊕ (product minus (var 8) (var 3) (var 1) ⊕ none))))))
    ((var 1 ⊗ var 5 ⊖ var 2 ⊗ var 4) ⊗ var 6 ⊕ (var 2 ⊗ var 3 ⊖ var 0 ⊗ var 5) ⊗ var 7 ⊕ (var 0 ⊗ var 4 ⊖ var 1 ⊗ var 3) ⊗ var 8) (nine a b c) refl

-- of a component of a wedge
cross-sum : (p q r s : ℤ) → pos 1 *ℤ (pos 1 *ℤ (q *ℤ p)) +ℤ (minus *ℤ (pos 1 *ℤ (s *ℤ r)) +ℤ pos 0) ≡ p *ℤ q -ℤ r *ℤ s
unfolding normalising nine
cross-sum p q r s =
    solve (product (pos 1) one (var 1) (var 0) ⊕ (product minus one (var 3) (var 2) ⊕ none)) (var 0 ⊗ var 1 ⊖ var 2 ⊗ var 3)
    (nine (record { x = p; y = q; z = r }) (record { x = s; y = s; z = s }) (record { x = s; y = s; z = s })) refl

-- of a letter
single-sum : (p : ℤ) → pos 1 *ℤ (pos 1 *ℤ (pos 1 *ℤ p)) +ℤ pos 0 ≡ p
single-sum p = simp (I.+ℤ_idr, R.one_*ℤ)

turn : (p f c g : ℤ) → p *ℤ (f *ℤ (c *ℤ g)) ≡ g *ℤ (c *ℤ f *ℤ p)
unfolding normalising nine
turn p f c g =
    solve (var 0 ⊗ (var 1 ⊗ (var 2 ⊗ var 3))) (var 3 ⊗ (var 2 ⊗ var 1 ⊗ var 0))
    (nine (record { x = p; y = f; z = c }) (record { x = g; y = g; z = g }) (record { x = g; y = g; z = g })) refl

-- ════ a component of a vector

-- the components of 0
pub component_zero : (i : ℕ) → component i (scalar_value (pos 0)) ≡ pos 0
unfolding component
component_zero zero = refl
component_zero (suc zero) = refl
component_zero (suc (suc i)) = refl

-- of a multiple of a vector
component-times : (i : ℕ) (k : ℤ) (v : Vec) → component i (k • v) ≡ k *ℤ component i v
unfolding component
component-times zero k v = refl
component-times (suc zero) k v = refl
component-times (suc (suc i)) k v = refl

-- of a sum of two
pub component-plus : (i : ℕ) (u v : Vec) → component i (u +v v) ≡ component i u +ℤ component i v
unfolding component
component-plus zero u v = refl
component-plus (suc zero) u v = refl
component-plus (suc (suc i)) u v = refl

-- ════ keys

-- the key 0 has no variables
tally_none : (f : ℕ → ℕ) (n : ℕ) → f 0 ≡ 0 → tally f n 0 ≡ 0
unfolding tally
tally_none f zero z = refl
tally_none f (suc n) z = omega (arith, z, tally_none f n z)

ordered_none : (n : ℕ) → Ordered 1 n 0
ordered_none zero = refl
ordered_none (suc n) = inl (refl, ordered_none n)

has-nothing : (table : List ℕ) → Has table 0 0 0
unfolding vector_digit scalar_digit strange_digit
has-nothing table =
    record {
      ordered = ordered_none 8;
      vectors = N.le_of_eq (tally_none (vector_digit table) 8 refl);
      scalars = N.le_of_eq (tally_none (scalar_digit table) 8 refl);
      known = tally_none (strange_digit table) 8 refl;
    }

module _ (table : List ℕ) (τ : ℕ → Vec) where
  abbrev σ : ℕ → ℤ
  σ = variables τ

  -- the digit of a component has its value
  digit_value_lem : (l i : ℕ) → i < 3 → digit_value σ (digit_of l i) ≡ component i (τ l)
  unfolding digit_value variables
  digit_value_lem l i h =
      let e : (3 * l + i) % 3 ≡ i = omega arith in
      let q : (3 * l + i) / 3 ≡ l = omega arith in
      ap (digit_value σ) (add-one (3 * l + i)) ∙ rw (e, q)

  zero_value : digit_value σ 0 ≡ pos 1
  unfolding digit_value
  zero_value = refl

  factor_value_lem : (f : List ℕ) → OneToThree f → pieces_value table σ (pieces (block_of f)) ≡ factor_value τ f
  unfolding pieces block_of count_of piece_at cross_piece piece_sign factor_value component
  factor_value_lem [] o = absurd (omega (arith, o.0))
  factor_value_lem (a ∷ []) o = rw (zero_value, digit_value_lem a 0 (omega arith)) (single-sum (τ a).x)
  factor_value_lem (a ∷ b ∷ []) o =
      rw (
        zero_value,
        digit_value_lem a 0 (omega arith),
        digit_value_lem a 1 (omega arith),
        digit_value_lem a 2 (omega arith),
        digit_value_lem b 0 (omega arith),
        digit_value_lem b 1 (omega arith),
        digit_value_lem b 2 (omega arith),
      )
      (dot-sum (τ a) (τ b))
  factor_value_lem (a ∷ b ∷ c ∷ []) o =
      rw (
        digit_value_lem a 0 (omega arith),
        digit_value_lem a 1 (omega arith),
        digit_value_lem a 2 (omega arith),
        digit_value_lem b 0 (omega arith),
        digit_value_lem b 1 (omega arith),
        digit_value_lem b 2 (omega arith),
        digit_value_lem c 0 (omega arith),
        digit_value_lem c 1 (omega arith),
        digit_value_lem c 2 (omega arith),
      )
      (triple-sum (τ a) (τ b) (τ c))
  factor_value_lem (a ∷ b ∷ c ∷ d ∷ f) o = absurd (omega (arith, o.1))

  part_value_lem : (i : ℕ) (p : List ℕ) → i < 3 → length p ≤ 2 → pieces_value table σ (pieces (part_block i p)) ≡ component i (part_value τ p)
  unfolding pieces part_block count_of piece_at cross_piece piece_sign part_value component
  part_value_lem i (a ∷ b ∷ c ∷ p) h o = absurd (omega arith)
  part_value_lem zero [] h o = rw zero_value
  part_value_lem (suc zero) [] h o = refl
  part_value_lem (suc (suc zero)) [] h o = refl
  part_value_lem (suc (suc (suc i))) [] h o = absurd (omega arith)
  part_value_lem zero (a ∷ []) h o = rw (zero_value, digit_value_lem a 0 h) (single-sum (τ a).x)
  part_value_lem (suc zero) (a ∷ []) h o = rw (zero_value, digit_value_lem a 1 h) (single-sum (τ a).y)
  part_value_lem (suc (suc zero)) (a ∷ []) h o = rw (zero_value, digit_value_lem a 2 h) (single-sum (τ a).z)
  part_value_lem (suc (suc (suc i))) (a ∷ []) h o = absurd (omega arith)
  part_value_lem zero (a ∷ b ∷ []) h o =
      rw (zero_value, digit_value_lem a 1 (omega arith), digit_value_lem a 2 (omega arith), digit_value_lem b 1 (omega arith), digit_value_lem b 2 (omega arith)) (cross-sum (τ a).y (τ b).z (τ a).z (τ b).y)
  part_value_lem (suc zero) (a ∷ b ∷ []) h o =
      rw (zero_value, digit_value_lem a 0 (omega arith), digit_value_lem a 2 (omega arith), digit_value_lem b 0 (omega arith), digit_value_lem b 2 (omega arith)) (cross-sum (τ a).z (τ b).x (τ a).x (τ b).z)
  part_value_lem (suc (suc zero)) (a ∷ b ∷ []) h o =
      rw (zero_value, digit_value_lem a 0 (omega arith), digit_value_lem a 1 (omega arith), digit_value_lem b 0 (omega arith), digit_value_lem b 1 (omega arith)) (cross-sum (τ a).x (τ b).y (τ a).y (τ b).x)
  part_value_lem (suc (suc (suc i))) (a ∷ b ∷ []) h o = absurd (omega arith)

  -- ════ terms

  module _ (short : length table ≤ 24) where
    factors_all : (fs : List (List ℕ)) → All OneToThree fs → All (FactorKnown table) fs → (v s : ℕ) (ms : List Summand) → AllHas table v s ms → v + vector_letters_of fs + (s + scalar_letters_of fs) ≤ 8
        → (total σ (times_factors fs ms) ≡ factors_value τ fs *ℤ total σ ms) × AllHas table (v + vector_letters_of fs) (s + scalar_letters_of fs) (times_factors fs ms)
    unfolding times_factors factors_value vector_letters_of scalar_letters_of times_block
    factors_all [] o k v s ms a l =
        let e : v + 0 ≡ v = omega arith in
        let g : s + 0 ≡ s = omega arith in
        (sym (R.one_*ℤ (total σ ms)), rw (e, g) a)
    factors_all (f ∷ fs) o k v s ms a l =
        let dv : ℕ = when eqb (length f) 1 then 0 else length f in
        let ds : ℕ = when eqb (length f) 1 then 1 else 0 in
        let u = pieces_all table σ v s dv ds (omega arith) (pieces (block_of f)) (factor_has_lem table short f o.0 k.0) ms a in
        let w = factors_all fs o.1 k.1 (v + dv) (s + ds) (times_block (block_of f) ms) u.1 (omega arith) in
        let e : v + dv + vector_letters_of fs ≡ v + (dv + vector_letters_of fs) = omega arith in
        let g : s + ds + scalar_letters_of fs ≡ s + (ds + scalar_letters_of fs) = omega arith in (
          w.0 ∙ ap (λ (z : ℤ). factors_value τ fs *ℤ z) (u.0 ∙ ap (λ (z : ℤ). z *ℤ total σ ms) (factor_value_lem f o.0))
              ∙ R.*ℤ_left_comm (factors_value τ fs) (factor_value τ f) (total σ ms) ∙ sym (R.*ℤ_assoc (factor_value τ f) (factors_value τ fs) (total σ ms)),
          subst (λ (i : ℕ). AllHas table i (s + (ds + scalar_letters_of fs)) (times_factors fs (times_block (block_of f) ms))) e
              (subst (λ (j : ℕ). AllHas table (v + dv + vector_letters_of fs) j (times_factors fs (times_block (block_of f) ms))) g w.1),
        )

    has_zero : Has table 0 0 0
    has_zero = has-nothing table

    has_more : (v s v' s' : ℕ) → v ≤ v' → s ≤ s' → (ms : List Summand) → AllHas table v s ms → AllHas table v' s' ms
    has_more v s v' s' h g [] a = tt
    has_more v s v' s' h g (m ∷ ms) a =
        (record { ordered = a.0.ordered; vectors = N.le_trans a.0.vectors h; scalars = N.le_trans a.0.scalars g; known = a.0.known }, has_more v s v' s' h g ms a.1)

    -- a component of a term has its value, with keys of forms
    term_all : (i : ℕ) (sign : ℤ) (t : S.Term) → i < 3 → {kind : ℕ} → Fits kind (monomial t) → MonomialKnown table (monomial t)
        → (total σ (expand_term i sign t) ≡ sign *ℤ component i (term_value τ t)) × AllHas table 6 2 (expand_term i sign t)
    unfolding expand_term term_value times_block weigh
    term_all i sign t h f k =
        let m = summand 0 (t.coef *ℤ sign) in
        let u = factors_all t.factors f.lengths k.factors 0 0 (m ∷ []) (has_zero, tt) (omega (arith, f.vectors, f.scalars)) in
        let l = times_factors t.factors (m ∷ []) in
        let w =
        pieces_all table σ (0 + vector_letters_of t.factors) (0 + scalar_letters_of t.factors) (length t.part) 0 (omega (arith, f.vectors, f.scalars))
        (pieces (part_block i t.part)) (part_has table short i t.part h f.part k.part) l u.1 in
        let start : total σ (m ∷ []) ≡ t.coef *ℤ sign = I.+ℤ_idr (t.coef *ℤ sign *ℤ key_value σ 8 0) ∙ ap (λ (z : ℤ). t.coef *ℤ sign *ℤ z) (value_zero σ 8) ∙ R.*ℤ-1 (t.coef *ℤ sign) in (
          w.0 ∙ ap₂ (λ (x y : ℤ). x *ℤ y) (part_value_lem i t.part h f.part) (u.0 ∙ ap (λ (z : ℤ). factors_value τ t.factors *ℤ z) start)
              ∙ turned (component i (part_value τ t.part)) (factors_value τ t.factors) t.coef sign
              ∙ ap (λ (z : ℤ). sign *ℤ z) (sym (component-times i (t.coef *ℤ factors_value τ t.factors) (part_value τ t.part))),
          has_more (0 + vector_letters_of t.factors + length t.part) (0 + scalar_letters_of t.factors + 0) 6 2
              (omega (arith, f.vectors)) (omega (arith, f.scalars)) (times_block (part_block i t.part) l) w.1,
        )
      where
        turned : (p f c g : ℤ) → p *ℤ (f *ℤ (c *ℤ g)) ≡ g *ℤ (c *ℤ f *ℤ p)
        turned p f c g = turn p f c g

    -- the terms of a form, with letters of the table
    abbrev pub Sound : S.Term → Type 0
    Sound t = ((kind : ℕ) × Fits kind (monomial t)) × MonomialKnown table (monomial t)

    -- and so have terms
    pub terms_all : (i : ℕ) (sign : ℤ) (ts : List S.Term) → i < 3 → All Sound ts
        → (total σ (expand_terms i sign ts) ≡ sign *ℤ component i (terms_value τ ts)) × AllHas table 6 2 (expand_terms i sign ts)
    unfolding expand_terms joined terms_value weigh
    terms_all i sign [] h a = (sym (ap (λ (z : ℤ). sign *ℤ z) (component_zero i) ∙ I.*ℤ-zero sign), tt)
    terms_all i sign (t ∷ ts) h a =
        let u = term_all i sign t h a.0.0.1 a.0.1 in
        let w = terms_all i sign ts h a.1 in (
          weigh-append (key_value σ 8) (expand_term i sign t) (expand_terms i sign ts) ∙ ap₂ (λ (x y : ℤ). x +ℤ y) u.0 w.0
              ∙ sym (ap (λ (z : ℤ). sign *ℤ z) (component-plus i (term_value τ t) (terms_value τ ts)) ∙ R.*ℤ-+ℤ sign (component i (term_value τ t)) (component i (terms_value τ ts))),
          all_append (λ (m : Summand). Has table 6 2 m.key) (expand_term i sign t) (expand_terms i sign ts) u.1 w.1,
        )

    -- the difference of two forms has the difference of their values
    pub difference_value : (i : ℕ) (f g : S.Form) → i < 3 → All Sound f.terms → All Sound g.terms
        → (total σ (difference i f g) ≡ component i (value τ f) -ℤ component i (value τ g)) × AllHas table 6 2 (difference i f g)
    unfolding difference value
    difference_value i f g h a b =
        let u = terms_all i (pos 1) f.terms h a in
        let w = terms_all i (negsuc 0) g.terms h b in (
          weigh-append (key_value σ 8) (expand_terms i (pos 1) f.terms) (expand_terms i (negsuc 0) g.terms)
              ∙ ap₂ (λ (x y : ℤ). x +ℤ y) (u.0 ∙ R.one_*ℤ (component i (terms_value τ f.terms))) (w.0 ∙ R.neg_one_*ℤ (component i (terms_value τ g.terms))),
          all_append (λ (m : Summand). Has table 6 2 m.key) (expand_terms i (pos 1) f.terms) (expand_terms i (negsuc 0) g.terms) u.1 w.1,
        )
