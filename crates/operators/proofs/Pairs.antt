-- The terms of one pair that stay: the scalar parts joined, times what the vector parts make. Assumes nothing.
use mathlib.Core.Path.{◌≡◌, refl, ap, sym, subst, ◌∙◌}
use mathlib.Core.Logic.{◌⊎◌, inl}
use mathlib.Core.Bool.{true, false}
use mathlib.Core.List.{[], ◌∷◌, map}
use Prim.Native.Nat.{ℕ, zero, suc, ◌+◌, ◌*◌, ◌≤◌, ◌<◌, ◌^◌}
use native.Mathlib.Nat as N
use native.Mathlib.Omega.{arith}
use lib.Dec.{T, leb, leb→le}
use lib.IntN.{ℤ, nat_abs, ◌*ℤ◌}
use lib.ListN.{length, take}
use lib.Seq.{length-take-le}
use Rattle.algebra.specs.Integers.{nat_abs_*ℤ}
use Rattle.specification.specs.Terms.{staying, times_term, coef_within, vector_letters, scalar_letters, term_in_shape}
use Rattle.specification.specs.Terms as S
use Rattle.specification.specs.Reduction.{joined_scalars, pair_staying}
use Rattle.theory.specs.Tests.{and_split}
use Rattle.theory.specs.Shape.Terms.{in_limit}
use Rattle.theory.specs.Reduction.Pairs.{pair_letters_fit, pair_coef_fits}
use Rattle.terms.specs.declared.types.Term.{Term}
use Rattle.terms.specs.Abstraction.{part_of, term_of, Counted}
use Rattle.tidying.specs.Sorted.{Joined}
use Rattle.terms.proofs.InShape.{factors_count}
use Rattle.pairing.specs.declared.parts.Operation.{Operation}
use Rattle.pairing.specs.declared.parts.Few.{Few}
use Rattle.pairing.specs.Parts.{parts_of, is_some, Small, list_of, FewMade}
use Rattle.pair_limits.specs.Limits.{Paired}
use Rattle.pair_limits.proofs.Fitting.{paired-staying, paired-letters, paired-coefs, none_stays, some_stays}
use Rattle.gathering.specs.Bringing.{Bringable}
use Rattle.operators.specs.Products.{Scalars, Pair, PairMade}

-- ════ which terms of a pair stay

-- by what the vector parts make
module _ (op : Operation) (t u : Term) (p : Paired op (term_of t) (term_of u)) (few : Few) (m : FewMade (staying (parts_of op (part_of t.part) (part_of u.part))) few) where
  -- they are these times the joined scalar parts
  made-staying : pair_staying (parts_of op) (term_of t, term_of u) ≡ map (times_term (joined_scalars (term_of t) (term_of u))) (list_of few)
  unfolding term_of
  made-staying = paired-staying op (term_of t) (term_of u) p ∙ ap (map (times_term (joined_scalars (term_of t) (term_of u)))) (sym m.is)

  -- none, or at least one, by the count
  count_none : few.count ≡ 0 → is_some (staying (parts_of op (part_of t.part) (part_of u.part))) ≡ false
  unfolding list_of is_some
  count_none e = ap is_some (sym m.is) ∙ ap (λ (n : ℕ). is_some (map term_of (take n (few.first ∷ few.second ∷ [])))) e

  count_some : (few.count ≡ 0 → ⊥) → is_some (staying (parts_of op (part_of t.part) (part_of u.part))) ≡ true
  unfolding list_of is_some
  count_some n = ap is_some (sym m.is) ∙ go few.count n
    where
      go : (k : ℕ) → (k ≡ 0 → ⊥) → is_some (map term_of (take k (few.first ∷ few.second ∷ []))) ≡ true
      go zero h = absurd (h refl)
      go (suc k) h = refl

-- ════ a pair of which a term stays

-- it passed the tests
module _ (op : Operation) (t u : Term) (p : Pair op t u) (few : Few) (m : FewMade (staying (parts_of op (part_of t.part) (part_of u.part))) few) (n : few.count ≡ 0 → ⊥) where
  one_stays : pair_staying (parts_of op) (term_of t, term_of u) ≡ [] → ⊥
  unfolding term_of
  one_stays = some_stays op (term_of t) (term_of u) p.fits.paired _ refl (count_some op t u p.fits.paired few m n)

  pub letters-passed : T (pair_letters_fit (term_of t, term_of u))
  letters-passed = subst T (paired-letters op (term_of t) (term_of u) p.fits.paired one_stays) p.fits.letters

  pub coef-passed : T (pair_coef_fits (term_of t, term_of u))
  coef-passed = subst T (paired-coefs op (term_of t) (term_of u) p.fits.paired one_stays) p.fits.coef

-- ════ few factors

-- the factors of a pair whose letters fit are at most five
pub pair-few : (t u : Term) → t.factor_count ≤ length t.factors → u.factor_count ≤ length u.factors → T (pair_letters_fit (term_of t, term_of u))
    → t.factor_count + u.factor_count ≤ 5
unfolding pair_letters_fit vector_letters scalar_letters term_of
pair-few t u h k l =
    let w = and_split (leb (vector_letters (term_of t) + vector_letters (term_of u)) 6) (leb (scalar_letters (term_of t) + scalar_letters (term_of u)) 2) l in
    omega (
      arith,
      leb→le (vector_letters (term_of t) + vector_letters (term_of u)) 6 w.0,
      leb→le (scalar_letters (term_of t) + scalar_letters (term_of u)) 2 w.1,
      factors_count (take t.factor_count t.factors),
      factors_count (take u.factor_count u.factors),
      length-take-le t.factor_count t.factors h,
      length-take-le u.factor_count u.factors k,
    )

-- ════ the scalar parts joined

pair_size : (t u : Term) → T (pair_coef_fits (term_of t, term_of u)) → nat_abs t.coef * nat_abs u.coef ≤ 2147483647
unfolding pair_coef_fits coef_within term_of
pair_size t u h = subst (λ (n : ℕ). n ≤ 2147483647) (nat_abs_*ℤ t.coef u.coef) (leb→le (nat_abs (t.coef *ℤ u.coef)) 2147483647 h)

scalars-coef : (t r : Term) → Scalars t r → r.coef ≡ t.coef
unfolding term_of
scalars-coef t r h = ap (λ (x : S.Term). x.coef) h.is

scalars-part : (t r : Term) → Scalars t r → part_of r.part ≡ []
unfolding term_of
scalars-part t r h = ap (λ (x : S.Term). x.part) h.is

-- the joined scalar parts of a pair
pub record Base (t u b : Term) : Type 0 where
  pub is : term_of b ≡ joined_scalars (term_of t) (term_of u)
  pub counted : Counted b
  pub few : b.factor_count ≤ 5
  pub size : nat_abs b.coef ≤ 2147483647
  pub part : part_of b.part ≡ []

module _ (t u v w : Term) (p : T (pair_coef_fits (term_of t, term_of u))) (h : Scalars t v) (k : Scalars u w) (n : t.factor_count + u.factor_count ≤ 5) where
  -- they can be joined
  pub joins-counts : Counted v × Counted w × (v.factor_count + w.factor_count ≤ 7)
  joins-counts = (h.counted, k.counted, omega (arith, h.count, k.count))

  pub joins-fits : nat_abs v.coef * nat_abs w.coef < 2 ^ 63
  joins-fits =
      let e : nat_abs v.coef * nat_abs w.coef ≡ nat_abs t.coef * nat_abs u.coef = (λ i. nat_abs (scalars-coef t v h i) * nat_abs (scalars-coef u w k i))
      in
      omega (arith, e, pair_size t u p)

  pub joins_part : (part_of v.part ≡ []) ⊎ (part_of w.part ≡ [])
  joins_part = inl (scalars-part t v h)

  -- what joining gives
  pub base : (b : Term) → Joined v w b → Base t u b
  unfolding joined_scalars times_term term_of
  base b j =
      let is : term_of b ≡ joined_scalars (term_of t) (term_of u) = j.is ∙ (λ i. times_term (h.is i) (k.is i)) in
      record {
        is = is;
        counted = j.counted;
        few = omega (arith, j.count, h.count, k.count);
        size = subst (λ (z : ℤ). nat_abs z ≤ 2147483647) (sym (ap (λ (x : S.Term). x.coef) is))
            (subst (λ (m : ℕ). m ≤ 2147483647) (sym (nat_abs_*ℤ t.coef u.coef)) (pair_size t u p));
        part = ap (λ (x : S.Term). x.part) is;
      }

-- ════ times a term that the vector parts make

module _ (t u b x : Term) (h : Base t u b) (s : Small x) where
  pub piece-counts : Counted b × Counted x × (b.factor_count + x.factor_count ≤ 7)
  piece-counts = (h.counted, s.counted, omega (arith, h.few, s.few))

  light : nat_abs b.coef * nat_abs x.coef ≤ 2147483647
  light =
      let e : nat_abs b.coef * nat_abs x.coef ≤ nat_abs b.coef * 1 = N.mul-le-mul_left (nat_abs b.coef) s.unit in
      omega (arith, e, h.size)

  pub piece-fits : nat_abs b.coef * nat_abs x.coef < 2 ^ 63
  piece-fits = omega (arith, light)

  pub piece-part : (part_of b.part ≡ []) ⊎ (part_of x.part ≡ [])
  piece-part = inl h.part

  module _ (y : Term) (j : Joined b x y) where
    pub piece_is : term_of y ≡ times_term (joined_scalars (term_of t) (term_of u)) (term_of x)
    piece_is = j.is ∙ ap (λ (z : S.Term). times_term z (term_of x)) h.is

    pub piece_size : nat_abs y.coef ≤ 2147483647
    unfolding times_term term_of
    piece_size =
        subst (λ (z : ℤ). nat_abs z ≤ 2147483647) (sym (ap (λ (z : S.Term). z.coef) j.is))
        (subst (λ (n : ℕ). n ≤ 2147483647) (sym (nat_abs_*ℤ b.coef x.coef)) light)

-- ════ the terms of a pair

shape-bringable : (x : Term) → Counted x → T (term_in_shape (term_of x)) → Bringable x
unfolding term_of
shape-bringable x h s = record { counted = h; light = in_limit (term_of x) s }

module _ (op : Operation) (t u : Term) (p : Paired op (term_of t) (term_of u)) (few : Few)
    (m : FewMade (staying (parts_of op (part_of t.part) (part_of u.part))) few) where
  -- none stays
  pub made_none : few.count ≡ 0 → Counted t → PairMade op t u (record { count = 0; first = t; second = t })
  unfolding list_of term_of
  made_none e h =
      let bringable = shape-bringable t h p.left_shape in
      record { is = sym (none_stays op (term_of t) (term_of u) p _ refl (count_none op t u p few m e)); few = omega arith; first = bringable; second = bringable }

  module _ (x : Term) (ex : term_of x ≡ times_term (joined_scalars (term_of t) (term_of u)) (term_of few.first)) where
    -- at most one term
    pub made-few : (y : Term) → few.count < 2 → list_of (record { count = few.count; first = x; second = y }) ≡ pair_staying (parts_of op) (term_of t, term_of u)
    unfolding list_of
    made-few y h = go few.count refl h ∙ sym (made-staying op t u p few m)
      where
        go : (n : ℕ) → few.count ≡ n → n < 2 → map term_of (take few.count (x ∷ y ∷ [])) ≡ map (times_term (joined_scalars (term_of t) (term_of u)))
            (map term_of (take few.count (few.first ∷ few.second ∷ [])))
        go zero e g = rw e
        go (suc zero) e g = rw (e, ex)
        go (suc (suc n)) e g = absurd (omega arith)

    -- two terms
    pub made_two : (y : Term) → term_of y ≡ times_term (joined_scalars (term_of t) (term_of u)) (term_of few.second) → 2 ≤ few.count
        → list_of (record { count = few.count; first = x; second = y }) ≡ pair_staying (parts_of op) (term_of t, term_of u)
    unfolding list_of
    made_two y ey h = let e : few.count ≡ 2 = omega (arith, m.few) in rw (e, ex, ey)
        (sym (made-staying op t u p few m ∙ ap (λ (n : ℕ). map (times_term (joined_scalars (term_of t) (term_of u))) (map term_of (take n (few.first ∷ few.second ∷ [])))) e))
