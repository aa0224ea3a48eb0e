-- The coefficient of a monomial in a list of terms, and what it is where the terms ascend strictly; a shorter list lacks a monomial. Assumes nothing.
use Rattle.std.specs.Prelude.{◌≡◌, refl, cond, List, [], ◌∷◌, map, length, get_or, ℤ, pos, ◌+ℤ◌, ◌*ℤ◌}
use Rattle.std.proofs.Common.{sym, ◌∙◌, ap, subst, arith}
use Prim.Native.Nat.{ℕ, zero, suc, ◌<◌, Ordering}
use Rattle.std.proofs.Math.Nat as N
use Rattle.std.proofs.Math.Dec.{compare_is_eq}
use Rattle.std.proofs.Math.IntN as I
use Rattle.algebra.specs.Integers as R
use Rattle.algebra.specs.Integers.{NonZero}
use Rattle.specification.specs.Terms.{Term}
use Rattle.theory.specs.Elements.{All}
use Rattle.theory.specs.Order.{View, vlt, veq, vgt, Monomial, monomial, LtMonomial, compare_monomials, monomial-laws, compares-equal, compared-equal}
use Rattle.theory.specs.Gathering.Weights.{weigh}

-- 1 at the monomial m, 0 at any other
unfoldable pub only : Monomial → Monomial → ℤ
only m n = cond (compare_is_eq (compare_monomials m n)) (pos 1) (pos 0)

pub only_same : (m n : Monomial) → m ≡ n → only m n ≡ pos 1
unfolding only
only_same m n e = ap (λ (o : Ordering). cond (compare_is_eq o) (pos 1) (pos 0)) (compares-equal monomial-laws m n e)

pub only-other : (m n : Monomial) → (m ≡ n → ⊥) → only m n ≡ pos 0
unfolding only
only-other m n h = go (compare_monomials m n) (compared-equal monomial-laws m n)
  where
    go : (o : Ordering) → (o ≡ Ordering.eq → m ≡ n) → cond (compare_is_eq o) (pos 1) (pos 0) ≡ pos 0
    go Ordering.lt f = refl
    go Ordering.eq f = absurd (h (f refl))
    go Ordering.gt f = refl

-- the coefficient of the monomial m: the sum over the terms that have it
abbrev pub coeff : Monomial → List Term → ℤ
coeff m = weigh (only m)

-- ════ strictly ascending terms

-- the first term, if there is one, stands behind the monomial
abbrev pub BelowAll : Monomial → List Term → Type 0
BelowAll m [] = Unit {0}
BelowAll m (t ∷ ts) = LtMonomial m (monomial t)

-- "strictly ascending"
abbrev pub Ascending : List Term → Type 0
Ascending [] = Unit {0}
Ascending (t ∷ ts) = BelowAll (monomial t) ts × Ascending ts

-- no term has the monomial
abbrev Fresh : Monomial → List Term → Type 0
Fresh m ts = All (λ (u : Term). m ≡ monomial u → ⊥) ts

-- what stands before a monomial stands before all terms behind it
pub below-trans : (m n : Monomial) (ts : List Term) → LtMonomial m n → BelowAll n ts → BelowAll m ts
below-trans m n [] h b = tt
below-trans m n (t ∷ ts) h b = monomial-laws.trans m n (monomial t) h b

-- what stands before all terms is no term's monomial
fresh : (m : Monomial) (ts : List Term) → BelowAll m ts → Ascending ts → Fresh m ts
fresh m [] b a = tt
fresh m (t ∷ ts) b a =
    ((λ e. monomial-laws.irr m (subst (LtMonomial m) (sym e) b)), fresh m ts (below-trans m (monomial t) ts b a.0) a.1)

coeff-fresh : (m : Monomial) (ts : List Term) → Fresh m ts → coeff m ts ≡ pos 0
unfolding weigh
coeff-fresh m [] f = refl
coeff-fresh m (t ∷ ts) f = (λ i. t.coef *ℤ only-other m (monomial t) f.0 i +ℤ coeff-fresh m ts f.1 i) ∙ I.+ℤ_idr (t.coef *ℤ pos 0) ∙ I.*ℤ-zero t.coef

-- a monomial before all terms has the coefficient 0
pub coeff-below : (m : Monomial) (ts : List Term) → BelowAll m ts → Ascending ts → coeff m ts ≡ pos 0
coeff-below m ts b a = coeff-fresh m ts (fresh m ts b a)

-- the first term's monomial has the first term's coefficient
pub coeff-head : (t : Term) (ts : List Term) → Ascending (t ∷ ts) → coeff (monomial t) (t ∷ ts) ≡ t.coef
unfolding weigh
coeff-head t ts a =
    (λ i. t.coef *ℤ only_same (monomial t) (monomial t) refl i +ℤ coeff-below (monomial t) ts a.0 a.1 i)
    ∙ I.+ℤ_idr (t.coef *ℤ pos 1) ∙ R.*ℤ-1 t.coef

-- ════ terms by their places

-- the term at a place; where the list ends, a term with the coefficient 0
abbrev pub term_at : List Term → ℕ → Term
term_at ts i = get_or ts i (record { coef = pos 0; factors = []; part = [] })

-- a term before the monomial adds nothing to its coefficient
coeff-past : (m : Monomial) (t : Term) (ts : List Term) → LtMonomial (monomial t) m → coeff m (t ∷ ts) ≡ coeff m ts
unfolding weigh
coeff-past m t ts h =
    rw (only-other m (monomial t) (λ e. monomial-laws.irr m (subst (λ n. LtMonomial n m) (sym e) h)), I.*ℤ-zero t.coef, I.+ℤ_idl (coeff m ts))

below_at : (m : Monomial) (ts : List Term) (i : ℕ) → i < length ts → BelowAll m ts → Ascending ts → LtMonomial m (monomial (term_at ts i))
below_at m [] i h b a = absurd (N.not-suc-le-zero h)
below_at m (t ∷ ts) zero h b a = b
below_at m (t ∷ ts) (suc i) h b a = below_at m ts i (omega arith) (below-trans m (monomial t) ts b a.0) a.1

-- each term's monomial has the term's coefficient
pub coeff-at : (ts : List Term) (i : ℕ) → i < length ts → Ascending ts → coeff (monomial (term_at ts i)) ts ≡ (term_at ts i).coef
coeff-at [] i h a = absurd (N.not-suc-le-zero h)
coeff-at (t ∷ ts) zero h a = coeff-head t ts a
coeff-at (t ∷ ts) (suc i) h a =
    coeff-past (monomial (term_at ts i)) t ts (below_at (monomial t) ts i (omega arith) a.0 a.1) ∙ coeff-at ts i (omega arith) a.1

-- a term whose monomial has the coefficient 0 in another list
pub record Lacking (ts us : List Term) : Type 0 where
  pub at : ℕ
  pub inside : at < length ts
  pub lacks : coeff (monomial (term_at ts at)) us ≡ pos 0

-- of ascending terms a shorter list lacks one
pub shorter-lacks : (ts us : List Term) → Ascending ts → Ascending us → length us < length ts → Lacking ts us
unfolding weigh
shorter-lacks [] us a b h = absurd (N.not-suc-le-zero h)
shorter-lacks (t ∷ ts) [] a b h = record { at = 0; inside = h; lacks = refl }
shorter-lacks (t ∷ ts) (u ∷ us) a b h = go (monomial-laws.view (monomial t) (monomial u)) (shorter-lacks ts us a.1 b.1) (shorter-lacks (t ∷ ts) us a b.1)
  where
    go : {o : Ordering} → View LtMonomial (monomial t) (monomial u) o → (length us < length ts → Lacking ts us)
        → (length us < suc (length ts) → Lacking (t ∷ ts) us) → Lacking (t ∷ ts) (u ∷ us)
    go (vlt l) both one = record { at = 0; inside = omega arith; lacks = coeff-below (monomial t) (u ∷ us) l b }
    go (veq e) both one =
        let w = both (omega arith) in
        let l = below_at (monomial t) ts w.at w.inside a.0 a.1 in
        record { at = suc w.at; inside = omega (arith, w.inside); lacks = coeff-past (monomial (term_at ts w.at)) u us (subst (λ n. LtMonomial n (monomial (term_at ts w.at))) e l) ∙ w.lacks }
    go (vgt l) both one =
        let w = one (omega arith) in
        record { at = w.at; inside = w.inside; lacks = coeff-past (monomial (term_at (t ∷ ts) w.at)) u us (below_at (monomial u) (t ∷ ts) w.at w.inside l a) ∙ w.lacks }

-- ════ where a coefficient comes from

-- a list has a monomial whose coefficient is not 0
pub coeff-found : (m : Monomial) (P : Term → Type 0) (f : Term → Term) (ts : List Term) → All P ts → NonZero (coeff m (map f ts)) → (t : Term) × P t × (m ≡ monomial (f t))
unfolding weigh only
coeff-found m P f [] a h = absurd (h refl)
coeff-found m P f (t ∷ ts) a h = go (compare_monomials m (monomial (f t))) (compared-equal monomial-laws m (monomial (f t))) h (coeff-found m P f ts a.1)
  where
    go : (o : Ordering) → (o ≡ Ordering.eq → m ≡ monomial (f t)) → NonZero ((f t).coef *ℤ cond (compare_is_eq o) (pos 1) (pos 0) +ℤ coeff m (map f ts))
        → (NonZero (coeff m (map f ts)) → (t : Term) × P t × (m ≡ monomial (f t))) → (t : Term) × P t × (m ≡ monomial (f t))
    go Ordering.lt e h rest = rest (λ z. h (rw (I.*ℤ-zero (f t).coef, I.+ℤ_idl (coeff m (map f ts))) z))
    go Ordering.eq e h rest = (t, a.0, e refl)
    go Ordering.gt e h rest = rest (λ z. h (rw (I.*ℤ-zero (f t).coef, I.+ℤ_idl (coeff m (map f ts))) z))
