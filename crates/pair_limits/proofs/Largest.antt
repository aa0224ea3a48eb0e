-- The largest of what terms have, and the tests of all pairs by it. Assumes nothing.
use mathlib.Core.Path.{◌≡◌, refl, ap, sym, subst, ◌∙◌}
use mathlib.Core.Logic.{◌⊎◌, inl, inr}
use mathlib.Core.Bool.{Bool, true, false, ◌&&◌}
use mathlib.Core.List.{List, [], ◌∷◌, ◌++◌, map, flat_map}
use Prim.Native.Nat.{ℕ, zero, suc, ◌+◌, ◌*◌, ◌-◌, ◌≤◌, ◌<◌}
use native.Mathlib.Nat as N
use native.Mathlib.Omega.{arith}
use borrow.Author.Tests.{lt-ltb, le-ltb, le-leb, lt-leb}
use lib.Dec.{T, leb}
use lib.IntN.{ℤ, pos, nat_abs}
use lib.ListN.{length, take, drop, get_or, drop_of_length-le}
use Rattle.algebra.specs.Integers.{nat_abs_*ℤ, sfits-nat_abs}
use Rattle.specification.specs.Lists.{all}
use Rattle.specification.specs.Terms.{vector_letters, scalar_letters, coef_within, term_in_shape}
use Rattle.specification.specs.Terms as S
use Rattle.specification.specs.Reduction.{pairs_of}
use Rattle.algebra.specs.Conditions.{lt_or_le}
use Rattle.theory.specs.Tests.{and-false}
use Rattle.theory.specs.Elements.{All, all_T, all_implies}
use Rattle.theory.specs.Shape.Terms.{TermShape, term-opens, in_limit}
use Rattle.theory.specs.Shape.Forms.{FormInShape}
use Rattle.theory.specs.Reduction.Pairs.{pair_letters_fit, pair_coef_fits}
use Rattle.integers.proofs.Machine.{back, back_is}
use Rattle.terms.specs.declared.types.Term.{Term}
use Rattle.terms.specs.declared.shape.Used.{Used}
use Rattle.terms.specs.Numbers.{letters_of}
use Rattle.terms.specs.Abstraction.{part_of, term_of, Counted}
use Rattle.terms.specs.Used.{UsedBy}
use Rattle.terms.proofs.Arrays.{all-at}
use Rattle.rows.specs.Rows.{term_by, run_of, Run, Light}
use Rattle.rows.proofs.Runs.{run_at}
use Rattle.pair_limits.specs.declared.Most.{Most}
use Rattle.pair_limits.specs.Limits.{larger, coef_size, largest, MostWith, MostOf, MostSmall}

-- ════ the larger of two

larger_is : (a b : ℕ) → ((larger a b ≡ a) × (b ≤ a)) ⊎ ((larger a b ≡ b) × (a ≤ b))
unfolding larger
larger_is a b = go (lt_or_le a b)
  where
    go : (a < b) ⊎ (b ≤ a) → ((larger a b ≡ a) × (b ≤ a)) ⊎ ((larger a b ≡ b) × (a ≤ b))
    go (inl h) = inr (rw (lt-ltb a b h), omega arith)
    go (inr h) = inl (rw (le-ltb a b h), h)

larger-below : (a b c : ℕ) → a ≤ c → b ≤ c → larger a b ≤ c
larger-below a b c h k = go (larger_is a b)
  where
    go : ((larger a b ≡ a) × (b ≤ a)) ⊎ ((larger a b ≡ b) × (a ≤ b)) → larger a b ≤ c
    go (inl p) = omega (arith, p.0)
    go (inr p) = omega (arith, p.0)

-- the largest of a list is within what each is within
pub largest-below : (m : S.Term → ℕ) (c : ℕ) (ts : List S.Term) → All (λ (t : S.Term). m t ≤ c) ts → largest m ts ≤ c
unfolding largest
largest-below m c [] h = omega arith
largest-below m c (t ∷ ts) h = larger-below (m t) (largest m ts) c h.0 (largest-below m c ts h.1)

-- ════ all pairs

-- of two tests of numbers against a limit the one of the larger decides
and_second : (x y l : ℕ) → x ≤ y → (leb x l && leb y l) ≡ leb y l
and_second x y l h = go (lt_or_le l y)
  where
    go : (l < y) ⊎ (y ≤ l) → (leb x l && leb y l) ≡ leb y l
    go (inl k) = rw (lt-leb y l k) (and-false (leb x l))
    go (inr k) = let j : x ≤ l = omega arith in rw (le-leb y l k, le-leb x l j)

and_first : (x y l : ℕ) → y ≤ x → (leb x l && leb y l) ≡ leb x l
and_first x y l h = go (lt_or_le l x)
  where
    go : (l < x) ⊎ (x ≤ l) → (leb x l && leb y l) ≡ leb x l
    go (inl k) = rw (lt-leb x l k)
    go (inr k) = let j : y ≤ l = omega arith in rw (le-leb x l k, le-leb y l j)

module _ {A : Type 0} where
  pub all_join : (f : A → Bool) (xs ys : List A) → all f (xs ++ ys) ≡ (all f xs && all f ys)
  unfolding all
  all_join f [] ys = refl
  all_join f (x ∷ xs) ys = ap (λ (b : Bool). f x && b) (all_join f xs ys) ∙ sym (and_assoc (f x) (all f xs) (all f ys))
    where
      and_assoc : (a b c : Bool) → ((a && b) && c) ≡ (a && (b && c))
      and_assoc true b c = refl
      and_assoc false b c = refl

  all_over : {B : Type 0} (f : A → Bool) (g : B → A) (xs : List B) → all f (map g xs) ≡ all (λ (x : B). f (g x)) xs
  unfolding all
  all_over f g [] = refl
  all_over f g (x ∷ xs) = ap (λ (b : Bool). f (g x) && b) (all_over f g xs)

  all_both : (f g : A → Bool) (xs : List A) → all (λ (x : A). f x && g x) xs ≡ (all f xs && all g xs)
  unfolding all
  all_both f g [] = refl
  all_both f g (x ∷ xs) = ap (λ (b : Bool). (f x && g x) && b) (all_both f g xs) ∙ middle (f x) (g x) (all f xs) (all g xs)
    where
      middle : (a b c d : Bool) → ((a && b) && (c && d)) ≡ ((a && c) && (b && d))
      middle true b true d = refl
      middle true b false d = and-false b
      middle false b c d = refl

  all_same : (f g : A → Bool) → ((x : A) → f x ≡ g x) → (xs : List A) → all f xs ≡ all g xs
  unfolding all
  all_same f g e [] = refl
  all_same f g e (x ∷ xs) = λ i. e x i && all_same f g e xs i

-- what grows with both of its numbers, tested against a limit
module _ (op : ℕ → ℕ → ℕ) (grows : (a b c d : ℕ) → a ≤ b → c ≤ d → op a c ≤ op b d) (limit : ℕ) (m : S.Term → ℕ) where
  second-larger : (c a b : ℕ) → (leb (op c a) limit && leb (op c b) limit) ≡ leb (op c (larger a b)) limit
  second-larger c a b = go (larger_is a b)
    where
      go : ((larger a b ≡ a) × (b ≤ a)) ⊎ ((larger a b ≡ b) × (a ≤ b)) → (leb (op c a) limit && leb (op c b) limit) ≡ leb (op c (larger a b)) limit
      go (inl p) = and_first (op c a) (op c b) limit (grows c c b a (N.le_refl c) p.1) ∙ ap (λ (x : ℕ). leb (op c x) limit) (sym p.0)
      go (inr p) = and_second (op c a) (op c b) limit (grows c c a b (N.le_refl c) p.1) ∙ ap (λ (x : ℕ). leb (op c x) limit) (sym p.0)

  first_larger : (a b c : ℕ) → (leb (op a c) limit && leb (op b c) limit) ≡ leb (op (larger a b) c) limit
  first_larger a b c = go (larger_is a b)
    where
      go : ((larger a b ≡ a) × (b ≤ a)) ⊎ ((larger a b ≡ b) × (a ≤ b)) → (leb (op a c) limit && leb (op b c) limit) ≡ leb (op (larger a b) c) limit
      go (inl p) = and_first (op a c) (op b c) limit (grows b a c c p.1 (N.le_refl c)) ∙ ap (λ (x : ℕ). leb (op x c) limit) (sym p.0)
      go (inr p) = and_second (op a c) (op b c) limit (grows a b c c p.1 (N.le_refl c)) ∙ ap (λ (x : ℕ). leb (op x c) limit) (sym p.0)

  row : (c : ℕ) (us : List S.Term) → op c 0 ≤ limit → all (λ (u : S.Term). leb (op c (m u)) limit) us ≡ leb (op c (largest m us)) limit
  unfolding all largest
  row c [] h = sym (le-leb (op c 0) limit h)
  row c (u ∷ us) h = ap (λ (b : Bool). leb (op c (m u)) limit && b) (row c us h) ∙ second-larger c (m u) (largest m us)

  -- all pairs pass where the largest of each side pass
  all_pairs : (ts us : List S.Term) → All (λ (t : S.Term). op (m t) 0 ≤ limit) ts → op 0 (largest m us) ≤ limit
      → all (λ (p : S.Term × S.Term). leb (op (m p.0) (m p.1)) limit) (pairs_of ts us) ≡ leb (op (largest m ts) (largest m us)) limit
  unfolding all largest pairs_of flat_map
  all_pairs [] us h k = sym (le-leb (op 0 (largest m us)) limit k)
  all_pairs (t ∷ ts) us h k =
      all_join (λ (p : S.Term × S.Term). leb (op (m p.0) (m p.1)) limit) (map (λ (u : S.Term). (t, u)) us) (pairs_of ts us)
      ∙ (λ i. (all_over (λ (p : S.Term × S.Term). leb (op (m p.0) (m p.1)) limit) (λ (u : S.Term). (t, u)) us ∙ row (m t) us h.0) i && all_pairs ts us
      h.1 k i)
      ∙ first_larger (m t) (largest m ts) (largest m us)

-- ════ a form's limits

-- what the shape says of a term's letters and coefficient
pub record Limited (t : S.Term) : Type 0 where
  pub vectors : vector_letters t ≤ 6
  pub scalars : scalar_letters t ≤ 2
  pub size : coef_size t ≤ 2147483647

-- a term in shape
pub limited : (t : S.Term) → T (term_in_shape t) → Limited t
unfolding vector_letters scalar_letters coef_size
limited t h = let o : TermShape t = term-opens t h in record { vectors = o.fits.vectors; scalars = o.fits.scalars; size = in_limit t h }

-- the terms of a form in shape
pub form-limited : (f : S.Form) → FormInShape f → All Limited f.terms
form-limited f s = all_implies (λ (t : S.Term). T (term_in_shape t)) Limited limited f.terms (all_T term_in_shape f.terms s.terms)

module _ (ts us : List S.Term) (h : All Limited ts) (k : All Limited us) where
  most-vectors : largest vector_letters us ≤ 6
  most-vectors = largest-below vector_letters 6 us (all_implies Limited (λ (t : S.Term). vector_letters t ≤ 6) (λ t l. l.vectors) us k)

  most-scalars : largest scalar_letters us ≤ 2
  most-scalars = largest-below scalar_letters 2 us (all_implies Limited (λ (t : S.Term). scalar_letters t ≤ 2) (λ t l. l.scalars) us k)

  -- 8 by the most letters
  letters-by-most : all pair_letters_fit (pairs_of ts us)
      ≡ (leb (largest vector_letters ts + largest vector_letters us) 6 && leb (largest scalar_letters ts + largest scalar_letters us) 2)
  unfolding pair_letters_fit
  letters-by-most =
      all_both (λ (p : S.Term × S.Term). leb (vector_letters p.0 + vector_letters p.1) 6)
      (λ (p : S.Term × S.Term). leb (scalar_letters p.0 + scalar_letters p.1) 2) (pairs_of ts us)
      ∙ (λ i. all_pairs ◌+◌ (λ a b c d p q. omega arith) 6 vector_letters ts us
      (all_implies Limited (λ (t : S.Term). vector_letters t + 0 ≤ 6) (λ t l. omega (arith, l.vectors)) ts h) (omega (arith, most-vectors)) i
      && all_pairs ◌+◌ (λ a b c d p q. omega arith) 2 scalar_letters ts us
      (all_implies Limited (λ (t : S.Term). scalar_letters t + 0 ≤ 2) (λ t l. omega (arith, l.scalars)) ts h) (omega (arith, most-scalars)) i)

  -- 9 by the largest coefficients
  coefs-by-most : all pair_coef_fits (pairs_of ts us) ≡ leb (largest coef_size ts * largest coef_size us) 2147483647
  unfolding pair_coef_fits coef_within coef_size
  coefs-by-most =
      all_same pair_coef_fits (λ (p : S.Term × S.Term). leb (coef_size p.0 * coef_size p.1) 2147483647)
      (λ p. ap (λ (n : ℕ). leb n 2147483647) (nat_abs_*ℤ p.0.coef p.1.coef)) (pairs_of ts us)
      ∙ all_pairs ◌*◌ (λ a b c d p q. N.mul-le-mul p q) 2147483647 coef_size ts us
      (all_implies Limited (λ (t : S.Term). coef_size t * 0 ≤ 2147483647) (λ t l. omega arith) ts h) (omega arith)

  -- by what was found
  module _ (a b : Most) (ma : MostOf ts a) (mb : MostOf us b) where
    pub letters-found : all pair_letters_fit (pairs_of ts us) ≡ (leb (a.vectors + b.vectors) 6 && leb (a.scalars + b.scalars) 2)
    letters-found = letters-by-most ∙ (λ i. leb (sym ma.vectors i + sym mb.vectors i) 6 && leb (sym ma.scalars i + sym mb.scalars i) 2)

    pub coefs-found : all pair_coef_fits (pairs_of ts us) ≡ leb (a.size * b.size) 2147483647
    coefs-found = coefs-by-most ∙ (λ i. leb (sym ma.size i * sym mb.size i) 2147483647)

-- the numbers of terms in shape are small
pub most-small : (ts : List S.Term) (r : Most) → All Limited ts → MostOf ts r → MostSmall r
most-small ts r h m = record {
  vectors = subst (λ (n : ℕ). n ≤ 6) (sym m.vectors) (largest-below vector_letters 6 ts
      (all_implies Limited (λ (t : S.Term). vector_letters t ≤ 6) (λ t l. l.vectors) ts h));
  scalars = subst (λ (n : ℕ). n ≤ 2) (sym m.scalars) (largest-below scalar_letters 2 ts
      (all_implies Limited (λ (t : S.Term). scalar_letters t ≤ 2) (λ t l. l.scalars) ts h));
  size = subst (λ (n : ℕ). n ≤ 2147483647) (sym m.size) (largest-below coef_size 2147483647 ts
      (all_implies Limited (λ (t : S.Term). coef_size t ≤ 2147483647) (λ t l. l.size) ts h));
}

-- ════ one term after the other

-- what the functions found of one term
pub with-most : (t : Term) (m r : Most) (u : Used) (p c : ℕ) → nat_abs t.coef ≤ 2147483647 → UsedBy (map letters_of (take t.factor_count t.factors)) u
    → p ≡ length (part_of t.part) → c ≡ nat_abs (back t.coef)
    → r.vectors ≡ larger (u.vectors + p) m.vectors → r.scalars ≡ larger u.scalars m.scalars → r.size ≡ larger c m.size → MostWith (term_of t) m r
unfolding term_of vector_letters scalar_letters coef_size
with-most t m r u p c small w e f v s z = record {
  vectors = v ∙ (λ i. larger (w.vectors i + e i) m.vectors);
  scalars = s ∙ (λ i. larger (w.scalars i) m.scalars);
  size = z ∙ (λ i. larger ((f ∙ ap nat_abs (back_is (sfits-nat_abs t.coef (omega arith)))) i) m.size);
}

-- none
pub most_none : (ts : List S.Term) (n : ℕ) → length ts ≤ n → MostOf (drop n ts) (record { vectors = 0; scalars = 0; size = 0 })
unfolding largest
most_none ts n h =
    subst (λ (l : List S.Term). MostOf l (record { vectors = 0; scalars = 0; size = 0 })) (sym (drop_of_length-le ts h))
    (record { vectors = refl; scalars = refl; size = refl })

-- one more in front
most_more : (ts rest : List S.Term) (t : S.Term) (m r : Most) → ts ≡ t ∷ rest → MostOf rest m → MostWith t m r → MostOf ts r
unfolding largest
most_more ts rest t m r e h w = subst (λ (l : List S.Term). MostOf l r) (sym e) (record {
  vectors = w.vectors ∙ ap (larger (vector_letters t)) h.vectors;
  scalars = w.scalars ∙ ap (larger (scalar_letters t)) h.scalars;
  size = w.size ∙ ap (larger (coef_size t)) h.size;
})

-- the rows one by one
module _ (n : ℕ) (rows : List (List ℕ)) (coefs : List ℤ) (v : Run n rows coefs) where
  pub row_size : Light 2147483647 n coefs → (i : ℕ) → i < n → (t : Term) (z : ℤ) → (term_of t ≡ term_by (get_or rows i []) z) × Counted t → z ≡ get_or coefs i (pos 0)
      → nat_abs t.coef ≤ 2147483647
  unfolding Light term_of term_by
  row_size l i h t z q e =
      subst (λ (y : ℤ). nat_abs y ≤ 2147483647) (sym (ap (λ (x : S.Term). x.coef) q.0 ∙ e))
      (all-at (λ (y : ℤ). nat_abs y ≤ 2147483647) coefs n i (pos 0) v.beside h l)

  -- the term of a row, in front of those behind it
  pub in_front_lem : (i : ℕ) → 0 < i → i ≤ n → (t : Term) (z : ℤ) → (term_of t ≡ term_by (get_or rows (i - 1) []) z) × Counted t → z ≡ get_or coefs (i - 1) (pos 0)
      → drop (i - 1) (run_of n rows coefs) ≡ term_of t ∷ drop i (run_of n rows coefs)
  in_front_lem i g h t z q e =
      let k : i - 1 < n = omega arith in
      let a : i - 1 + 1 ≡ i = omega arith in
      run_at rows coefs n v.room v.beside (i - 1) k ∙ (λ j. (sym (q.0 ∙ ap (term_by (get_or rows (i - 1) [])) e)) j ∷ drop (a j) (run_of n rows coefs))

  pub most-row : (i : ℕ) → 0 < i → i ≤ n → (t : Term) (z : ℤ) (m r : Most) → (term_of t ≡ term_by (get_or rows (i - 1) []) z) × Counted t
      → z ≡ get_or coefs (i - 1) (pos 0)
      → MostOf (drop i (run_of n rows coefs)) m → MostWith (term_of t) m r → MostOf (drop (i - 1) (run_of n rows coefs)) r
  most-row i g h t z m r q e w d =
      most_more (drop (i - 1) (run_of n rows coefs)) (drop i (run_of n rows coefs)) (term_of t) m r (in_front_lem i g h t z q e) w d

-- all of them
pub from-the_first : (P : List S.Term → Type 0) (ts : List S.Term) (i : ℕ) → i ≤ 0 → P (drop i ts) → P ts
from-the_first P ts zero h w = w
from-the_first P ts (suc i) h w = absurd (omega arith)

-- ════ the tests of what was found

-- too many vector letters
pub vectors-many : (x y : ℕ) → 6 < x → false ≡ (leb x 6 && leb y 2)
vectors-many x y h = rw (lt-leb x 6 h)

-- few: the scalar letters decide
pub vectors-few : (x y : ℕ) → x ≤ 6 → leb y 2 ≡ (leb x 6 && leb y 2)
vectors-few x y h = rw (le-leb x 6 h)
