-- Exchanges of letters: what they do to dots, wedges and triples, and that sorting letters keeps the value up to the sign of the exchanges. Assumes nothing.
use Rattle.std.specs.Prelude.{◌≡◌, ◌⊎◌, Bool, ℕ, ◌<◌, ◌≤◌, length, ℤ, ◌-ℤ◌, ◌*ℤ◌}
use Rattle.std.proofs.Math.Path.{refl, sym, ap}
use Rattle.std.proofs.Common.{◌∙◌, inl, inr, arith}
use Rattle.std.proofs.Math.Bool.{true, false}
use mathlib.Core.List.{List, [], ◌∷◌, map}
use Rattle.std.proofs.Math.IntN.{pos, negsuc}
use Rattle.std.proofs.Math.IntN as I
use Rattle.algebra.specs.Integers as R
use Rattle.algebra.proofs.Normaliser.{lit, ◌⊗◌, normalising}
use Rattle.specification.specs.Results.{when◌then◌else◌}
use Rattle.specification.specs.Lists.{is_not_more, order, put_into, sorted}
use Rattle.specification.specs.Values.{Vec, scalar_value, ◌•◌, dot, wedge, triple}
use Rattle.specification.specs.Terms.{pair_sign, sign_before, exchange_sign, factor_sign, factors_sign, compare_letters}
use Rattle.specification.specs.Evaluation.{factor_value, factors_value, part_value}
use Rattle.theory.specs.Elements.{All}
use Rattle.theory.specs.Order.{nat-laws}
use Rattle.theory.specs.Sorting.{ins-le, ins_gt}
use Rattle.theory.specs.Sorting as O
use Rattle.theory.specs.Signs.{pair_lt, pair_eq, pair_gt}
use Rattle.theory.specs.Shape.Terms.{OneToThree}
use Rattle.theory.specs.Values.Vectors.{by-components, one_•, zero_•}
use Rattle.theory.proofs.Values.TripleExchange.{triple-exchange_last}
use Rattle.theory.specs.Values.Expressions.{◌•e◌, dot_e, wedge_e, triple_e, A, B, C, letters, same_numbers, same_vectors}

-- ════ exchanges and equal letters

pub dot-comm : (a b : Vec) → dot a b ≡ dot b a
unfolding normalising
dot-comm a b = same_numbers (dot_e A B) (dot_e B A) (letters (a ∷ b ∷ [])) refl

-- b∧a = −(a∧b)
pub wedge-exchange : (a b : Vec) → wedge a b ≡ negsuc 0 • wedge b a
unfolding normalising
wedge-exchange a b =
    same_vectors (wedge_e A B) (lit (negsuc 0) •e wedge_e B A) (letters (a ∷ b ∷ [])) (refl, refl, refl)

-- a∧a = 0
pub wedge_same : (a : Vec) → wedge a a ≡ scalar_value (pos 0)
wedge_same a = by-components (component a.y a.z) (component a.z a.x) (component a.x a.y)
  where
    component : (x y : ℤ) → x *ℤ y -ℤ y *ℤ x ≡ pos 0
    component x y = ap (λ (u : ℤ). u -ℤ y *ℤ x) (I.*ℤ_comm x y) ∙ I.+ℤ_invr (y *ℤ x)

-- (bac) = −(abc)
pub triple-exchange_first : (a b c : Vec) → triple a b c ≡ negsuc 0 *ℤ triple b a c
unfolding normalising
triple-exchange_first a b c =
    same_numbers (triple_e A B C) (lit (negsuc 0) ⊗ triple_e B A C) (letters (a ∷ b ∷ c ∷ [])) refl

-- (abc) = (bca)
pub triple-turn : (a b c : Vec) → triple a b c ≡ triple b c a
unfolding normalising
triple-turn a b c =
    same_numbers (triple_e A B C) (triple_e B C A) (letters (a ∷ b ∷ c ∷ [])) refl

-- (aab) = 0
pub triple-same_first : (a b : Vec) → triple a a b ≡ pos 0
unfolding normalising
triple-same_first a b = same_numbers (triple_e A A B) (lit (pos 0)) (letters (a ∷ b ∷ [])) refl

-- (abb) = 0
pub triple_same_last : (a b : Vec) → triple a b b ≡ pos 0
triple_same_last a b = triple-turn a b b ∙ triple-same_first b a

-- (aba) = 0
pub triple-same_ends : (a b : Vec) → triple a b a ≡ pos 0
triple-same_ends a b = triple-turn a b a ∙ triple_same_last b a

-- of two letters one comes first, or they are equal
abbrev Tri : ℕ → ℕ → Type 0
Tri a b = ((a < b) ⊎ (a ≡ b)) ⊎ (b < a)

tri : (a b : ℕ) → Tri a b
tri = O.tri nat-laws

put-nothing : (a : ℕ) → put_into order a [] ≡ a ∷ []
unfolding put_into
put-nothing a = refl

-- ════ a dot, a wedge, a triple

module _ (σ : ℕ → Vec) where
  dot-sorted : (a b : ℕ) → factor_value σ (put_into order a (b ∷ [])) ≡ dot (σ a) (σ b)
  unfolding factor_value
  dot-sorted a b = go (tri a b)
    where
      go : Tri a b → factor_value σ (put_into order a (b ∷ [])) ≡ dot (σ a) (σ b)
      go (inl (inl h)) = ap (factor_value σ) (ins-le nat-laws a b [] (inl h))
      go (inl (inr e)) = ap (factor_value σ) (ins-le nat-laws a b [] (inr e))
      go (inr h) = ap (factor_value σ) (ins_gt nat-laws a b [] h ∙ ap (λ (l : List ℕ). b ∷ l) (put-nothing a)) ∙ dot-comm (σ b) (σ a)

  wedge-sorted : (a b : ℕ) → pair_sign a b • part_value σ (put_into order a (b ∷ [])) ≡ wedge (σ a) (σ b)
  unfolding part_value
  wedge-sorted a b = go (tri a b)
    where
      go : Tri a b → pair_sign a b • part_value σ (put_into order a (b ∷ [])) ≡ wedge (σ a) (σ b)
      go (inl (inl h)) = (λ i. pair_lt a b h i • part_value σ (ins-le nat-laws a b [] (inl h) i)) ∙ one_• (wedge (σ a) (σ b))
      go (inl (inr e)) =
          ap (λ (k : ℤ). k • part_value σ (put_into order a (b ∷ []))) (pair_eq a b e) ∙ zero_• (part_value σ (put_into order a (b ∷ [])))
          ∙ sym (ap (λ (n : ℕ). wedge (σ n) (σ b)) e ∙ wedge_same (σ b))
      go (inr h) =
          (λ i. pair_gt a b h i • part_value σ (ins_gt nat-laws a b [] h i)) ∙ ap (λ (l : List ℕ). negsuc 0 • part_value σ (b ∷ l)) (put-nothing a)
          ∙ sym (wedge-exchange (σ a) (σ b))

  triple-put : (a b c : ℕ) → b ≤ c → (pair_sign a b *ℤ pair_sign a c) *ℤ factor_value σ (put_into order a (b ∷ c ∷ [])) ≡ triple (σ a) (σ b) (σ c)
  unfolding factor_value
  triple-put a b c bc = go (tri a b)
    where
      -- a behind b
      behind : b < a → Tri a c → (negsuc 0 *ℤ pair_sign a c) *ℤ factor_value σ (b ∷ put_into order a (c ∷ [])) ≡ triple (σ a) (σ b) (σ c)
      behind h (inl (inl g)) =
          (λ i. (negsuc 0 *ℤ pair_lt a c g i) *ℤ factor_value σ (b ∷ ins-le nat-laws a c [] (inl g) i)) ∙ sym (triple-exchange_first (σ a) (σ b) (σ c))
      behind h (inl (inr e)) =
          ap (λ (k : ℤ). (negsuc 0 *ℤ k) *ℤ factor_value σ (b ∷ put_into order a (c ∷ []))) (pair_eq a c e)
          ∙ I.zero-*ℤ (factor_value σ (b ∷ put_into order a (c ∷ [])))
          ∙ sym (ap (λ (n : ℕ). triple (σ n) (σ b) (σ c)) e ∙ triple-same_ends (σ c) (σ b))
      behind h (inr g) =
          (λ i. (negsuc 0 *ℤ pair_gt a c g i) *ℤ factor_value σ (b ∷ ins_gt nat-laws a c [] g i))
          ∙ ap (λ (l : List ℕ). (negsuc 0 *ℤ negsuc 0) *ℤ factor_value σ (b ∷ c ∷ l)) (put-nothing a)
          ∙ R.one_*ℤ (triple (σ b) (σ c) (σ a))
          ∙ sym (triple-turn (σ a) (σ b) (σ c))

      go : Tri a b → (pair_sign a b *ℤ pair_sign a c) *ℤ factor_value σ (put_into order a (b ∷ c ∷ [])) ≡ triple (σ a) (σ b) (σ c)
      go (inl (inl h)) =
          let ac : a < c = omega arith in
          (λ i. (pair_lt a b h i *ℤ pair_lt a c ac i) *ℤ factor_value σ (ins-le nat-laws a b (c ∷ []) (inl h) i)) ∙ R.one_*ℤ (triple (σ a) (σ b) (σ c))
      go (inl (inr e)) =
          ap (λ (k : ℤ). (k *ℤ pair_sign a c) *ℤ factor_value σ (put_into order a (b ∷ c ∷ []))) (pair_eq a b e)
          ∙ ap (λ (k : ℤ). k *ℤ factor_value σ (put_into order a (b ∷ c ∷ []))) (I.zero-*ℤ (pair_sign a c))
          ∙ I.zero-*ℤ (factor_value σ (put_into order a (b ∷ c ∷ [])))
          ∙ sym (ap (λ (n : ℕ). triple (σ n) (σ b) (σ c)) e ∙ triple-same_first (σ b) (σ c))
      go (inr h) =
          (λ i. (pair_gt a b h i *ℤ pair_sign a c) *ℤ factor_value σ (ins_gt nat-laws a b (c ∷ []) h i)) ∙ behind h (tri a c)

  triple-sorted : (a b c : ℕ)
      → ((pair_sign a b *ℤ pair_sign a c) *ℤ pair_sign b c) *ℤ factor_value σ (put_into order a (put_into order b (c ∷ []))) ≡ triple (σ a) (σ b) (σ c)
  triple-sorted a b c = go (tri b c)
    where
      s : ℤ
      s = pair_sign a b *ℤ pair_sign a c

      go : Tri b c
          → ((pair_sign a b *ℤ pair_sign a c) *ℤ pair_sign b c) *ℤ factor_value σ (put_into order a (put_into order b (c ∷ []))) ≡ triple (σ a) (σ b) (σ c)
      go (inl (inl h)) =
          let bc : b ≤ c = omega arith in
          (λ i. (s *ℤ pair_lt b c h i) *ℤ factor_value σ (put_into order a (ins-le nat-laws b c [] (inl h) i)))
          ∙ ap (λ (k : ℤ). k *ℤ factor_value σ (put_into order a (b ∷ c ∷ []))) (R.*ℤ-1 s)
          ∙ triple-put a b c bc
      go (inl (inr e)) =
          ap (λ (k : ℤ). (s *ℤ k) *ℤ factor_value σ (put_into order a (put_into order b (c ∷ [])))) (pair_eq b c e)
          ∙ ap (λ (k : ℤ). k *ℤ factor_value σ (put_into order a (put_into order b (c ∷ [])))) (I.*ℤ-zero s)
          ∙ I.zero-*ℤ (factor_value σ (put_into order a (put_into order b (c ∷ []))))
          ∙ sym (ap (λ (n : ℕ). triple (σ a) (σ n) (σ c)) e ∙ triple_same_last (σ a) (σ c))
      go (inr h) =
          let cb : c ≤ b = omega arith in
          let w : ℤ = factor_value σ (put_into order a (c ∷ b ∷ [])) in
          (λ i. (s *ℤ pair_gt b c h i) *ℤ factor_value σ (put_into order a (ins_gt nat-laws b c [] h i)))
          ∙ ap (λ (l : List ℕ). (s *ℤ negsuc 0) *ℤ factor_value σ (put_into order a (c ∷ l))) (put-nothing b)
          ∙ (λ i. (I.*ℤ_comm (I.*ℤ_comm (pair_sign a b) (pair_sign a c) i) (negsuc 0) i) *ℤ w)
          ∙ R.*ℤ_assoc (negsuc 0) (pair_sign a c *ℤ pair_sign a b) w
          ∙ ap (λ (k : ℤ). negsuc 0 *ℤ k) (triple-put a c b cb)
          ∙ sym (triple-exchange_last (σ a) (σ b) (σ c))

  -- ════ factors, and the vector part

  sign_of_two : (a b : ℕ) → exchange_sign (a ∷ b ∷ []) ≡ pair_sign a b
  unfolding exchange_sign sign_before
  sign_of_two a b = R.*ℤ-1 (pair_sign a b *ℤ pos 1) ∙ R.*ℤ-1 (pair_sign a b)

  sign_of-three : (a b c : ℕ) → exchange_sign (a ∷ b ∷ c ∷ []) ≡ (pair_sign a b *ℤ pair_sign a c) *ℤ pair_sign b c
  unfolding exchange_sign sign_before
  sign_of-three a b c =
      λ i. (pair_sign a b *ℤ R.*ℤ-1 (pair_sign a c) i) *ℤ (R.*ℤ-1 (pair_sign b c *ℤ pos 1) ∙ R.*ℤ-1 (pair_sign b c)) i

  factor-sorted : (f : List ℕ) → OneToThree f → factor_sign f *ℤ factor_value σ (sorted order f) ≡ factor_value σ f
  unfolding factor_sign sorted factor_value
  factor-sorted [] h = absurd (omega (arith, h.0))
  factor-sorted (a ∷ []) h = R.one_*ℤ (factor_value σ (put_into order a [])) ∙ ap (factor_value σ) (put-nothing a)
  factor-sorted (a ∷ b ∷ []) h =
      R.one_*ℤ (factor_value σ (put_into order a (put_into order b []))) ∙ ap (λ (l : List ℕ). factor_value σ (put_into order a l)) (put-nothing b)
      ∙ dot-sorted a b
  factor-sorted (a ∷ b ∷ c ∷ []) h =
      (λ i. sign_of-three a b c i *ℤ factor_value σ (put_into order a (put_into order b (put-nothing c i)))) ∙ triple-sorted a b c
  factor-sorted (a ∷ b ∷ c ∷ d ∷ f) h = absurd (omega (arith, h.1))

  factors-put : (f : List ℕ) (fs : List (List ℕ)) → factors_value σ (put_into compare_letters f fs) ≡ factor_value σ f *ℤ factors_value σ fs
  unfolding put_into factors_value
  factors-put f [] = refl
  factors-put f (g ∷ gs) = test (is_not_more (compare_letters f g)) (factors-put f gs)
    where
      test : (b : Bool) → factors_value σ (put_into compare_letters f gs) ≡ factor_value σ f *ℤ factors_value σ gs
          → factors_value σ (when b then f ∷ g ∷ gs else g ∷ put_into compare_letters f gs) ≡ factor_value σ f *ℤ factors_value σ (g ∷ gs)
      test true e = refl
      test false e = ap (λ (k : ℤ). factor_value σ g *ℤ k) e ∙ R.*ℤ_left_comm (factor_value σ g) (factor_value σ f) (factors_value σ gs)

  -- sorted factors have the value of the factors, up to the sign of the exchanges
  pub factors-sorted : (fs : List (List ℕ)) → All OneToThree fs
      → factors_sign fs *ℤ factors_value σ (sorted compare_letters (map (sorted order) fs)) ≡ factors_value σ fs
  unfolding factors_sign sorted factors_value
  factors-sorted [] h = refl
  factors-sorted (f ∷ fs) h =
      let rest : List (List ℕ) = sorted compare_letters (map (sorted order) fs) in
      ap (λ (k : ℤ). (factor_sign f *ℤ factors_sign fs) *ℤ k) (factors-put (sorted order f) rest)
      ∙ R.*ℤ_interchange (factor_sign f) (factors_sign fs) (factor_value σ (sorted order f)) (factors_value σ rest)
      ∙ (λ i. factor-sorted f h.0 i *ℤ factors-sorted fs h.1 i)

  -- a sorted vector part has its value, up to the sign of the exchange
  pub part-sorted : (p : List ℕ) → length p ≤ 2 → exchange_sign p • part_value σ (sorted order p) ≡ part_value σ p
  unfolding exchange_sign sign_before sorted part_value
  part-sorted [] h = one_• (scalar_value (pos 1))
  part-sorted (a ∷ []) h = ap (λ (l : List ℕ). pos 1 • part_value σ l) (put-nothing a) ∙ one_• (σ a)
  part-sorted (a ∷ b ∷ []) h = (λ i. sign_of_two a b i • part_value σ (put_into order a (put-nothing b i))) ∙ wedge-sorted a b
  part-sorted (a ∷ b ∷ c ∷ p) h = absurd (omega arith)
