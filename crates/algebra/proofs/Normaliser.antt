-- A ring normaliser by reflection: expressions, their normal form as a gathered polynomial, and that equal normal forms have equal values.
-- Assumes nothing.
use Rattle.std.specs.Prelude.{◌≡◌, [], ◌∷◌, ℕ, ℤ, pos, neg_ℤ, ◌+ℤ◌, ◌*ℤ◌}
use Rattle.std.proofs.Common.{sym, ◌∙◌}
use Rattle.std.proofs.Math.IntN as I
use Rattle.algebra.specs.Integers as R
use Rattle.algebra.specs.Polynomials.{Poly, nil, term, cmp_k, put, place, insert, add, mul, ins_var, mul_key, mul_term, neg, value, key_v, vanishes, Sorted}
use Rattle.algebra.proofs.Polynomials.{add_value, mul_value, neg_value, put_value, put-sorted, add-sorted, mul-sorted, neg-sorted}

infix 80 ⟦◌⟧◌
infixl 6 ◌⊕◌ ◌⊖◌
infixl 7 ◌⊗◌
-- an expression over the variables 0, 1, 2, …
pub data Ex : Type 0 where
  var : ℕ → Ex
  lit : ℤ → Ex
  ◌⊕◌ : Ex → Ex → Ex
  ◌⊗◌ : Ex → Ex → Ex
  neg' : Ex → Ex

-- the difference of two expressions
abbrev pub ◌⊖◌ : Ex → Ex → Ex
e ⊖ f = e ⊕ neg' f

-- the value of an expression where each variable x has the value σ x
abbrev pub ⟦◌⟧◌ : Ex → (ℕ → ℤ) → ℤ
⟦ var x ⟧ σ = σ x
⟦ lit c ⟧ σ = c
⟦ e ⊕ f ⟧ σ = (⟦ e ⟧ σ) +ℤ (⟦ f ⟧ σ)
⟦ e ⊗ f ⟧ σ = (⟦ e ⟧ σ) *ℤ (⟦ f ⟧ σ)
⟦ neg' e ⟧ σ = neg_ℤ (⟦ e ⟧ σ)

-- the normal form
unfoldable pub norm : Ex → Poly
norm (var x) = term (x ∷ []) (pos 1) nil
norm (lit c) = put [] c nil
norm (e ⊕ f) = add (norm e) (norm f)
norm (e ⊗ f) = mul (norm e) (norm f)
norm (neg' e) = neg (norm e)

-- it is gathered
pub norm-sorted : (e : Ex) → Sorted (norm e)
unfolding norm
norm-sorted (var x) = (R.pos-nonzero 0, tt, tt)
norm-sorted (lit c) = put-sorted [] c nil tt tt
norm-sorted (e ⊕ f) = add-sorted (norm e) (norm f) (norm-sorted f)
norm-sorted (e ⊗ f) = mul-sorted (norm e) (norm f)
norm-sorted (neg' e) = neg-sorted (norm e) (norm-sorted e)

-- and has the expression's value
pub sound : (σ : ℕ → ℤ) (e : Ex) → value σ (norm e) ≡ ⟦ e ⟧ σ
unfolding norm value key_v
sound σ (var x) = simp (I.+ℤ_idr, R.one_*ℤ, R.*ℤ-1)
sound σ (lit c) = put_value σ [] c nil ∙ simp (I.+ℤ_idr, R.*ℤ-1)
sound σ (e ⊕ f) = simp (add_value, sound σ e, sound σ f)
sound σ (e ⊗ f) = simp (mul_value, sound σ e, sound σ f)
sound σ (neg' e) = simp (neg_value, sound σ e)

-- expressions whose difference has the empty normal form have equal values
pub solve : (e f : Ex) (σ : ℕ → ℤ) → norm (e ⊖ f) ≡ nil → ⟦ e ⟧ σ ≡ ⟦ f ⟧ σ
solve e f σ h = R.sub_zero→eq (⟦ e ⟧ σ) (⟦ f ⟧ σ) (sym (sound σ (e ⊖ f)) ∙ vanishes σ (norm (e ⊖ f)) h)

-- one name under which normal forms compute: `unfolding normalising`
unfoldable pub normalising : Unit {0}
unfolding norm cmp_k put place insert add mul ins_var mul_key mul_term neg
normalising = tt
