-- The record of a term from its fields: which are there, that 16 bytes hold them, and the bit map in front. Assumes nothing.
use mathlib.Core.Path.{◌≡◌, refl, ap, ◌∙◌}
use mathlib.Core.Bool.{Bool, true, false}
use mathlib.Core.List.{List, [], ◌∷◌, ◌++◌}
use Prim.Native.Nat.{ℕ, ◌+◌, ◌≤◌, ◌<◌}
use native.Mathlib.Omega.{arith}
use lib.Dec.{leb→le}
use lib.IntN.{ℤ, nat_abs}
use lib.ListN.{length, set, length-append}
use Rattle.specification.specs.Lists.{joined}
use Rattle.specification.specs.Terms.{coef_within}
use Rattle.specification.specs.Records.{is_one, four_bytes, factors_of, coef_field, count_field, bit_of, part_bit, write_term}
use Rattle.theory.specs.Shape.Terms.{term-opens}
use Rattle.theory.specs.Records.Numbers.{four_bytes-length}
use Rattle.theory.specs.Records.Terms.{term_short}
use Rattle.integers.specs.Over.{over}
use Rattle.terms.specs.declared.types.Term.{Term}
use Rattle.terms.specs.Abstraction.{part_of, term_of}
use Rattle.terms.specs.Valid.{TermValid}
use Rattle.record_writing.specs.Written.{Written, FieldBit}
use Rattle.record_writing.proofs.Writes.{written_store, written_then, written_front}

-- ════ the coefficient

module _ (k : ℤ) (one : Bool) (is_tested : one ≡ is_one k) where
  -- it is left out where it is 1
  pub coef-left_out : one ≡ true → coef_field k ≡ []
  unfolding coef_field
  coef-left_out e = rw (← is_tested, e)

  coef_written_out : one ≡ false → coef_field k ≡ four_bytes k
  unfolding coef_field
  coef_written_out e = rw (← is_tested, e)

  -- it is four bytes where it is not
  pub coef-four : one ≡ false → length (coef_field k) ≡ 4
  coef-four e = ap length (coef_written_out e) ∙ four_bytes-length k

  -- as they are left of a number that is the coefficient
  pub coef_written : (l m : List ℕ) (at : ℕ) (j : ℤ) → one ≡ false → j ≡ k → m ≡ over l at (four_bytes j) → Written l m at (at + 4) (coef_field k)
  coef_written l m at j e q p =
      rw (coef_written_out e) (record { ends = omega (arith, four_bytes-length k); bytes = p ∙ ap (λ (z : ℤ). over l at (four_bytes z)) q })

-- four bytes hold the one of a valid term
pub coef_size_lem : (t : Term) → TermValid t → nat_abs t.coef ≤ 2147483647
unfolding term_of coef_within
coef_size_lem t v = leb→le (nat_abs t.coef) 2147483647 (term-opens (term_of t) v.in_shape).within

-- ════ factors

-- no factors are left out
pub none_left_out : (fs : List (List ℕ)) (count : ℕ) → count ≡ length fs → count ≡ 0 → count_field fs ≡ []
unfolding count_field
none_left_out [] count e z = refl
none_left_out (f ∷ fs) count e z = absurd (omega arith)

-- some have their count in front
pub some_counted : (fs : List (List ℕ)) (count : ℕ) → count ≡ length fs → (count ≡ 0 → ⊥) → count_field fs ≡ count ∷ joined fs
unfolding count_field
some_counted [] count e z = absurd (z e)
some_counted (f ∷ fs) count e z = rw e

-- the count stored, and the letters behind it
pub count_written : (l m : List ℕ) (fs : List (List ℕ)) (at next count : ℕ) → at < length l → count ≡ length fs → (count ≡ 0 → ⊥)
    → Written (set l at count) m (at + 1) next (joined fs) → Written l m at next (count_field fs)
count_written l m fs at next count h e z p =
    rw (some_counted fs count e z) (written_then l (set l at count) m at (at + 1) next (count ∷ []) (joined fs) (omega arith) (written_store l at count h) p)

-- ════ the record

-- the bytes of the factors of so many letters
abbrev pub factors_field : ℕ → Term → List ℕ
factors_field size t = count_field (factors_of size (term_of t))

-- the bytes of all fields
abbrev fields : Term → List ℕ
fields t = coef_field t.coef ++ factors_field 1 t ++ factors_field 2 t ++ factors_field 3 t ++ part_of t.part

-- the bit map
abbrev bits : Term → ℕ
bits t =
    bit_of (coef_field t.coef) 1 + bit_of (factors_field 1 t) 2 + bit_of (factors_field 2 t) 4 + bit_of (factors_field 3 t) 8 + part_bit (part_of t.part)

record_is : (t : Term) → write_term (term_of t) ≡ bits t ∷ fields t
unfolding write_term term_of
record_is t = refl

-- the bit map and the fields of a valid term are at most 16 bytes
pub fields_short : (t : Term) → TermValid t
    → 1 + length (coef_field t.coef) + length (factors_field 1 t) + length (factors_field 2 t) + length (factors_field 3 t) + length (part_of t.part) ≤ 16
fields_short t v = omega (arith, simp (record_is, length-append) at (term_short (term_of t) v.in_shape))

-- the fields written one after the other, and the bit map in front
pub term_written : (t : Term) (l m₁ m₂ m₃ m₄ m₅ : List ℕ) (at p₁ p₂ p₃ p₄ p₅ b₁ b₂ b₃ b₄ b₅ : ℕ) → TermValid t → at + 16 ≤ length l
    → Written l m₁ (at + 1) p₁ (coef_field t.coef)
    → Written m₁ m₂ p₁ p₂ (factors_field 1 t)
    → Written m₂ m₃ p₂ p₃ (factors_field 2 t)
    → Written m₃ m₄ p₃ p₄ (factors_field 3 t)
    → Written m₄ m₅ p₄ p₅ (part_of t.part)
    → FieldBit (at + 1) p₁ 1 b₁ → FieldBit p₁ p₂ 2 b₂ → FieldBit p₂ p₃ 4 b₃ → FieldBit p₃ p₄ 8 b₄ → b₅ ≡ part_bit (part_of t.part)
    → Written l (set m₅ at (b₁ + b₂ + b₃ + b₄ + b₅)) at p₅ (write_term (term_of t))
term_written t l m₁ m₂ m₃ m₄ m₅ at p₁ p₂ p₃ p₄ p₅ b₁ b₂ b₃ b₄ b₅ v h w₁ w₂ w₃ w₄ w₅ f₁ f₂ f₃ f₄ f₅ =
    let a : at + 1 ≤ length l = omega arith in
    let n : at + 1 + length (fields t) ≤ length l = simp length-append (omega (arith, fields_short t v)) in
    rw (record_is t, ← f₁.is _ w₁.ends, ← f₂.is _ w₂.ends, ← f₃.is _ w₃.ends, ← f₄.is _ w₄.ends, ← f₅)
    (written_front l m₅ at p₅ (b₁ + b₂ + b₃ + b₄ + b₅) (fields t) n
    (written_then l m₄ m₅ (at + 1) p₄ p₅ _ _ a (written_then l m₃ m₄ (at + 1) p₃ p₄ _ _ a
    (written_then l m₂ m₃ (at + 1) p₂ p₃ _ _ a (written_then l m₁ m₂ (at + 1) p₁ p₂ _ _ a w₁ w₂) w₃) w₄) w₅))
