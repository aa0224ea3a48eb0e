-- Four signed bytes: what is written is read back, and what is read is what is written. Assumes nothing.
use Rattle.std.specs.Prelude.{◌≡◌, refl, Bool, true, false, List, [], ◌∷◌, ℕ, ◌+◌, ◌-◌, ◌*◌, ◌/◌, ◌%◌, ◌≤◌, ◌<◌, ℤ, pos, negsuc, nat_abs, length, get_or, ltb}
use Rattle.std.proofs.Common.{arith, lt-ltb, le-ltb}
use Rattle.specification.specs.Records.{to_bits32, from_bits32, four_bytes, four_bytes_at}
use Rattle.theory.specs.Records.Positions.{Spells, spelled-byte, spelled-tail, spells_one, spells-cons, Bytes, byte_small}

-- the number that four bytes spell
abbrev number : ℕ → ℕ → ℕ → ℕ → ℕ
number a b c d = ((a * 256 + b) * 256 + c) * 256 + d

two_digits : (n : ℕ) → n / 65536 ≡ n / 256 / 256
two_digits n = omega arith

three_digits : (n : ℕ) → n / 16777216 ≡ n / 65536 / 256
three_digits n = omega arith

number_of_digits : (n : ℕ) → n < 4294967296 → number (n / 16777216 % 256) (n / 65536 % 256) (n / 256 % 256) (n % 256) ≡ n
number_of_digits n h =
    let e₃ : n / 16777216 % 256 ≡ n / 16777216 = omega arith in
    let e₂ : n / 16777216 * 256 + n / 65536 % 256 ≡ n / 65536 = omega (arith, three_digits n) in
    let e₁ : n / 65536 * 256 + n / 256 % 256 ≡ n / 256 = omega (arith, two_digits n) in
    let e₀ : n / 256 * 256 + n % 256 ≡ n = omega arith in
    simp (e₃, e₂, e₁, e₀)

module _ (a b c d : ℕ) (ha : a < 256) (hb : b < 256) (hc : c < 256) (hd : d < 256) where
  number_small : number a b c d < 4294967296
  number_small = omega arith

  digits_of-number : (n : ℕ) → n ≡ number a b c d → n / 16777216 % 256 ∷ n / 65536 % 256 ∷ n / 256 % 256 ∷ n % 256 ∷ [] ≡ a ∷ b ∷ c ∷ d ∷ []
  digits_of-number n e =
      let e₃ : n / 16777216 % 256 ≡ a = omega arith in
      let e₂ : n / 65536 % 256 ≡ b = omega arith in
      let e₁ : n / 256 % 256 ≡ c = omega arith in
      let e₀ : n % 256 ≡ d = omega arith in
      cc

to_bits32-small : (k : ℤ) → nat_abs k ≤ 2147483647 → to_bits32 k < 4294967296
unfolding to_bits32
to_bits32-small (pos n) h = omega arith
to_bits32-small (negsuc n) h = omega arith

from_bits32-to_bits32 : (k : ℤ) → nat_abs k ≤ 2147483647 → from_bits32 (to_bits32 k) ≡ k
unfolding to_bits32 from_bits32
from_bits32-to_bits32 (pos n) h = simp (lt-ltb n 2147483648 (omega arith))
from_bits32-to_bits32 (negsuc n) h =
    let e : 4294967295 - (4294967295 - n) ≡ n = omega arith in
    simp (le-ltb (4294967295 - n) 2147483648 (omega arith), e)

to_bits32-from_bits32 : (n : ℕ) → n < 4294967296 → to_bits32 (from_bits32 n) ≡ n
unfolding to_bits32 from_bits32
to_bits32-from_bits32 n h = go (ltb n 2147483648) refl
  where
    go : (b : Bool) → ltb n 2147483648 ≡ b → to_bits32 (from_bits32 n) ≡ n
    go true e = simp e
    go false e = simp e (omega arith)

pub four_bytes-length : (k : ℤ) → length (four_bytes k) ≡ 4
unfolding four_bytes
four_bytes-length k = refl

-- the bytes of an integer, wherever they stand, spell it
pub four_bytes_read : (s : List ℕ) (a b : ℕ) (k : ℤ) → nat_abs k ≤ 2147483647 → Spells s a b (four_bytes k) → four_bytes_at s a ≡ k
unfolding four_bytes four_bytes_at
four_bytes_read s a b k h p =
    let n = to_bits32 k in
    let p₁ = spelled-tail s a b (n / 16777216 % 256) (n / 65536 % 256 ∷ n / 256 % 256 ∷ n % 256 ∷ []) p in
    let p₂ = spelled-tail s (a + 1) b (n / 65536 % 256) (n / 256 % 256 ∷ n % 256 ∷ []) p₁ in
    let p₃ = spelled-tail s (a + 1 + 1) b (n / 256 % 256) (n % 256 ∷ []) p₂ in
    let e₀ : get_or s a 0 ≡ n / 16777216 % 256 = spelled-byte s a b _ _ p in
    let e₁ : get_or s (a + 1) 0 ≡ n / 65536 % 256 = spelled-byte s (a + 1) b _ _ p₁ in
    let e₂ : get_or s (a + 1 + 1) 0 ≡ n / 256 % 256 = spelled-byte s (a + 1 + 1) b _ _ p₂ in
    let e₃ : get_or s (a + 1 + 1 + 1) 0 ≡ n % 256 = spelled-byte s (a + 1 + 1 + 1) b _ _ p₃ in
    let f₂ : a + 2 ≡ a + 1 + 1 = omega arith in
    let f₃ : a + 3 ≡ a + 1 + 1 + 1 = omega arith in
    rw (f₂, f₃, e₀, e₁, e₂, e₃, number_of_digits n (to_bits32-small k h)) (from_bits32-to_bits32 k h)

spells-gets : (s : List ℕ) (a : ℕ) → a + 4 ≤ length s
    → Spells s a (a + 4) (get_or s a 0 ∷ get_or s (a + 1) 0 ∷ get_or s (a + 2) 0 ∷ get_or s (a + 3) 0 ∷ [])
spells-gets s a l =
    let e₂ : a + 2 ≡ a + 1 + 1 = omega arith in
    let e₃ : a + 3 ≡ a + 1 + 1 + 1 = omega arith in
    let e₄ : a + 4 ≡ a + 1 + 1 + 1 + 1 = omega arith in
    rw (e₂, e₃, e₄)
    (spells-cons s a _ _ (omega arith) (spells-cons s (a + 1) _ _ (omega arith)
    (spells-cons s (a + 1 + 1) _ _ (omega arith) (spells_one s (a + 1 + 1 + 1) (omega arith)))))

-- four bytes are those of the integer that they spell
pub four_bytes_written : (s : List ℕ) (a : ℕ) → Bytes s → a + 4 ≤ length s → Spells s a (a + 4) (four_bytes (four_bytes_at s a))
unfolding four_bytes four_bytes_at
four_bytes_written s a h l =
    let n = number (get_or s a 0) (get_or s (a + 1) 0) (get_or s (a + 2) 0) (get_or s (a + 3) 0) in
    let h₀ = byte_small s h a in
    let h₁ = byte_small s h (a + 1) in
    let h₂ = byte_small s h (a + 2) in
    let h₃ = byte_small s h (a + 3) in
    let e = to_bits32-from_bits32 n (number_small (get_or s a 0) (get_or s (a + 1) 0) (get_or s (a + 2) 0) (get_or s (a + 3) 0) h₀ h₁ h₂ h₃) in
    let d = digits_of-number (get_or s a 0) (get_or s (a + 1) 0) (get_or s (a + 2) 0) (get_or s (a + 3) 0) h₀ h₁ h₂ h₃ (to_bits32 (from_bits32 n)) e in
    rw d (spells-gets s a l)
