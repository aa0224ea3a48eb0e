-- The text of a refusal, piece by piece. Assumes nothing.
use mathlib.Core.Path.{◌≡◌}
use Prim.Native.Nat.{ℕ}
use borrow.Author.Tests.{ne_eqb}
use Rattle.specification.specs.Words.{bytes}
use Rattle.specification.specs.Commands.{reason}

-- the last reason
pub reason-else : (n : ℕ) → (n ≡ 1 → ⊥) → (n ≡ 2 → ⊥) → (n ≡ 3 → ⊥) → (n ≡ 4 → ⊥) → (n ≡ 5 → ⊥) → (n ≡ 6 → ⊥) → (n ≡ 7 → ⊥) → (n ≡ 8 → ⊥) → (n ≡ 9 → ⊥)
    → (n ≡ 10 → ⊥) → (n ≡ 11 → ⊥) → bytes "not an assignment of numbers from -6 to 6 to every name" ≡ reason n
unfolding reason
reason-else n a b c d e f g h i j k =
    rw (
      ne_eqb n 1 a,
      ne_eqb n 2 b,
      ne_eqb n 3 c,
      ne_eqb n 4 d,
      ne_eqb n 5 e,
      ne_eqb n 6 f,
      ne_eqb n 7 g,
      ne_eqb n 8 h,
      ne_eqb n 9 i,
      ne_eqb n 10 j,
      ne_eqb n 11 k,
    )
