-- Numbers as they are returned, and places in front of lent memory. Assumes nothing.
use mathlib.Core.Path.{◌≡◌, refl, ◌∙◌}
use mathlib.Core.List.{List, [], ◌∷◌}
use Prim.Native.Nat.{ℕ, ◌≤◌, ◌<◌, ◌^◌}
use native.Mathlib.Omega.{arith}
use lib.IntN.{ℤ, pos, nat_abs, neg_ℤ}
use lib.ListN.{length, set}
use mir.Syntax.{w64}
use mir.Val.{to_z}
use mir.ValLaws.{to_z_pos}
use Rattle.specification.specs.Results.{given}
use Rattle.specification.specs.Returns.{returned, places_into}

-- ════ one number

-- a small number, cast, can be made negative
pub cast-small : {n : ℕ} → n < 65536 → nat_abs (to_z w64 n) < 2 ^ 63
cast-small {n} h = rw (to_z_pos w64 n (omega arith)) (omega arith)

-- and its negative is minus the number
pub cast-negative : {n : ℕ} {r : ℤ} → n < 65536 → r ≡ neg_ℤ (to_z w64 n) → r ≡ neg_ℤ (pos n)
cast-negative {n} h e = e ∙ rw (to_z_pos w64 n (omega arith))

-- a length, cast, is what is returned
pub cast-length : {n : ℕ} → n < 2 ^ 63 → to_z w64 n ≡ returned (given n)
unfolding returned
cast-length {n} h = to_z_pos w64 n (omega arith)

-- three stores put the three places in front
pub place-stores : (l : List ℕ) (a b n : ℕ) → 3 ≤ length l → set (set (set l 0 a) 1 b) 2 n ≡ places_into a b n l
unfolding places_into
place-stores [] a b n h = absurd (omega arith)
place-stores (x ∷ []) a b n h = absurd (omega arith)
place-stores (x ∷ y ∷ []) a b n h = absurd (omega arith)
place-stores (x ∷ y ∷ z ∷ l) a b n h = refl
