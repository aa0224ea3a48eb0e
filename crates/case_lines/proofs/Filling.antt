-- Bytes looked at one after the other. Assumes nothing.
use mathlib.Core.Path.{◌≡◌, refl}
use mathlib.Core.Bool.{true, false, false≢true}
use mathlib.Core.List.{List}
use Prim.Native.Nat.{ℕ, ◌+◌, ◌≤◌, ◌<◌}
use native.Mathlib.Omega.{arith}
use lib.ListN.{length, get_or}
use Rattle.algebra.specs.Numbers.{below_more}
use Rattle.case_lines.specs.Filling.{filling, Stand}

-- one byte more is the filling
pub stands_more : (l : List ℕ) (i : ℕ) → get_or l i 0 ≡ filling → ((x : ℕ) → x < i → get_or l x 0 ≡ filling) → (x : ℕ) → x < i + 1 → get_or l x 0 ≡ filling
stands_more l i e g = below_more (λ (x : ℕ). get_or l x 0 ≡ filling) i g e

-- all bytes are
pub all_stand : (l : List ℕ) (i : ℕ) → length l ≤ i → ((x : ℕ) → x < i → get_or l x 0 ≡ filling) → Stand l true
all_stand l i h g = record { stand = λ _. λ x k. g x (omega arith); found = λ _. refl }

-- one is not
pub one_found : (l : List ℕ) (i : ℕ) → i < length l → ¬ (get_or l i 0 ≡ filling) → Stand l false
one_found l i h n = record { stand = λ e. absurd (false≢true e); found = λ g. absurd (n (g i h)) }
