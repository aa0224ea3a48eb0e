-- The variables of an assignment: component i of letter l is the variable 3 l + i. Assumes nothing.
use Rattle.std.specs.Prelude.{ℕ, zero, suc, ◌/◌, ◌%◌, ℤ}
use Rattle.specification.specs.Values.{Vec}

-- a component of a vector
unfoldable pub component : (i : ℕ) (v : Vec) → ℤ
component zero v = v.x
component (suc zero) v = v.y
component (suc (suc i)) v = v.z

-- the value of a variable
unfoldable pub variables : (τ : ℕ → Vec) (x : ℕ) → ℤ
variables τ x = component (x % 3) (τ (x / 3))
