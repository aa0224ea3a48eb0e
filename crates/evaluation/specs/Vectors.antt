-- Vectors of three signed numbers as the specification's, and a bound on their components. Assumes nothing.
use Rattle.std.specs.Prelude.{ℕ, ◌≤◌, nat_abs}
use Rattle.specification.specs.Values.{Vec}
use Rattle.evaluation.specs.declared.vectors.Vector.{Vector}

-- the three components
unfoldable pub vec_of : Vector → Vec
vec_of v = record { x = v.x; y = v.y; z = v.z }

-- no component is larger than n in size
pub record Within (n : ℕ) (v : Vec) : Type 0 where
  pub x : nat_abs v.x ≤ n
  pub y : nat_abs v.y ≤ n
  pub z : nat_abs v.z ≤ n
