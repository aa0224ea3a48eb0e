-- `case_lines::print_vector` is safe and ends.
use Prim.Native.Nat.{◌*◌, ◌^◌, ◌≤◌, ◌<◌}
use native.Mathlib.Omega.{arith}
use lib.IntN.{ℤ, nat_abs}
use Rattle.integers.proofs.Machine.{back, fits_back}
use Rattle.evaluation.specs.Vectors.{vec_of}
use Rattle.case_lines.proofs.print_vector.Goals as goal

-- a component is read back, and has a size
printable : (z : ℤ) → nat_abs z ≤ 48 * 2 ^ 57 → nat_abs (back z) < 2 ^ 63
printable z h = rw (fits_back z (omega arith)) (omega arith)

pub print_number-requires : goal.print_number-requires
unfolding vec_of
print_number-requires c = let w = c in printable w.args.v.x w.requires.x

pub print_number-requires-2 : goal.print_number-requires-2
unfolding vec_of
print_number-requires-2 c = let w = c in printable w.args.v.y w.requires.y

pub print_number-requires-3 : goal.print_number-requires-3
unfolding vec_of
print_number-requires-3 c = let w = c in printable w.args.v.z w.requires.z
