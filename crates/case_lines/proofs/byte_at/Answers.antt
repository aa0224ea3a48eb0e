-- `case_lines::byte_at` meets its contract: a byte is below 256.
use native.Mathlib.Omega.{arith}
use Rattle.case_lines.proofs.byte_at.Goals as goal

pub overflow_cast-result : goal.overflow_cast-result
overflow_cast-result c = omega (arith, c.type_inv.s c.args.i)

pub returns : goal.returns
returns c = omega (arith, c.type_inv.s c.args.i)
