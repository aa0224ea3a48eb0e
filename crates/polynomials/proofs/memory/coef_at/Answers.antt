-- `polynomials::memory::coef_at` meets its contract. Assumes nothing.
use mathlib.Core.Path.{ap, ◌∙◌}
use native.Mathlib.Omega.{arith}
use mir.Syntax.{w64}
use mir.Val.{to_z}
use Rattle.integers.proofs.Machine.{back_is}
use Rattle.polynomials.proofs.Bytes.{within, coef_read}
use Rattle.polynomials.proofs.memory.coef_at.Goals as goal

pub overflow_mul-i : goal.overflow_mul-i
overflow_mul-i c = omega (arith, within _ _ c.requires)

pub overflow_add-i : goal.overflow_add-i
overflow_add-i c = omega (arith, within _ _ c.requires)

pub get8-requires : goal.get8-requires
get8-requires c = omega (arith, within _ _ c.requires)

pub returns : goal.returns
returns c = coef_read _ _ _ c.requires (back_is (record { sfits = c.cast_signed.type_inv }) ∙ c.cast_signed.ensures ∙ ap (to_z w64) c.get8.ensures)
