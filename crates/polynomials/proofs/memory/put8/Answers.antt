-- `polynomials::memory::put8` meets its contract. Assumes nothing.
use mathlib.Core.Path.{◌∙◌}
use native.Mathlib.Omega.{arith}
use Rattle.polynomials.proofs.Bytes.{eight_stored}
use Rattle.polynomials.proofs.memory.put8.Goals as goal

pub returns : goal.returns
returns c = eight_stored _ _ _ _ _ c.requires (omega arith) (c.copy_from_slice.ensures.after ∙ c.to_le_bytes.ensures)
