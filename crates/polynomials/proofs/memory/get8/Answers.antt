-- `polynomials::memory::get8` meets its contract. Assumes nothing.
use native.Mathlib.Omega.{arith}
use Rattle.polynomials.specs.Memory.{eight}
use Rattle.polynomials.proofs.memory.get8.Goals as goal

pub returns : goal.returns
unfolding eight
returns c = omega (arith, c.from_le_bytes.ensures)
