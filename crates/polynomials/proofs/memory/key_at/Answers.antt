-- `polynomials::memory::key_at` meets its contract. Assumes nothing.
use native.Mathlib.Omega.{arith}
use Rattle.polynomials.proofs.Bytes.{within, key_read}
use Rattle.polynomials.proofs.memory.key_at.Goals as goal

pub overflow_mul-i : goal.overflow_mul-i
overflow_mul-i c = omega (arith, within _ _ c.requires)

pub get8-requires : goal.get8-requires
get8-requires c = omega (arith, within _ _ c.requires)

pub returns : goal.returns
returns c = key_read _ _ _ c.requires c.get8.ensures
