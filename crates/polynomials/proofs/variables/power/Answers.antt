-- `polynomials::variables::power` meets its contract: the power is small, so that nothing is lost. Assumes nothing.
use native.Mathlib.Omega.{arith}
use native.Mathlib.Nat.{le_refl}
use Rattle.polynomials.proofs.Digits.{power_small, power-fits, power-is}
use Rattle.polynomials.proofs.variables.power.Goals as goal

pub pow-requires : goal.pow-requires
pow-requires c = omega (arith, power_small _ _ c.requires.0 c.requires.1)

pub overflow_cast-result : goal.overflow_cast-result
overflow_cast-result c = power-fits _ _ c.requires.0 c.requires.1 _ _ (le_refl _) c.pow.ensures

pub returns : goal.returns
returns c = power-is _ _ c.requires.0 c.requires.1 _ _ (le_refl _) (le_refl _) c.pow.ensures
