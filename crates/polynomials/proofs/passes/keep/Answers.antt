-- `polynomials::passes::keep` meets its contract. Assumes nothing.
use mathlib.Core.Path.{ap, sym, ◌∙◌}
use native.Mathlib.Omega.{arith}
use Rattle.specification.specs.Terms.{is_zero}
use Rattle.integers.proofs.Machine.{back_is}
use Rattle.polynomials.proofs.Bytes.{within}
use Rattle.polynomials.proofs.Turns.{keep_none, keep_one}
use Rattle.polynomials.proofs.passes.keep.Goals as goal

pub returns-then-is_zero : goal.returns-then-is_zero
returns-then-is_zero c = keep_none _ _ _ _ (ap is_zero (sym (back_is c.ranges.coef)) ∙ sym c.is_zero.ensures ∙ c.if-is_zero.true)

pub overflow_add-result : goal.overflow_add-result
overflow_add-result c = omega (arith, within _ _ c.requires)

pub returns : goal.returns
returns c =
    keep_one _ _ _ _ _ c.requires
    (ap is_zero (sym (back_is c.ranges.coef))
    ∙ sym c.is_zero.ensures
    ∙ c.if-is_zero.false) _ (back_is c.ranges.coef) c.put.ensures
