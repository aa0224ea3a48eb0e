use native.Mathlib.Omega.{arith}
use Rattle.specification.specs.Reduction.{sum_forms}
use Rattle.replacing.proofs.Multiplied.{refused_on, given_on}
use Rattle.refusal.proofs.Passing.{passed_up}
use Rattle.form_trees.proofs.add_term.Goals as goal

pub returns-in_err-y : goal.returns-in_err-y
returns-in_err-y c = rw (passed_up _ _ c.from_residual.ensures.1) (refused_on (sum_forms _) _ _ _ _ c.in_err-y.ensures _ _)

pub sum-requires : goal.sum-requires
sum-requires c =
    let p = c.requires in (p.2, c.in_ok-y.ensures.form, omega (arith, p.1.room), omega (arith, p.1.beside))

pub returns : goal.returns
returns c = given_on (sum_forms _) _ _ _ _ c.in_ok-y.ensures _ _ _ c.sum.ensures
