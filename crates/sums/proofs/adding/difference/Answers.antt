-- `sums::adding::difference` meets its contract: the sum with the negation. Assumes nothing.
use Rattle.std.proofs.Common.{rules}
use mathlib.Core.Path.{ap}
use Rattle.specification.specs.Reduction.{sum_forms}
use Rattle.rows.proofs.RowForms.{rows_as}
use Rattle.sums.proofs.Sums.{form-negated, negated-run}
use native.Mathlib.Omega.{arith}
use Rattle.sums.proofs.adding.difference.Goals as goal

pub sum-requires : goal.sum-requires
sum-requires c =
    let p = c.requires in
    (p.0, negated-run _ _ _ _ _ c.negate.ensures p.1 (omega (arith, p.1.run.beside)), p.2, p.3)

pub returns : goal.returns
returns c =
    rows_as _ _ _ _ _ (ap (sum_forms _) (form-negated _ _ _ _ _ c.negate.ensures))
    c.sum.ensures
