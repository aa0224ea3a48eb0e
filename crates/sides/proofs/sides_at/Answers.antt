-- `sides::sides_at` meets its contract. Assumes nothing.
use mathlib.Core.Path.{ap}
use Rattle.specification.specs.Commands.{read_sides}
use Rattle.lines.proofs.Ends.{line_at}
use Rattle.sides.proofs.Pairs.{sides_as}
use Rattle.sides.proofs.sides_at.Goals as goal

pub returns : goal.returns
returns c =
    let a = c.args in
    sides_as _ _ _ _ (ap (read_sides a.names.now a.table.now) (line_at a.s.now a.p _ c.line_end-end.ensures)) c.read_sides.ensures
