-- `lines::places::stands_empty` meets its contract. Assumes nothing.
use Rattle.std.proofs.Common.{rules}
use mathlib.Core.Path.{ap, ◌∙◌}
use Rattle.specification.specs.Lines.{is_empty_line}
use Rattle.lines.proofs.Ends.{line_at}
use Rattle.lines.proofs.places.stands_empty.Goals as goal

pub returns : goal.returns
returns c = c.is_empty_line.ensures ∙ ap is_empty_line (line_at _ c.args.p _ c.line_end-end.ensures)
