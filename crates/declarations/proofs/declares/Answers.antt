-- `declarations::declares` meets its contract. Assumes nothing.
use Rattle.std.proofs.Common.{rules}
use Rattle.lines.proofs.Ends.{line_at}
use Rattle.specification.specs.Lines.{is_declaration}
use mathlib.Core.Path.{ap, ◌∙◌}
use Rattle.declarations.proofs.declares.Goals as goal

pub returns : goal.returns
returns c = c.is_declaration.ensures ∙ ap is_declaration (line_at _ c.args.p _ c.line_end-end.ensures)
