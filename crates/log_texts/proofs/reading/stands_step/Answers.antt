-- `log_texts::reading::stands_step` meets its contract. Assumes nothing.
use mathlib.Core.Path.{ap, ◌∙◌}
use Rattle.specification.specs.LogTexts.{is_step_line}
use Rattle.lines.proofs.Ends.{line_at}
use Rattle.log_texts.proofs.reading.stands_step.Goals as goal

pub returns : goal.returns
returns c =
    c.is_step_line.ensures ∙ ap is_step_line (line_at _ c.args.p _ c.line_end-end.ensures)
