-- `log_texts::reading::is_step_line` meets its contract. Assumes nothing.
use mathlib.Core.Path.{ap, ◌∙◌}
use Rattle.specification.specs.LogTexts.{is_step_line}
use Rattle.specification.specs.Lines.{is_word_at}
use Rattle.specification.specs.Words.{bytes}
use Rattle.log_texts.proofs.reading.is_step_line.Goals as goal

pub returns : goal.returns
unfolding is_step_line bytes
returns c =
    c.is_word_at.ensures ∙ ap (is_word_at (bytes "rule") c.args.line.now) c.past_blanks-at.ensures
