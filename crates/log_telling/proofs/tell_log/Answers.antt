-- `log_telling::tell_log` meets its contract, line after line. Assumes nothing.
use Rattle.specification.specs.LogTexts.{log_text}
use Rattle.telling.proofs.Pieces.{tells-then}
use Rattle.log_telling.proofs.tell_log.Goals as goal

pub returns : goal.returns
unfolding log_text
returns c =
    tells-then (tells-then (tells-then c.tell_names_line-first.ensures c.tell_form-steps.ensures) c.tell_steps-last.ensures) c.tell_form.ensures
