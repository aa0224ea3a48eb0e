-- `open_log::closing::is_reached` meets its contract. Assumes nothing.
use mathlib.Core.Path.{◌∙◌, ap}
use Rattle.specification.specs.Logs.{same_form}
use Rattle.terms.specs.Abstraction.{form_of}
use Rattle.rows.proofs.RowForms.{held_is}
use Rattle.open_log.proofs.closing.is_reached.Goals as goal

pub returns : goal.returns
returns c =
    let c5 = c in
    let s = c in
    c.same_form.ensures ∙ ap (same_form (form_of s.args.last)) (held_is s.args.reached _ _ c5.hold.ensures)
