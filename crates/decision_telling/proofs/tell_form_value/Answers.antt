-- `decision_telling::tell_form_value` meets its contract. Assumes nothing.
use mathlib.Core.Path.{ap}
use Rattle.specification.specs.Commands.{value_text}
use Rattle.terms.specs.Abstraction.{form_of}
use Rattle.telling.proofs.Pieces.{tells_as}
use Rattle.value_telling.proofs.Values.{form_small}
use Rattle.decision_telling.proofs.tell_form_value.Goals as goal

pub tell_value-requires : goal.tell_value-requires
tell_value-requires c =
    form_small _ _ _ c.requires.0 c.requires.1 c.form_value-v.ensures

pub returns : goal.returns
unfolding form_of
returns c =
    tells_as _ (ap (value_text c.args.f.kind) c.form_value-v.ensures) c.tell_value.ensures
