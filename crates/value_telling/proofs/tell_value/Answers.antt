-- `value_telling::tell_value` meets its contract. Assumes nothing.
use Rattle.evaluation.specs.Vectors.{vec_of}
use Rattle.value_telling.proofs.Values.{size-told, number-told, value_scalar, value_vector}
use Rattle.value_telling.proofs.tell_value.Goals as goal

pub put_signed-requires : goal.put_signed-requires
unfolding vec_of
put_signed-requires c = size-told c.args.v.x c.requires.x

pub returns-then-kind-eq0 : goal.returns-then-kind-eq0
unfolding vec_of
returns-then-kind-eq0 c =
    value_scalar _ _ c.if-kind-eq0.true (number-told c.args.v.x c.requires.x c.put_signed.ensures)

pub returns : goal.returns
returns c = value_vector _ _ c.if-kind-eq0.false c.tell_vector.ensures
