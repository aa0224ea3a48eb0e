-- `value_telling::tell_vector` meets its contract, piece by piece. Assumes nothing.
use mathlib.Core.Path.{◌∙◌}
use Rattle.specification.specs.Commands.{value_text}
use Rattle.specification.specs.Words.{bytes}
use Rattle.evaluation.specs.Vectors.{vec_of}
use Rattle.telling.proofs.Pieces.{tells-then}
use Rattle.value_telling.proofs.Values.{size-told, number-told}
use Rattle.value_telling.proofs.tell_vector.Goals as goal

pub put_signed-b-requires : goal.put_signed-b-requires
unfolding vec_of
put_signed-b-requires c = size-told c.args.v.x c.requires.x

pub put_signed-d-requires : goal.put_signed-d-requires
unfolding vec_of
put_signed-d-requires c =
    size-told c.args.v.y c.requires.y

pub put_signed-f-requires : goal.put_signed-f-requires
unfolding vec_of
put_signed-f-requires c =
    size-told c.args.v.z c.requires.z

pub shape_of-out : goal.shape_of-out
shape_of-out c =
    c.put.auto.out ∙ c.put_signed-f.auto.out ∙ c.put-e.auto.out ∙ c.put_signed-d.auto.out ∙ c.put-c.auto.out
    ∙ c.put_signed-b.auto.out ∙ c.put-a.auto.out

pub returns : goal.returns
unfolding vec_of bytes value_text
returns c =
    let x = number-told c.args.v.x c.requires.x c.put_signed-b.ensures in
    let y = number-told c.args.v.y c.requires.y c.put_signed-d.ensures in
    let z = number-told c.args.v.z c.requires.z c.put_signed-f.ensures in
    tells-then (tells-then (tells-then (tells-then (tells-then (tells-then c.put-a.ensures x) c.put-c.ensures) y) c.put-e.ensures) z)
    c.put.ensures
