-- `evaluation::vectors::triple` meets its contract. Assumes nothing.
use mathlib.Core.Path.{◌∙◌, ap}
use Rattle.specification.specs.Values.{Vec, dot}
use Rattle.evaluation.specs.Vectors.{vec_of}
use Rattle.integers.proofs.Machine.{back_is}
use Rattle.evaluation.proofs.Arithmetic.{triple-asks}
use Rattle.evaluation.proofs.vectors.triple.Goals as goal

pub dot-requires : goal.dot-requires
dot-requires c = let w = c in (triple-asks _ _ w.requires.0 w.requires.1 _ c.wedge.ensures, w.requires.2)

pub returns : goal.returns
returns c =
    let w = c in
    back_is (record { sfits = c.dot.type_inv }) ∙ c.dot.ensures ∙ ap (λ (v : Vec). dot v (vec_of w.args.c)) c.wedge.ensures
