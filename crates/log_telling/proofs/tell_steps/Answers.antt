-- `log_telling::tell_steps` meets its contract. Assumes nothing.
use mathlib.Core.Path.{sym}
use native.Mathlib.Omega.{arith}
use lib.Seq.{length-take-le}
use Rattle.log_telling.proofs.Pieces.{steps-fit, steps-told}
use Rattle.log_telling.proofs.tell_steps.Goals as goal

pub slice_bounds-lines-end : goal.slice_bounds-lines-end
slice_bounds-lines-end c =
    omega (arith, steps-fit c.args.names.now _ _ _ _ c.requires c.print_steps-n.ensures, c.print_steps-n.auto.out)

pub slice_bounds-put-end : goal.slice_bounds-put-end
slice_bounds-put-end c =
    sym (length-take-le _ c.print_steps-n.new.out (omega (
      arith,
      steps-fit c.args.names.now _ _ _ _ c.requires c.print_steps-n.ensures,
      c.print_steps-n.auto.out,
    )))

pub returns : goal.returns
returns c =
    steps-told _ c.print_steps-n.ensures c.put.ensures
