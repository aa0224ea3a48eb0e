-- `assignment_texts::numbers::read_value` meets its contract. Assumes nothing.
use native.Mathlib.Omega.{arith}
use Rattle.std.proofs.lemmas.Result.{err_from_is_err_and}
use Rattle.assignment_texts.proofs.Values.{value_vector, value_torn, value_scalar}
use Rattle.assignment_texts.proofs.numbers.read_value.Goals as goal

pub returns-then-kind-ne0 : goal.returns-then-kind-ne0
returns-then-kind-ne0 c = value_vector c.args.kind c.args.line.now c.args.at _ c.if-kind-ne0.true c.read_three.ensures

pub returns-in_err-x : goal.returns-in_err-x
returns-in_err-x c =
    let p = err_from_is_err_and c.from_residual.result c.from_residual.ensures.1 in
    rw (p.1, p.2) (value_torn c.args.kind c.args.line.now c.args.at c.if-kind-ne0.false _ c.in_err-x.ensures)

pub returns : goal.returns
returns c = value_scalar c.args.kind c.args.line.now c.args.at c.if-kind-ne0.false _ c.in_ok-x.ensures
