-- `assignment_texts::numbers::read_three` meets its contract. Assumes nothing.
use native.Mathlib.Omega.{arith}
use Rattle.std.proofs.lemmas.Result.{err_from_is_err_and}
use Rattle.assignment_texts.proofs.Values.{three_first, three-second, three_third, three-open, three-there}
use Rattle.assignment_texts.proofs.numbers.read_three.Goals as goal

pub returns-in_err-x : goal.returns-in_err-x
returns-in_err-x c =
    let p = err_from_is_err_and c.from_residual.result c.from_residual.ensures.1 in
    rw (p.1, p.2) (three_first c.args.line.now c.args.at _ c.in_err-x.ensures)

pub returns-in_err-y : goal.returns-in_err-y
returns-in_err-y c =
    let p = err_from_is_err_and c.from_residual-in_err-y.result c.from_residual-in_err-y.ensures.1 in
    rw (p.1, p.2) (three-second c.args.line.now c.args.at _ c.in_ok-x.ensures _ c.in_err-y.ensures)

pub returns-in_err-z : goal.returns-in_err-z
returns-in_err-z c =
    let p = err_from_is_err_and c.from_residual-in_err-z.result c.from_residual-in_err-z.ensures.1 in
    rw (p.1, p.2) (three_third c.args.line.now c.args.at _ c.in_ok-x.ensures _ c.in_ok-y.ensures _ c.in_err-z.ensures)

pub returns-in_err-end : goal.returns-in_err-end
returns-in_err-end c =
    let p = err_from_is_err_and c.from_residual-in_err-end.result c.from_residual-in_err-end.ensures.1 in
    rw (p.1, p.2) (three-open c.args.line.now c.args.at _ c.in_ok-x.ensures _ c.in_ok-y.ensures _ c.in_ok-z.ensures _ c.in_err-end.ensures)

pub returns : goal.returns
returns c = three-there c.args.line.now c.args.at _ c.in_ok-x.ensures _ c.in_ok-y.ensures _ c.in_ok-z.ensures _ c.in_ok-end.ensures
