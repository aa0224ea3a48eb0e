-- `assignment_texts::one_assigned` meets its contract. Assumes nothing.
use native.Mathlib.Omega.{arith}
use Rattle.std.proofs.lemmas.Result.{err_from_is_err_and}
use Rattle.assignment_texts.proofs.Turns.{turn-unnamed, turn-unequal, turn_unvalued, turn-put}
use Rattle.assignment_texts.proofs.one_assigned.Goals as goal

pub returns-in_err-name : goal.returns-in_err-name
returns-in_err-name c =
    let a = c.args in
    let p = err_from_is_err_and c.from_residual.result c.from_residual.ensures.1 in
    rw (p.1, p.2) (turn-unnamed a.names.now a.table.now a.line.now a.at a.so.now _ c.in_err-name.ensures)

pub returns-in_err-equals : goal.returns-in_err-equals
returns-in_err-equals c =
    let a = c.args in
    let p = err_from_is_err_and c.from_residual-in_err-equals.result c.from_residual-in_err-equals.ensures.1 in
    rw (p.1, p.2) (turn-unequal a.names.now a.table.now a.line.now a.at a.so.now _ c.in_ok-name.ensures _ c.in_err-equals.ensures)

pub kind_of-requires : goal.kind_of-requires
kind_of-requires c = omega (arith, c.in_ok-name.ensures.known, c.requires.0.fit)

pub returns-in_err-v : goal.returns-in_err-v
returns-in_err-v c =
    let a = c.args in
    let p = err_from_is_err_and c.from_residual-in_err-v.result c.from_residual-in_err-v.ensures.1 in
    rw (p.1, p.2) (turn_unvalued a.names.now a.table.now a.line.now a.at a.so.now _ c.in_ok-name.ensures _ c.in_ok-equals.ensures _ c.kind_of.ensures _ c.in_err-v.ensures)

pub put_three-requires : goal.put_three-requires
put_three-requires c = omega (arith, c.in_ok-name.ensures.known, c.requires.0.fit, c.requires.1)

pub returns : goal.returns
returns c =
    let a = c.args in
    turn-put a.names.now a.table.now a.line.now a.at a.so.now _ c.in_ok-name.ensures _ c.in_ok-equals.ensures _ c.kind_of.ensures _ c.in_ok-v.ensures _ c.put_three.ensures
