-- `log_texts::kinds::formula_from` meets its contract. Assumes nothing.
use native.Mathlib.Omega.{arith}
use Rattle.log_texts.proofs.Told.{column_inside, from_refused, from_given}
use Rattle.log_texts.proofs.kinds.formula_from.Goals as goal

pub overflow_add-result : goal.overflow_add-result
overflow_add-result c =
    let a = c.args in
    omega (arith, column_inside a.names.now a.table.now a.line.now a.at _ c.in-Err.ensures c.requires.1)

pub returns-in-Err : goal.returns-in-Err
returns-in-Err c =
    let a = c.args in
    from_refused a.names.now a.table.now a.line.now a.at _ c.in-Err.ensures

pub returns-in-Ok : goal.returns-in-Ok
returns-in-Ok c =
    let a = c.args in
    from_given a.names.now a.table.now a.line.now a.at _ c.in-Ok.ensures
