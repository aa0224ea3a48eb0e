-- `log_texts::naming::to_formula` meets its contract: one byte after the other. Assumes nothing.
use Rattle.std.proofs.lemmas.Result.{err_from_is_err_and}
use Rattle.log_texts.proofs.Marks.{no_comma, no_m, formula_at}
use Rattle.log_texts.proofs.naming.to_formula.Goals as goal

pub returns-in_err-letter : goal.returns-in_err-letter
returns-in_err-letter c =
    let p = err_from_is_err_and c.from_residual.result c.from_residual.ensures.1 in
    rw (p.1, p.2) (no_comma c.args.line.now c.args.at _ c.in_err-letter.ensures)

pub returns-in_err-equals : goal.returns-in_err-equals
returns-in_err-equals c =
    let p = err_from_is_err_and c.from_residual-in_err-equals.result c.from_residual-in_err-equals.ensures.1 in
    rw (p.1, p.2) (no_m c.args.line.now c.args.at _ c.in_ok-letter.ensures _ c.in_err-equals.ensures)

pub returns : goal.returns
returns c = formula_at c.args.line.now c.args.at _ c.in_ok-letter.ensures _ c.in_ok-equals.ensures _ c.read_mark-3.ensures
