-- `formulas::reading::is_number` meets its contract. Assumes nothing.
use Rattle.formulas.proofs.Marks.{number-none, number-digit}
use Rattle.formulas.proofs.reading.is_number.Goals as goal

pub returns-then-not-number : goal.returns-then-not-number
returns-then-not-number c = number-none c.args.number c.args.b c.if-not-number.true

pub returns : goal.returns
returns c = number-digit c.args.number _ _ c.if-not-number.false c.is_digit.ensures
