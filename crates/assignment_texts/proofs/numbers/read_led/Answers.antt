-- `assignment_texts::numbers::read_led` meets its contract. Assumes nothing.
use native.Mathlib.Omega.{arith}
use Rattle.std.proofs.lemmas.Result.{err_from_is_err_and}
use Rattle.assignment_texts.proofs.Values.{led-torn, led_by_lem}
use Rattle.assignment_texts.proofs.numbers.read_led.Goals as goal

pub returns-in_err-first : goal.returns-in_err-first
returns-in_err-first c =
    let p = err_from_is_err_and c.from_residual.result c.from_residual.ensures.1 in
    rw (p.1, p.2) (led-torn c.args.b c.args.line.now c.args.at _ c.in_err-first.ensures)

pub returns : goal.returns
returns c = led_by_lem c.args.b c.args.line.now c.args.at _ c.in_ok-first.ensures _ c.read_component.ensures
