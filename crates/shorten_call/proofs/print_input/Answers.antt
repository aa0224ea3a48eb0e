use native.Mathlib.Omega.{arith}
use Rattle.shorten_call.proofs.Calls.{nothing_there, table-cut, parts-printed}
use Rattle.shorten_call.proofs.print_input.Goals as goal

pub returns-then-n-eq0 : goal.returns-then-n-eq0
returns-then-n-eq0 c = nothing_there _ _ _ _ c.if-n-eq0.true _ c.number.ensures c.print_refusal.ensures

pub overflow_cast-k : goal.overflow_cast-k
overflow_cast-k c = omega (arith, c.type_inv.s 0)

pub overflow_add-k : goal.overflow_add-k
overflow_add-k c = omega (arith, c.type_inv.s 0)

pub returns-then-n-k : goal.returns-then-n-k
returns-then-n-k c = table-cut _ _ _ _ c.if-n-eq0.false c.if-n-k.true _ c.number-then-n-k.ensures c.print_refusal-then-n-k.ensures

pub returns : goal.returns
returns c = parts-printed _ _ _ _ c.if-n-k.false c.print_shortened.ensures
