-- `unpack_word::unpack_text` meets its contract. Assumes nothing.
use native.Mathlib.Omega.{arith}
use Rattle.unpack_word.proofs.Texts.{nothing-told, cut-told, parts-told}
use Rattle.unpack_word.proofs.unpack_text.Goals as goal

pub returns-then-n-eq0 : goal.returns-then-n-eq0
returns-then-n-eq0 c = nothing-told _ _ _ c.if-n-eq0.true _ c.number.ensures c.tell_refused.ensures

pub overflow_cast-k : goal.overflow_cast-k
overflow_cast-k c = omega (arith, c.type_inv.s 0)

pub overflow_add-k : goal.overflow_add-k
overflow_add-k c = omega (arith, c.type_inv.s 0)

pub returns-then-n-k : goal.returns-then-n-k
returns-then-n-k c =
    cut-told _ _ _ c.if-n-eq0.false c.if-n-k.true _ c.number-then-n-k.ensures c.tell_refused-then-n-k.ensures

pub returns : goal.returns
returns c =
    parts-told _ _ _ c.if-n-k.false c.unpack_log.ensures
