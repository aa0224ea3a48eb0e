-- `symbols::print_decimal` meets its contract: the digits of a tenth, then one more. Assumes nothing.
use mathlib.Core.Path.{refl, ap}
use mathlib.Core.List.{[], ◌∷◌}
use native.Mathlib.Omega.{arith}
use lib.ListN.{length}
use Rattle.record_writing.proofs.Writes.{written_stores}
use Rattle.symbols.proofs.Decimals.{digit_is, tenth-room, last_written}
use Rattle.symbols.proofs.+print_decimal.Goals as goal

pub bounds-out-at : goal.bounds-out-at
bounds-out-at t c = omega (arith, ap length (digit_is _ _ c.if-n-lt10.true c.digit.ensures), c.requires.1)

pub returns-then-n-lt10 : goal.returns-then-n-lt10
returns-then-n-lt10 t c = written_stores _ _ _ _ (_ ∷ []) _ (digit_is _ _ c.if-n-lt10.true c.digit.ensures) c.requires.1 refl refl

pub print_decimal-next-requires : goal.print_decimal-next-requires
print_decimal-next-requires t c =
    let h = tenth-room _ _ _ c.if-n-lt10.false c.requires.0 c.requires.1 in
    (omega (arith, c.decreases), (omega (arith, c.requires.0), omega arith))

pub bounds-out-next : goal.bounds-out-next
bounds-out-next t c =
    omega (
      arith,
      tenth-room _ _ _ c.if-n-lt10.false c.requires.0 c.requires.1,
      c.print_decimal-next.ensures.ends,
      c.print_decimal-next.auto.out,
    )

pub overflow_add-result-2 : goal.overflow_add-result-2
overflow_add-result-2 t c = omega (arith, bounds-out-next t c)

pub returns : goal.returns
returns t c =
    last_written _ _ _ _ _ _ c.if-n-lt10.false c.requires.0 c.digit-2.ensures c.requires.1
    c.print_decimal-next.ensures
