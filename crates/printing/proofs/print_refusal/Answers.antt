-- `printing::print_refusal` meets its contract: R, the digits and a newline. Assumes nothing.
use mathlib.Core.Path.{◌∙◌}
use native.Mathlib.Omega.{arith}
use lib.ListN.{length-set}
use Rattle.symbols.proofs.Decimals.{decimal_short}
use Rattle.printing.proofs.Texts.{refusal_written}
use Rattle.printing.proofs.print_refusal.Goals as goal

pub print_decimal-last-requires : goal.print_decimal-last-requires
print_decimal-last-requires c = (omega (arith, c.ranges.n.fits), simp length-set (omega (arith, decimal_short c.args.n, c.requires)))

pub bounds-out-last : goal.bounds-out-last
bounds-out-last c =
    let s = c in
    (refusal_written _ s.args.out.now _ _ s.requires c.print_decimal-last.ensures).0

pub overflow_add-result : goal.overflow_add-result
overflow_add-result c = omega (arith, c.print_decimal-last.ensures.ends, decimal_short c.args.n)

pub shape_of-out : goal.shape_of-out
shape_of-out c = simp length-set (c.print_decimal-last.auto.out ∙ simp length-set)

pub returns : goal.returns
returns c =
    let s = c in
    (refusal_written _ s.args.out.now _ _ s.requires c.print_decimal-last.ensures).1
