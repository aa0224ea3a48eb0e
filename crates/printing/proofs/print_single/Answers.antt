-- `printing::print_single` meets its contract: the sign, then the term. Assumes nothing.
use mathlib.Core.Path.{sym, ap}
use native.Mathlib.Omega.{arith}
use Rattle.specification.specs.Printing.{print_first_sign}
use Rattle.integers.proofs.Machine.{back_is}
use Rattle.record_writing.specs.Written.{Written}
use Rattle.symbols.proofs.Pieces.{first_short}
use Rattle.symbols.proofs.Progress.{written_as_lem}
use Rattle.printing.proofs.Texts.{single_written}
use Rattle.printing.proofs.print_single.Goals.{After-print_first_sign-behind}
use Rattle.printing.proofs.print_single.Goals as goal

-- the sign is written
signed : (c : After-print_first_sign-behind) → let s = c in
    Written s.args.out.now c.print_first_sign-behind.new.out s.args.at c.print_first_sign-behind.result (print_first_sign s.args.t.coef)
signed c = written_as_lem _ _ _ _ _ _ (ap print_first_sign (sym (back_is (record { sfits = c.type_inv.t.0.1 })))) c.print_first_sign-behind.ensures

pub print_term-requires : goal.print_term-requires
print_term-requires c =
    let w = c in
    let s = c in
    (s.requires.0, omega (arith, s.requires.1, (signed (goal.at.print_term-requires c).After-print_first_sign-behind).ends, w.print_first_sign-behind.auto.out, first_short s.args.t.coef))

pub returns : goal.returns
returns c =
    let w = c in
    let s = c in
    single_written s.args.names.now s.args.t _ _ _ _ _ _ (omega (arith, s.requires.1)) (signed (goal.at.returns c).After-print_first_sign-behind) c.print_term.ensures
