-- `symbols::print_size` meets its contract: nothing where the size is left out, else its digits. Assumes nothing.
use mathlib.Core.Path.{◌≡◌, ap, ◌∙◌}
use native.Mathlib.Omega.{arith}
use lib.IntN.{nat_abs}
use lib.ListN.{length}
use mir.Syntax.{w64}
use mir.Val.{SFits}
use Rattle.integers.proofs.Machine.{back_is}
use Rattle.record_writing.proofs.Writes.{written_none}
use Rattle.record_writing.proofs.Terms.{coef_size_lem}
use Rattle.terms.specs.Abstraction.{term_of}
use Rattle.symbols.specs.Text.{other_letters}
use Rattle.symbols.proofs.Pieces.{size_left-out, size-decimal}
use Rattle.symbols.proofs.Progress.{written_as_lem}
use Rattle.symbols.proofs.print_size.Goals.{After-size-n}
use Rattle.symbols.proofs.print_size.Goals as goal

-- the size of the coefficient, which is of 64 bits
sized : (c : After-size-n) → c.size-n.result ≡ nat_abs c.args.t.coef
sized c = let h : SFits w64 c.args.t.coef = record { sfits = c.type_inv.t.0.1 } in c.size-n.ensures ∙ ap nat_abs (back_is h)

pub size-n-requires : goal.size-n-requires
size-n-requires c =
    let h : SFits w64 c.args.t.coef = record { sfits = c.type_inv.t.0.1 } in
    omega (arith, ap nat_abs (back_is h), coef_size_lem c.args.t c.requires.0)

pub is_left_out-requires : goal.is_left_out-requires
is_left_out-requires c = c.requires.0.counted

pub returns-then-is_left_out : goal.returns-then-is_left_out
returns-then-is_left_out c =
    written_none _ _ _ (size_left-out _ _ _ _ (sized (goal.at.returns-then-is_left_out c).After-size-n) c.is_left_out.ensures c.if-is_left_out.true)

pub print_decimal-requires : goal.print_decimal-requires
print_decimal-requires c =
    let sz = sized (goal.at.print_decimal-requires c).After-size-n in
    let e = size-decimal c.args.t.coef c.size-n.result (other_letters (term_of c.args.t)) c.is_left_out.result sz
    c.is_left_out.ensures c.if-is_left_out.false in
    (omega (arith, sz, coef_size_lem c.args.t c.requires.0), omega (arith, ap length e, c.requires.1))

pub returns : goal.returns
returns c =
    written_as_lem _ _ _ _ _ _ (size-decimal _ _ _ _ (sized (goal.at.returns c).After-size-n) c.is_left_out.ensures c.if-is_left_out.false)
    c.print_decimal.ensures
