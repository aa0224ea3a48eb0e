-- `printing::print_terms` meets its contract: before each turn the terms from i on are left, and there are 29 bytes of room for each. Assumes nothing.
use Rattle.std.proofs.Common.{rules}
use mathlib.Core.Path.{◌≡◌, sym, ap}
use mathlib.Core.List.{List}
use Prim.Native.Nat.{ℕ, ◌+◌, ◌≤◌}
use native.Mathlib.Omega.{arith}
use lib.ListN.{length, get_or}
use mir.Syntax.{w64}
use mir.Val.{SFits}
use Rattle.specification.specs.Printing.{print_sign}
use Rattle.integers.proofs.Machine.{back_is}
use Rattle.terms.specs.declared.types.Term.{Term}
use Rattle.terms.proofs.Arrays.{no_term}
use Rattle.record_writing.specs.Written.{Written}
use Rattle.record_writing.proofs.Writes.{written_then}
use Rattle.symbols.specs.Printable.{TermPrintable}
use Rattle.symbols.proofs.Pieces.{later_short}
use Rattle.symbols.proofs.Progress.{written_as_lem, begins, goes_on_lem, ended}
use Rattle.printing.proofs.Texts.{signed_short, term_next, terms-end, term-printable}
use Rattle.printing.proofs.print_terms.Goals.{After-print_sign-from, After-struct_told-1, Start}
use Rattle.printing.proofs.print_terms.Goals as goal

-- there are 48 places
places : (c : Start) → length c.args.f.terms ≡ 48
places c = search rules

-- so that the terms are among them
few : (c : Start) → c.args.f.count ≤ length c.args.f.terms
few c = omega (arith, places c, c.requires.0.valid.few)

-- the term of a turn
abbrev term : List Term → ℕ → Term
term terms i = get_or terms i no_term

-- it can be printed
printed : (c : After-struct_told-1) → TermPrintable c.args.names.now (term c.args.f.terms c.loop-i.i)
printed c =
    let e : length c.args.f.terms ≡ 48 = search rules in
    let h : c.args.f.count ≤ length c.args.f.terms = omega (arith, c.requires.0.valid.few) in
    term-printable c.args.names.now c.args.f _ no_term c.requires.0 h c.loop-i-test.true

-- its sign is written
signed : (c : After-print_sign-from)
    → Written c.loop-i.out c.print_sign-from.new.out c.loop-i.next c.print_sign-from.result (print_sign (term c.args.f.terms c.loop-i.i).coef)
signed c =
    let h : SFits w64 (term c.args.f.terms c.loop-i.i).coef = record { sfits = c.type_inv.t.0.1 } in
    written_as_lem _ _ _ _ _ _ (ap print_sign (sym (back_is h))) c.print_sign-from.ensures

pub loop-i-init : goal.loop-i-init
loop-i-init c = (omega arith, c.requires.1, begins _ _ _)

pub offset_bounds-f-i : goal.offset_bounds-f-i
offset_bounds-f-i c = omega (arith, c.requires.0.valid.few)

pub bounds-f-i : goal.bounds-f-i
bounds-f-i c = omega (arith, c.requires.0.valid.few)

pub print_sign-from-requires : goal.print_sign-from-requires
print_sign-from-requires c = omega (arith, c.loop-i.invariant.1)

pub print_term-next-requires : goal.print_term-next-requires
print_term-next-requires c =
    let w = (signed (goal.at.print_term-next-requires c).After-print_sign-from).ends in (
      printed (goal.at.print_term-next-requires c).After-struct_told-1,
      omega (arith, c.loop-i.invariant.1, c.loop-i-test.true, w, c.print_sign-from.auto.out, later_short (term c.args.f.terms c.loop-i.i).coef),
    )

pub loop-i-preserved : goal.loop-i-preserved
loop-i-preserved c =
    let h = signed_short c.args.names.now (term c.args.f.terms c.loop-i.i) (printed (goal.at.loop-i-preserved c).After-struct_told-1).valid in
    let r : c.loop-i.next + 29 ≤ length c.loop-i.out = omega (arith, c.loop-i.invariant.1, c.loop-i-test.true) in
    let e = written_then _ _ _ _ _ _ _ _ (omega arith) (signed (goal.at.loop-i-preserved c).After-print_sign-from) c.print_term-next.ensures in (
      omega arith,
      omega (arith, c.loop-i.invariant.1, c.loop-i-test.true, e.ends, h, c.print_term-next.auto.out, c.print_sign-from.auto.out),
      goes_on_lem _ _ _ _ _ _ _ _ _ _ (term_next _ _ _ _ no_term (few (goal.at.loop-i-preserved c).Start) c.loop-i-test.true) (omega arith)
          c.loop-i.invariant.2 e,
    )

pub shape_of-out : goal.shape_of-out
shape_of-out c = c.loop-i.invariant.2.kept

pub returns : goal.returns
returns c = ended _ _ _ _ _ _ (terms-end _ _ _ _ no_term (few (goal.at.returns c).Start) c.loop-i-test.false) c.loop-i.invariant.2
