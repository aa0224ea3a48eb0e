-- `printing::print_form` meets its contract: 0, or the first term and then the others. Assumes nothing.
use Rattle.std.proofs.Common.{rules}
use mathlib.Core.Path.{◌≡◌, ◌∙◌}
use mathlib.Core.List.{List}
use Prim.Native.Nat.{◌≤◌, ◌<◌}
use native.Mathlib.Omega.{arith}
use lib.ListN.{length, get_or}
use Rattle.terms.specs.declared.types.Term.{Term}
use Rattle.terms.proofs.Arrays.{no_term}
use Rattle.symbols.specs.Printable.{TermPrintable}
use Rattle.printing.proofs.Texts.{empty_written, single_short, form_written, term-printable}
use Rattle.printing.proofs.print_form.Goals.{Else-f-eq0, Start}
use Rattle.printing.proofs.print_form.Goals as goal

-- there are 48 places
places : (c : Start) → length c.args.f.terms ≡ 48
places c = search rules

-- so that the terms are among them
few : (c : Start) → c.args.f.count ≤ length c.args.f.terms
few c = omega (arith, places c, c.requires.0.valid.few)

-- there is a first term
some : (c : Else-f-eq0) → 0 < c.args.f.count
some c = let h = c.if-f-eq0.false in search rules

abbrev first : List Term → Term
first terms = get_or terms 0 no_term

-- it can be printed
printed : (c : Else-f-eq0) → TermPrintable c.args.names.now (first c.args.f.terms)
printed c =
    let e : length c.args.f.terms ≡ 48 = search rules in
    let h : c.args.f.count ≤ length c.args.f.terms = omega (arith, c.requires.0.valid.few) in
    term-printable c.args.names.now c.args.f _ no_term c.requires.0 h (some c)

pub returns-then-f-eq0 : goal.returns-then-f-eq0
returns-then-f-eq0 c = empty_written c.args.names.now c.args.f _ c.if-f-eq0.true (omega (arith, c.requires.1))

pub print_single-next-requires : goal.print_single-next-requires
print_single-next-requires c = (printed (goal.at.print_single-next-requires c).Else-f-eq0, omega (arith, c.requires.1))

pub print_terms-requires : goal.print_terms-requires
print_terms-requires c =
    let h = single_short c.args.names.now (first c.args.f.terms) (printed (goal.at.print_terms-requires c).Else-f-eq0).valid in (
      c.requires.0,
      omega (arith, c.requires.1, c.requires.0.valid.few, c.print_single-next.ensures.ends, h, c.print_single-next.auto.out),
    )

pub shape_of-out : goal.shape_of-out
shape_of-out c = c.print_terms.auto.out ∙ c.print_single-next.auto.out

pub returns : goal.returns
returns c =
    form_written c.args.names.now c.args.f _ no_term (few (goal.at.returns c).Start) (some (goal.at.returns c).Else-f-eq0) _ _ _ _
    c.print_single-next.ensures c.print_terms.ensures
