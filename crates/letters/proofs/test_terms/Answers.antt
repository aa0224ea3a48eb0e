-- `letters::test_terms`. The loop: the test of all terms is the test of those from term i on. Assumes nothing.
use Rattle.std.proofs.Common.{rules}
use Rattle.terms.proofs.Arrays.{no_term, all-at}
use mathlib.Core.Path.{◌≡◌, refl, sym, ◌∙◌}
use native.Mathlib.Omega.{arith}
use Rattle.letters.proofs.LetterTests.{term-stops, term-passes, terms-end}
use Prim.Native.Nat.{◌-◌, ◌≤◌}
use mathlib.Core.List.{map}
use lib.ListN.{length, length-map, take, drop}
use Rattle.specification.specs.Records.{test_terms}
use Rattle.terms.specs.Abstraction.{term_of, Counted, terms_of}
use Rattle.refusal.specs.Tests.{test_of}
use Rattle.letters.proofs.test_terms.Goals.{Start}
use Rattle.refusal.proofs.Passing.{passed_up}
use Rattle.letters.proofs.test_terms.Goals as goal

places : (c : Start) → length c.args.f.terms ≡ 48
places c = search rules

room : (c : Start) → c.args.f.count ≤ length c.args.f.terms
room c = omega (arith, places c, c.requires.few)

pub loop-i-init : goal.loop-i-init
unfolding terms_of
loop-i-init c = (omega arith, refl, c.requires.few, refl)

pub test_term-requires : goal.test_term-requires
test_term-requires c = all-at Counted _ _ _ _ (room (goal.at.test_term-requires c).Start) c.loop-i-test.true c.requires.counted

pub returns-in_err-test_term : goal.returns-in_err-test_term
returns-in_err-test_term c =
    let w = c in
    rw (passed_up _ _ c.from_residual.ensures.1)
    (sym (c.loop-i.invariant.3 ∙ sym (term-stops w.args.table.now w.args.f.terms w.args.f.count c.loop-i.i _ (room (goal.at.returns-in_err-test_term c).Start) _ c.loop-i-test.true c.in_err-test_term.ensures)))

pub loop-i-preserved : goal.loop-i-preserved
loop-i-preserved c =
    let w = c in
    let inv = c.loop-i.invariant in (
      omega arith,
      inv.1,
      inv.2,
      inv.3 ∙ term-passes w.args.table.now w.args.f.terms w.args.f.count c.loop-i.i _ (room (goal.at.loop-i-preserved c).Start) c.loop-i-test.true c.in_ok-test_term.ensures,
    )

pub returns : goal.returns
returns c =
    let w = c in
    sym
    (c.loop-i.invariant.3 ∙ terms-end w.args.table.now w.args.f.terms w.args.f.count c.loop-i.i no_term
    (room (goal.at.returns c).Start) c.loop-i-test.false)
