-- `rules::admissible::test_rule_letters` meets its contract: the letters from the place reached on decide what all decide. Assumes nothing.
use Rattle.std.proofs.Common.{rules}
use mathlib.Core.Path.{◌≡◌, refl, sym, ◌∙◌}
use Prim.Native.Nat.{◌-◌, ◌≤◌}
use native.Mathlib.Omega.{arith}
use lib.ListN.{length, take, drop}
use Rattle.specification.specs.Letters.{vector, test_letters}
use Rattle.rules.proofs.Alone.{letters-stop, letters-pass, letters-end}
use Rattle.refusal.proofs.Passing.{passed_up}
use Rattle.rules.proofs.admissible.test_rule_letters.Goals.{Start}
use Rattle.rules.proofs.admissible.test_rule_letters.Goals as goal

long : (c : Start) → length c.args.letters ≡ 6
long c = search rules

pub loop-i-init : goal.loop-i-init
loop-i-init c = (omega arith, refl)

pub bounds-letters-i : goal.bounds-letters-i
bounds-letters-i c = omega (arith, long (goal.at.bounds-letters-i c).Start, c.requires)

pub test_letter-requires : goal.test_letter-requires
test_letter-requires c = tt

pub returns-in_err-test_letter : goal.returns-in_err-test_letter
returns-in_err-test_letter c =
    let w = c in
    rw (passed_up _ _ c.from_residual.ensures.1)
    (letters-stop w.args.table.now w.args.letters w.args.n c.loop-i.i
    (omega (arith, long (goal.at.returns-in_err-test_letter c).Start, c.requires)) _ c.loop-i-test.true
    c.in_err-test_letter.ensures ∙ sym c.loop-i.invariant.1)

pub loop-i-preserved : goal.loop-i-preserved
loop-i-preserved c =
    let w = c in (
      omega arith,
      c.loop-i.invariant.1 ∙ letters-pass w.args.table.now w.args.letters w.args.n c.loop-i.i
          (omega (arith, long (goal.at.loop-i-preserved c).Start, c.requires)) c.loop-i-test.true
          c.in_ok-test_letter.ensures,
    )

pub returns : goal.returns
returns c =
    let w = c in
    sym
    (letters-end w.args.table.now w.args.letters w.args.n c.loop-i.i
    (omega (arith, long (goal.at.returns c).Start, c.requires)) c.loop-i-test.false) ∙ sym c.loop-i.invariant.1
