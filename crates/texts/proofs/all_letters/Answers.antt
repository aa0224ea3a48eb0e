-- `texts::all_letters` meets its contract. The loop: all are letters exactly if those from i on are. Assumes nothing.
use Rattle.std.proofs.Common.{rules}
use mathlib.Core.Path.{◌≡◌, refl, sym, ◌∙◌}
use Prim.Native.Nat.{◌-◌}
use native.Mathlib.Omega.{arith}
use borrow.Author.Tests.{not-true, not-false}
use lib.ListN.{length, drop}
use Rattle.specification.specs.Lists.{all}
use Rattle.specification.specs.Text.{is_letter}
use Rattle.texts.proofs.Naming.{letter-missing, letter-there, letters-end}
use Rattle.texts.proofs.all_letters.Goals as goal

pub loop-b-init : goal.loop-b-init
loop-b-init c = refl

pub returns-then-not-is_letter : goal.returns-then-not-is_letter
returns-then-not-is_letter c =
    sym
    (c.loop-b.invariant ∙ letter-missing c.args.names.now
    c.loop-b.b-index c.loop-b-test.true (sym c.is_letter.ensures ∙ not-true _
    c.if-not-is_letter.true-raw))

pub loop-b-preserved : goal.loop-b-preserved
loop-b-preserved c =
    c.loop-b.invariant ∙ letter-there c.args.names.now
    c.loop-b.b-index c.loop-b-test.true
    (sym c.is_letter.ensures ∙ c.if-not-is_letter.false)

pub returns : goal.returns
returns c = sym (c.loop-b.invariant ∙ letters-end c.args.names.now c.loop-b.b-index c.loop-b-test.false)
