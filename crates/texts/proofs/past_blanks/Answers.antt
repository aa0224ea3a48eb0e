use Rattle.std.proofs.Common.{rules}
use mathlib.Core.Path.{◌≡◌, refl, sym, ◌∙◌}
use Prim.Native.Nat.{◌-◌}
use native.Mathlib.Omega.{arith}
use mathlib.Core.Logic.{inl, inr}
use lib.ListN.{length}
use Rattle.specification.specs.Text.{skip}
use Rattle.texts.proofs.Standing.{blank-passed, blank_none, blanks_end, passed-to_end}
use Rattle.texts.proofs.past_blanks.Reads as reads
use Rattle.texts.proofs.past_blanks.Lts as lts
use Rattle.texts.proofs.past_blanks.Goals as goal

pub loop-i-init : goal.loop-i-init
loop-i-init c = refl

pub returns-then-s-i-ne32 : goal.returns-then-s-i-ne32
returns-then-s-i-ne32 c = sym (blank_none c.args.s.now c.loop-i.i c.if-s-i-ne32.true) ∙ c.loop-i.invariant

pub loop-i-preserved : goal.loop-i-preserved
loop-i-preserved c = blank-passed c.args.s.now c.loop-i.i c.if-s-i-ne32.false ∙ c.loop-i.invariant

pub returns : goal.returns
returns c =
    elim (passed-to_end c.args.s.now c.args.at c.loop-i.i _ c.loop-i-test.false c.loop-i.auto.i c.loop-i.auto.i-end c.max.ensures) [
      | inl e ↦ e ∙ sym (blanks_end c.args.s.now c.loop-i.i (omega arith)) ∙ c.loop-i.invariant
      | inr e ↦ e.0 ∙ sym (blanks_end c.args.s.now c.args.at e.1)
    ]
