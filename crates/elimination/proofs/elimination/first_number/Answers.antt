-- `elimination::elimination::first_number` meets its contract: no number below v leaves a summand. Assumes nothing.
use mathlib.Core.Path.{sym, ◌∙◌}
use native.Mathlib.Omega.{arith}
use native.Mathlib.Nat.{not-suc-le-zero}
use Rattle.elimination.proofs.Choices.{first_asks, first_found, first_on, first_last}
use Rattle.elimination.proofs.elimination.first_number.Goals as goal

pub loop-v-init : goal.loop-v-init
loop-v-init c = (omega arith, λ u h. absurd (not-suc-le-zero h))

pub leaves-requires : goal.leaves-requires
leaves-requires c = (c.requires.0, first_asks _ _ _ _ c.loop-v-test.true c.requires.2)

pub returns-then-leaves : goal.returns-then-leaves
returns-then-leaves c = first_found _ _ _ _ c.loop-v.invariant.0 c.loop-v.invariant.1 (sym c.if-leaves.true ∙ c.leaves.ensures)

pub loop-v-preserved : goal.loop-v-preserved
loop-v-preserved c = (omega arith, first_on _ _ _ c.loop-v.invariant.1 (sym c.leaves.ensures ∙ c.if-leaves.false))

pub returns : goal.returns
returns c = first_last _ _ _ _ c.loop-v-test.false c.loop-v.invariant.1
