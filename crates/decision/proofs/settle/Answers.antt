-- `decision::settle` meets its contract: of the components before i, the first numbers under which one differs are kept. Assumes nothing.
use mathlib.Core.Path.{refl, ◌∙◌}
use native.Mathlib.Omega.{arith}
use Rattle.specification.specs.Decision.{DecidedBy}
use Rattle.firsts.proofs.Numbers.{so_far-starts, so_far_more}
use Rattle.decision.specs.Answers.{decision_of}
use Rattle.decision.proofs.Settling.{compare-asks, same_value_lem, eliminate-asks, differs, equal, three}
use Rattle.decision.proofs.settle.Goals as goal

pub loop-i-init : goal.loop-i-init
loop-i-init c = (refl, refl, so_far-starts _ _ _, omega arith)

pub compare-n-requires : goal.compare-n-requires
compare-n-requires c =
    let asked = c.requires in
    compare-asks _ _ _ _ _ asked.0 _ c.loop-i.invariant.1 _ (three _ _ _ asked.1 c.loop-i-test.true)

pub keep_first-found-requires : goal.keep_first-found-requires
keep_first-found-requires c =
    let asked = c.requires in
    let known = c.loop-i.invariant in
    eliminate-asks _ _ _ _ _ asked.0 _ known.1 _ (three _ _ _ asked.1 c.loop-i-test.true) _ _
    c.compare-n.ensures _ known.0

pub loop-i-preserved : goal.loop-i-preserved
loop-i-preserved c =
    let asked = c.requires in
    let known = c.loop-i.invariant in
    let taken = c.loop-i-test.true in
    let compared = c.compare-n in
    let kept = c.keep_first-found in (
      kept.auto.buffer ∙ known.0,
      kept.auto.work ∙ (compared.auto.work ∙ known.1),
      so_far_more _ _ _ _ _ (same_value_lem _ _ _ _ _ asked.0 _ known.1 _ (three _ _ _ asked.1 taken) _ _ compared.ensures) _ _ _ _ known.2 kept.ensures,
      omega (arith, taken),
    )

pub shape_of-buffer-then-found : goal.shape_of-buffer-then-found
shape_of-buffer-then-found c = c.loop-i.invariant.0

pub shape_of-work-then-found : goal.shape_of-work-then-found
shape_of-work-then-found c = c.loop-i.invariant.1

pub returns-then-found : goal.returns-then-found
unfolding decision_of DecidedBy
returns-then-found c =
    let asked = c.requires in
    let known = c.loop-i.invariant in
    differs _ _ _ _ _ asked.0 _ asked.1 _ _ _ c.if-found.true c.loop-i-test.false known.3 known.2

pub shape_of-buffer : goal.shape_of-buffer
shape_of-buffer c = c.loop-i.invariant.0

pub shape_of-work : goal.shape_of-work
shape_of-work c = c.loop-i.invariant.1

pub returns : goal.returns
unfolding decision_of DecidedBy
returns c =
    let asked = c.requires in
    let known = c.loop-i.invariant in
    equal _ _ _ _ _ asked.0 _ asked.1 _ _ _ c.if-found.false c.loop-i-test.false known.2
