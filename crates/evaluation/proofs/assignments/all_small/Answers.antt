-- `evaluation::assignments::all_small` meets its contract: the bytes from i on decide. Assumes nothing.
use mathlib.Core.Path.{refl, sym, ◌∙◌}
use native.Mathlib.Omega.{arith}
use Rattle.specification.specs.Evaluation.{six_or_less}
use Rattle.evaluation.proofs.Assigned.{byte-fails, byte-passes, bytes-end}
use Rattle.evaluation.proofs.assignments.all_small.Goals as goal

pub loop-b-init : goal.loop-b-init
loop-b-init c = (omega arith, refl)

pub returns-then-not-six_or_less : goal.returns-then-not-six_or_less
returns-then-not-six_or_less c =
    let v = c.loop-b in
    sym
    (v.invariant.1 ∙ byte-fails six_or_less _ _ c.loop-b-test.true (sym c.six_or_less.ensures ∙ c.if-not-six_or_less.true))

pub loop-b-preserved : goal.loop-b-preserved
loop-b-preserved c =
    let v = c.loop-b in (
      omega arith,
      v.invariant.1 ∙ byte-passes six_or_less _ _ c.loop-b-test.true
          (sym c.six_or_less.ensures ∙ c.if-not-six_or_less.false),
    )

pub returns : goal.returns
returns c = sym (c.loop-b.invariant.1 ∙ bytes-end six_or_less _ _ c.loop-b-test.false)
