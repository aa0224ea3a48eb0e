-- `evaluation::assignments::all_rest_zero` meets its contract: the test holds at every letter below n. Assumes nothing.
use mathlib.Core.Path.{◌≡◌, refl, sym, ◌∙◌}
use native.Mathlib.Omega.{arith}
use lib.ListN.{length}
use Rattle.specification.specs.Lists.{each}
use Rattle.specification.specs.Evaluation.{rest_is_zero}
use Rattle.evaluation.proofs.Assigned.{one_fails, one_more}
use Rattle.evaluation.proofs.assignments.all_rest_zero.Goals as goal

pub loop-n-init : goal.loop-n-init
unfolding each
loop-n-init c = (omega arith, refl)

pub rest_is_zero-requires : goal.rest_is_zero-requires
rest_is_zero-requires c = omega (arith, c.requires)

pub returns-then-not-rest_is_zero : goal.returns-then-not-rest_is_zero
returns-then-not-rest_is_zero c =
    sym (one_fails (rest_is_zero _ _) _ _ c.loop-n-test.true (sym c.rest_is_zero.ensures ∙ c.if-not-rest_is_zero.true))

pub loop-n-preserved : goal.loop-n-preserved
loop-n-preserved c =
    let v = c.loop-n in
    (omega arith, one_more (rest_is_zero _ _) _ v.invariant.1 (sym c.rest_is_zero.ensures ∙ c.if-not-rest_is_zero.false))

pub returns : goal.returns
returns c =
    let v = c.loop-n in
    let t = c.args.table.now in
    let e : v.n ≡ length t = omega (arith, v.invariant.0, c.loop-n-test.false) in
    sym (rw e at v.invariant.1)
