-- `expressions::trees::apply_one` meets its contract: refused, or the signs turned. Assumes nothing.
use Rattle.std.proofs.Common.{rules}
use Rattle.expressions.proofs.Levels.{one_refused, one_negated}
use native.Mathlib.Omega.{arith}
use Rattle.refusal.proofs.Passing.{passed_up}
use Rattle.std.proofs.lemmas.Result.{IfOk-at_ok}
use Rattle.std.specs.Prelude.{Ok, Err}
use Rattle.rows.specs.Rows.{FormRun, Light, RowsGive}
use Rattle.rows.specs.declared.Worked.{Worked}
use Rattle.expressions.specs.Trees.{Sound}
use lib.ListN.{length}
use Prim.Native.Nat.{◌≤◌}
use mathlib.Core.Path.{subst}
use Rattle.expressions.proofs.trees.apply_one.Goals.{In_ok-w}
use Rattle.expressions.proofs.trees.apply_one.Goals as goal

light : (c : In_ok-w) → (c.in_ok-w.w.count ≤ length c.args.coefs.now) × Light 2147483647 c.in_ok-w.w.count c.args.coefs.now
light c = IfOk-at_ok (λ w. (w.count ≤ length c.args.coefs.now) × Light 2147483647 w.count c.args.coefs.now) c.in_ok-w.was c.requires

pub returns-in_err-w : goal.returns-in_err-w
returns-in_err-w c = λ rows s. rw (passed_up _ _ c.from_residual.ensures.1, c.in_err-w.was) (one_refused _ _ _ _)

pub negate-requires : goal.negate-requires
negate-requires c = light (goal.at.negate-requires c).In_ok-w

pub returns : goal.returns
returns c = λ rows s. rw c.in_ok-w.was (one_negated rows _ _ _ (subst (λ x. Sound x rows c.args.coefs.now) c.in_ok-w.was s) c.negate.ensures (omega (arith, (light (goal.at.returns c).In_ok-w).0)))
