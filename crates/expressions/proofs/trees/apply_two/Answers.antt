-- `expressions::trees::apply_two` meets its contract: the first refusal, or the operator. Assumes nothing.
use Rattle.std.proofs.Common.{rules}
use Rattle.expressions.specs.Trees.{Sound}
use Rattle.expressions.proofs.Levels.{left_refused, right_refused, both-worked}
use Rattle.refusal.proofs.Passing.{passed_up}
use Rattle.std.proofs.lemmas.Result.{IfOk-at_ok}
use Rattle.std.specs.Prelude.{Ok, Err}
use Rattle.rows.specs.Rows.{FormRun, Light, RowsGive}
use Rattle.rows.specs.declared.Worked.{Worked}
use Rattle.expressions.proofs.trees.apply_two.Goals as goal

pub returns-in_err-f : goal.returns-in_err-f
returns-in_err-f c = rw (passed_up _ _ c.from_residual.ensures.1, c.in_err-f.was) (left_refused _ _ _ _ _ _ _ _ _)

pub returns-in_err-g : goal.returns-in_err-g
returns-in_err-g c = rw (passed_up _ _ c.from_residual-in_err-g.ensures.1, c.in_ok-f.was, c.in_err-g.was) (right_refused _ _ _ _ _ _ _ _ _)

pub operate-requires : goal.operate-requires
unfolding Sound
operate-requires c =
    let p = c.requires in (
      IfOk-at_ok (λ w. FormRun w.kind w.count c.args.rows.now c.args.coefs.now) c.in_ok-f.was p.0,
      IfOk-at_ok (λ w. FormRun w.kind w.count c.args.right.now c.args.rights.now) c.in_ok-g.was p.1,
      p.2,
      p.3,
    )

pub returns : goal.returns
returns c = rw (c.in_ok-f.was, c.in_ok-g.was) (both-worked _ _ _ _ _ _ _ _ _ _ c.operate.ensures)
