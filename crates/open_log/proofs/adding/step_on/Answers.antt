-- `open_log::adding::step_on` meets its contract. Assumes nothing.
use mathlib.Core.Path.{ap}
use native.Mathlib.Omega.{arith}
use Rattle.specification.specs.Rules.{step_at}
use Rattle.specification.specs.Terms as S
use Rattle.terms.proofs.Outcomes.{works_as}
use Rattle.rows.proofs.RowForms.{held_is, held-run}
use Rattle.rules.specs.Steps.{step_of}
use Rattle.open_log.proofs.adding.step_on.Goals as goal

pub step_at-w-requires : goal.step_at-w-requires
step_at-w-requires c = (
  held-run _ _ _ c.requires.0 c.hold.ensures,
  c.requires.1.m.counted,
  omega (arith, c.requires.0.few),
  omega (arith, c.requires.0.few),
)

pub outcome-requires : goal.outcome-requires
outcome-requires c = c.step_at-w.ensures.reached.form

pub returns : goal.returns
returns c =
    works_as _ _ _ (ap (λ (g : S.Form). step_at c.args.table.now g (step_of c.args.step)) (held_is c.args.f _ _ c.hold.ensures))
    (c.outcome.ensures.is _ c.step_at-w.ensures.reached)
