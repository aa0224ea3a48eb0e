-- `searching::searching::try_step` meets its contract. Assumes nothing.
use mathlib.Core.Path.{ap}
use mathlib.Core.List.{List}
use native.Mathlib.Omega.{arith}
use Rattle.specification.specs.Rules.{step_at}
use Rattle.specification.specs.Terms as S
use Rattle.rows.proofs.RowForms.{rows_as, run-copied, form-copied}
use Rattle.rules.specs.Steps.{step_of}
use Rattle.searching.proofs.searching.try_step.Goals as goal

pub copy-requires : goal.copy-requires
copy-requires c = let p = c.requires.0.run in (
  p.room,
  p.beside,
  omega (arith, c.requires.2),
  omega (
    arith,
    c.requires.3,
  ),
)

pub step_at-requires : goal.step_at-requires
step_at-requires c = let w = c in (
  form-copied _ _ _ _ _ c.copy.ensures _ (omega (arith, w.requires.2)) (omega (arith, w.requires.3)) w.requires.0,
  w.requires.1,
  omega (arith, w.requires.2),
  omega (arith, w.requires.3),
)

pub returns : goal.returns
returns c = let w = c in record {
  reached = rows_as _ _ _ _ _ (ap (λ (l : List S.Term). step_at w.args.table.now (record { kind = w.args.kind; terms = l }) (step_of w.args.s))
      (run-copied _ _ _ _ _ c.copy.ensures))
      c.step_at.ensures.reached;
  kind = c.step_at.ensures.kind;
}
