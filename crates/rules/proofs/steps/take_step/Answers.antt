-- `rules::steps::take_step` meets its contract. Assumes nothing.
use Rattle.std.proofs.Common.{rules}
use mathlib.Core.Path.{◌≡◌, refl, ap}
use mathlib.Core.Logic.{inl, inr}
use Prim.Native.Nat.{◌+◌, ◌*◌, ◌≤◌}
use native.Mathlib.Omega.{arith}
use lib.IntN.{nat_abs}
use Rattle.integers.proofs.Machine.{back, fits_back}
use Rattle.theory.specs.Shape.Terms.{in_limit}
use Rattle.terms.specs.Abstraction.{term_of}
use Rattle.rows.specs.Rows.{Light, form_by}
use Rattle.rows.proofs.RowForms.{light_more}
use Rattle.refusal.proofs.Passing.{passed_up}
use Rattle.rules.proofs.Taking.{step-beyond, step-fitting, step_stays, step-moves}
use Rattle.rules.proofs.steps.take_step.Goals.{Start}
use Rattle.rules.proofs.steps.take_step.Goals as goal

pub returns-in_err-test_step : goal.returns-in_err-test_step
returns-in_err-test_step c = let a = c in rw (passed_up _ _ c.from_residual.ensures.1) (record {
  reached = step_stays _ _ _ _ _ _ c.in_err-test_step.ensures _ _;
  kind = tt;
  light = tt;
  left = record {
    count = a.args.n;
    is = inl refl;
    light = light_more a.args.bound (a.args.bound + 7 * nat_abs a.args.s.m.coef) a.args.n _ (omega arith) a.requires.4;
  };
})

pub bring_step-m-requires : goal.bring_step-m-requires
bring_step-m-requires c = let a = c in record {
  run = (a.requires.0.run, a.requires.0.light, a.requires.2, a.requires.3);
  step = (
    a.requires.1,
    step-fitting (form_by a.args.kind a.args.n a.args.rows.now a.args.coefs.now) a.args.s _ c.in_ok-test_step.ensures,
  );
}

limit : (c : Start) → nat_abs c.args.s.m.coef ≤ 2147483647
unfolding term_of
limit c = in_limit (term_of c.args.s.m) c.requires.1.m.in_shape

own : (c : Start) → nat_abs (back c.args.s.m.coef) ≡ nat_abs c.args.s.m.coef
own c = ap nat_abs (fits_back c.args.s.m.coef (omega (arith, limit c)))

pub raised-b-requires : goal.raised-b-requires
raised-b-requires c = let a = c in (a.requires.5, omega (arith, own (goal.at.raised-b-requires c).Start, limit (goal.at.raised-b-requires c).Start))

pub test_limits-requires : goal.test_limits-requires
test_limits-requires c = let a = c in (
  c.bring_step-m.ensures.run.beside,
  λ _. light_more (a.args.bound + 7 * nat_abs a.args.s.m.coef) c.raised-b.result _ _ (omega (arith, c.raised-b.ensures, own (goal.at.test_limits-requires c).Start))
      (c.bring_step-m.ensures.light a.args.bound a.requires.4),
)

pub returns-in_err-test_limits : goal.returns-in_err-test_limits
returns-in_err-test_limits c = let a = c in rw (passed_up _ _ c.from_residual-in_err-test_limits.ensures.1) (record {
  reached = step-beyond _ _ _ _ _ _ c.in_ok-test_step.ensures a.requires.0 a.requires.1 _ _ _ c.bring_step-m.ensures _ c.in_err-test_limits.ensures;
  kind = tt;
  light = tt;
  left = record { count = c.bring_step-m.result; is = inr c.bring_step-m.ensures.is; light = c.bring_step-m.ensures.light a.args.bound a.requires.4 };
})

pub returns : goal.returns
returns c = let a = c in record {
  reached = step-moves _ _ _ _ _ _ c.in_ok-test_step.ensures a.requires.0 a.requires.1 _ _ _ c.bring_step-m.ensures _ c.in_ok-test_limits.ensures;
  kind = refl;
  light = c.bring_step-m.ensures.light a.args.bound a.requires.4;
  left = tt;
}
