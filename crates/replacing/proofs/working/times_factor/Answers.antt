-- `replacing::working::times_factor` meets its contract: the factor worked, then the product. Assumes nothing.
use Rattle.std.proofs.Common.{rules}
use native.Mathlib.Omega.{arith}
use Rattle.specification.specs.Reduction.{times_forms}
use Rattle.refusal.proofs.Passing.{passed_up}
use Rattle.replacing.proofs.Multiplied.{refused_on, given_on}
use Rattle.replacing.proofs.working.times_factor.Goals as goal

pub work_factor-requires : goal.work_factor-requires
work_factor-requires c =
    let p = c.requires in (p.0, p.1, record { form = p.2.form; room = omega arith; beside = omega arith })

pub returns-in_err-y : goal.returns-in_err-y
returns-in_err-y c = rw (passed_up _ _ c.from_residual.ensures.1) (refused_on (times_forms _) _ _ _ _ c.in_err-y.ensures _ _)

pub times-requires : goal.times-requires
times-requires c = let p = c.requires in (p.3, c.in_ok-y.ensures.form, p.2.room, p.2.beside)

pub returns : goal.returns
returns c = given_on (times_forms _) _ _ _ _ c.in_ok-y.ensures _ _ _ c.times.ensures
