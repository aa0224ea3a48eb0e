-- `shorten_call::print_shortened` meets its contract: the lines of the log, or that of the refusal. Assumes nothing.
use Rattle.std.proofs.Common.{rules}
use mathlib.Core.Path.{◌≡◌}
use native.Mathlib.Omega.{arith}
use lib.ListN.{length}
use Rattle.shorten_call.proofs.Calls.{refusal-printed, log-printable, log-printed}
use Rattle.shorten_call.proofs.print_shortened.Goals.{After-derive-d, In-Ok}
use Rattle.shorten_call.proofs.print_shortened.Goals as goal

form-places : (c : In-Ok) → length c.in-Ok.f.terms ≡ 48
form-places c = search rules

last_places : (c : After-derive-d) → length c.derive-d.result.last.terms ≡ 48
last_places c = search rules

pub derive-d-requires : goal.derive-d-requires
derive-d-requires c = c.in-Ok.ensures.valid

pub print_log-requires : goal.print_log-requires
print_log-requires c =
    let p = log-printable _ _ _ c.in-Ok.ensures _ c.derive-d.ensures in
    (p.0, p.1, p.2, omega (arith, c.derive-d.ensures.valid.few, c.requires))

pub print_refusal-requires : goal.print_refusal-requires
print_refusal-requires c = omega (arith, c.requires)

pub returns-in-Ok : goal.returns-in-Ok
returns-in-Ok c =
    log-printed _ _ _ c.in-Ok.ensures _ c.derive-d.ensures _ _ _
    (form-places (goal.at.returns-in-Ok c).In-Ok) (last_places (goal.at.returns-in-Ok c).After-derive-d) c.print_log.ensures

pub returns-in-Err : goal.returns-in-Err
returns-in-Err c = refusal-printed _ _ _ c.in-Err.ensures _ _ _ _ c.number.ensures c.print_refusal.ensures
