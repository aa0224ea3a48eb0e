-- `open_log::adding::add_step` meets its contract. Assumes nothing.
use Rattle.std.proofs.Common.{rules}
use mathlib.Core.Path.{◌≡◌, refl, sym, ap, ◌∙◌}
use native.Mathlib.Omega.{arith}
use lib.ListN.{length}
use lib.Seq.{length-take-le}
use Rattle.std.specs.Prelude.{Ok}
use Rattle.std.specs.Prelude as Std
use Rattle.std.specs.Result.{result_and}
use Rattle.refusal.specs.declared.Refusal.{Refusal}
use Rattle.terms.specs.declared.types.Form.{Form}
use Rattle.open_log.proofs.Additions.{too_many_lem, add_refused_lem, add_taken}
use Rattle.open_log.proofs.adding.add_step.Goals.{Start}
use Rattle.open_log.proofs.adding.add_step.Goals as goal

long : (c : Start) → length c.args.state.table ≡ 24
long c = search rules

pub returns-then-state-ge64 : goal.returns-then-state-ge64
returns-then-state-ge64 c = too_many_lem _ _ c.requires c.if-state-ge64.true _ refl refl

pub slice_bounds-step_from-end : goal.slice_bounds-step_from-end
slice_bounds-step_from-end c =
    sym (length-take-le _ _ (omega (arith, long (goal.at.slice_bounds-step_from-end c).Start, c.requires.few)))

pub returns-in_default : goal.returns-in_default
returns-in_default c =
    add_refused_lem _ _ c.requires c.if-state-ge64.false _ c.in_default.ensures _
    (c.and.ensures ∙ ap (λ (r : Std.Result Form Refusal). result_and r (Ok tt)) c.in_default.is) refl

pub returns : goal.returns
returns c = add_taken _ _ c.requires c.if-state-ge64.false _ c.in-Ok.ensures _ refl refl
