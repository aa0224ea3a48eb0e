use Rattle.std.proofs.Common.{rules}
use mathlib.Core.Path.{sym, ◌∙◌}
use Prim.Native.Nat.{◌+◌, ◌≤◌}
use native.Mathlib.Omega.{arith}
use borrow.Author.Tests.{not-true, not-false, leb-true}
use lib.ListN.{length}
use Rattle.forms.proofs.Takers.{form-short_of-bytes, form-bad-kind, form-too_long, form_of-terms, more_room}
use Rattle.forms.proofs.read_form_at.Goals.{After-shared_slice_known-2-1}
use Rattle.forms.proofs.read_form_at.Goals as goal

-- there is room for the kind and the count
roomy : (c : After-shared_slice_known-2-1) → c.args.at + 2 ≤ length c.args.s.now
roomy c = leb-true _ _ (sym c.room.ensures ∙ c.if-not-room.false)

pub returns-then-not-room : goal.returns-then-not-room
returns-then-not-room c = form-short_of-bytes _ _ (sym c.room.ensures ∙ c.if-not-room.true)

pub bounds-s-at : goal.bounds-s-at
bounds-s-at c = omega (arith, leb-true _ _ (sym c.room.ensures ∙ c.if-not-room.false))

pub overflow_add-n : goal.overflow_add-n
overflow_add-n c = omega (arith, roomy (goal.at.overflow_add-n c).After-shared_slice_known-2-1)

pub bounds-s-at-2 : goal.bounds-s-at-2
bounds-s-at-2 c = omega (arith, roomy (goal.at.bounds-s-at-2 c).After-shared_slice_known-2-1)

pub overflow_cast-n : goal.overflow_cast-n
overflow_cast-n c = omega (arith, c.type_inv.s (c.args.at + 1))

pub returns-then-kind-gt1 : goal.returns-then-kind-gt1
returns-then-kind-gt1 c = form-bad-kind _ _ (sym c.room.ensures ∙ c.if-not-room.false) c.if-kind-gt1.true

pub returns-then-n-gt48 : goal.returns-then-n-gt48
returns-then-n-gt48 c = form-too_long _ _ (sym c.room.ensures ∙ c.if-not-room.false) c.if-kind-gt1.false c.if-n-gt48.true

pub overflow_add-at : goal.overflow_add-at
overflow_add-at c = omega (arith, roomy (goal.at.overflow_add-at c).After-shared_slice_known-2-1)

pub returns : goal.returns
returns c = form_of-terms _ _ (sym c.room.ensures ∙ c.if-not-room.false) c.if-kind-gt1.false c.if-n-gt48.false _ c.take_terms.ensures
