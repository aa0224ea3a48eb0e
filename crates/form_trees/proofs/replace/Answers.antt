-- `form_trees::replace` meets its contract: both forms in rows, worked, and by value again. Assumes nothing.
use native.Mathlib.Omega.{arith}
use Rattle.form_trees.proofs.Whole.{first_run, second_run, insertion_refused, insertion_given}
use Rattle.refusal.proofs.Passing.{passed_up}
use Rattle.form_trees.proofs.replace.Goals as goal

pub work_terms-requires : goal.work_terms-requires
work_terms-requires c =
    let s = c in (
      first_run _ _ s.requires.0 s.requires.1 s.requires.2 _ _ c.hold.ensures _ _ c.hold-2.ensures,
      record {
        form = second_run _ _ s.requires.0 s.requires.1 s.requires.2 _ _ c.hold.ensures _ _ c.hold-2.ensures;
        room = omega arith;
        beside = omega arith;
      },
    )

pub returns-in_err-w : goal.returns-in_err-w
returns-in_err-w c =
    let s = c in
    rw (passed_up _ _ c.from_residual.ensures.1)
    (insertion_refused _ _ s.requires.0 s.requires.1 s.requires.2 _ _ c.hold.ensures _ _ c.hold-2.ensures _ _ _ _ c.in_err-w.ensures)

pub form_of-requires : goal.form_of-requires
form_of-requires c = let w = c.in_ok-w.ensures.form in (w.run, w.few)

pub returns : goal.returns
returns c =
    let s = c in
    insertion_given _ _ s.requires.0 s.requires.1 s.requires.2 _ _ c.hold.ensures _ _ c.hold-2.ensures _ _ _ _ c.in_ok-w.ensures _ c.form_of.ensures
