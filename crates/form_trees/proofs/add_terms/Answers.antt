-- `form_trees::add_terms` meets its contract. The loop: what stands in the rows, plus the terms left, is the whole. Assumes nothing.
use mathlib.Core.Path.{refl}
use native.Mathlib.Omega.{arith}
use Rattle.integers.proofs.Machine.{back_is}
use Rattle.replacing.proofs.Turns.{left_as, turn_refused, turn_taken, turns-done}
use Rattle.form_trees.proofs.Rowed.{row_at, term-valid, term_next, terms_none}
use Rattle.refusal.proofs.Passing.{passed_up}
use Rattle.form_trees.proofs.add_terms.Goals as goal

pub loop-i-init : goal.loop-i-init
loop-i-init c = (c.requires.3, refl, refl, refl, refl, record { form = c.requires.2; is = refl })

pub offset_bounds-old-i : goal.offset_bounds-old-i
offset_bounds-old-i c = omega (arith, c.requires.0.form.few)

pub bounds-old-i : goal.bounds-old-i
bounds-old-i c = omega (arith, c.requires.0.form.run.room)

pub offset_bounds-olds-i : goal.offset_bounds-olds-i
offset_bounds-olds-i c = omega (arith, c.requires.0.form.few)

pub bounds-olds-i : goal.bounds-olds-i
bounds-olds-i c = omega (arith, c.requires.0.form.run.beside)

pub term_of-t-requires : goal.term_of-t-requires
term_of-t-requires c = row_at _ _ _ c.requires.0 _ c.loop-i-test.true

pub add_term-requires : goal.add_term-requires
add_term-requires c =
    let s = c in
    let v = c.loop-i.invariant in (
      term-valid _ _ _ s.requires.0 _ c.loop-i-test.true _ (back_is (record { sfits = c.term_of-arg-1.given })) _ c.term_of-t.ensures,
      record { form = s.requires.1.form; room = omega (arith, v.1, s.requires.1.room); beside = omega (arith, v.2, s.requires.1.beside) },
      v.5.form,
      omega (arith, v.3),
      omega (arith, v.4),
    )

pub returns-in_err-w : goal.returns-in_err-w
returns-in_err-w c =
    let s = c in
    let v = c.loop-i.invariant in
    rw (passed_up _ _ c.from_residual.ensures.1)
    (turn_refused _ _ _ _ _ _ _ _ _ _ (left_as _ _ _ _ _ _ _ _ _ _ (term_next _ _ _ s.requires.0 _ c.loop-i-test.true _
    (back_is (record { sfits = c.term_of-arg-1.given })) _ c.term_of-t.ensures) v.5) _ _ _ c.in_err-w.ensures)

pub loop-i-preserved : goal.loop-i-preserved
loop-i-preserved c =
    let s = c in
    let v = c.loop-i.invariant in (
      omega (arith, c.loop-i-test.true),
      omega (arith, v.1),
      omega (arith, v.2),
      omega (arith, v.3),
      omega (arith, v.4),
      turn_taken _ _ _ _ _ _ _ _ _ _ (left_as _ _ _ _ _ _ _ _ _ _ (term_next _ _ _ s.requires.0 _ c.loop-i-test.true _
          (back_is (record { sfits = c.term_of-arg-1.given })) _ c.term_of-t.ensures) v.5) _ _ _ c.in_ok-w.ensures,
    )

pub shape_of-rows : goal.shape_of-rows
shape_of-rows c = c.loop-i.invariant.1

pub shape_of-coefs : goal.shape_of-coefs
shape_of-coefs c = c.loop-i.invariant.2

pub returns : goal.returns
returns c =
    let v = c.loop-i.invariant in turns-done _ _ _ _ _ _ _ _ _ (terms_none _ _ _ c.requires.0 _ c.loop-i-test.false) v.5
