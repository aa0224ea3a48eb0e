-- `reduce_word::reduce_lines` meets its contract. The loop's invariant: what is left to be told is the whole (`LinesFrom`). Assumes nothing.
use mathlib.Core.Path.{refl, ◌∙◌}
use native.Mathlib.Omega.{arith}
use Rattle.formula_lines.proofs.Forms.{text-printable}
use Rattle.reduce_word.proofs.Forms.{lines-begin, lines_end, lines-done, lines_refused, lines_more}
use Rattle.reduce_word.proofs.reduce_lines.Goals as goal

pub loop-init : goal.loop-init
loop-init c = (lines-begin _ _ _ _ _ _ c.requires.1 (omega arith), refl)

pub shape_of-out-then-q-n : goal.shape_of-out-then-q-n
shape_of-out-then-q-n c = c.loop.invariant.1

pub returns-then-q-n : goal.returns-then-q-n
returns-then-q-n c = lines_end _ _ _ _ _ _ _ _ c.loop.invariant.0 c.if-q-n.true

pub form_at-requires : goal.form_at-requires
form_at-requires c =
    (c.requires.0, c.loop.invariant.0.inside)

pub shape_of-out-in-Err : goal.shape_of-out-in-Err
shape_of-out-in-Err c = c.loop.invariant.1

pub returns-in-Err : goal.returns-in-Err
returns-in-Err c =
    lines_refused c.args.s.now _ _ _ _ _ _ _ c.loop.invariant.0 (omega (arith, c.loop-test.true)) c.if-q-n.false _ _ c.in-Err.ensures

pub tell_form-end-requires : goal.tell_form-end-requires
tell_form-end-requires c =
    text-printable _ _ c.requires.0 _ _ c.in-Ok.ensures

pub line_behind-q-requires : goal.line_behind-q-requires
line_behind-q-requires c =
    (c.loop.invariant.0.inside, c.if-q-n.false)

pub loop-preserved : goal.loop-preserved
loop-preserved c =
    let i = c.loop.invariant in (
      lines_more c.args.s.now _ _ _ _ _ _ _ i.0 (omega (arith, c.loop-test.true)) c.if-q-n.false _ c.in-Ok.ensures _ _ _ _ (omega (arith, c.loop-test.true))
          c.tell_form-end.ensures c.line_behind-q.ensures,
      c.tell_form-end.auto.out ∙ i.1,
    )

pub shape_of-out : goal.shape_of-out
shape_of-out c = c.loop.invariant.1

pub returns : goal.returns
returns c = lines-done _ _ _ _ _ _ _ _ c.loop.invariant.0 (omega arith)
