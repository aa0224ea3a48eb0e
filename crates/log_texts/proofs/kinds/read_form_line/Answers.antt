-- `log_texts::kinds::read_form_line` meets its contract, by its first word. Assumes nothing.
use mathlib.Core.Path.{sym, ◌∙◌}
use Prim.Native.Nat.{◌+◌}
use native.Mathlib.Omega.{arith}
use Rattle.specification.specs.Words.{bytes}
use Rattle.log_texts.proofs.Told.{line-vector, line-scalar, line-torn}
use Rattle.theory.specs.Text.Bounds.{skip_within}
use Rattle.theory.specs.Text.Words.{word-within}
use Rattle.log_texts.proofs.kinds.read_form_line.Goals as goal

pub overflow_add-at : goal.overflow_add-at
overflow_add-at c =
    let l = c.args.line.now in
    omega (arith, c.past_blanks-at.ensures, skip_within l 0 (omega arith))

pub kind_at-requires : goal.kind_at-requires
unfolding bytes
kind_at-requires c =
    let l = c.args.line.now in
    let h = word-within (bytes "vector") l c.past_blanks-at.result (omega arith) (sym c.is_word_at.ensures ∙ c.if-is_word_at.true) in
    (c.requires, omega (arith, c.past_blanks-vectors.ensures, skip_within l (c.past_blanks-at.result + 6) h), omega arith)

pub returns-then-is_word_at : goal.returns-then-is_word_at
unfolding bytes
returns-then-is_word_at c =
    let a = c.args in
    line-vector a.names.now a.table.now a.line.now _ c.past_blanks-at.ensures _ c.is_word_at.ensures _ _ c.if-is_word_at.true
    c.past_blanks-vectors.ensures c.kind_at.ensures

pub overflow_add-at-then-is_word_at-2 : goal.overflow_add-at-then-is_word_at-2
overflow_add-at-then-is_word_at-2 c =
    let l = c.args.line.now in
    omega (arith, c.past_blanks-at.ensures, skip_within l 0 (omega arith))

pub kind_at-requires-then-is_word_at-2 : goal.kind_at-requires-then-is_word_at-2
unfolding bytes
kind_at-requires-then-is_word_at-2 c =
    let l = c.args.line.now in
    let h = word-within (bytes "scalar") l c.past_blanks-at.result (omega arith) (sym c.is_word_at-2.ensures ∙ c.if-is_word_at-2.true) in
    (c.requires, omega (arith, c.past_blanks-scalars.ensures, skip_within l (c.past_blanks-at.result + 6) h), omega arith)

pub returns-then-is_word_at-2 : goal.returns-then-is_word_at-2
unfolding bytes
returns-then-is_word_at-2 c =
    let a = c.args in
    line-scalar a.names.now a.table.now a.line.now _ c.past_blanks-at.ensures _ c.is_word_at.ensures c.if-is_word_at.false _
    c.is_word_at-2.ensures _ _ c.if-is_word_at-2.true c.past_blanks-scalars.ensures c.kind_at-then-is_word_at-2.ensures

pub returns : goal.returns
unfolding bytes
returns c =
    let a = c.args in
    line-torn a.names.now a.table.now a.line.now _ c.past_blanks-at.ensures _ c.is_word_at.ensures c.if-is_word_at.false _
    c.is_word_at-2.ensures c.if-is_word_at-2.false
