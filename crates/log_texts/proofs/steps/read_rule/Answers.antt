-- `log_texts::steps::read_rule` meets its contract: the digit, then the colon. Assumes nothing.
use native.Mathlib.Omega.{arith}
use Rattle.std.proofs.lemmas.Result.{err_from_is_err_and}
use Rattle.log_texts.proofs.StepLines.{rule-below, rule-above, rule-inside, rule-torn, rule_read}
use Rattle.theory.specs.Text.Bounds.{skip_within}
use Rattle.log_texts.proofs.steps.read_rule.Goals as goal
use Rattle.log_texts.proofs.steps.read_rule.Goals.{then-b-lt49-via-then-b-lt49, then-b-lt49-via-else-b-lt49+then-b-gt53}

pub overflow_add-word : goal.overflow_add-word
overflow_add-word c =
    let l = c.args.line.now in
    omega (arith, c.past_blanks-word.ensures, skip_within l 0 (omega arith))

pub returns-then-b-lt49 : goal.returns-then-b-lt49
returns-then-b-lt49 c =
    let l = c.args.line.now in
    elim c.then-b-lt49.branch [
      | then-b-lt49-via-then-b-lt49 w ↦ rule-below l _ _ _ c.past_blanks-word.ensures c.past_blanks-at.ensures c.byte_at-b.ensures w.if-b-lt49.true
      | then-b-lt49-via-else-b-lt49+then-b-gt53 w ↦ rule-above l _ _ _ c.past_blanks-word.ensures c.past_blanks-at.ensures c.byte_at-b.ensures w.if-b-lt49.false w.if-b-gt53.true
    ]

pub behind-next-requires : goal.behind-next-requires
behind-next-requires c =
    let l = c.args.line.now in
    rule-inside l _ _ _ c.past_blanks-word.ensures c.past_blanks-at.ensures c.byte_at-b.ensures c.if-b-lt49.false

pub returns-in_err-colon : goal.returns-in_err-colon
returns-in_err-colon c =
    let l = c.args.line.now in
    let p = err_from_is_err_and c.from_residual.result c.from_residual.ensures.1 in
    rw (p.1, p.2) (rule-torn l _ _ _ c.past_blanks-word.ensures c.past_blanks-at.ensures c.byte_at-b.ensures c.if-b-lt49.false c.if-b-gt53.false _ c.behind-next.ensures
    _ c.in_err-colon.ensures)

pub returns : goal.returns
returns c =
    let l = c.args.line.now in
    rule_read l _ _ _ c.past_blanks-word.ensures c.past_blanks-at.ensures c.byte_at-b.ensures c.if-b-lt49.false c.if-b-gt53.false _ c.behind-next.ensures
    _ c.in_ok-colon.ensures
