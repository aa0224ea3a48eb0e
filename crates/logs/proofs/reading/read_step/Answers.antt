use Rattle.std.proofs.Common.{rules}
use mathlib.Core.Path.{sym, ◌∙◌}
use Prim.Native.Nat.{ℕ}
use borrow.Author.Tests.{not-true, not-false, leb-true}
use Rattle.forms.proofs.Takers.{bytes_all}
use Rattle.logs.proofs.StepRecords.{step_refused, term_refused, step-absent, rule-unknown, letters-cut, step_of-term}
use Rattle.refusal.proofs.Passing.{passed_up}
use Rattle.logs.proofs.reading.read_step.Goals as goal

pub returns-then-at-s : goal.returns-then-at-s
returns-then-at-s c = step_refused _ _ (step-absent c.args.s.now c.args.at c.if-at-s.true)

pub returns-then-not-is_rule : goal.returns-then-not-is_rule
returns-then-not-is_rule c = step_refused _ _ (rule-unknown c.args.s.now c.args.at c.if-at-s.false _ c.is_rule.ensures c.if-not-is_rule.true)

pub returns-then-not-room : goal.returns-then-not-room
returns-then-not-room c = step_refused _ _ (letters-cut c.args.s.now c.args.at c.if-at-s.false _ c.is_rule.ensures c.if-not-is_rule.false _
    c.rule_letters-n.ensures.0 _ c.room.ensures c.if-not-room.true)

pub letters_at-letters-requires : goal.letters_at-letters-requires
letters_at-letters-requires c = (c.rule_letters-n.ensures.1, leb-true _ _ (sym c.room.ensures ∙ c.if-not-room.false))

pub returns-in_err-m : goal.returns-in_err-m
returns-in_err-m c = rw (passed_up _ _ c.from_residual.ensures.1) (term_refused c.args.s.now c.args.at c.if-at-s.false _ c.is_rule.ensures c.if-not-is_rule.false _
    c.rule_letters-n.ensures.0 _ c.room.ensures c.if-not-room.false _ c.in_err-m.ensures)

pub returns : goal.returns
returns c =
    let w = c in
    step_of-term w.args.s.now w.args.at c.if-at-s.false _
    c.is_rule.ensures c.if-not-is_rule.false _
    c.rule_letters-n.ensures.0 _ c.room.ensures
    c.if-not-room.false
    (bytes_all w.args.s.now (λ (k : ℕ). (c.type_inv.s k).fits)) _ _
    _ c.in_ok-m.ensures c.letters_at-letters.ensures
