-- `logs::reading::read_log` meets its contract: each test refuses as reading does where it stands. Assumes nothing.
use Rattle.std.proofs.Common.{rules}
use mathlib.Core.Path.{sym}
use Prim.Native.Nat.{ℕ}
use native.Mathlib.Omega.{arith}
use borrow.Author.Tests.{not-true, not-false}
use Rattle.forms.proofs.Takers.{bytes_all}
use Rattle.logs.specs.Reading.{parts_of, log_read_of}
use Rattle.logs.proofs.LogShape.{first_refused, count_absent, count_large, step_refused_lem, last_refused, bytes_left, log_given}
use Rattle.refusal.proofs.Passing.{passed_up}
use Rattle.logs.proofs.reading.read_log.Goals as goal

pub returns-in_err-first : goal.returns-in_err-first
returns-in_err-first c = rw (passed_up _ _ c.from_residual.ensures.1) (first_refused c.args.s.now _ c.in_err-first.ensures)

pub returns-then-first_end-s : goal.returns-then-first_end-s
returns-then-first_end-s c = count_absent c.args.s.now _ _ c.in_ok-first.ensures c.if-first_end-s.true

pub overflow_cast-n : goal.overflow_cast-n
overflow_cast-n c = omega (arith, c.type_inv.s c.in_ok-first.first_end)

pub returns-then-n-gt64 : goal.returns-then-n-gt64
returns-then-n-gt64 c = count_large c.args.s.now _ _ c.in_ok-first.ensures c.if-first_end-s.false c.if-n-gt64.true

pub returns-in_err-steps : goal.returns-in_err-steps
returns-in_err-steps c = rw (passed_up _ _ c.from_residual-in_err-steps.ensures.1)
    (step_refused_lem c.args.s.now _ _ c.in_ok-first.ensures c.if-first_end-s.false c.if-n-gt64.false _ c.in_err-steps.ensures)

pub returns-in_err-last : goal.returns-in_err-last
returns-in_err-last c = rw (passed_up _ _ c.from_residual-in_err-last.ensures.1)
    (last_refused c.args.s.now _ _ c.in_ok-first.ensures c.if-first_end-s.false c.if-n-gt64.false _ _ c.in_ok-steps.ensures _ c.in_err-last.ensures)

pub returns-then-end-s : goal.returns-then-end-s
returns-then-end-s c = bytes_left c.args.s.now _ _ c.in_ok-first.ensures c.if-first_end-s.false c.if-n-gt64.false _ _ c.in_ok-steps.ensures _ _ c.in_ok-last.ensures c.if-end-s.true

pub returns : goal.returns
returns c = log_given c.args.s.now _ _ c.in_ok-first.ensures c.if-first_end-s.false c.if-n-gt64.false _ _ c.in_ok-steps.ensures _ _ c.in_ok-last.ensures
    (bytes_all c.args.s.now (λ (k : ℕ). (c.type_inv.s k).fits)) c.if-end-s.false
