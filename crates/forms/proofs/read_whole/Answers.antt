-- `forms::read_whole` meets its contract. Assumes nothing.
use Rattle.std.proofs.Common.{rules}
use Prim.Native.Nat.{ℕ}
use Rattle.refusal.proofs.Passing.{passed_up}
use Rattle.forms.proofs.Takers.{whole-unread, whole-not, whole_read, bytes_all}
use Rattle.forms.proofs.read_whole.Goals as goal

pub returns-in_err-f : goal.returns-in_err-f
returns-in_err-f c = rw (passed_up _ _ c.from_residual.ensures.1) (whole-unread _ _ c.in_err-f.ensures)

pub returns-then-end-s : goal.returns-then-end-s
returns-then-end-s c = whole-not _ _ _ c.in_ok-f.ensures c.if-end-s.true

pub returns : goal.returns
returns c = whole_read _ _ _ c.in_ok-f.ensures (bytes_all c.args.s.now (λ (k : ℕ). (c.type_inv.s k).fits)) c.if-end-s.false
