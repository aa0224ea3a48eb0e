-- `formulas::atoms::closed` meets its contract. Assumes nothing.
use Rattle.std.proofs.Common.{rules}
use Rattle.refusal.proofs.Passing.{passed_up}
use Rattle.formulas.proofs.Leaves.{closed-unread, closed-torn, closed-inside, closed-passed}
use Rattle.formulas.proofs.atoms.closed.Goals as goal

pub returns-in_err-inside : goal.returns-in_err-inside
returns-in_err-inside c = rw (passed_up _ _ c.from_residual.ensures.1) (closed-unread c.args.s.now c.args.r _ c.in_err-inside.was)

pub returns-then-byte_at-ne41 : goal.returns-then-byte_at-ne41
returns-then-byte_at-ne41 c = closed-torn c.args.s.now c.args.r _ c.in_ok-inside.was _ c.byte_at.ensures c.if-byte_at-ne41.true

pub behind-next-requires : goal.behind-next-requires
behind-next-requires c = closed-inside c.args.s.now c.args.r _ c.in_ok-inside.was _ c.byte_at.ensures c.if-byte_at-ne41.false

pub returns : goal.returns
returns c = closed-passed c.args.s.now c.args.r _ c.in_ok-inside.was _ c.byte_at.ensures _ c.if-byte_at-ne41.false c.behind-next.ensures
