use Rattle.expressions.proofs.Heads.{head_bytes, head-depth, bytes-there, head-token}
use Rattle.refusal.proofs.Passing.{passed_up}
use Rattle.expressions.proofs.tokens.test_head.Goals as goal

pub returns-in_err-test_bytes : goal.returns-in_err-test_bytes
returns-in_err-test_bytes c = rw (passed_up _ _ c.from_residual.ensures.1) (head_bytes _ _ _ _ _ c.in_err-test_bytes.ensures)

pub returns-then-depth-eq0 : goal.returns-then-depth-eq0
returns-then-depth-eq0 c = head-depth _ _ _ _ _ c.in_ok-test_bytes.ensures c.if-depth-eq0.true

pub test_token-requires : goal.test_token-requires
test_token-requires c = bytes-there _ _ _ c.in_ok-test_bytes.ensures

pub returns : goal.returns
returns c = head-token _ _ _ _ _ _ c.in_ok-test_bytes.ensures c.if-depth-eq0.false c.test_token.ensures
