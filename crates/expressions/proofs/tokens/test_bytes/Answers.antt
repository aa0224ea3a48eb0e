use Rattle.expressions.proofs.Heads.{no-token, no_bytes, all_bytes}
use Rattle.expressions.proofs.tokens.test_bytes.Goals as goal

pub returns-then-at-n : goal.returns-then-at-n
returns-then-at-n c = no-token _ _ c.if-at-n.true

pub returns-then-n-at : goal.returns-then-n-at
returns-then-n-at c = no_bytes _ _ _ c.if-at-n.false c.token_bytes-k.ensures.0 c.if-n-at.true

pub returns : goal.returns
returns c = all_bytes _ _ _ c.if-at-n.false c.token_bytes-k.ensures.0 c.if-n-at.false
