-- `lines::words::same_bytes` meets its contract. Assumes nothing.
use Rattle.std.proofs.Common.{rules}
use mathlib.Core.Path.{sym, ◌∙◌}
use native.Mathlib.Omega.{arith}
use Rattle.theory.specs.Text.Words.{lengths-apart}
use Rattle.lines.proofs.Bytes.{same_whole}
use Rattle.lines.proofs.words.same_bytes.Goals as goal

pub returns-then-a-b : goal.returns-then-a-b
returns-then-a-b c = sym (lengths-apart _ _ c.if-a-b.true)

pub stands_at-requires : goal.stands_at-requires
stands_at-requires c = omega (arith, c.if-a-b.false)

pub returns : goal.returns
returns c = c.stands_at.ensures ∙ same_whole _ _ c.if-a-b.false
