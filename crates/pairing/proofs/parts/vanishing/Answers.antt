use Rattle.std.proofs.Common.{rules}
use mathlib.Core.Logic.{inl, inr}
use Rattle.pairing.proofs.Few.{two_equal, last_two}
use Rattle.pairing.proofs.parts.vanishing.Goals as goal

pub returns-then-a-b : goal.returns-then-a-b
returns-then-a-b c = two_equal _ _ c.args.c (inl c.if-a-b.true)

pub returns-then-a-c : goal.returns-then-a-c
returns-then-a-c c = two_equal _ c.args.b _ (inr (inl c.if-a-c.true))

pub returns : goal.returns
returns c = last_two _ _ _ c.if-a-b.false c.if-a-c.false
