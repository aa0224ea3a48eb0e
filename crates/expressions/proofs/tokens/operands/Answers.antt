use Rattle.expressions.proofs.Heads.{count_one, count_two, count_three, count_low, count_high}
use Rattle.expressions.proofs.tokens.operands.Goals as goal

pub returns-in-5 : goal.returns-in-5
returns-in-5 c = count_one _ c.in-5.is

pub returns-in-9 : goal.returns-in-9
returns-in-9 c = count_three _ c.in-9.is

pub returns-in-3-to-4 : goal.returns-in-3-to-4
returns-in-3-to-4 c = count_two _ c.in-3-to-4.in_default-own.rest.0.1 c.in-3-to-4.if-token-lt3-own.false c.in-3-to-4.if-token-lt9-own.true

pub returns-in-0-to-2 : goal.returns-in-0-to-2
returns-in-0-to-2 c = count_low _ c.in-0-to-2.if-token-lt3-own.true

pub returns-in-0-to-2-2 : goal.returns-in-0-to-2-2
returns-in-0-to-2-2 c = count_high _ c.in-0-to-2.if-token-lt9-own.false c.in-0-to-2.in_default-own.rest.1
