-- `integers::divide` meets its contract: the laws of the quotient and the rest. Assumes nothing.
use Rattle.std.proofs.Common.{rules}
use Rattle.integers.proofs.Division.{quotient-asks, by_zero_lem, divided, not-divided}
use Rattle.integers.proofs.divide.Goals as goal

pub returns-then-b-eq0 : goal.returns-then-b-eq0
returns-then-b-eq0 c = by_zero_lem c.ranges.b c.if-b-eq0.true

pub nonzero_div-value : goal.nonzero_div-value
nonzero_div-value c = quotient-asks c.ranges.a c.ranges.b c.requires c.if-b-eq0.false

pub nonzero_rem-rest : goal.nonzero_rem-rest
nonzero_rem-rest c = quotient-asks c.ranges.a c.ranges.b c.requires c.if-b-eq0.false

pub returns-then-rest-ne0 : goal.returns-then-rest-ne0
returns-then-rest-ne0 c = not-divided c.ranges.a c.ranges.b c.requires c.if-b-eq0.false c.if-rest-ne0.true

pub returns : goal.returns
returns c = divided c.ranges.a c.ranges.b c.requires c.if-b-eq0.false c.if-rest-ne0.false
