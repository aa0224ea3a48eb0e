-- `polynomials::variables::lowest_digit` meets its contract: the digits passed are 0. Assumes nothing.
use Rattle.polynomials.proofs.Digits.{seek-starts, seek_found, seek_on, seek-nothing}
use Rattle.polynomials.proofs.variables.lowest_digit.Goals as goal

pub loop-k-init : goal.loop-k-init
loop-k-init c = seek-starts _ c.ranges.key.fits

pub returns-then-k-ne0 : goal.returns-then-k-ne0
returns-then-k-ne0 c = seek_found _ _ c.loop-k.invariant c.if-k-ne0.true

pub loop-k-preserved : goal.loop-k-preserved
loop-k-preserved c = seek_on _ _ c.loop-k.invariant c.loop-k-test.true c.if-k-ne0.false

pub returns : goal.returns
returns c = seek-nothing _ _ c.loop-k.invariant c.loop-k-test.false
