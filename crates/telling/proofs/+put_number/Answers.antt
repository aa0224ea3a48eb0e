-- `telling::put_number` meets its contract: the digits of a tenth, then one more. Assumes nothing.
use Rattle.telling.proofs.Pieces.{tells-then, tells_as, numeral_one, numeral_more}
use Rattle.telling.proofs.+put_number.Goals as goal

pub returns-then-n-lt10 : goal.returns-then-n-lt10
returns-then-n-lt10 t c = tells_as _ (numeral_one _ c.if-n-lt10.true) c.put_byte.ensures

pub returns : goal.returns
returns t c = tells_as _ (numeral_more _ c.if-n-lt10.false c.ranges.n.fits) (tells-then c.put_number-next.ensures c.put_byte-2.ensures)
