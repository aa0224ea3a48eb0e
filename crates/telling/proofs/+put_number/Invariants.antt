-- `telling::put_number` calls itself on a tenth: the measure is the number. Assumes nothing.
use Rattle.telling.proofs.+put_number.Given as goal

abbrev pub decreases-put_number : goal.decreases-put_number
decreases-put_number l = l.n
