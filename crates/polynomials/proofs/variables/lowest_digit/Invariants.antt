-- `polynomials::variables::lowest_digit` meets its contract: the digits passed are 0. Assumes nothing.
use Rattle.polynomials.proofs.Digits.{Seeking}
use Rattle.polynomials.proofs.variables.lowest_digit.Given as goal

abbrev pub invariant-loop-k : goal.invariant-loop-k
invariant-loop-k l = Seeking l.key l.k

abbrev pub decreases-loop-k : goal.decreases-loop-k
decreases-loop-k l = l.k
