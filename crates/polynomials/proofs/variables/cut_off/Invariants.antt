-- `polynomials::variables::cut_off` meets its contract: so much is cut, and the digits `k` are left. Assumes nothing.
use Rattle.polynomials.proofs.Digits.{Cutting}
use Rattle.polynomials.proofs.variables.cut_off.Given as goal

abbrev pub invariant-loop-k : goal.invariant-loop-k
invariant-loop-k l = Cutting l.d l.key l.k l.place l.e

abbrev pub decreases-loop-k : goal.decreases-loop-k
decreases-loop-k l = l.k
