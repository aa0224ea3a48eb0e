-- `polynomials::expansion::count` meets its contract. Assumes nothing.
use mathlib.Core.Path.{ap, sym}
use Rattle.polynomials.specs.Expansion.{count_of}
use Rattle.polynomials.proofs.expansion.count.Goals as goal

pub returns-in-Zero : goal.returns-in-Zero
unfolding count_of
returns-in-Zero c = ap count_of (sym c.in-Zero.is)

pub returns-in-One : goal.returns-in-One
unfolding count_of
returns-in-One c = ap count_of (sym c.in-One.is)

pub returns-in-Single : goal.returns-in-Single
unfolding count_of
returns-in-Single c = ap count_of (sym c.in-Single.is)

pub returns-in-Dot : goal.returns-in-Dot
unfolding count_of
returns-in-Dot c = ap count_of (sym c.in-Dot.is)

pub returns-in-Triple : goal.returns-in-Triple
unfolding count_of
returns-in-Triple c = ap count_of (sym c.in-Triple.is)

pub returns-in-Cross : goal.returns-in-Cross
unfolding count_of
returns-in-Cross c = ap count_of (sym c.in-Cross.is)
