use native.Mathlib.Omega.{arith}
use borrow.Author.Tests.{eq-eqb, ne_eqb}
use Rattle.theory.specs.Shortening.Candidates.{block_size}
use Rattle.picks.proofs.choosing.block_size.Goals as goal

pub returns-in-2 : goal.returns-in-2
unfolding block_size
returns-in-2 c = rw (eq-eqb c.args.rule 2 c.in-2.is)

pub returns-in-3 : goal.returns-in-3
unfolding block_size
returns-in-3 c = rw (ne_eqb c.args.rule 2 (omega (arith, c.in-3.is)), eq-eqb c.args.rule 3 c.in-3.is)

pub returns-in_default : goal.returns-in_default
unfolding block_size
returns-in_default c = rw (ne_eqb c.args.rule 2 c.in_default.in_default-own.rest.0.1, ne_eqb c.args.rule 3 c.in_default.in_default-own.rest.1)
