-- `formulas::atoms::number_at` meets its contract. Assumes nothing.
use Rattle.algebra.specs.Integers.{sfits-nat_abs}
use Rattle.formulas.proofs.Leaves.{number_fits, number_read}
use Rattle.formulas.proofs.atoms.number_at.Goals as goal

pub overflow_cast-d : goal.overflow_cast-d
overflow_cast-d c = sfits-nat_abs _ (number_fits c.args.s.now c.args.at _ c.read_digits-d.ensures)

pub returns : goal.returns
returns c = number_read c.args.s.now c.args.at _ c.read_digits-d.ensures _ _ _ _ c.constant-work.ensures c.past_blanks-next.ensures
