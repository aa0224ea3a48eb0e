use Rattle.std.proofs.Common.{rules}
use mathlib.Core.Path.{◌≡◌}
use lib.ListN.{length}
use Rattle.terms.proofs.InShape.{part-few}
use native.Mathlib.Omega.{arith}
use Rattle.integers.proofs.Machine.{size-asks}
use Rattle.pair_limits.proofs.Largest.{with-most}
use Rattle.pair_limits.proofs.with_term.Goals.{Start}
use Rattle.pair_limits.proofs.with_term.Goals as goal

places : (c : Start) → length c.args.t.factors ≡ 7
places c = search rules

pub letters_used-used-requires : goal.letters_used-used-requires
letters_used-used-requires c = (c.requires.0.few, places (goal.at.letters_used-used-requires c).Start)

pub size-c-requires : goal.size-c-requires
size-c-requires c = size-asks c.args.t.coef c.requires.1

pub overflow_add-used : goal.overflow_add-used
overflow_add-used c = omega (arith, c.letters_used-used.ensures.few, c.part_letters.ensures, part-few c.args.t.part)

pub returns : goal.returns
returns c = with-most _ _ _ _ _ _ c.requires.1 c.letters_used-used.ensures c.part_letters.ensures c.size-c.ensures c.larger.ensures c.larger-2.ensures c.larger-3.ensures
