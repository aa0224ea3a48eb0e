-- `telling::put_blanks` meets its contract. The loop's invariant: as many blanks are told as turns are done. Assumes nothing.
use mathlib.Core.Path.{◌≡◌}
use lib.ListN.{length}
use Rattle.specification.specs.Commands.{blanks}
use Rattle.telling.specs.Told.{Tells}
use Rattle.telling.proofs.put_blanks.Given as goal

abbrev pub invariant-loop : goal.invariant-loop
invariant-loop l = Tells l.initial.out l.out l.at l.next (blanks l.counter) × (length l.out ≡ length l.initial.out)
