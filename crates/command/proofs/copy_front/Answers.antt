-- `command::copy_front` meets its contract. Assumes nothing.
use mathlib.Core.Path.{ap}
use mathlib.Core.List.{List, ◌++◌}
use Prim.Native.Nat.{ℕ}
use lib.ListN.{length, drop}
use Rattle.specification.specs.Records.{write_into}
use Rattle.command.proofs.copy_front.Goals as goal

pub returns : goal.returns
unfolding write_into
returns c = ap (λ (l : List ℕ). l ++ drop (length c.args.text.now) c.args.out.now) c.copy_from_slice.ensures.after
