use Rattle.std.proofs.Common.{rules}
use Prim.Native.Nat.{◌+◌}
use Rattle.pair_limits.proofs.Largest.{vectors-many, vectors-few}
use Rattle.pair_limits.proofs.letters_fit.Goals as goal

pub returns-then-a-b-gt6 : goal.returns-then-a-b-gt6
returns-then-a-b-gt6 c = vectors-many _ (c.args.a.scalars + c.args.b.scalars) c.if-a-b-gt6.true

pub returns : goal.returns
returns c = vectors-few _ (c.args.a.scalars + c.args.b.scalars) c.if-a-b-gt6.false
