-- `symbols::is_bare` meets its contract: a term with no factor and no vector part. Assumes nothing.
use Rattle.std.proofs.Common.{rules}
use mathlib.Core.Path.{◌≡◌}
use Prim.Native.Nat.{◌≤◌}
use native.Mathlib.Omega.{arith}
use lib.ListN.{length}
use Rattle.symbols.proofs.Pieces.{factors-there, nothing_there, letter-there, wedge-there}
use Rattle.symbols.proofs.is_bare.Goals.{Start}
use Rattle.symbols.proofs.is_bare.Goals as goal

-- there are seven places
places : (c : Start) → length c.args.t.factors ≡ 7
places c = search rules

-- so that the factors are among them
few : (c : Start) → c.args.t.factor_count ≤ length c.args.t.factors
few c = omega (arith, places c, c.requires.few)

pub returns-then-t-gt0 : goal.returns-then-t-gt0
returns-then-t-gt0 c = factors-there c.args.t c.if-t-gt0.true (few (goal.at.returns-then-t-gt0 c).Start)

pub returns-in-Nothing : goal.returns-in-Nothing
returns-in-Nothing c = nothing_there c.args.t c.if-t-gt0.false c.in-Nothing.is

pub returns-in-Letter : goal.returns-in-Letter
returns-in-Letter c = letter-there c.args.t _ c.if-t-gt0.false c.in-Letter.is

pub returns-in-Wedge : goal.returns-in-Wedge
returns-in-Wedge c = wedge-there c.args.t _ _ c.if-t-gt0.false c.in-Wedge.is
