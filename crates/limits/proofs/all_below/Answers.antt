-- `limits::all_below` meets its contract. Assumes nothing.
use Rattle.std.proofs.Common.{rules}
use mathlib.Core.Path.{sym}
use Rattle.limits.proofs.Limits.{light-within}
use Rattle.limits.proofs.all_below.Goals as goal

pub returns-then-bound-le2147483647 : goal.returns-then-bound-le2147483647
returns-then-bound-le2147483647 c = let a = c in sym (light-within _ _ a.args.bound c.if-bound-le2147483647.true (a.requires.1 c.if-bound-le2147483647.true))

pub all_within-requires : goal.all_within-requires
all_within-requires c = c.requires.0

pub returns : goal.returns
returns c = c.all_within.ensures
