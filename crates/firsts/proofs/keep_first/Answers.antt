-- `firsts::keep_first` meets its contract. Assumes nothing.
use mathlib.Core.Path.{refl}
use native.Mathlib.Omega.{arith}
use Rattle.firsts.specs.Keeping.{only, least}
use Rattle.firsts.proofs.Numbers.{kept_none}
use Rattle.firsts.proofs.keep_first.Goals as goal

pub returns-then-n-eq0 : goal.returns-then-n-eq0
returns-then-n-eq0 c = kept_none _ _ _ _ _ c.if-n-eq0.true

pub lower-requires : goal.lower-requires
lower-requires c = c.requires (omega (arith, c.if-n-eq0.false))

pub eliminate-requires : goal.eliminate-requires
eliminate-requires c = c.requires (omega (arith, c.if-n-eq0.false))

pub returns-then-found : goal.returns-then-found
returns-then-found c = least c.if-found.true refl c.lower.ensures

pub returns-else-found : goal.returns-else-found
returns-else-found c = only c.if-found.false refl c.eliminate.ensures
