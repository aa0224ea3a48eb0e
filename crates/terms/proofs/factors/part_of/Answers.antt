use Rattle.std.proofs.Common.{rules}
use mathlib.Core.Path.{refl}
use Rattle.terms.proofs.Letters.{part-nothing, part-letter, part-wedge}
use Rattle.terms.proofs.factors.part_of.Goals as goal

pub returns-then-k-eq0 : goal.returns-then-k-eq0
returns-then-k-eq0 c = part-nothing _ c.if-k-eq0.true

pub returns-then-i-lt-DOTS : goal.returns-then-i-lt-DOTS
returns-then-i-lt-DOTS c = part-letter _ _ c.if-k-eq0.false refl _ c.if-i-lt-DOTS.true c.low.ensures

pub returns : goal.returns
returns c = part-wedge _ _ c.if-k-eq0.false refl _ _ c.if-i-lt-DOTS.false c.requires
    c.low-2.ensures c.low-3.ensures
