use Prim.Native.Nat.{◌/◌, ◌%◌}
use native.Mathlib.Omega.{arith}
use Rattle.marking.proofs.MarkSizes.{two_small, three-small, no-places, some_places}
use Rattle.marking.proofs.products.places_mark.Goals as goal

pub returns-then-c-eq0 : goal.returns-then-c-eq0
returns-then-c-eq0 c = no-places _ _ c.if-c-eq0.true

pub overflow_mul-result : goal.overflow_mul-result
overflow_mul-result c = let w = c in omega (arith, two_small _ _ (w.requires.2 (w.args.c / 64)) (w.requires.2 (w.args.c / 8 % 8)))

pub overflow_mul-result-2 : goal.overflow_mul-result-2
overflow_mul-result-2 c = let w = c in omega (arith, three-small _ _ _ (w.requires.2 (w.args.c / 64)) (w.requires.2 (w.args.c / 8 % 8)) (w.requires.2 (w.args.c % 8)))

pub returns : goal.returns
returns c = some_places _ _ c.requires.2 c.if-c-eq0.false
