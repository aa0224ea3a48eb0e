use native.Mathlib.Omega.{arith}
use Prim.Native.Nat.{◌/◌, ◌%◌}
use Rattle.marking.proofs.MarkSizes.{two_small, product_small, product_is}
use Rattle.marking.proofs.products.product_mark.Goals as goal

pub overflow_mul-p : goal.overflow_mul-p
overflow_mul-p c = let w = c in let p = two_small _ _ (w.requires.letters.1 (w.args.n % 64 / 8)) (w.requires.letters.1 (w.args.n % 64 % 8)) in omega (arith, p)

pub overflow_mul-result : goal.overflow_mul-result
overflow_mul-result c = let w = c in let p = two_small _ _ (w.requires.letters.1 (w.args.n % 64 / 8)) (w.requires.letters.1 (w.args.n % 64 % 8)) in omega (arith, product_small _ _ w.requires.small.1 p)

pub overflow_mul-result-2 : goal.overflow_mul-result-2
overflow_mul-result-2 c = let w = c in let p = two_small _ _ (w.requires.letters.1 (w.args.n % 64 / 8)) (w.requires.letters.1 (w.args.n % 64 % 8)) in omega (arith, product_small _ _ w.requires.small.1 p)

pub overflow_add-result-4 : goal.overflow_add-result-4
overflow_add-result-4 c = let w = c in let p = two_small _ _ (w.requires.letters.1 (w.args.n % 64 / 8)) (w.requires.letters.1 (w.args.n % 64 % 8)) in omega (arith, product_small _ _ w.requires.small.1 p, w.requires.small.0, c.places_mark-x.ensures.1, c.places_mark-y.ensures.1, c.places_mark-z.ensures.1)

pub returns : goal.returns
returns c = product_is _ _ _ _ _ _ _ c.places_mark-x.ensures.0 c.places_mark-y.ensures.0 c.places_mark-z.ensures.0
