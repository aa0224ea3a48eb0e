-- `elimination::components::expand_form` meets its contract: the terms before k are expanded. Assumes nothing.
use Rattle.std.proofs.Common.{rules}
use mathlib.Core.Path.{◌≡◌, refl, ◌∙◌}
use Prim.Native.Nat.{◌≤◌}
use native.Mathlib.Omega.{arith}
use lib.ListN.{length}
use Rattle.integers.proofs.Machine.{back, back_is}
use Rattle.elimination.specs.Differences.{FormExpandable}
use Rattle.polynomials.specs.Memory.{summands}
use Rattle.polynomials.proofs.Layers.{words}
use Rattle.elimination.proofs.Differences.{fill-starts, fill-asks, sum_fits, fill_on, fill_ends, fill_as, filled_as}
use Rattle.elimination.proofs.components.expand_form.Goals.{Start}
use Rattle.elimination.proofs.components.expand_form.Goals as goal

-- there are 48 places
places : (c : Start) → length c.args.f.terms ≡ 48
places c = search rules

-- so that the terms are among them
few : (c : Start) → c.args.f.count ≤ length c.args.f.terms
few c = omega (arith, places c, c.requires.valid.few)

-- the sign is read back
asks : (c : Start) → FormExpandable c.args.start c.args.f c.args.i (back c.args.sign) (summands c.args.work.now)
asks c = fill_as _ _ _ _ _ _ (back_is c.ranges.sign) c.requires

pub loop-k-init : goal.loop-k-init
loop-k-init c = (refl, fill-starts _ _ _ _ _ (asks (goal.at.loop-k-init c).Start))

pub offset_bounds-f-k : goal.offset_bounds-f-k
offset_bounds-f-k c = omega (arith, c.requires.valid.few)

pub bounds-f-k : goal.bounds-f-k
bounds-f-k c = omega (arith, c.requires.valid.few)

pub overflow_add-start : goal.overflow_add-start
overflow_add-start c =
    omega (
      arith,
      sum_fits _ _ _ _ _ (asks (goal.at.overflow_add-start c).Start) (few (goal.at.overflow_add-start c).Start) _ c.loop-k-test.true _ _
          c.loop-k.invariant.1,
      words c.args.work.now,
    )

pub expand_term-n-requires : goal.expand_term-n-requires
expand_term-n-requires c =
    fill-asks _ _ _ _ _ (asks (goal.at.expand_term-n-requires c).Start) (few (goal.at.expand_term-n-requires c).Start) _ c.loop-k-test.true _ _
    c.loop-k.invariant.1

pub overflow_add-n : goal.overflow_add-n
overflow_add-n c =
    omega (
      arith,
      (fill_on _ _ _ _ _ (asks (goal.at.overflow_add-n c).Start)
          (few (goal.at.overflow_add-n c).Start) _ c.loop-k-test.true _ _
          c.loop-k.invariant.1 _ _ c.expand_term-n.ensures).0,
      words c.args.work.now,
    )

pub loop-k-preserved : goal.loop-k-preserved
loop-k-preserved c = (
  c.expand_term-n.auto.work ∙ c.loop-k.invariant.0,
  (fill_on _ _ _ _ _ (asks (goal.at.loop-k-preserved c).Start)
      (few (goal.at.loop-k-preserved c).Start) _ c.loop-k-test.true _ _
      c.loop-k.invariant.1 _ _ c.expand_term-n.ensures).1,
)

pub shape_of-work : goal.shape_of-work
shape_of-work c = c.loop-k.invariant.0

pub returns : goal.returns
returns c = filled_as _ _ _ _ _ _ _ _ (back_is c.ranges.sign) (fill_ends _ _ _ _ _ (asks (goal.at.returns c).Start) _ c.loop-k-test.false _ _ c.loop-k.invariant.1)
