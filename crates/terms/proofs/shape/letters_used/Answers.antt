-- `terms::shape::letters_used`. The loop: the letters counted and those of the factors from factor i on are all letters. Assumes nothing.
use Rattle.std.proofs.Common.{rules}
use mathlib.Core.Path.{◌≡◌}
use Prim.Native.Nat.{◌+◌, ◌-◌, ◌*◌, ◌≤◌}
use native.Mathlib.Omega.{arith}
use lib.ListN.{length, take, drop}
use Rattle.terms.proofs.InShape.{vectors_more, scalars_more, vectors_all, scalars_all}
use mathlib.Core.List.{map}
use Rattle.specification.specs.Terms.{vector_letters_of, scalar_letters_of}
use Rattle.terms.specs.Numbers.{letters_of}
use Rattle.terms.proofs.shape.letters_used.Goals.{Start}
use Rattle.terms.proofs.shape.letters_used.Goals as goal

room : (c : Start) → c.args.n ≤ length c.args.f.now
room c = omega (arith, c.requires.1)

pub loop-i-init : goal.loop-i-init
loop-i-init c = (omega arith, omega arith, omega arith, omega arith, omega arith, omega arith)

pub bounds-f-i : goal.bounds-f-i
bounds-f-i c = omega (arith, c.requires.1)

pub vector_count-vectors-requires : goal.vector_count-vectors-requires
vector_count-vectors-requires c = tt

pub scalar_count-scalars-requires : goal.scalar_count-scalars-requires
scalar_count-scalars-requires c = tt

pub loop-i-preserved : goal.loop-i-preserved
loop-i-preserved c =
    let w = c in
    let v = c.vector_count-vectors.ensures in
    let s = c.scalar_count-scalars.ensures in
    let t = c.loop-i-test.true in
    let inv = w.loop-i.invariant in (
      omega arith,
      inv.1,
      vectors_more _ _ _ (room (goal.at.loop-i-preserved c).Start) t _ _ _ v.0 inv.2,
      scalars_more _ _ _ (room (goal.at.loop-i-preserved c).Start) t _ _ _ s.0 inv.3,
      omega (arith, v.1, inv.4),
      omega (arith, s.1, inv.5),
    )

pub returns : goal.returns
returns c =
    let w = c in
    let inv = w.loop-i.invariant in
    record {
      vectors = vectors_all _ _ _ (room (goal.at.returns c).Start) c.loop-i-test.false _ _ inv.2;
      scalars = scalars_all _ _ _ (room (goal.at.returns c).Start) c.loop-i-test.false _ _ inv.3;
      few = omega (arith, inv.0, inv.1, inv.4);
    }
