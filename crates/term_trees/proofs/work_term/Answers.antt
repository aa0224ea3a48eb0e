-- `term_trees::work_term` meets its contract: as it is, or part by part. Assumes nothing.
use Rattle.std.proofs.Common.{rules}
use mathlib.Core.Path.{◌≡◌}
use Prim.Native.Nat.{◌≤◌}
use native.Mathlib.Omega.{arith}
use lib.ListN.{length}
use Rattle.terms.specs.Abstraction.{term_of}
use Rattle.term_trees.proofs.Splitting.{term-form, term-as_is}
use Rattle.term_trees.proofs.work_term.Goals.{Start}
use Rattle.term_trees.proofs.work_term.Goals as goal

places : (c : Start) → length c.args.t.factors ≡ 7
places c = search rules

room : (c : Start) → c.args.t.factor_count ≤ length c.args.t.factors
room c = omega (arith, places c, c.requires.0.counted.few)

pub leading-k-requires : goal.leading-k-requires
leading-k-requires c = let p = c.requires.0.counted in (p.few, places (goal.at.leading-k-requires c).Start, p.small)

pub alone-requires : goal.alone-requires
alone-requires c =
    let p = c.requires in
    (p.0.counted, term-form _ _ c.kind_of_part.ensures p.0.in_shape, omega (arith, p.1.room), omega (arith, p.1.beside))

pub returns-then-is_without : goal.returns-then-is_without
unfolding term_of
returns-then-is_without c =
    let s = c in
    let w = c.is_without.ensures c.if-is_without.true in
    term-as_is _ _ c.kind_of_part.ensures s.requires.0.in_shape _ _ _ _ _ _ (room (goal.at.returns-then-is_without c).Start)
    c.leading-k.ensures w.0 w.1
    c.alone.ensures

pub work_parts-requires : goal.work_parts-requires
unfolding term_of
work_parts-requires c =
    let p = c.requires in
    (p.0, c.leading-k.ensures, record { form = p.1.form; room = omega (arith, p.1.room); beside = omega (arith, p.1.beside) })
