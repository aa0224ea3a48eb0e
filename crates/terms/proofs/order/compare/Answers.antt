use Rattle.std.proofs.Common.{rules}
use mathlib.Core.Path.{◌≡◌, sym, ◌∙◌}
use Prim.Native.Nat.{◌≤◌}
use native.Mathlib.Omega.{arith}
use lib.ListN.{length}
use Rattle.terms.specs.Abstraction.{ordering_of}
use Rattle.terms.proofs.Orders.{part-less, part-more, count_less, count_more, same_counts}
use Rattle.terms.proofs.order.compare.Goals.{Start}
use Rattle.terms.proofs.order.compare.Goals as goal

places-a : (c : Start) → length c.args.a.factors ≡ 7
places-a c = search rules

places-b : (c : Start) → length c.args.b.factors ≡ 7
places-b c = search rules

few-a : (c : Start) → c.args.a.factor_count ≤ length c.args.a.factors
few-a c = omega (arith, places-a c, c.requires.0.few)

few-b : (c : Start) → c.args.b.factor_count ≤ length c.args.b.factors
few-b c = omega (arith, places-b c, c.requires.1.few)

pub returns-then-x-y : goal.returns-then-x-y
unfolding ordering_of
returns-then-x-y c = let w = c in sym (part-less w.args.a w.args.b _ _ c.part_number-x.ensures.letters
    c.part_number-y.ensures.letters (few-a (goal.at.returns-then-x-y c).Start) (few-b (goal.at.returns-then-x-y c).Start) c.if-x-y.true)

pub returns-then-y-x : goal.returns-then-y-x
unfolding ordering_of
returns-then-y-x c = let w = c in sym (part-more w.args.a w.args.b
    _ _ c.part_number-x.ensures.letters c.part_number-y.ensures.letters (few-a (goal.at.returns-then-y-x c).Start) (few-b (goal.at.returns-then-y-x c).Start) c.if-y-x.true)

pub returns-then-n-m : goal.returns-then-n-m
unfolding ordering_of
returns-then-n-m c = let w = c in sym (count_less w.args.a w.args.b
    _ _ c.part_number-x.ensures.letters c.part_number-y.ensures.letters (few-a (goal.at.returns-then-n-m c).Start) (few-b (goal.at.returns-then-n-m c).Start)
    c.if-y-x.false c.if-x-y.false c.if-n-m.true)

pub returns-then-m-n : goal.returns-then-m-n
unfolding ordering_of
returns-then-m-n c = let w = c in sym (count_more w.args.a w.args.b
    _ _ c.part_number-x.ensures.letters c.part_number-y.ensures.letters
    (few-a (goal.at.returns-then-m-n c).Start) (few-b (goal.at.returns-then-m-n c).Start) c.if-y-x.false c.if-x-y.false c.if-m-n.true)

pub returns : goal.returns
returns c = let w = c in c.compare_factors.ensures
    ∙ sym (same_counts w.args.a w.args.b _ _ c.part_number-x.ensures.letters c.part_number-y.ensures.letters (few-a (goal.at.returns c).Start) (few-b (goal.at.returns c).Start)
    c.if-y-x.false c.if-x-y.false
    c.if-m-n.false c.if-n-m.false)
