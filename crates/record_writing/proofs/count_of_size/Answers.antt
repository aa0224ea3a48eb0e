-- `record_writing::count_of_size` meets its contract: after i turns the count is that of the first i numbers. Assumes nothing.
use Rattle.std.proofs.Common.{rules}
use mathlib.Core.Path.{◌≡◌, refl}
use mathlib.Core.Logic.{⊎_elim}
use Prim.Native.Nat.{◌≤◌, ◌<◌, ◌-◌}
use native.Mathlib.Omega.{arith}
use lib.ListN.{length, take}
use Rattle.specification.specs.Lists.{select}
use Rattle.specification.specs.Records.{factors_of}
use Rattle.terms.specs.Abstraction.{term_of}
use Rattle.record_writing.proofs.Factors.{sized, counted_more, counted_same}
use Rattle.record_writing.proofs.count_of_size.Goals.{else-letter_count-size, then-letter_count-size, Start}
use Rattle.record_writing.proofs.count_of_size.Goals as goal

-- there are five places
places : (c : Start) → length c.args.t.factors ≡ 7
places c = search rules

pub overflow_cast-n : goal.overflow_cast-n
overflow_cast-n c = omega (arith, c.requires.few)

pub loop-i-init : goal.loop-i-init
unfolding select
loop-i-init c = (omega arith, omega arith, refl)

pub letter_count-requires : goal.letter_count-requires
letter_count-requires c = tt

pub loop-i-preserved : goal.loop-i-preserved
loop-i-preserved c =
    let w = c in
    let h : w.loop-i.i < length w.args.t.factors = omega (arith, places (goal.at.loop-i-preserved c).Start) in
    elim c.if-letter_count-size.branch [
      | then-letter_count-size v ↦ (omega arith, omega (arith, v.count-is), counted_more _ _ _ _ h c.letter_count.ensures _ _ v.if-letter_count-size.true w.loop-i.invariant.2 v.count-is)
      | else-letter_count-size v ↦ (omega arith, omega (arith, v.count-is), counted_same _ _ _ _ h c.letter_count.ensures _ _ v.if-letter_count-size.false w.loop-i.invariant.2 v.count-is)
    ]

pub returns : goal.returns
unfolding factors_of term_of
returns c =
    let w = c in
    let e : w.loop-i.i ≡ w.args.t.factor_count = omega arith in
    rw (← e) w.loop-i.invariant.2
