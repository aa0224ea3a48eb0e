-- `record_writing::write_joined` meets its contract: after i turns the letters of those of the first i factors stand that have so many letters. Assumes nothing.
use Rattle.std.proofs.Common.{rules}
use mathlib.Core.Path.{◌≡◌, refl, ◌∙◌}
use mathlib.Core.Logic.{⊎_elim}
use Prim.Native.Nat.{ℕ, ◌+◌, ◌≤◌, ◌<◌, ◌-◌}
use native.Mathlib.Omega.{arith}
use lib.ListN.{length, take}
use Rattle.specification.specs.Lists.{joined}
use Rattle.specification.specs.Records.{factors_of}
use Rattle.terms.specs.Abstraction.{term_of}
use Rattle.record_writing.specs.Written.{Written}
use Rattle.record_writing.proofs.Writes.{written_none}
use Rattle.terms.proofs.Arrays.{all-at}
use Rattle.record_writing.proofs.Factors.{sized, joined-none, joined-room, joined_written, joined_same}
use Rattle.record_writing.proofs.write_joined.Goals.{else-letter_count-size, then-letter_count-size, Start}
use Rattle.record_writing.proofs.write_joined.Goals as goal

-- there are five places
places : (c : Start) → length c.args.t.factors ≡ 7
places c = search rules

-- so that the factors are among them
few : (c : Start) → c.args.t.factor_count ≤ length c.args.t.factors
few c = omega (arith, places c, c.requires.0.few)

pub overflow_cast-n : goal.overflow_cast-n
overflow_cast-n c = omega (arith, c.requires.0.few)

pub loop-i-init : goal.loop-i-init
loop-i-init c = (omega arith, refl, written_none _ _ _ (joined-none c.args.size c.args.t.factors))

pub letter_count-requires : goal.letter_count-requires
letter_count-requires c = tt

pub write_letters-next-requires : goal.write_letters-next-requires
unfolding factors_of term_of
write_letters-next-requires c =
    let w = c in
    let s = c in
    let h : w.loop-i.i < length s.args.t.factors = omega (arith, places (goal.at.write_letters-next-requires c).Start) in
    let i : w.loop-i.i < s.args.t.factor_count = omega arith in
    let ks = take s.args.t.factor_count s.args.t.factors in
    let p : s.args.at + length (joined (sized s.args.size ks)) ≤ length w.loop-i.out = omega (arith, s.requires.1, w.loop-i.invariant.1) in (
      all-at (λ (k : ℕ). k < 16843008) _ _ _ 0 (few (goal.at.write_letters-next-requires c).Start) i s.requires.0.small,
      joined-room _ _ _ _ h c.letter_count.ensures _ _ _ _ c.if-letter_count-size.true i p w.loop-i.invariant.2.ends,
    )

pub loop-i-preserved : goal.loop-i-preserved
loop-i-preserved c =
    let w = c in
    let s = c in
    let h : w.loop-i.i < length s.args.t.factors = omega (arith, places (goal.at.loop-i-preserved c).Start) in
    let e = c.letter_count.ensures in
    elim c.if-letter_count-size.branch [
      | then-letter_count-size v ↦ (
        omega arith,
        rw v.out-is (v.write_letters-next.auto.out ∙ w.loop-i.invariant.1),
        rw (v.out-is, v.next-is) (joined_written _ _ _ _ h e _ _ _ _ _ _ v.if-letter_count-size.true (omega arith) w.loop-i.invariant.2 v.write_letters-next.ensures),
      )
      | else-letter_count-size v ↦ (
        omega arith,
        rw v.out-is w.loop-i.invariant.1,
        rw (v.out-is, v.next-is) (joined_same _ _ _ _ h e _ _ _ _ v.if-letter_count-size.false w.loop-i.invariant.2),
      )
    ]

pub shape_of-out : goal.shape_of-out
shape_of-out c = c.loop-i.invariant.1

pub returns : goal.returns
unfolding factors_of term_of
returns c =
    let w = c in
    let e : w.loop-i.i ≡ w.args.t.factor_count = omega arith in
    rw (← e) w.loop-i.invariant.2
