-- `letters::test_term`. The loop: the test of the term is that of its factors from factor i on and then of its vector part. Assumes nothing.
use Rattle.std.proofs.Common.{rules}
use Rattle.letters.proofs.LetterTests.{factor-stops, factor-passes, factors-end}
use Prim.Native.Nat.{◌-◌, ◌≤◌}
use mathlib.Core.List.{map}
use lib.ListN.{length, take, drop}
use Rattle.specification.specs.Results.{◌>>◌}
use Rattle.specification.specs.Letters.{vector, test_letters}
use Rattle.specification.specs.Records.{test_factors, test_term}
use Rattle.terms.specs.Numbers.{letters_of}
use Rattle.terms.specs.Abstraction.{part_of, term_of}
use Rattle.terms.proofs.Arrays.{all-at}
use mathlib.Core.Path.{◌≡◌, refl, sym, ◌∙◌}
use native.Mathlib.Omega.{arith}
use Rattle.letters.proofs.test_term.Goals.{Start}
use Rattle.refusal.proofs.Passing.{passed_up}
use Rattle.letters.proofs.test_term.Goals as goal

places : (c : Start) → length c.args.t.factors ≡ 7
places c = search rules

room : (c : Start) → c.args.t.factor_count ≤ length c.args.t.factors
room c = omega (arith, places c, c.requires.few)

pub overflow_cast-n : goal.overflow_cast-n
overflow_cast-n c = omega (arith, c.requires.few)

pub loop-i-init : goal.loop-i-init
unfolding test_term term_of
loop-i-init c = (omega arith, refl, c.requires.few, refl)

pub bounds-t-i : goal.bounds-t-i
bounds-t-i c = omega (arith, places (goal.at.bounds-t-i c).Start)

pub test_factor-requires : goal.test_factor-requires
test_factor-requires c = all-at _ _ _ _ _ (room (goal.at.test_factor-requires c).Start) c.loop-i-test.true c.requires.small

pub returns-in_err-test_factor : goal.returns-in_err-test_factor
returns-in_err-test_factor c =
    let w = c in
    rw (passed_up _ _ c.from_residual.ensures.1)
    (sym (c.loop-i.invariant.3 ∙ sym (factor-stops w.args.table.now w.args.t.factors w.args.t.factor_count c.loop-i.i _ (room (goal.at.returns-in_err-test_factor c).Start) _ c.loop-i-test.true c.in_err-test_factor.ensures)))

pub loop-i-preserved : goal.loop-i-preserved
loop-i-preserved c =
    let w = c in
    let inv = c.loop-i.invariant in (
      omega arith,
      inv.1,
      inv.2,
      inv.3 ∙ factor-passes w.args.table.now w.args.t.factors w.args.t.factor_count c.loop-i.i _ (room (goal.at.loop-i-preserved c).Start) c.loop-i-test.true c.in_ok-test_factor.ensures,
    )

pub test_part-requires : goal.test_part-requires
test_part-requires c = tt

pub returns : goal.returns
returns c =
    let w = c in
    c.test_part.ensures ∙ sym
    (c.loop-i.invariant.3 ∙ factors-end w.args.table.now w.args.t.factors w.args.t.factor_count c.loop-i.i _
    (room (goal.at.returns c).Start) c.loop-i-test.false)
