-- `candidates::trying::next_pick` meets its contract: nothing is to be hoped for from the picks passed. Assumes nothing.
use mathlib.Core.Path.{◌≡◌, ap, sym, subst, ◌∙◌}
use Prim.Native.Nat.{ℕ, ◌≤◌, ◌<◌, ◌^◌}
use native.Mathlib.Omega.{arith}
use lib.ListN.{length}
use lib.Pow.{pow_mono}
use Rattle.picks.specs.Choosing.{bit_digits}
use Rattle.candidates.proofs.Trials.{block-few, takes-no_block, picks_none, picks-skipped, picks_more, picks-found, picks-end}
use Rattle.candidates.proofs.trying.next_pick.Goals.{After-bit_digits-digits, After-mask_count-end}
use Rattle.candidates.proofs.trying.next_pick.Goals as goal

few : (c : After-mask_count-end) → c.mask_count-end.result ≤ 64
few c = subst (λ (n : ℕ). n ≤ 64) (sym c.mask_count-end.ensures) (pow_mono c.rule_letters.ensures.1)

counted : (c : After-bit_digits-digits) → length c.bit_digits-digits.result ≡ 64
unfolding bit_digits
counted c = ap length c.bit_digits-digits.ensures

pub rule_letters-requires : goal.rule_letters-requires
rule_letters-requires c = tt

pub overflow_cast-rule_letters : goal.overflow_cast-rule_letters
overflow_cast-rule_letters c = omega (arith, c.rule_letters.ensures.1)

pub mask_count-end-requires : goal.mask_count-end-requires
mask_count-end-requires c = omega (arith, c.rule_letters.ensures.1)

pub block_size-block-requires : goal.block_size-block-requires
block_size-block-requires c = tt

pub bit_digits-digits-requires : goal.bit_digits-digits-requires
bit_digits-digits-requires c = tt

pub may_leave_first-first-requires : goal.may_leave_first-first-requires
may_leave_first-first-requires c = c.requires.3.opened.places

pub loop-j-init : goal.loop-j-init
loop-j-init c = (omega arith, picks_none _ _ _ _ _)

pub may_take_block-requires : goal.may_take_block-requires
may_take_block-requires c = (
  counted (goal.at.may_take_block-requires c).After-bit_digits-digits,
  omega (
    arith,
    c.loop-j-test.true,
    few (goal.at.may_take_block-requires c).After-mask_count-end,
  ),
  omega (
    arith,
    c.block_size-block.ensures,
    block-few c.args.rule,
  ),
)

pub loop-j-preserved-then-not-may_take_block : goal.loop-j-preserved-then-not-may_take_block
loop-j-preserved-then-not-may_take_block c = let w = c in let v =
    c.loop-j in (
      omega (arith, v.invariant.0),
      picks-skipped w.args.marks.now w.args.t w.args.rule w.args.o w.args.from v.j v.invariant.1 v.invariant.0
          (λ kind k op inside can. takes-no_block w.args.t w.args.rule w.args.o v.j kind k op inside can _ _ _ c.bit_digits-digits.ensures c.block_size-block.ensures c.may_leave_first-first.ensures (c.may_take_block.ensures c.if-not-may_take_block.true)),
    )

pub try_pick-requires : goal.try_pick-requires
try_pick-requires c = let w = c in (
  w.requires.0,
  w.requires.1,
  w.requires.2,
  w.requires.3,
  subst (λ (n : ℕ). c.loop-j.j < n)
      (c.mask_count-end.ensures ∙ ap (λ (n : ℕ). 2 ^ n)
      c.rule_letters.ensures.0)
      c.loop-j-test.true,
)

pub returns-in-Some : goal.returns-in-Some
returns-in-Some c = let w = c in let v =
    c.loop-j in
    picks-found w.args.marks.now w.args.t w.args.rule w.args.o w.args.from v.j v.invariant.1 v.invariant.0
    _ c.in-Some.ensures (omega (
      arith,
      c.loop-j-test.true,
      few (goal.at.returns-in-Some c).After-mask_count-end,
    ))

pub loop-j-preserved : goal.loop-j-preserved
loop-j-preserved c = let w = c in let v =
    c.loop-j in (
      omega (arith, v.invariant.0),
      picks_more w.args.marks.now w.args.t w.args.rule w.args.o w.args.from v.j v.invariant.1 v.invariant.0
          c.in_default.ensures,
    )

pub returns : goal.returns
returns c = let w = c in let v = c.loop-j in
    picks-end w.args.marks.now w.args.t w.args.rule w.args.o w.args.from v.j v.invariant.1 v.invariant.0
    (subst (λ (n : ℕ). n ≤ v.j) (c.mask_count-end.ensures ∙ ap (λ (n : ℕ). 2 ^ n)
    c.rule_letters.ensures.0) c.loop-j-test.false) w.requires.4
