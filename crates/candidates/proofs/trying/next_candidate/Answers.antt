-- `candidates::trying::next_candidate` meets its contract: nothing is to be hoped for from the places passed, mask by mask. Assumes nothing.
use Rattle.std.proofs.Common.{rules}
use mathlib.Core.Path.{◌≡◌, sym, subst}
use Prim.Native.Nat.{ℕ, ◌≤◌, ◌<◌}
use native.Mathlib.Omega.{arith}
use lib.ListN.{length}
use lib.Pow.{pow_mono}
use Rattle.terms.specs.Abstraction.{term_of}
use Rattle.candidates.proofs.Trials.{places_none, mask-skipped, mask-passed, mask-found, places-end, factors-long}
use Rattle.candidates.proofs.Scalars.{many_hopeless}
use Rattle.candidates.proofs.trying.next_candidate.Goals.{After-mask_count-end, Start}
use Rattle.candidates.proofs.trying.next_candidate.Goals as goal

seven : (c : Start) → length c.args.t.factors ≡ 7
seven c = search rules

few : (c : After-mask_count-end) → c.mask_count-end.result ≤ 128
few c = subst (λ (n : ℕ). n ≤ 128) (sym c.mask_count-end.ensures) (pow_mono c.requires.1.counted.few)

pub mask_count-end-requires : goal.mask_count-end-requires
mask_count-end-requires c = c.requires.1.counted.few

pub loop-k-init : goal.loop-k-init
loop-k-init c = (omega arith, omega arith, places_none _ _ _ _)

pub letters_left-left-requires : goal.letters_left-left-requires
letters_left-left-requires c = let w = c in (w.requires.1.counted.few, seven (goal.at.letters_left-left-requires c).Start)

pub loop-k-preserved-then-left-gt6 : goal.loop-k-preserved-then-left-gt6
unfolding term_of
loop-k-preserved-then-left-gt6 c = let w = c in let v = c.loop-k in (
  omega (arith, v.invariant.0, v.invariant.1),
  omega arith,
  mask-skipped w.args.marks.now w.args.kind (term_of w.args.t) w.args.from v.k v.at v.invariant.2
      (many_hopeless w.args.marks.now w.args.kind (term_of w.args.t) v.k _ c.letters_left-left.ensures c.if-left-gt6.true),
)

pub next_of_mask-requires : goal.next_of_mask-requires
unfolding term_of
next_of_mask-requires c = let w = c in (
  w.requires.0,
  w.requires.1,
  subst (λ (n : ℕ). c.loop-k.k < n) c.mask_count-end.ensures
      c.loop-k-test.true,
  c.letters_left-left.ensures,
  c.loop-k.invariant.1,
)

pub overflow_mul-result : goal.overflow_mul-result
overflow_mul-result c = omega (
  arith,
  c.loop-k-test.true,
  few (goal.at.overflow_mul-result c).After-mask_count-end,
)

pub overflow_add-result : goal.overflow_add-result
overflow_add-result c = omega (
  arith,
  c.loop-k-test.true,
  few (goal.at.overflow_add-result c).After-mask_count-end,
  c.in-Some.ensures.inside,
)

pub returns-in-Some : goal.returns-in-Some
returns-in-Some c = let w = c in let v =
    c.loop-k in
    mask-found w.args.marks.now w.args.kind (term_of w.args.t) w.args.from v.k v.at v.invariant.2
    _ c.in-Some.ensures v.invariant.0 (omega (
      arith,
      c.loop-k-test.true,
      few (goal.at.returns-in-Some c).After-mask_count-end,
    ))

pub loop-k-preserved : goal.loop-k-preserved
unfolding term_of
loop-k-preserved c = let w = c in let v = c.loop-k in (
  omega (arith, v.invariant.0, v.invariant.1),
  omega arith,
  mask-passed w.args.marks.now w.args.kind (term_of w.args.t) w.args.from v.k v.at v.invariant.2 c.in_default.ensures,
)

pub returns : goal.returns
returns c = let w = c in let v = c.loop-k in places-end w.args.marks.now w.args.kind
    w.args.t w.args.from v.k v.at _ v.invariant.2 (factors-long w.args.t (omega (
      arith,
      seven (goal.at.returns c).Start,
      w.requires.1.counted.few,
    ))) c.mask_count-end.ensures c.loop-k-test.false w.requires.2
