-- `candidates::trying::next_of_mask` meets its contract: nothing is to be hoped for from the places passed. Assumes nothing.
use Prim.Native.Nat.{◌+◌, ◌<◌}
use native.Mathlib.Omega.{arith}
use Rattle.terms.specs.Abstraction.{term_of}
use Rattle.candidates.proofs.Trials.{place-rule, rules_none, rules-skipped, rules-shut, opened-there, rules-passed, rules-found, rules-end}
use Rattle.candidates.proofs.Scalars.{ruled_hopeless}
use Rattle.candidates.proofs.trying.next_of_mask.Goals.{In-loop-q}
use Rattle.candidates.proofs.trying.next_of_mask.Goals as goal

-- a place has a rule
few : (c : In-loop-q) → c.loop-q.q < 5
few c = omega (arith, c.loop-q-test.true)

pub loop-q-init : goal.loop-q-init
loop-q-init c = (omega arith, omega arith, rules_none _ _ _ _ _)

pub overflow_add-rule : goal.overflow_add-rule
overflow_add-rule c = omega (arith, c.loop-q-test.true)

pub overflow_cast-rule : goal.overflow_cast-rule
overflow_cast-rule c = omega (arith, c.loop-q-test.true)

pub is_open-requires : goal.is_open-requires
is_open-requires c = c.requires.3.few

pub loop-q-preserved-then-not-is_open : goal.loop-q-preserved-then-not-is_open
unfolding term_of
loop-q-preserved-then-not-is_open c = let w = c in let v = c.loop-q in (
  omega (arith, v.invariant.0, v.invariant.1),
  omega arith,
  rules-skipped w.args.marks.now w.args.kind w.args.t w.args.k w.args.from v.q v.at v.invariant.2
      (ruled_hopeless w.args.marks.now w.args.kind (term_of w.args.t) w.args.k w.args.left (v.q + 1) (place-rule v.q (few (goal.at.loop-q-preserved-then-not-is_open c).In-loop-q)) w.requires.3
      (c.is_open.ensures c.if-not-is_open.true)),
)

pub open-requires : goal.open-requires
open-requires c = let w = c in (place-rule c.loop-q.q (few (goal.at.open-requires c).In-loop-q), w.requires.1.counted, w.requires.2)

pub loop-q-preserved-in_default : goal.loop-q-preserved-in_default
loop-q-preserved-in_default c = let w = c in let v = c.loop-q in (
  omega (arith, v.invariant.0, v.invariant.1),
  omega arith,
  rules-shut w.args.marks.now w.args.kind w.args.t w.args.k w.args.from v.q v.at v.invariant.2 c.in_default.ensures,
)

pub next_pick-requires : goal.next_pick-requires
next_pick-requires c = let w = c in let v = c.loop-q in (
  w.requires.0,
  w.requires.1,
  place-rule v.q (few (goal.at.next_pick-requires c).In-loop-q),
  record {
    kind = w.args.kind;
    mask = w.args.k;
    opened =
        opened-there w.args.marks.now w.args.kind w.args.t w.args.k w.args.from v.q v.at
        v.invariant.2 _ c.in-Some.ensures;
  },
  v.invariant.1,
)

pub overflow_mul-result : goal.overflow_mul-result
overflow_mul-result c = omega (arith, c.loop-q-test.true)

pub overflow_add-result : goal.overflow_add-result
overflow_add-result c = omega (arith, c.loop-q-test.true, c.in-Some-next_pick.ensures.inside)

pub returns-in-Some-next_pick : goal.returns-in-Some-next_pick
returns-in-Some-next_pick c = let w = c in let v = c.loop-q in
    rules-found w.args.marks.now w.args.kind w.args.t w.args.k w.args.from v.q v.at v.invariant.2
    _ c.in-Some.ensures _ c.in-Some-next_pick.ensures v.invariant.0 (few (goal.at.returns-in-Some-next_pick c).In-loop-q)

pub loop-q-preserved : goal.loop-q-preserved
loop-q-preserved c = let w = c in let v = c.loop-q in (
  omega (arith, v.invariant.0, v.invariant.1),
  omega arith,
  rules-passed w.args.marks.now w.args.kind w.args.t w.args.k w.args.from v.q v.at v.invariant.2
      _ c.in-Some.ensures c.in_default-next_pick.ensures,
)

pub returns : goal.returns
returns c = let w = c in let v = c.loop-q in rules-end w.args.marks.now w.args.kind (term_of w.args.t)
    w.args.k w.args.from v.q v.at v.invariant.2 c.loop-q-test.false w.requires.4
