-- `candidates::trying::try_pick` meets its contract: no pick, surely no fewer terms, or the one step whose M takes the term away. Assumes nothing.
use mathlib.Core.Path.{◌≡◌, ap, sym, refl, subst, ◌∙◌}
use Prim.Native.Nat.{ℕ, ◌≤◌, ◌<◌}
use native.Mathlib.Omega.{arith}
use lib.IntN.{ℤ, nat_abs, neg_ℤ}
use Rattle.algebra.specs.Integers.{nat_abs-neg}
use Rattle.integers.proofs.Machine.{back, back_is, fits_back}
use Rattle.theory.specs.Elements.{All}
use Rattle.theory.specs.Shape.Terms.{in_limit}
use Rattle.terms.specs.Abstraction.{term_of}
use Rattle.marking.specs.Marks.{size_mark}
use Rattle.candidates.specs.Trying.{Tried}
use Rattle.candidates.proofs.Trials.{unit-step-valid, unit-step_fits, tried_none, tried-long, tried_inexact, tried-sized, tried-by}
use Rattle.candidates.proofs.trying.try_pick.Goals.{After-neg}
use Rattle.candidates.proofs.trying.try_pick.Goals as goal

-- the term's coefficient with its sign turned
negated : (c : After-neg) → back c.neg.result ≡ neg_ℤ c.args.t.coef
negated c = back_is (record { sfits = c.neg.type_inv }) ∙ c.neg.ensures ∙ ap neg_ℤ (back_is {z =
    c.args.t.coef} (record {
      sfits =
          c.type_inv.t.0.1;
    }))

-- no larger than the limit
negated-small : (c : After-neg) → nat_abs (back c.neg.result) ≤ 2147483647
unfolding term_of
negated-small c = let w = c in omega (
  arith,
  ap nat_abs (negated c),
  nat_abs-neg w.args.t.coef,
  in_limit (term_of w.args.t) w.requires.1.in_shape,
)

-- nor is the quotient
quotient : (q n : ℤ) → nat_abs q ≤ nat_abs n → nat_abs n ≤ 2147483647 → back q ≡ q
quotient q n h k = fits_back q (omega arith)

pub pick-requires : goal.pick-requires
pick-requires c = let w = c in let s = w.requires.3 in record {
  rule = (w.requires.2, s.opened.places, w.requires.4);
  small = subst (All (λ (x : ℕ). x < 256))
      (sym s.opened.letters) s.opened.small;
}

pub returns-in_err-letters : goal.returns-in_err-letters
returns-in_err-letters c = let w = c in subst (Tried w.args.marks.now w.args.t w.args.rule w.args.o w.args.j) (sym c.from_residual.ensures)
    (tried_none w.args.marks.now w.args.t w.args.rule w.args.o w.args.j c.in_err-letters.ensures)

pub mark_step-w-requires : goal.mark_step-w-requires
mark_step-w-requires c = c.requires.3.opened.m.counted

pub surely_longer-requires : goal.surely_longer-requires
surely_longer-requires c = let w = c in (
  unit-step-valid w.args.t w.args.rule
      w.args.o _ w.requires.2 w.requires.3,
  unit-step_fits w.args.t w.args.rule w.args.o _ w.requires.3,
  c.mark_step-w.ensures,
  w.requires.0,
)

pub returns-then-surely_longer : goal.returns-then-surely_longer
returns-then-surely_longer c = let w = c in tried-long w.args.marks.now w.args.t
    w.args.rule w.args.o w.args.j _ c.in_ok-letters.ensures _ refl w.requires.1
    (c.surely_longer.ensures c.if-surely_longer.true)

pub neg-requires : goal.neg-requires
unfolding term_of
neg-requires c = let w = c in omega (
  arith,
  ap nat_abs (back_is {z = w.args.t.coef} (record { sfits = c.type_inv.t.0.1 })),
  in_limit (term_of w.args.t) w.requires.1.in_shape,
)

pub gain-requires : goal.gain-requires
gain-requires c = let w = c in (
  w.requires.1.counted,
  unit-step-valid w.args.t w.args.rule w.args.o _ w.requires.2 w.requires.3,
  unit-step_fits w.args.t w.args.rule w.args.o
      _ w.requires.3,
  c.mark_step-w.ensures,
)

pub divide-requires : goal.divide-requires
divide-requires c = omega (arith, negated-small (goal.at.divide-requires c).After-neg)

pub returns-in_err-q : goal.returns-in_err-q
returns-in_err-q c = let w = c in subst (Tried w.args.marks.now w.args.t w.args.rule w.args.o w.args.j) (sym c.from_residual-in_err-q.ensures)
    (tried_inexact w.args.marks.now w.args.t w.args.rule w.args.o w.args.j _ c.in_ok-letters.ensures _ _ w.requires.1
    (back_is (record { sfits = c.gain.type_inv }) ∙ c.gain.ensures)
    (negated (goal.at.returns-in_err-q c).After-neg) c.in_err-q.ensures)

pub size_mark-requires : goal.size_mark-requires
size_mark-requires c =
    let small = negated-small (goal.at.size_mark-requires c).After-neg in
    omega (arith, ap nat_abs (quotient c.in_ok-q.q (back c.neg.result) c.in_ok-q.ensures.bound small), c.in_ok-q.ensures.bound, small)

pub surely_longer-requires-2 : goal.surely_longer-requires-2
surely_longer-requires-2 c = let w = c in (
  unit-step-valid w.args.t w.args.rule w.args.o _ w.requires.2 w.requires.3,
  unit-step_fits w.args.t w.args.rule
      w.args.o _ w.requires.3,
  c.mark_step-w.ensures,
  w.requires.0,
)

pub returns-then-surely_longer-2 : goal.returns-then-surely_longer-2
returns-then-surely_longer-2 c = let w = c in
    let near = (goal.at.returns-then-surely_longer-2 c).After-neg in
    tried-sized w.args.marks.now w.args.t w.args.rule w.args.o w.args.j _ c.in_ok-letters.ensures _ _ w.requires.1
    (back_is (record { sfits = c.gain.type_inv }) ∙ c.gain.ensures)
    (negated near) _ c.in_ok-q.ensures
    _ _ refl (c.size_mark.ensures ∙ ap size_mark (quotient c.in_ok-q.q (back c.neg.result) c.in_ok-q.ensures.bound (negated-small near)))
    (c.surely_longer-2.ensures c.if-surely_longer-2.true)

pub returns : goal.returns
returns c = let w = c in
    let o = w.args.o in
    let near = (goal.at.returns c).After-neg in
    tried-by w.args.marks.now w.args.t w.args.rule w.args.o w.args.j _ c.in_ok-letters.ensures _ _ w.requires.1
    (back_is (record { sfits = c.gain.type_inv }) ∙ c.gain.ensures)
    (negated near) _ c.in_ok-q.ensures _ w.requires.3.opened.m.counted
    (c.with_coef.ensures ∙ (λ i. record {
      coef = quotient c.in_ok-q.q (back c.neg.result) c.in_ok-q.ensures.bound (negated-small near) i;
      factors = o.m.factors;
      factor_count = o.m.factor_count;
      part = o.m.part;
    }))
