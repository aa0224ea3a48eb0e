-- `marking::products::row_score` meets its contract. Assumes nothing.
use mathlib.Core.Path.{subst}
use Prim.Native.Nat.{ℕ}
use native.Mathlib.Omega.{arith}
use Rattle.marking.specs.Marks.{Shows}
use Rattle.marking.proofs.MarkedTerms.{shows_some, other-size}
use Rattle.marking.proofs.products.row_score.Goals as goal

pub returns-then-row_stands : goal.returns-then-row_stands
returns-then-row_stands c = record {
  new = λ e. record { unmarked = c.if-w-eq0.true; stands = c.row_stands.ensures c.if-row_stands.true };
  kept = λ e. absurd (omega arith);
  few = omega arith;
}

pub returns-then-w-eq0 : goal.returns-then-w-eq0
returns-then-w-eq0 c = record {
  new = λ e. absurd (omega arith);
  kept = λ e. record { unlike = λ d s m. shows_some d (subst (λ (w : ℕ). Shows w d) c.if-w-eq0.true m) };
  few = omega arith;
}

pub returns : goal.returns
returns c = record {
  new = λ e. absurd (omega arith);
  kept = λ e. record { unlike = other-size _ _ c.if-v-eq0.false c.if-w-v.false c.if-w.false };
  few = omega arith;
}
