-- `operators::products::times` meets its contract by the kinds of its operands. Assumes nothing.
use mathlib.Core.Path.{refl}
use mathlib.Core.Logic.{inl, inr}
use Rattle.pair_limits.specs.Limits.{Kinds}
use Rattle.operators.proofs.Multiplying.{times_left_lem, times_right_lem, times-six}
use Rattle.operators.proofs.products.times.Goals as goal

pub multiply-requires : goal.multiply-requires
unfolding Kinds
multiply-requires c =
    let p = c.requires in (
      record {
        left_kind = _;
        right_kind = _;
        kinds = inl
            (c.if-kind-eq0.true, refl);
        left_form = p.0;
        right_form = p.1;
      },
      p.2,
      p.3,
    )

pub returns-then-kind-eq0 : goal.returns-then-kind-eq0
returns-then-kind-eq0 c = times_left_lem _ _ _ _ _ c.if-kind-eq0.true (c.multiply.ensures _ _)

pub multiply-requires-then-other-eq0 : goal.multiply-requires-then-other-eq0
unfolding Kinds
multiply-requires-then-other-eq0 c =
    let p = c.requires in (
      record
          { left_kind = _; right_kind = _; kinds = inr (c.if-other-eq0.true, refl); left_form = p.0; right_form = p.1 },
      p.2,
      p.3,
    )

pub returns-then-other-eq0 : goal.returns-then-other-eq0
returns-then-other-eq0 c =
    times_right_lem _ _ _ _ _ c.if-kind-eq0.false c.if-other-eq0.true
    (c.multiply-then-other-eq0.ensures _ _)

pub returns : goal.returns
returns c = times-six _ _ _ _ c.if-kind-eq0.false c.if-other-eq0.false
