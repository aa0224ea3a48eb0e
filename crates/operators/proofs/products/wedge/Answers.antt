-- `operators::products::wedge` meets its contract by the kinds of its operands. Assumes nothing.
use mathlib.Core.Path.{refl}
use mathlib.Core.Logic.{inl, inr}
use Rattle.pair_limits.specs.Limits.{Kinds}
use Rattle.operators.proofs.Multiplying.{wedge-six, wedge-vectors}
use Rattle.operators.proofs.products.wedge.Goals as goal

pub returns-then-kind-ne1 : goal.returns-then-kind-ne1
returns-then-kind-ne1 c = wedge-six _ _ _ _ (inl c.if-kind-ne1.true)

pub returns-then-other-ne1 : goal.returns-then-other-ne1
returns-then-other-ne1 c = wedge-six _ _ _ _ (inr c.if-other-ne1.true)

pub multiply-requires : goal.multiply-requires
unfolding Kinds
multiply-requires c =
    let p = c.requires in (
      record {
        left_kind = _;
        right_kind = _;
        kinds = (c.if-kind-ne1.false, c.if-other-ne1.false, refl);
        left_form = p.0;
        right_form = p.1;
      },
      p.2,
      p.3,
    )

pub returns : goal.returns
returns c =
    wedge-vectors _ _ _ _ _ c.if-kind-ne1.false c.if-other-ne1.false
    (c.multiply.ensures _ _)
