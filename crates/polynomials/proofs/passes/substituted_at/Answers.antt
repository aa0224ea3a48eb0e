-- `polynomials::passes::substituted_at` meets its contract. Assumes nothing.
use mathlib.Core.Path.{◌∙◌}
use Rattle.integers.proofs.Machine.{back_is}
use Rattle.polynomials.proofs.Turns.{reduced-asks, reduced-made, exponent-most}
use Rattle.polynomials.proofs.passes.substituted_at.Goals as goal

pub power-requires : goal.power-requires
power-requires c = (c.requires.2, exponent-most _ _ _ c.cut_off-c.ensures.1)

pub mul-coef-requires : goal.mul-coef-requires
mul-coef-requires c =
    reduced-asks _ _ _ _ _ _ _ c.key_at.ensures (back_is (record { sfits = c.coef_at.type_inv }) ∙ c.coef_at.ensures)
    c.cut_off-c.ensures.1 (back_is (record { sfits = c.power.type_inv }) ∙ c.power.ensures) c.requires.3

pub returns : goal.returns
returns c =
    reduced-made _ _ _ _ _ _ _ c.key_at.ensures
    (back_is (record { sfits = c.coef_at.type_inv }) ∙ c.coef_at.ensures) c.cut_off-c.ensures.1
    (back_is (record { sfits = c.power.type_inv }) ∙ c.power.ensures) _ c.cut_off-c.ensures.0
    (back_is (record { sfits = c.mul-coef.type_inv }) ∙ c.mul-coef.ensures)
