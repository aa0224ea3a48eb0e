-- `polynomials::expansion::put_product` meets its contract. Assumes nothing.
use mathlib.Core.Path.{◌∙◌}
use Rattle.integers.proofs.Machine.{back_is}
use Rattle.polynomials.specs.Memory.{summands}
use Rattle.polynomials.proofs.Pieces.{product-asks, product-made, product-put}
use Rattle.polynomials.proofs.expansion.put_product.Goals as goal

pub mul-coef-requires : goal.mul-coef-requires
mul-coef-requires c =
    product-asks _ _ _ _ c.requires.2
    (back_is (record { sfits = c.coef_at.type_inv }) ∙ c.coef_at.ensures)
    (back_is (record { sfits = c.struct_told-1.given.1.1.1.0.1 }))

pub returns : goal.returns
returns c =
    let w = c in
    product-put w.args.p _ _ _ _ (summands w.args.work.now) _ w.args.to c.put.ensures
    (back_is (record { sfits = c.mul-coef.type_inv }))
    (product-made w.args.p _ _ _ _ _ _ _ _ c.key_at.ensures
    c.times.ensures
    c.times-2.ensures c.times-key.ensures
    (back_is (record { sfits = c.coef_at.type_inv }) ∙ c.coef_at.ensures)
    (back_is (record { sfits = c.struct_told-1.given.1.1.1.0.1 }))
    c.mul-coef.ensures)
