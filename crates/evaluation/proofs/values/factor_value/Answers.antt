-- `evaluation::values::factor_value` meets its contract. Assumes nothing.
use Rattle.evaluation.proofs.Folds.{letter-small, letter-small-for-dot, factor_one, factor_two, factor-three}
use Rattle.evaluation.proofs.values.factor_value.Goals as goal

pub dot-requires : goal.dot-requires
dot-requires c = (
  letter-small-for-dot _ c.requires.0 _ _ c.vector_of.ensures,
  letter-small _ c.requires.0 _ _ c.vector_of-in-Dot.ensures,
)

pub triple-requires : goal.triple-requires
triple-requires c = (
  letter-small _ c.requires.0 _ _ c.vector_of-in-Triple.ensures,
  letter-small _ c.requires.0 _ _ c.vector_of-in-Triple-2.ensures,
  letter-small _ c.requires.0 _ _ c.vector_of-in-Triple-3.ensures,
)

pub returns-in-Scalar : goal.returns-in-Scalar
returns-in-Scalar c = factor_one _ _ _ c.letters_of.ensures _ (record { sfits = c.component.type_inv }) _ c.in-Scalar.is c.component.ensures

pub returns-in-Dot : goal.returns-in-Dot
returns-in-Dot c =
    factor_two _ _ _ c.letters_of.ensures _ (record { sfits = c.dot.type_inv }) _ _ _ _
    c.in-Dot.is c.vector_of.ensures c.vector_of-in-Dot.ensures c.dot.ensures

pub returns-in-Triple : goal.returns-in-Triple
returns-in-Triple c =
    factor-three _ _ _ c.letters_of.ensures _ (record { sfits = c.triple.type_inv }) _ _ _ _ _ _
    c.in-Triple.is c.vector_of-in-Triple.ensures c.vector_of-in-Triple-2.ensures
    c.vector_of-in-Triple-3.ensures c.triple.ensures
