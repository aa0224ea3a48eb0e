-- `polynomials::expansion::block_of` meets its contract: by the factor's case. Assumes nothing.
use Rattle.polynomials.proofs.Pieces.{block_one, block_two, block-three}
use Rattle.polynomials.proofs.expansion.block_of.Goals as goal

pub returns-in-Scalar : goal.returns-in-Scalar
returns-in-Scalar c = block_one _ _ c.letters_of-f.ensures _ c.in-Scalar.is

pub returns-in-Dot : goal.returns-in-Dot
returns-in-Dot c = block_two _ _ c.letters_of-f.ensures _ _ c.in-Dot.is

pub returns-in-Triple : goal.returns-in-Triple
returns-in-Triple c = block-three _ _ c.letters_of-f.ensures _ _ _ c.in-Triple.is
