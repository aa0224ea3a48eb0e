-- `polynomials::expansion::piece_at` meets its contract. Assumes nothing.
use native.Mathlib.Omega.{arith}
use Rattle.polynomials.proofs.Pieces.{small-single, small-cross, few-dot, few-triple, few-cross, piece_zero, piece_one, piece-single, piece-dot, piece-triple, piece-cross}
use Rattle.polynomials.proofs.expansion.piece_at.Goals as goal

pub digit-a-requires : goal.digit-a-requires
digit-a-requires c = small-single _ 0 _ _ c.requires.1 c.in-Single.is

pub digit-a-requires-in-Dot : goal.digit-a-requires-in-Dot
digit-a-requires-in-Dot c = few-dot _ _ c.requires.0 _ _ c.in-Dot.is

pub digit-b-requires : goal.digit-b-requires
digit-b-requires c = few-dot _ _ c.requires.0 _ _ c.in-Dot.is

pub digit-c-requires : goal.digit-c-requires
digit-c-requires c = omega (arith, few-triple _ _ c.requires.0 _ _ _ c.in-Triple.is)

pub cross_piece-requires : goal.cross_piece-requires
cross_piece-requires c = (omega (arith, few-triple _ _ c.requires.0 _ _ _ c.in-Triple.is), omega arith)

pub cross_piece-requires-in-Cross : goal.cross_piece-requires-in-Cross
cross_piece-requires-in-Cross c = (small-cross _ 0 _ _ _ c.requires.1 c.in-Cross.is, few-cross _ _ c.requires.0 _ _ _ c.in-Cross.is)

pub returns-in-Zero : goal.returns-in-Zero
returns-in-Zero c = piece_zero _ _ c.in-Zero.is

pub returns-in-One : goal.returns-in-One
returns-in-One c = piece_one _ _ c.in-One.is

pub returns-in-Single : goal.returns-in-Single
returns-in-Single c = piece-single _ _ _ _ _ c.in-Single.is c.digit-a.ensures

pub returns-in-Dot : goal.returns-in-Dot
returns-in-Dot c = piece-dot _ _ _ _ _ _ c.in-Dot.is c.digit-a-in-Dot.ensures c.digit-b.ensures

pub returns-in-Triple : goal.returns-in-Triple
returns-in-Triple c = piece-triple _ _ _ _ _ _ _ c.in-Triple.is c.digit-c.ensures c.cross_piece.ensures

pub returns-in-Cross : goal.returns-in-Cross
returns-in-Cross c = piece-cross _ _ _ _ _ _ c.in-Cross.is c.cross_piece-in-Cross.ensures
