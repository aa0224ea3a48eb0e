use Rattle.terms.proofs.Letters.{scalar_is, dot_is, triple_is}
use Rattle.picks.proofs.Pools.{adds_both, adds_as}
use Rattle.picks.proofs.choosing.add_factor.Goals as goal

pub returns-in-Scalar : goal.returns-in-Scalar
returns-in-Scalar c = adds_as (scalar_is _ _ c.letters_of-f.ensures _ c.in-Scalar.is)
    c.add_letter.ensures

pub returns-in-Dot : goal.returns-in-Dot
returns-in-Dot c =
    adds_as (dot_is _ _ c.letters_of-f.ensures
    _ _ c.in-Dot.is)
    (adds_both c.add_letter-a.ensures c.add_letter-in-Dot.ensures)

pub returns-in-Triple : goal.returns-in-Triple
returns-in-Triple c =
    adds_as
    (triple_is _ _ c.letters_of-f.ensures _ _ _
    c.in-Triple.is)
    (adds_both (adds_both c.add_letter-a-in-Triple.ensures c.add_letter-b.ensures) c.add_letter-in-Triple.ensures)
