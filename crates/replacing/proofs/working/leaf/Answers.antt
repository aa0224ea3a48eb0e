-- `replacing::working::leaf` meets its contract: another letter is itself, and for the letter the form is copied. Assumes nothing.
use native.Mathlib.Omega.{arith}
use Rattle.terms.specs.Abstraction.{part_of}
use Rattle.leaves.proofs.Single.{vector-shape, letter-vector}
use Rattle.replacing.proofs.Factors.{leaf-other, leaf_same, copied_gives}
use Rattle.replacing.proofs.working.leaf.Goals as goal

pub alone-requires : goal.alone-requires
unfolding part_of
alone-requires c =
    let m = c.bare.ensures in
    let p = c.requires in
    (m.counted, vector-shape _ _ m, omega (arith, p.room), omega (arith, p.beside))

pub returns-then-x-replaced : goal.returns-then-x-replaced
unfolding part_of
returns-then-x-replaced c =
    leaf-other _ _ _ _ _ _ c.if-x-replaced.true
    (letter-vector _ _ c.bare.ensures 1 _ _ _ (λ z. omega arith) c.alone.ensures)

pub returns : goal.returns
returns c =
    let p = c.requires in
    leaf_same _ _ _ _ _ _ c.if-x-replaced.false
    (copied_gives _ _ _ _ _ _ p.form (omega (arith, c.copy.auto.rows, p.room, p.form.few))
    (omega (arith, c.copy.auto.coefs, p.beside, p.form.few)) c.copy.ensures)
