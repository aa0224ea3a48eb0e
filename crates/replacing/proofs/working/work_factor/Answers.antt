-- `replacing::working::work_factor` meets its contract: as it is without the letter, else by the factor's case. Assumes nothing.
use mathlib.Core.Path.{sym, ◌∙◌}
use native.Mathlib.Omega.{arith}
use Rattle.replacing.proofs.Factors.{factor-alone, factor-without, factor-dot, factor-triple}
use Rattle.replacing.proofs.Places.{scalar-has}
use Rattle.replacing.proofs.working.work_factor.Goals as goal

pub alone-requires : goal.alone-requires
alone-requires c =
    let p = c.requires in
    let t = c.only_factor in
    (t.ensures.counted, factor-alone _ p.1 _ t.ensures, omega (arith, p.2.room), omega (arith, p.2.beside))

pub returns-then-not-factor_has : goal.returns-then-not-factor_has
returns-then-not-factor_has c =
    let h = c in
    factor-without _ h.requires.1 _ c.only_factor.ensures _ _ _ _ _
    (sym h.factor_has.ensures ∙ c.if-not-factor_has.true) c.alone.ensures

pub alone-requires-in-Scalar : goal.alone-requires-in-Scalar
alone-requires-in-Scalar c =
    let p = c.requires in
    let t = c.only_factor-in-Scalar in
    (t.ensures.counted, factor-alone _ p.1 _ t.ensures, omega (arith, p.2.room), omega (arith, p.2.beside))

pub returns-in-Scalar : goal.returns-in-Scalar
returns-in-Scalar c =
    factor-without _ c.requires.1 _
    c.only_factor-in-Scalar.ensures _ _ _ _ _
    (sym (scalar-has _ _ _ c.letters_of.ensures _ c.in-Scalar.is)) c.alone-in-Scalar.ensures

pub returns-in-Dot : goal.returns-in-Dot
returns-in-Dot c =
    factor-dot _ _ c.letters_of.ensures _ _ _ _ _ _ _
    c.in-Dot.is
    c.work_dot.ensures

pub returns-in-Triple : goal.returns-in-Triple
returns-in-Triple c =
    factor-triple _ _ c.letters_of.ensures _ _ _ _ _ _ _ _
    c.in-Triple.is
    c.work_triple.ensures
