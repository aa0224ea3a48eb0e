-- `log_texts::naming::read_letters` meets its contract. The loop's invariant: what is left to be read is the whole (`LettersFrom`). Assumes nothing.
use mathlib.Core.Path.{refl}
use native.Mathlib.Omega.{arith}
use Rattle.std.proofs.lemmas.Result.{err_from_is_err_and}
use Rattle.log_texts.proofs.Marks.{letters-begin, letters_refused, letters_more, letters-done}
use Rattle.log_texts.proofs.naming.read_letters.Goals as goal

pub loop-i-init : goal.loop-i-init
loop-i-init c = let a = c.args in letters-begin a.names.now a.line.now a.at a.n _ refl

pub one_letter-requires : goal.one_letter-requires
one_letter-requires c =
    c.requires.1

pub returns-in_err-q : goal.returns-in_err-q
returns-in_err-q c =
    let v = c.loop-i in
    let p = err_from_is_err_and c.from_residual.result c.from_residual.ensures.1 in
    rw (p.1, p.2) (letters_refused _ c.args.names.now c.args.line.now _ _ _ _ v.invariant c.loop-i-test.true c.requires.0 _ c.in_err-q.ensures)

pub bounds-letters-i : goal.bounds-letters-i
bounds-letters-i c =
    omega (arith, c.loop-i-test.true, c.requires.0, c.loop-i.invariant.six)

pub loop-i-preserved : goal.loop-i-preserved
loop-i-preserved c =
    let v = c.loop-i in
    letters_more _ c.args.names.now c.args.line.now _ _ _ _ v.invariant c.loop-i-test.true c.requires.0 _ c.in_ok-q.ensures

pub returns : goal.returns
returns c = letters-done _ _ _ _ _ _ _ c.loop-i.invariant c.loop-i-test.false
