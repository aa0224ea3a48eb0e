-- `declarations::declare` meets its contract. The loop's invariant: what is left to be read is the whole (`NamesFrom`). Assumes nothing.
use Rattle.std.proofs.Common.{rules}
use mathlib.Core.Path.{refl, ◌∙◌}
use Prim.Native.Nat.{◌+◌, ◌-◌}
use native.Mathlib.Omega.{arith}
use lib.ListN.{length}
use Rattle.std.proofs.lemmas.Result.{err_from_is_err_and}
use Rattle.declarations.proofs.Turns.{names-begin, names_refused, names_more, names-done}
use Rattle.declarations.proofs.declare.Goals as goal

pub loop-init : goal.loop-init
loop-init c = (names-begin _ _ _ _ _ _ c.requires.0 c.past_blanks.ensures (omega arith), refl, refl)

pub one_name-requires : goal.one_name-requires
one_name-requires c =
    let i = c.loop.invariant in
    (i.0.few, omega (arith, c.requires.1, i.1), omega (arith, c.requires.2, i.2))

pub returns-in_err-q : goal.returns-in_err-q
returns-in_err-q c =
    let p = err_from_is_err_and c.from_residual.result c.from_residual.ensures.1 in
    rw (p.1, p.2) (names_refused _ _ _ _ _ (length c.args.line.now - (c.loop.counter + 1)) _ c.loop.invariant.0 (omega (arith, c.loop-test.true)) _ _ _ c.in_err-q.ensures)

pub loop-preserved : goal.loop-preserved
loop-preserved c =
    let i = c.loop.invariant in
    (names_more _ _ _ _ _ _ _ i.0 (omega (arith, c.loop-test.true)) _ _ _ c.in_ok-q.ensures, c.one_name.auto.names ∙ i.1, c.one_name.auto.table ∙ i.2)

pub returns : goal.returns
returns c = names-done _ _ _ _ _ _ c.loop.invariant.0 (omega arith)
