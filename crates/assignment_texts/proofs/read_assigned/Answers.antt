-- `assignment_texts::read_assigned` meets its contract. Assumes nothing.
use native.Mathlib.Omega.{arith}
use Rattle.std.proofs.lemmas.Result.{err_from_is_err_and}
use mathlib.Core.Path.{sym, ◌∙◌}
use Prim.Native.Nat.{◌+◌, ◌-◌}
use lib.ListN.{length}
use Rattle.assignment_texts.proofs.Stores.{none_yet_lem}
use Rattle.assignment_texts.proofs.Turns.{assigned-begins, assigned-torn, assigned_refused, assigned-ends, assigned_uncut, assigned_more}
use Rattle.assignment_texts.proofs.read_assigned.Goals as goal

pub loop-init : goal.loop-init
loop-init c =
    let a = c.args in
    let none = c.clear.ensures ∙ none_yet_lem a.table.now _ c.requires.1 in
    (assigned-begins a.names.now a.table.now a.line.now _ _ _ (omega arith) none c.past_blanks-at.ensures, c.clear.auto.so ∙ c.requires.1)

pub one_assigned-requires : goal.one_assigned-requires
one_assigned-requires c = (c.requires.0, c.loop.invariant.1)

pub returns-in_err-next : goal.returns-in_err-next
returns-in_err-next c =
    let a = c.args in
    let p = err_from_is_err_and c.from_residual.result c.from_residual.ensures.1 in
    rw (p.1, p.2) (assigned_refused a.names.now a.table.now a.line.now _ _ _ c.loop.invariant.0 (length a.line.now - (c.loop.counter + 1)) (omega (arith, c.loop-test.true)) _ _
    c.in_err-next.ensures)

pub at_end-requires : goal.at_end-requires
at_end-requires c = c.requires.0.few

pub returns-then-next-line : goal.returns-then-next-line
returns-then-next-line c =
    let a = c.args in
    assigned-ends a.names.now a.table.now a.line.now _ _ _ c.loop.invariant.0 (length a.line.now - (c.loop.counter + 1)) (omega (arith, c.loop-test.true)) _ _
    c.in_ok-next.ensures c.if-next-line.true _ c.at_end.ensures

pub returns-in_err-at : goal.returns-in_err-at
returns-in_err-at c =
    let a = c.args in
    let p = err_from_is_err_and c.from_residual-in_err-at.result c.from_residual-in_err-at.ensures.1 in
    rw (p.1, p.2) (assigned_uncut a.names.now a.table.now a.line.now _ _ _ c.loop.invariant.0 (length a.line.now - (c.loop.counter + 1)) (omega (arith, c.loop-test.true)) _ _
    c.in_ok-next.ensures c.if-next-line.false _ c.in_err-at.ensures)

pub loop-preserved : goal.loop-preserved
loop-preserved c =
    let a = c.args in (
      assigned_more a.names.now a.table.now a.line.now _ _ _ c.loop.invariant.0 _ (omega (arith, c.loop-test.true)) _ _ c.in_ok-next.ensures c.if-next-line.false _
          c.in_ok-at.ensures,
      c.one_assigned.auto.so ∙ c.loop.invariant.1,
    )

pub returns : goal.returns
returns c =
    let a = c.args in
    assigned-torn a.names.now a.table.now a.line.now _ _ _ c.loop.invariant.0 (omega arith)
