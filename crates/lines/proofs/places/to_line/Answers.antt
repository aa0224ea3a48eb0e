-- `lines::places::to_line` meets its contract. The loop's invariant: what is left to be passed (`PassingFrom`). Assumes nothing.
use Rattle.std.proofs.Common.{rules}
use Rattle.lines.specs.Places.{place_of}
use borrow.Author.Tests.{not-true, not-false}
use mathlib.Core.Path.{subst}
use native.Mathlib.Omega.{arith}
use Rattle.lines.proofs.Ends.{PassingFrom, passing_begins, passing-done, passing-ends, passing-stands, passing_on}
use Rattle.lines.proofs.places.to_line.Goals as goal

pub loop-init : goal.loop-init
loop-init c = passing_begins _ _ c.requires

pub returns-then-q-n : goal.returns-then-q-n
returns-then-q-n c = passing-ends _ _ _ _ c.loop.invariant c.if-q-n.true

pub stands_empty-requires : goal.stands_empty-requires
stands_empty-requires c = c.loop.invariant.inside

pub returns-then-not-stands_empty : goal.returns-then-not-stands_empty
returns-then-not-stands_empty c =
    let c1 = c in
    let c2 = c in
    let c4 = c in
    let c5 = c in
    let c8 = c in
    passing-stands c8.args.s.now _ _ _ c5.loop.invariant (omega (arith, c4.loop-test.true)) c2.if-q-n.false _ c1.stands_empty.ensures c.if-not-stands_empty.true

pub next_place-q-requires : goal.next_place-q-requires
next_place-q-requires c = (c.loop.invariant.inside, c.if-q-n.false)

pub loop-preserved : goal.loop-preserved
loop-preserved c =
    let c1 = c in
    let c2 = c in
    let c3 = c in
    let c5 = c in
    let c6 = c in
    let c9 = c in
    subst (PassingFrom _ _ _) (omega arith) (passing_on c9.args.s.now _ _ _ c6.loop.invariant (omega (arith, c5.loop-test.true)) c3.if-q-n.false _ c2.stands_empty.ensures _ c1.if-not-stands_empty.false
    c.next_place-q.ensures)

pub returns : goal.returns
returns c = passing-done _ _ _ _ c.loop.invariant (omega arith)
