-- `declarations::read_header` meets its contract. The loop's invariant: what is left to be read is the whole (`HeaderFrom`). Assumes nothing.
use Rattle.std.proofs.Common.{rules}
use borrow.Author.Tests.{not-true, not-false}
use mathlib.Core.Path.{◌≡◌, refl, ◌∙◌}
use lib.ListN.{length}
use native.Mathlib.Omega.{arith}
use Rattle.std.proofs.lemmas.Result.{err_from_is_err_and}
use Rattle.lines.proofs.Ends.{to_next}
use Rattle.declarations.proofs.Headers.{declares-inside, HeaderFrom, header-begins, header-done, header-stops, header_refused, header_more}
use Rattle.declarations.proofs.read_header.Goals as goal

pub to_line-p-requires : goal.to_line-p-requires
to_line-p-requires c = record { within = omega arith; few = omega arith }

pub loop-init : goal.loop-init
loop-init c = (header-begins _ _ _ _ _ c.to_line-p.ensures (omega arith), refl, refl)

pub declares-requires : goal.declares-requires
declares-requires c = c.loop.invariant.0.inside

pub some_names-requires : goal.some_names-requires
some_names-requires c = tt

pub shape_of-names-then-not-declares : goal.shape_of-names-then-not-declares
shape_of-names-then-not-declares c = c.loop.invariant.1

pub shape_of-table-then-not-declares : goal.shape_of-table-then-not-declares
shape_of-table-then-not-declares c = c.loop.invariant.2

pub returns-then-not-declares : goal.returns-then-not-declares
returns-then-not-declares c =
    let c1 = c in
    let c2 = c in
    let c3 = c in
    let c4 = c in
    let c9 = c in
    let i = c4.loop.invariant in
    header-stops c9.args.s.now _ _ _ _ _ (omega (arith, c9.requires.0, i.1)) i.0 (omega (arith, c3.loop-test.true)) _ c2.declares.ensures _
    c1.if-not-declares.true c.some_names.ensures

pub declare_at-requires : goal.declare_at-requires
declare_at-requires c =
    let i = c.loop.invariant in
    (i.0.inside, i.0.few, omega (arith, c.requires.0, i.1), omega (arith, c.requires.1, i.2))

pub returns-in_err-n : goal.returns-in_err-n
returns-in_err-n c =
    let p = err_from_is_err_and c.from_residual.result c.from_residual.ensures.1 in
    let i = c.loop.invariant in
    rw (p.1, p.2) (header_refused c.args.s.now _ _ _ _ _ (omega (arith, c.requires.0, i.1)) i.0 (omega (arith, c.loop-test.true)) _ c.declares.ensures c.if-not-declares.false _ _ _
    c.in_err-n.ensures)

pub next_place-q-requires : goal.next_place-q-requires
next_place-q-requires c = (c.loop.invariant.0.inside, declares-inside c.args.s.now c.loop.p _ c.declares.ensures c.if-not-declares.false)

pub loop-preserved : goal.loop-preserved
loop-preserved c =
    let i = c.loop.invariant in (
      header_more c.args.s.now _ _ _ _ _ (omega (arith, c.requires.0, i.1)) i.0 (omega (arith, c.loop-test.true)) _ c.declares.ensures c.if-not-declares.false _ _ _ _ _ c.in_ok-n.ensures
          (omega (arith, c.loop-test.true)) (to_next _ _ _ _ c.next_place-q.ensures c.to_line-p-in-loop.ensures),
      c.declare_at.auto.names ∙ i.1,
      c.declare_at.auto.table ∙ i.2,
    )

pub to_line-p-requires-in-loop : goal.to_line-p-requires-in-loop
to_line-p-requires-in-loop c = c.next_place-q.ensures.inside

pub some_names-requires-2 : goal.some_names-requires-2
some_names-requires-2 c = tt

pub shape_of-names : goal.shape_of-names
shape_of-names c = c.loop.invariant.1

pub shape_of-table : goal.shape_of-table
shape_of-table c = c.loop.invariant.2

pub returns : goal.returns
returns c =
    let c1 = c in
    let c2 = c in
    let c7 = c in
    let i = c2.loop.invariant in
    header-done c7.args.s.now _ _ _ _ _ (omega (arith, c7.requires.0, i.1)) i.0 _ (omega (arith, c1.loop-test.false)) c.some_names-2.ensures
