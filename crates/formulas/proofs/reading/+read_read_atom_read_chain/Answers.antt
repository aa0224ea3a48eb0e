-- The reader meets its contract: `read` at each level, `read_atom` below them, `read_chain` for the operators of a level. Assumes nothing.
use mathlib.Core.List.{List}
use mathlib.Core.Path.{◌≡◌, ap, ◌∙◌}
use Prim.Native.Nat.{ℕ, ◌+◌, ◌-◌}
use native.Mathlib.Omega.{arith}
use lib.Dec.{leb}
use lib.ListN.{length}
use Rattle.std.proofs.Common.{rules}
use Rattle.refusal.proofs.Passing.{passed_up}
use Rattle.formulas.proofs.Levels.{atom-number, atom-unread, atom-name, atom-torn, atom-deep, atom-triple, atom-group}
use Rattle.formulas.proofs.Levels.{some_operator, chain-stops, chain-ends, chain_refused, chain-joined, level-atom, level-unread, level-alone, level-chain}
use Rattle.formulas.proofs.Results.{gives_as}
use Rattle.formulas.proofs.reading.+read_read_atom_read_chain.Goals as goal
use Rattle.formulas.specs.Readings.{worked_at}
use Rattle.texts.proofs.Standing.{letter-inside}
use Rattle.theory.specs.Text.OnTheWay.{Way, most_of, way_chain, way_level, way_nested}

-- ════ a level

pub read-returns-then-level-eq0 : goal.read-returns-then-level-eq0
read-returns-then-level-eq0 t c =
    level-atom c.args.names.now c.args.table.now c.args.s.now (way_nested c.args.names.now c.args.table.now c.args.s.now c.args.depth) _ _ _
    _ _ _ c.if-level-eq0.true c.read_atom.ensures

pub read-returns-in_err-x : goal.read-returns-in_err-x
read-returns-in_err-x t c =
    rw (passed_up _ _ c.from_residual.ensures.1)
    (level-unread c.args.names.now c.args.table.now c.args.s.now (way_nested c.args.names.now c.args.table.now c.args.s.now c.args.depth)
    c.args.level c.args.number c.args.at
    c.if-level-eq0.false _ c.front_at-start.ensures _ _ _ c.in_err-x.ensures)

pub read-returns-then-not-goes_on : goal.read-returns-then-not-goes_on
read-returns-then-not-goes_on t c =
    level-alone c.args.names.now c.args.table.now c.args.s.now (way_nested c.args.names.now c.args.table.now c.args.s.now c.args.depth)
    c.args.level c.args.number c.args.at
    c.if-level-eq0.false _ c.front_at-start.ensures _ _ _ c.in_ok-x.ensures _ c.byte_at.ensures _ c.front.ensures _ _
    c.byte_at-2.ensures c.goes_on.ensures c.if-not-goes_on.true

pub read-returns : goal.read-returns
read-returns t c =
    level-chain c.args.names.now c.args.table.now c.args.s.now (way_nested c.args.names.now c.args.table.now c.args.s.now c.args.depth)
    c.args.level c.args.number c.args.at
    c.if-level-eq0.false _ c.front_at-start.ensures _ _ _ c.in_ok-x.ensures _ c.byte_at.ensures _ c.front.ensures _ _ _
    c.read_chain.ensures

-- ════ below the levels

pub read_atom-returns-then-is_number : goal.read_atom-returns-then-is_number
read_atom-returns-then-is_number t c =
    atom-number c.args.names.now c.args.table.now c.args.s.now c.args.depth c.args.number c.args.at _ _ c.byte_at-b.ensures c.is_number.ensures _ _ _
    c.if-is_number.true c.number_at.ensures

pub read_atom-name_at-requires : goal.read_atom-name_at-requires
read_atom-name_at-requires t c = (
  c.requires.0.fit,
  c.requires.0.few,
  letter-inside c.args.s.now c.args.at _ _ c.byte_at-b.ensures c.is_letter.ensures c.if-is_letter.true,
  omega (arith, c.requires.1),
  omega (arith, c.requires.2),
)

pub read_atom-returns-in_err-n : goal.read_atom-returns-in_err-n
read_atom-returns-in_err-n t c =
    rw (passed_up _ _ c.from_residual.ensures.1)
    (atom-unread c.args.names.now c.args.table.now c.args.s.now c.args.depth c.args.number c.args.at _ _ c.byte_at-b.ensures c.is_number.ensures
    c.if-is_number.false _ c.is_letter.ensures _ _ _ c.if-is_letter.true c.in_err-n.ensures)

pub read_atom-returns-then-is_letter : goal.read_atom-returns-then-is_letter
read_atom-returns-then-is_letter t c =
    atom-name c.args.names.now c.args.table.now c.args.s.now c.args.depth c.args.number c.args.at _ _ c.byte_at-b.ensures c.is_number.ensures
    c.if-is_number.false _ c.is_letter.ensures _ _ _ c.if-is_letter.true c.in_ok-n.ensures

pub read_atom-returns-then-b-ne40 : goal.read_atom-returns-then-b-ne40
read_atom-returns-then-b-ne40 t c =
    atom-torn c.args.names.now c.args.table.now c.args.s.now c.args.depth c.args.number c.args.at _ _ c.byte_at-b.ensures c.is_number.ensures
    c.if-is_number.false _ c.is_letter.ensures c.if-is_letter.false _ _ c.if-b-ne40.true

pub read_atom-returns-then-depth-eq0 : goal.read_atom-returns-then-depth-eq0
read_atom-returns-then-depth-eq0 t c =
    atom-deep c.args.names.now c.args.table.now c.args.s.now c.args.depth c.args.number c.args.at _ _ c.byte_at-b.ensures c.is_number.ensures
    c.if-is_number.false _ c.is_letter.ensures c.if-is_letter.false
    c.if-b-ne40.false _ _ c.if-depth-eq0.true

pub read_atom-returns-then-is_triple : goal.read_atom-returns-then-is_triple
read_atom-returns-then-is_triple t c =
    atom-triple c.args.names.now c.args.table.now c.args.s.now c.args.depth c.args.number c.args.at _ _ c.byte_at-b.ensures c.is_number.ensures
    c.if-is_number.false _ c.is_letter.ensures c.if-is_letter.false
    c.if-b-ne40.false c.if-depth-eq0.false _ _ c.behind-inner.ensures c.is_triple.ensures _ _ _ c.if-is_triple.true
    c.triple_at.ensures

pub read_atom-returns : goal.read_atom-returns
read_atom-returns t c =
    atom-group c.args.names.now c.args.table.now c.args.s.now c.args.depth c.args.number c.args.at _ _ c.byte_at-b.ensures c.is_number.ensures
    c.if-is_number.false _ c.is_letter.ensures c.if-is_letter.false
    c.if-b-ne40.false c.if-depth-eq0.false _ _ c.behind-inner.ensures c.is_triple.ensures c.if-is_triple.false _ _ _ _
    c.read-r.ensures c.closed.ensures

-- ════ the operators of a level

-- an operand of the level below
abbrev below : (names table s : List ℕ) (depth level : ℕ) → ℕ → Way
below names table s depth level = way_level names table s (way_nested names table s depth) (level - 1) (leb 3 level)

pub read_chain-loop-init : goal.read_chain-loop-init
read_chain-loop-init t c =
    let operand = below c.args.names.now c.args.table.now c.args.s.now c.args.depth c.args.level in
    let most = most_of c.args.level (length c.args.s.now) in
    let all : most ≡ most - 0 = omega arith in (
      record {
        same = ap (λ n. way_chain c.args.s.now c.args.level n operand (worked_at c.args.first.work c.args.first.column c.args.rows.now c.args.coefs.now) c.args.first.next) all;
        read = c.requires.3;
      },
      search rules,
      search rules,
      search rules,
      search rules,
    )

pub read_chain-returns-then-not-goes_on : goal.read_chain-returns-then-not-goes_on
read_chain-returns-then-not-goes_on t c =
    let i = c.loop.invariant.0 in
    gives_as _ _ _ _ _ i.same
    (chain-stops c.args.s.now c.args.level (below c.args.names.now c.args.table.now c.args.s.now c.args.depth c.args.level) _ _ _ i.read _ _ _
    c.byte_at-b.ensures c.goes_on.ensures c.if-not-goes_on.true)

pub read_chain-returns-in_err-y : goal.read_chain-returns-in_err-y
read_chain-returns-in_err-y t c =
    let i = c.loop.invariant.0 in
    rw (passed_up _ _ c.from_residual.ensures.1)
    (gives_as _ _ _ _ _ i.same
    (chain_refused c.args.s.now c.args.level (below c.args.names.now c.args.table.now c.args.s.now c.args.depth c.args.level) _ _ _ i.read _ _ _ _
    (some_operator _ _ c.loop-test.true c.most_of-end.ensures) c.byte_at-b.ensures
    c.goes_on.ensures c.if-not-goes_on.false c.operand_at-second.ensures _ _ _ c.in_err-y.ensures _ _))

pub read_chain-join-a-requires : goal.read_chain-join-a-requires
read_chain-join-a-requires t c =
    let i = c.loop.invariant in
    (i.0.read, c.in_ok-y.ensures.read, omega (arith, i.1, c.requires.4), omega (arith, i.2, c.requires.5))

pub read_chain-loop-preserved : goal.read_chain-loop-preserved
read_chain-loop-preserved t c =
    let i = c.loop.invariant in
    let operand = below c.args.names.now c.args.table.now c.args.s.now c.args.depth c.args.level in
    let one_less : most_of c.args.level (length c.args.s.now) - c.loop.counter - 1 ≡ most_of c.args.level (length c.args.s.now) - (c.loop.counter + 1) = omega arith in (
      record {
        same = i.0.same
            ∙ chain-joined c.args.s.now c.args.level operand _ _ _ i.0.read
            _ _ _ _ (some_operator _ _ c.loop-test.true c.most_of-end.ensures) c.byte_at-b.ensures c.goes_on.ensures c.if-not-goes_on.false
            c.operand_at-second.ensures _ _ _ _ _ _ c.in_ok-y.ensures c.join-a.ensures
            ∙ ap (λ n. way_chain c.args.s.now c.args.level n operand (worked_at c.join-a.result.work c.join-a.result.column c.join-a.new.rows c.join-a.new.coefs) c.join-a.result.next) one_less;
        read = c.join-a.ensures.read;
      },
      c.join-a.auto.rows ∙ i.1,
      c.join-a.auto.coefs ∙ i.2,
      c.read.auto.rows ∙ i.3,
      c.join-a.auto.rights ∙ (c.read.auto.coefs ∙ i.4),
    )

pub read_chain-returns : goal.read_chain-returns
read_chain-returns t c =
    let i = c.loop.invariant.0 in
    gives_as _ _ _ _ _ i.same
    (chain-ends c.args.s.now c.args.level (below c.args.names.now c.args.table.now c.args.s.now c.args.depth c.args.level) _ _ _ i.read _
    (omega (arith, c.loop-test.false, c.most_of-end.ensures)))
