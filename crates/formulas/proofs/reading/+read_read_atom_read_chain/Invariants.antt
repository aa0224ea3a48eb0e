-- The reader: the measure is the depth left, then the level. The invariant of the loop over operators is `ChainAt`. Assumes nothing.
use mathlib.Core.Path.{◌≡◌}
use Prim.Native.Nat.{◌+◌, ◌*◌, ◌-◌}
use lib.Dec.{leb}
use lib.ListN.{length}
use Rattle.formulas.proofs.Levels.{ChainAt}
use Rattle.formulas.specs.Readings.{worked_at}
use Rattle.theory.specs.Text.OnTheWay.{most_of, way_chain, way_level, way_nested}
use Rattle.formulas.proofs.reading.+read_read_atom_read_chain.Given as goal

abbrev pub decreases-read : goal.decreases-read
decreases-read l = l.depth * 16 + l.level * 2 + 1

abbrev pub decreases-read_atom : goal.decreases-read_atom
decreases-read_atom l = l.depth * 16

abbrev pub decreases-read_chain : goal.decreases-read_chain
decreases-read_chain l = l.depth * 16 + l.level * 2

abbrev pub invariant-read_chain-loop : goal.invariant-read_chain-loop
invariant-read_chain-loop l =
    ChainAt l.s l.level (way_level l.names l.table l.s (way_nested l.names l.table l.s l.depth) (l.level - 1) (leb 3 l.level))
    (way_chain l.s l.level (most_of l.level (length l.s)) (way_level l.names l.table l.s (way_nested l.names l.table l.s l.depth) (l.level - 1) (leb 3 l.level))
    (worked_at l.initial.a.work l.initial.a.column l.initial.rows l.initial.coefs) l.initial.a.next) l.a l.rows l.coefs (most_of l.level (length l.s) - l.counter)
    × (length l.rows ≡ length l.initial.rows) × (length l.coefs ≡ length l.initial.coefs) × (length l.right ≡ 48) × (length l.rights ≡ 48)
