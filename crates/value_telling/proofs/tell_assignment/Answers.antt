-- `value_telling::tell_assignment` meets its contract. The loop's invariant: the names so far are told, and those left follow (`EntriesTold`). Assumes nothing.
use mathlib.Core.Path.{refl, ◌∙◌}
use native.Mathlib.Omega.{arith}
use Rattle.value_telling.proofs.Entries.{entries-begin, entries-more, entries-end}
use Rattle.value_telling.proofs.Values.{letter-small}
use Rattle.value_telling.proofs.tell_assignment.Goals as goal

pub loop-i-init : goal.loop-i-init
loop-i-init c = (entries-begin _ _ _ _ _, refl)

pub overflow_cast-i : goal.overflow_cast-i
overflow_cast-i c = omega (arith, c.loop-i-test.true, c.requires.1)

pub vector_of-v-requires : goal.vector_of-v-requires
vector_of-v-requires c = tt

pub bounds-names-i : goal.bounds-names-i
bounds-names-i c = omega (arith, c.loop-i-test.true)

pub bounds-table-i : goal.bounds-table-i
bounds-table-i c =
    omega (arith, c.loop-i-test.true, c.requires.0)

pub overflow_sub-n : goal.overflow_sub-n
overflow_sub-n c = omega (arith, c.loop-i-test.true)

pub overflow_sub-n-in-loop-i : goal.overflow_sub-n-in-loop-i
overflow_sub-n-in-loop-i c = omega (arith, c.loop-i-test.true)

pub tell_entry-next-requires : goal.tell_entry-next-requires
tell_entry-next-requires c = letter-small _ _ _ c.vector_of-v.ensures

pub loop-i-smaller : goal.loop-i-smaller
loop-i-smaller c = omega (arith, c.loop-i-test.true)

pub loop-i-preserved : goal.loop-i-preserved
loop-i-preserved c =
    let a = c.args in
    let v = c.loop-i in (
      entries-more a.names.now a.table.now a.s.now _ v.invariant.0 _
          c.loop-i-test.true c.requires.0 c.vector_of-v.ensures c.tell_entry-next.ensures,
      c.tell_entry-next.auto.out ∙ v.invariant.1,
    )

pub shape_of-out : goal.shape_of-out
shape_of-out c = c.loop-i.invariant.1

pub returns : goal.returns
returns c = entries-end _ _ _ _ c.loop-i.invariant.0 c.loop-i-test.false
