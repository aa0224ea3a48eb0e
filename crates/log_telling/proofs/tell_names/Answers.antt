-- `log_telling::tell_names` meets its contract. The loop's invariant: the names so far are told, and those that are left follow (`NamesTold`). Assumes nothing.
use mathlib.Core.Path.{refl, ◌∙◌}
use native.Mathlib.Omega.{arith}
use Rattle.log_telling.proofs.Pieces.{names-begin, names_more, names-end}
use Rattle.log_telling.proofs.tell_names.Goals as goal

pub loop-i-init : goal.loop-i-init
loop-i-init c = (names-begin _ _ _ _ _, refl)

pub bounds-table-i : goal.bounds-table-i
bounds-table-i c =
    omega (arith, c.loop-i-test.true, c.requires)

pub bounds-names-i : goal.bounds-names-i
bounds-names-i c = omega (arith, c.loop-i-test.true)

pub tell_name-next-requires : goal.tell_name-next-requires
tell_name-next-requires c = tt

pub loop-i-smaller : goal.loop-i-smaller
loop-i-smaller c =
    omega (arith, c.loop-i-test.true)

pub loop-i-preserved : goal.loop-i-preserved
loop-i-preserved c =
    let v = c.loop-i in (
      names_more _ c.args.names.now c.args.table.now _ _ v.invariant.0 c.loop-i-test.true c.requires c.tell_name-next.ensures,
      c.tell_name-next.auto.out ∙ v.invariant.1,
    )

pub shape_of-out : goal.shape_of-out
shape_of-out c = c.loop-i.invariant.1

pub returns : goal.returns
returns c = names-end _ _ _ _ _ c.loop-i.invariant.0 c.loop-i-test.false
