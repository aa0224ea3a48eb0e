-- `replacing::working::work_wedge` meets its contract: two letters, and their wedge. Assumes nothing.
use mathlib.Core.Path.{◌≡◌}
use native.Mathlib.Omega.{arith}
use Rattle.specification.specs.Reduction.{wedge_forms}
use Rattle.replacing.proofs.Factors.{two_given}
use Rattle.replacing.proofs.working.work_wedge.Goals as goal

-- no letter is refused
pub wedge-requires : goal.wedge-requires
wedge-requires c =
    let second = c in
    let first = c in
    let p = first.requires in (
      c.leaf-a.ensures.form,
      c.leaf-b.ensures.form,
      omega (arith, p.room),
      omega (arith, p.beside),
    )

pub returns : goal.returns
returns c =
    two_given _ _ _ _ _ _ _ _ c.leaf-a.ensures
    c.leaf-b.ensures wedge_forms _ _ _ c.wedge.ensures
