-- `replacing::working::work_triple` meets its contract: three letters, and their triple. Assumes nothing.
use mathlib.Core.Path.{◌≡◌}
use native.Mathlib.Omega.{arith}
use Rattle.specification.specs.Reduction.{triple_forms}
use Rattle.replacing.proofs.Factors.{three_given}
use Rattle.replacing.proofs.working.work_triple.Goals as goal

-- no letter is refused
pub triple-requires : goal.triple-requires
triple-requires c =
    let p = c.requires in (
      c.leaf-a.ensures.form,
      c.leaf-b.ensures.form,
      omega (arith, p.room),
      omega (arith, p.beside),
      c.leaf-d.ensures.form,
    )

pub returns : goal.returns
returns c =
    three_given _ _ _ _ _ _ _ _
    c.leaf-a.ensures
    c.leaf-b.ensures _ _ _ _
    c.leaf-d.ensures triple_forms _ _ _
    c.triple.ensures
