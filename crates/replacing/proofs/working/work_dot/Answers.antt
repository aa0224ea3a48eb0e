-- `replacing::working::work_dot` meets its contract: two letters, and their dot. Assumes nothing.
use mathlib.Core.Path.{◌≡◌}
use native.Mathlib.Omega.{arith}
use Rattle.specification.specs.Reduction.{dot_forms}
use Rattle.replacing.proofs.Factors.{two_given}
use Rattle.replacing.proofs.working.work_dot.Goals as goal

-- no letter is refused
pub dot-requires : goal.dot-requires
dot-requires c =
    let second = c in
    let first = c in
    let p = first.requires in (
      c.leaf-a.ensures.form,
      c.leaf-b.ensures.form,
      omega (arith, p.room),
      omega (arith, p.beside),
    )

pub returns : goal.returns
returns c =
    two_given _ _ _ _ _ _ _ _ c.leaf-a.ensures
    c.leaf-b.ensures dot_forms _ _ _ c.dot.ensures
