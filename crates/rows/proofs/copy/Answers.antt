-- `rows::copy` meets its contract. The loop: the first i rows are copied. Assumes nothing.
use Rattle.std.proofs.Common.{rules}
use mathlib.Core.Path.{◌≡◌, refl, ◌∙◌}
use Prim.Native.Nat.{◌-◌, ◌≤◌}
use lib.ListN.{length, length-set}
use Rattle.integers.proofs.Machine.{back_is}
use Rattle.rows.specs.Rows.{Copied}
use Rattle.rows.proofs.RowForms.{copied_none, copied_more, copied_all}
use native.Mathlib.Omega.{arith}
use Rattle.rows.proofs.copy.Goals as goal

pub loop-i-init : goal.loop-i-init
loop-i-init c = (omega arith, copied_none _ _ _ _, refl, refl)

pub loop-i-preserved : goal.loop-i-preserved
loop-i-preserved c = let v = c.loop-i in (
  omega arith,
  copied_more _ _ _ _ _ _ (omega arith) (omega arith) (omega arith) (omega arith)
      (back_is (record { sfits = c.c-1.given })) v.invariant.1,
  length-set v.rows v.i _ ∙ v.invariant.2,
  length-set v.coefs v.i _ ∙ v.invariant.3,
)

pub returns : goal.returns
returns c = copied_all _ _ _ _ _ _ (omega (arith, c.loop-i.invariant.0)) c.loop-i.invariant.1
