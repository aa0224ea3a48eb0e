use mathlib.Core.Path.{refl, sym}
use Prim.Native.Nat.{ℕ, ◌≤◌}
use native.Mathlib.Omega.{arith}
use lib.Seq.{length-take-le}
use Rattle.std.specs.Prelude.{Ok}
use Rattle.specification.specs.Records.{form_bytes}
use Rattle.forms.proofs.Takers.{bytes_all}
use Rattle.insertion.proofs.KeptValue.{insert_short}
use Rattle.insertion_cases.proofs.print_case.Goals.{In-Ok}
use Rattle.insertion_cases.proofs.print_case.Goals as goal

-- what was written is a record
short : (c : In-Ok) → c.in-Ok.n ≤ form_bytes
short c =
    insert_short _ c.args.form.now _ c.args.inserted.now _ _ (Ok c.in-Ok.n)
    (bytes_all c.args.form.now (λ (k : ℕ). (c.type_inv.form k).fits))
    (bytes_all c.args.inserted.now (λ (k : ℕ). (c.type_inv.inserted k).fits)) c.in-Ok.ensures c.in-Ok.n refl

pub slice_bounds-out-end : goal.slice_bounds-out-end
slice_bounds-out-end c = omega (arith, short (goal.at.slice_bounds-out-end c).In-Ok)

pub slice_bounds-print_form-end : goal.slice_bounds-print_form-end
slice_bounds-print_form-end c = sym (length-take-le _ _ (omega (arith, short (goal.at.slice_bounds-print_form-end c).In-Ok, c.insert.auto.out)))
