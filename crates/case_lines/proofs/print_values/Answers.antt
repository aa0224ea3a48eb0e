-- `case_lines::print_values` is safe and ends.
use mathlib.Core.Path.{refl}
use Prim.Native.Nat.{ℕ}
use Rattle.std.specs.Prelude.{Ok}
use Rattle.forms.proofs.Takers.{bytes_all}
use Rattle.evaluation.specs.Vectors.{vec_of}
use Rattle.evaluation.proofs.GivenValue.{value_at-call, value_small}
use Rattle.case_lines.proofs.print_values.Goals as goal

pub print_vector-requires : goal.print_vector-requires
print_vector-requires c =
    let w = c in
    value_small w.args.table.now w.args.form.now w.args.assignment.now _
    (bytes_all w.args.form.now (λ (k : ℕ). (c.type_inv.form k).fits))
    (value_at-call _ _ _ (Ok c.in-Ok.v) c.in-Ok.ensures (vec_of c.in-Ok.v) refl)
