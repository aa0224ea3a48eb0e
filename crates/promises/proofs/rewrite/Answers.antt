use Prim.Native.Nat.{ℕ}
use native.Mathlib.Omega.{arith}
use Rattle.refusal.proofs.Passing.{passed_up}
use Rattle.forms.proofs.Takers.{bytes_all}
use Rattle.promises.proofs.Rewriting.{table_refused, out_refused, form_refused, form_written}
use Rattle.promises.proofs.rewrite.Goals as goal

pub returns-in_err-check_table : goal.returns-in_err-check_table
returns-in_err-check_table c = rw (passed_up _ _ c.from_residual.ensures.1) (table_refused _ _ _ _ c.in_err-check_table.ensures)

pub returns-then-out-lt-FORM_BYTES : goal.returns-then-out-lt-FORM_BYTES
returns-then-out-lt-FORM_BYTES c = out_refused _ _ _ _ c.in_ok-check_table.ensures c.if-out-lt-FORM_BYTES.true

pub returns-in_err-f : goal.returns-in_err-f
returns-in_err-f c = rw (passed_up _ _ c.from_residual-in_err-f.ensures.1)
    (form_refused _ _ _ _ c.in_ok-check_table.ensures c.if-out-lt-FORM_BYTES.false _ c.in_err-f.ensures)

pub write_form-requires : goal.write_form-requires
write_form-requires c = let v = c.in_ok-f.ensures.valid in (v, omega (arith, v.few, c.if-out-lt-FORM_BYTES.false))

pub returns : goal.returns
returns c =
    form_written _ _ _ _ c.in_ok-check_table.ensures c.if-out-lt-FORM_BYTES.false
    (bytes_all c.args.form.now (λ (k : ℕ). (c.type_inv.form k).fits)) _ c.in_ok-f.ensures _ _ c.write_form.ensures
