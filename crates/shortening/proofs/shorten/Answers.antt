use Rattle.std.proofs.Common.{rules}
use mathlib.Core.Path.{◌≡◌}
use Prim.Native.Nat.{ℕ}
use lib.ListN.{length}
use Rattle.forms.proofs.Takers.{bytes_all}
use Rattle.refusal.proofs.Passing.{passed_up}
use Rattle.specification.specs.Shortening.{log_length}
use Rattle.shortening.specs.Answers.{shortening_of}
use Rattle.shortening.proofs.Calls.{table_refused, out_refused, form_refused, log_written, log-fits}
use native.Mathlib.Omega.{arith}
use Rattle.shortening.proofs.shorten.Goals.{After-derive-d, In_ok-f}
use Rattle.shortening.proofs.shorten.Goals as goal

form-places : (c : In_ok-f) → length c.in_ok-f.f.terms ≡ 48
form-places c = search rules

last_places : (c : After-derive-d) → length c.derive-d.result.last.terms ≡ 48
last_places c = search rules

pub returns-in_err-check_table : goal.returns-in_err-check_table
unfolding shortening_of log_length
returns-in_err-check_table c = rw (passed_up _ _ c.from_residual.ensures.1) (record {
  answer = table_refused _ _ _ _ c.in_err-check_table.ensures;
  short = omega arith;
})

pub returns-then-out-lt-SHORTENING_BYTES : goal.returns-then-out-lt-SHORTENING_BYTES
unfolding shortening_of log_length
returns-then-out-lt-SHORTENING_BYTES c = record {
  answer = out_refused _ _ _ _ c.in_ok-check_table.ensures c.if-out-lt-SHORTENING_BYTES.true;
  short = omega arith;
}

pub returns-in_err-f : goal.returns-in_err-f
unfolding shortening_of log_length
returns-in_err-f c = rw (passed_up _ _ c.from_residual-in_err-f.ensures.1) (record {
  answer = form_refused _ _ _ _ c.in_ok-check_table.ensures c.if-out-lt-SHORTENING_BYTES.false _ c.in_err-f.ensures;
  short = omega arith;
})

pub derive-d-requires : goal.derive-d-requires
derive-d-requires c = c.in_ok-f.ensures.valid

pub write_log-size-requires : goal.write_log-size-requires
write_log-size-requires c =
    let a = c.in_ok-f.ensures.valid in
    let d = c.derive-d.ensures in
    (a, d.valid.steps, d.valid.last, omega (arith, d.saves, a.few, c.if-out-lt-SHORTENING_BYTES.false))

pub returns : goal.returns
unfolding shortening_of log_length
returns c =
    let w = c in record {
      answer = log_written w.args.table.now w.args.form.now w.args.out.now _ c.in_ok-check_table.ensures
          c.if-out-lt-SHORTENING_BYTES.false _ c.in_ok-f.ensures
          (form-places (goal.at.returns c).In_ok-f) _ c.derive-d.ensures
          (last_places (goal.at.returns c).After-derive-d)
          (bytes_all w.args.form.now (λ (k : ℕ). (c.type_inv.form k).fits)) _ _ c.write_log-size.ensures;
      short = log-fits w.args.table.now w.args.form.now w.args.out.now _ c.in_ok-check_table.ensures
          c.if-out-lt-SHORTENING_BYTES.false _ c.in_ok-f.ensures
          (form-places (goal.at.returns c).In_ok-f) _ c.derive-d.ensures
          (last_places (goal.at.returns c).After-derive-d)
          _ _ c.write_log-size.ensures;
    }
