-- `forms::write_form` meets its contract: after i turns the records of the first i terms stand behind the kind and the count, in at most 2 + 16 · i bytes.
-- Assumes nothing.
use mathlib.Core.Path.{◌≡◌, refl, sym, ◌∙◌}
use Prim.Native.Nat.{◌+◌, ◌-◌, ◌*◌, ◌≤◌, ◌<◌}
use native.Mathlib.Omega.{arith}
use lib.ListN.{length, take, length-map, length-set}
use Rattle.record_writing.specs.Written.{Written}
use Rattle.record_writing.proofs.Writes.{written_none}
use Rattle.forms.proofs.Forms.{records, records_none, term_at_lem, record-within, record_written, form_written}
use Rattle.forms.proofs.write_form.Given as goal

abbrev pub invariant-loop-i : goal.invariant-loop-i
invariant-loop-i l = (l.i ≤ l.n) × (length l.out ≡ length l.initial.out) × (l.at ≤ 2 + l.i * 16) × Written l.initial.out l.out 2 l.at (records (take l.i l.f.terms))
