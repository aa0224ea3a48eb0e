-- Reading after writing and writing after reading, from the contracts of the calls `read_form` and `write_form`. Assumes nothing.
use mathlib.Core.Path.{◌≡◌, ap, sym, ◌∙◌}
use mathlib.Core.List.{List}
use Prim.Native.Nat.{ℕ}
use lib.ListN.{length, take, drop}
use lib.Seq.{take_at}
use Rattle.specification.specs.Results.{given}
use Rattle.specification.specs.Terms as S
use Rattle.specification.specs.Records.{write_form, write_into, read_form, test_terms, take_form}
use Rattle.theory.specs.Tests.{tested, into}
use Rattle.theory.specs.Records.Positions.{Bytes}
use Rattle.theory.specs.Records.Forms.{form-read_back, form_one_record}
use Rattle.terms.specs.declared.types.Form.{Form}
use Rattle.terms.specs.Abstraction.{form_of}
use Rattle.terms.specs.Valid.{FormValid, Gives}
use Rattle.std.specs.Prelude.{Ok}
use Rattle.std.specs.Prelude as Std
use Rattle.refusal.specs.declared.Refusal.{Refusal}
use Rattle.refusal.specs.Tests.{answer_of}
use Rattle.forms.specs.Written.{FormWritten}

-- what a write left in front of the bytes lent
front : (before after : List ℕ) (n : ℕ) (f : S.Form) → FormWritten before after n f → take n after ≡ write_form f
unfolding write_into
front before after n f w = rw w.bytes (take_at (write_form f) (drop (length (write_form f)) before) n (sym w.ends))

-- P3: the record that `write_form` wrote of a form is read by `read_form` as that form, under every table that has its letters
pub read_after-write : (table before after : List ℕ) (n : ℕ) (f : Form) (r : Std.Result Form Refusal) → FormValid f → test_terms table (form_of f).terms ≡ given tt
    → FormWritten before after n (form_of f) → Gives (take_form table (take n after)) r → answer_of form_of r ≡ given (form_of f)
unfolding take_form
read_after-write table before after n f r v t w k = k.is ∙ rw (front before after n (form_of f) w, form-read_back (form_of f) v.in_shape, t)

-- P3: bytes that are taken as a form are its record
pub taken_written : (table s : List ℕ) (f : S.Form) → Bytes s → take_form table s ≡ given f → write_form f ≡ s
unfolding take_form
taken_written table s f bs q =
    into (read_form s) _ f q λ g e₁ e₂.
    let u = tested (test_terms table g.terms) (given g) f e₂ in (form_one_record s f bs (e₁ ∙ u.1)).is_written

-- P3: where `read_form` took a form, `write_form` writes the bytes that were read, and as many
pub write-after_read : (table s before after : List ℕ) (n : ℕ) (f : Form) → Bytes s
    → Gives (take_form table s) (Ok f) → FormWritten before after n (form_of f) → (take n after ≡ s) × (n ≡ length s)
write-after_read table s before after n f bs k w =
    let e = taken_written table s (form_of f) bs (sym k.is) in
    (front before after n (form_of f) w ∙ e, w.ends ∙ ap length e)
