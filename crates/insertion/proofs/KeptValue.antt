-- The theorem at the call: what `insert` writes is, read back, a form with the old form's value where the letter has the inserted form's. Assumes nothing.
use mathlib.Core.Path.{◌≡◌, sym, subst, ◌∙◌}
use mathlib.Core.List.{List}
use Prim.Native.Nat.{ℕ, ◌≤◌}
use lib.ListN.{take}
use Rattle.specification.specs.Results.{Result, given}
use Rattle.specification.specs.Terms.{Form}
use Rattle.specification.specs.Records.{form_bytes}
use Rattle.specification.specs.Insertion.{take_insertion, with_inserted, insert_call}
use Rattle.specification.specs.Promises.{Inserts}
use Rattle.theory.specs.Tests.{bound}
use Rattle.theory.specs.Records.Positions.{Bytes}
use Rattle.theory.proofs.Records.Lengths.{form_short}
use Rattle.theory.specs.Records.Insertion.{InsertionTaken, insertion_taken}
use Rattle.theory.proofs.Reduction.Insertion.{InsertedInto, insertion_replaces}
use Rattle.forms.proofs.FormCalls.{FormAnswered, form-answered, reads_back}
use Rattle.std.specs.Prelude as Std
use Rattle.refusal.specs.declared.Refusal.{Refusal}
use Rattle.insertion.specs.Answers.{inserted_of}

module _ (table form : List ℕ) (letter : ℕ) (inserted out after : List ℕ) (r : Std.Result ℕ Refusal) (bf : Bytes form) (bi : Bytes inserted)
    (h : ◌≡◌ {A = Result ℕ × List ℕ} (inserted_of r, after) (insert_call table form letter inserted out)) (n : ℕ) (e : inserted_of r ≡ given n) where
  -- a length was answered: the form written, and the two that were taken
  record FormInserted : Type 0 where
    old : Form
    put : Form
    answered : FormAnswered table out (with_inserted table form letter inserted) n after
    taken : InsertionTaken table form letter inserted old put
    into : InsertedInto table letter put old answered.form

  form-inserted : FormInserted
  unfolding insert_call with_inserted
  form-inserted =
      let a : FormAnswered table out (with_inserted table form letter inserted) n after =
      form-answered table out (with_inserted table form letter inserted) n after ((λ i. (sym e i, after)) ∙ h) in
      let w = bound (take_insertion table form letter inserted) _ a.form a.is in
      let t : InsertionTaken table form letter inserted w.0.0 w.0.1 = insertion_taken table form letter inserted w.0.0 w.0.1 bf bi w.1 in
      record {
        old = w.0.0;
        put = w.0.1;
        answered = a;
        taken = t;
        into = insertion_replaces table letter w.0.1 w.0.0 a.form t.old_in_shape t.put_in_shape t.old.letters_tested t.put.letters_tested
            t.letter_tested t.put_is_vector w.2;
      }

  -- it is no longer than a record can be
  pub insert_short : n ≤ form_bytes
  insert_short =
      let f = form-inserted in subst (λ (m : ℕ). m ≤ form_bytes) (sym f.answered.size) (form_short f.answered.form f.into.in_shape)

  -- K1: so many bytes are the record of a form with the old form's value where the letter has the inserted form's, under every assignment of integers
  pub insert-replaces : Inserts table form letter inserted (take n after)
  insert-replaces =
      let f = form-inserted in
      let a = f.answered in
      record {
        old = f.old;
        put = f.put;
        new = a.form;
        is_old = f.taken.old.is_taken;
        is_put = f.taken.put.is_taken;
        is_new = reads_back table out a.form n after a.size a.bytes f.into.in_shape f.into.letters_tested;
        same_value = f.into.same_value;
      }
