-- The theorem at the call: what `reduce` writes is, read back, a form with the value of the expression. Assumes nothing.
use mathlib.Core.Path.{◌≡◌, sym, subst, ◌∙◌}
use mathlib.Core.List.{List}
use Prim.Native.Nat.{ℕ, ◌≤◌}
use lib.ListN.{take}
use Rattle.specification.specs.Results.{Result, given}
use Rattle.specification.specs.Terms.{Form}
use Rattle.specification.specs.Records.{form_bytes, take_form}
use Rattle.specification.specs.Reduction.{reduced, reduce_call}
use Rattle.specification.specs.Promises.{KeepsValue}
use Rattle.theory.proofs.Records.Lengths.{form_short}
use Rattle.theory.proofs.Reduction.Work.{ReducedTo, reduction_keeps_value}
use Rattle.forms.proofs.FormCalls.{FormAnswered, form-answered, reads_back}
use Rattle.std.specs.Prelude as Std
use Rattle.refusal.specs.declared.Refusal.{Refusal}
use Rattle.reduction.specs.Answers.{reduced_of}

-- a length was written: the form that is read back from so many bytes has, under every assignment, the value of the expression (`ReducedTo`)
pub record WrittenForm (table expr after : List ℕ) (n : ℕ) : Type 0 where
  pub form : Form
  pub short : n ≤ form_bytes
  pub read_back : take_form table (take n after) ≡ given form
  pub reduced_to : ReducedTo table expr form

-- P2 at the call: where `reduce` answers with a length, so many bytes are the record of a form with the expression's value under every assignment of integers
pub reduce_keeps_value : (table expr out after : List ℕ) (r : Std.Result ℕ Refusal) (n : ℕ) → ◌≡◌ {A = Result ℕ × List ℕ} (reduced_of r, after) (reduce_call table expr out) → reduced_of r ≡ given n
    → WrittenForm table expr after n
unfolding reduce_call
reduce_keeps_value table expr out after r n h e =
    let a : FormAnswered table out (reduced table expr) n after = form-answered table out (reduced table expr) n after ((λ i. (sym e i, after)) ∙ h) in
    let k : ReducedTo table expr a.form = reduction_keeps_value table expr a.form a.good a.is in
    record {
      form = a.form;
      short = subst (λ (m : ℕ). m ≤ form_bytes) (sym a.size) (form_short a.form k.in_shape);
      read_back = reads_back table out a.form n after a.size a.bytes k.in_shape k.letters_tested;
      reduced_to = k;
    }

-- what is promised of the bytes written
pub keeps_value : (table expr out after : List ℕ) (r : Std.Result ℕ Refusal) → ◌≡◌ {A = Result ℕ × List ℕ} (reduced_of r, after) (reduce_call table expr out)
    → (n : ℕ) → reduced_of r ≡ given n → KeepsValue table expr (take n after)
keeps_value table expr out after r h n e =
    let w = reduce_keeps_value table expr out after r n h e in
    record { tree = w.reduced_to.tree; form = w.form; is_read = w.reduced_to.read; is_form = w.read_back; same_value = w.reduced_to.same_value }
