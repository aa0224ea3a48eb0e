-- What the calls for C on texts return and leave. Assumes nothing.
use mathlib.Core.Path.{◌≡◌, ap, ◌∙◌}
use mathlib.Core.List.{List}
use Prim.Native.Nat.{ℕ, ◌≤◌}
use lib.IntN.{ℤ}
use lib.ListN.{length}
use Rattle.std.specs.Prelude as Std
use Rattle.refusal.specs.declared.Refusal.{Refusal}
use Rattle.specification.specs.Results.{Result, given}
use Rattle.specification.specs.Text.{text_call, print_named_call}
use Rattle.specification.specs.Returns.{returned, handed_both}
use Rattle.formula_call.proofs.Calls.{record-inside}
use Rattle.named_printing.proofs.Calls.{text-inside}
use Rattle.open_log.specs.Answers.{answered_of}
use Rattle.exports.proofs.Returning.{was_given}

-- what is returned of an answer, with the bytes and the column as the call left them
pub handed_both-as : (call : Result ℕ × List ℕ × List ℕ) (a : Std.Result ℕ Refusal) (after columns : List ℕ) (r : ℤ)
    → ◌≡◌ {A = Result ℕ × List ℕ × List ℕ} (answered_of a, after, columns) call → r ≡ returned (answered_of a) → ◌≡◌ {A = ℤ × List ℕ × List ℕ} (r, after, columns) (handed_both call)
unfolding handed_both
handed_both-as call a after columns r contract e = (λ i. (e i, after, columns)) ∙ ap handed_both contract

module _ (a : Std.Result ℕ Refusal) (n : ℕ) (g : answered_of a ≡ given n) (after : List ℕ) where
  -- a record that was written is in the bytes lent,
  pub record_within : (table names s out columns columns' : List ℕ) → ◌≡◌ {A = Result ℕ × List ℕ × List ℕ} (answered_of a, after, columns') (text_call table names s out columns)
      → n ≤ length after
  record_within table names s out columns columns' contract = record-inside table names s out columns after columns' a n contract (was_given a n g)

  -- and so is a text
  pub text_within : (table names form out : List ℕ) → ◌≡◌ {A = Result ℕ × List ℕ} (answered_of a, after) (print_named_call table names form out) → n ≤ length after
  text_within table names form out contract = text-inside table names form out after a n contract (was_given a n g)
