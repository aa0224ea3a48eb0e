-- `exports::returned_of` meets its contract. Assumes nothing.
use mathlib.Core.Path.{◌∙◌, sym, ap}
use Prim.Native.Nat.{ℕ}
use Rattle.std.specs.Prelude as Std
use Rattle.specification.specs.Results.{refused}
use Rattle.specification.specs.Returns.{returned}
use Rattle.refusal.specs.declared.Refusal.{Refusal}
use Rattle.integers.proofs.Machine.{back_is}
use Rattle.open_log.specs.Answers.{answered_of}
use Rattle.exports.proofs.returned_of.Goals as goal

pub written-requires : goal.written-requires
written-requires c = c.requires _ (ap answered_of c.in-Ok.is)

pub returns-in-Ok : goal.returns-in-Ok
returns-in-Ok c = back_is (record { sfits = c.written.type_inv }) ∙ c.written.ensures ∙ sym (ap (λ (a : Std.Result ℕ Refusal). returned (answered_of a)) c.in-Ok.is)

pub returns-in-Err : goal.returns-in-Err
returns-in-Err c =
    back_is (record { sfits = c.refusal.type_inv }) ∙ c.refusal.ensures ∙ ap (λ (n : ℕ). returned (refused n)) c.number.ensures
    ∙ sym (ap (λ (a : Std.Result ℕ Refusal). returned (answered_of a)) c.in-Err.is)
