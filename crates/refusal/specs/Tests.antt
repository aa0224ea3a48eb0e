-- What a call in Rattle answers, as the specification has it: a refusal by its number, or what was given. Assumes nothing.
use Rattle.std.specs.Prelude.{Ok, Err}
use Rattle.std.specs.Prelude as Std
use Rattle.specification.specs.Results.{Result, Test, refused, given}
use Rattle.refusal.specs.declared.Refusal.{Refusal}
use Rattle.refusal.specs.Numbers.{number_of}

-- what was given seen as the specification has it, or the refusal
abbrev pub answer_of : {A B : Type 0} → (A → B) → Std.Result A Refusal → Result B
answer_of see (Ok a) = given (see a)
answer_of see (Err e) = refused (number_of e)

-- a test: passed, or refused
abbrev pub test_of : Std.Result (Unit {0}) Refusal → Test
test_of r = answer_of (λ _. tt) r
