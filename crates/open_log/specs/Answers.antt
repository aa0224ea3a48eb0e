-- The answers of calls in document 01's numbers. Assumes nothing.
use Rattle.std.specs.Prelude.{ℕ}
use Rattle.std.specs.Prelude as Std
use Rattle.specification.specs.Results.{Result, Test}
use Rattle.refusal.specs.declared.Refusal.{Refusal}
use Rattle.refusal.specs.Tests.{answer_of, test_of}

-- how many bytes were written, or the number
abbrev pub answered_of : Std.Result ℕ Refusal → Result ℕ
answered_of r = answer_of (λ n. n) r

-- accepted, or the number
abbrev pub closed_of : Std.Result (Unit {0}) Refusal → Test
closed_of r = test_of r
