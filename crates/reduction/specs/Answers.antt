-- What the call answers: document 01's number and value for each case. Assumes nothing.
use Rattle.std.specs.Prelude.{ℕ}
use Rattle.specification.specs.Results.{Result}
use Rattle.std.specs.Prelude as Std
use Rattle.refusal.specs.declared.Refusal.{Refusal}
use Rattle.refusal.specs.Tests.{answer_of}

-- the length written, or the number
abbrev pub reduced_of : Std.Result ℕ Refusal → Result ℕ
reduced_of r = answer_of (λ n. n) r
