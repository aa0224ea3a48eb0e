-- The answer of a call that prints: the length of the text, or the number of the reason. Assumes nothing.
use Rattle.std.specs.Prelude.{ℕ}
use Rattle.std.specs.Prelude as Std
use Rattle.specification.specs.Results.{Result}
use Rattle.refusal.specs.declared.Refusal.{Refusal}
use Rattle.refusal.specs.Tests.{answer_of}

-- the length of the text, or the number of the reason
abbrev pub length_of : Std.Result ℕ Refusal → Result ℕ
length_of r = answer_of (λ n. n) r
