-- The answer of the value call. Assumes nothing.
use Rattle.std.specs.Prelude as Std
use Rattle.specification.specs.Results.{Result}
use Rattle.specification.specs.Values.{Vec}
use Rattle.refusal.specs.declared.Refusal.{Refusal}
use Rattle.refusal.specs.Tests.{answer_of}
use Rattle.evaluation.specs.declared.vectors.Vector.{Vector}
use Rattle.evaluation.specs.Vectors.{vec_of}

-- three integers, or the number of the refusal
abbrev pub valued_of : Std.Result Vector Refusal → Result Vec
valued_of r = answer_of vec_of r
