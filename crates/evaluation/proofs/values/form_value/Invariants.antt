-- `evaluation::values::form_value` meets its contract: v is the sum of the terms from n on. Assumes nothing.
use mathlib.Core.Path.{◌≡◌}
use mathlib.Core.List.{map}
use Prim.Native.Nat.{◌≤◌}
use lib.ListN.{take, drop}
use Rattle.specification.specs.Evaluation.{assignment, terms_value}
use Rattle.terms.specs.Abstraction.{term_of}
use Rattle.evaluation.specs.Vectors.{vec_of}
use Rattle.evaluation.proofs.values.form_value.Given as goal

abbrev pub invariant-loop-n : goal.invariant-loop-n
invariant-loop-n l = (l.n ≤ l.f.count) × (vec_of l.v ≡ terms_value (assignment l.s) (map term_of (drop l.n (take l.f.count l.f.terms))))
