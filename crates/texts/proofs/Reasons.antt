-- The numbers of reasons. Assumes nothing.
use mathlib.Core.Path.{◌≡◌}
use native.Mathlib.Omega.{arith}
use Rattle.refusal.specs.declared.Refusal.{Refusal}
use Rattle.refusal.specs.declared.Refusal.TheVariants.{BadTable, NoRoom, TooLong, Torn, AbsentLetter, WrongKind, ManyPairs, ManyLetters, LargeCoefficient, ManyTerms, WrongShape, WrongAssignment, OtherForm, FullLog}
use Rattle.refusal.specs.Numbers.{number_of}

-- none is 0
pub not_zero : (why : Refusal) → number_of why ≡ 0 → ⊥
not_zero BadTable e = omega (arith, e)
not_zero NoRoom e = omega (arith, e)
not_zero TooLong e = omega (arith, e)
not_zero Torn e = omega (arith, e)
not_zero AbsentLetter e = omega (arith, e)
not_zero WrongKind e = omega (arith, e)
not_zero ManyPairs e = omega (arith, e)
not_zero ManyLetters e = omega (arith, e)
not_zero LargeCoefficient e = omega (arith, e)
not_zero ManyTerms e = omega (arith, e)
not_zero WrongShape e = omega (arith, e)
not_zero WrongAssignment e = omega (arith, e)
not_zero OtherForm e = omega (arith, e)
not_zero FullLog e = omega (arith, e)
