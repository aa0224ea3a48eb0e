-- The numbers of refusals, and tests as the specification has them. Assumes nothing.
use Rattle.std.specs.Prelude.{ℕ}
use Rattle.refusal.specs.declared.Refusal.{Refusal}
use Rattle.refusal.specs.declared.Refusal.TheVariants.{BadTable, NoRoom, TooLong, Torn, AbsentLetter, WrongKind, ManyPairs, ManyLetters, LargeCoefficient, ManyTerms, WrongShape, WrongAssignment, OtherForm, FullLog}

-- the number of a refusal
abbrev pub number_of : Refusal → ℕ
number_of BadTable = 1
number_of NoRoom = 2
number_of TooLong = 3
number_of Torn = 4
number_of AbsentLetter = 5
number_of WrongKind = 6
number_of ManyPairs = 7
number_of ManyLetters = 8
number_of LargeCoefficient = 9
number_of ManyTerms = 10
number_of WrongShape = 11
number_of WrongAssignment = 12
number_of OtherForm = 13
number_of FullLog = 14
