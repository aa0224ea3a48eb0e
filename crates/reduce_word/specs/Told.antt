-- Lines told into lent bytes. Assumes nothing.
use Rattle.std.specs.Prelude.{◌≡◌, IfOk, IfErr, List, ℕ}
use Rattle.std.specs.Prelude as Std
use Rattle.specification.specs.Lines.{Lined}
use Rattle.lines.specs.declared.places.UnreadLine.{UnreadLine}
use Rattle.lines.specs.Places.{Inside}
use Rattle.lines.specs.Readings.{lined_of}
use Rattle.telling.specs.Told.{Told}

-- the first refusal with its column and its line's place, or the text told
pub record LinesTold (s : List ℕ) (x : Lined (List ℕ)) (r : Std.Result ℕ UnreadLine) (out : List ℕ) : Type 0 where
  pub text : List ℕ
  pub is : x ≡ lined_of s (λ _. text) r
  pub told : IfOk r (λ end. Told out end text)
  pub inside : IfErr r (λ e. Inside s e.place)
