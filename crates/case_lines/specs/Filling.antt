-- Memory lent, filled before a call and looked at behind it. Assumes nothing.
use Rattle.std.specs.Prelude.{◌≡◌, Bool, true, List, ℕ, ◌<◌, length, get_or}

-- what every byte is before a call
abbrev pub filling : ℕ
filling = 170

-- every byte is the filling
abbrev pub AllFilling : (bytes : List ℕ) → Type 0
AllFilling bytes = (x : ℕ) → x < length bytes → get_or bytes x 0 ≡ filling

-- the answer is true exactly where every byte is the filling
pub record Stand (bytes : List ℕ) (answer : Bool) : Type 0 where
  pub stand : answer ≡ true → AllFilling bytes
  pub found : AllFilling bytes → answer ≡ true
