-- Text told into lent bytes. Assumes nothing.
use Rattle.std.specs.Prelude.{◌≡◌, List, ◌++◌, ℕ, ◌≤◌, ◌<◌, length, take}

-- a text stands in front of the bytes lent, up to a position; a position beyond their end says that there is no room for it
pub record Told (out : List ℕ) (at : ℕ) (text : List ℕ) : Type 0 where
  pub ends : at ≤ length out → at ≡ length text
  pub stands : at ≤ length out → take at out ≡ text
  pub short : length out < at → length out < length text

-- a text that is right is told
pub record AnswerTold (Right : List ℕ → Type 0) (out : List ℕ) (at : ℕ) : Type 0 where
  pub text : List ℕ
  pub right : Right text
  pub told : Told out at text

-- bytes told behind a text
pub record Tells (before after : List ℕ) (at next : ℕ) (xs : List ℕ) : Type 0 where
  pub is : (text : List ℕ) → Told before at text → Told after next (text ++ xs)
