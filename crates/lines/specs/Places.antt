-- Places of a text by positions. Assumes nothing.
use Rattle.std.specs.Prelude.{◌≡◌, List, ℕ, ◌+◌, ◌-◌, ◌≤◌, length, take, drop}
use Rattle.specification.specs.Lines as L
use Rattle.specification.specs.Lines.{first_line, behind_line}
use Rattle.lines.specs.declared.places.Place.{Place}

-- the line's number, and all from it on
abbrev pub place_of : (s : List ℕ) → Place → L.Place
place_of s p = (p.number, drop p.at s)

-- a line begins in the text, and has no more lines before it than bytes
pub record Inside (s : List ℕ) (p : Place) : Type 0 where
  pub within : p.at ≤ length s
  pub few : p.number ≤ p.at + 1

-- a line ends: its bytes, and all behind it
pub record LineEnd (s : List ℕ) (at end : ℕ) : Type 0 where
  pub from : at ≤ end
  pub within : end ≤ length s
  pub line : take (end - at) (drop at s) ≡ first_line (drop at s)
  pub rest : drop (end + 1) s ≡ behind_line (drop at s)

-- a place is this one
pub record Reached (s : List ℕ) (p : L.Place) (r : Place) : Type 0 where
  pub is : place_of s r ≡ p
  pub inside : Inside s r
