-- Names in lent bytes. Assumes nothing.
use Rattle.std.specs.Prelude.{◌≡◌, Ok, Err, IfOk, MatchResult, List, ℕ, suc, ◌≤◌, length, take}
use Rattle.std.specs.Prelude as Std
use Rattle.specification.specs.Text.{Placed, refused_at}
use Rattle.specification.specs.Lines.{in_line, line_of, Named, read_names, declared, read_header}
use Rattle.refusal.specs.declared.Refusal.TheVariants.{BadTable}
use Rattle.refusal.specs.Numbers.{number_of}
use Rattle.texts.specs.declared.Unread.{Unread}
use Rattle.texts.specs.Readings.{placed_of}
use Rattle.lines.specs.declared.places.Place.{Place}
use Rattle.lines.specs.declared.places.UnreadLine.{UnreadLine}
use Rattle.lines.specs.Places.{place_of, Inside}
use Rattle.lines.specs.Readings.{lined_of}
use Rattle.declarations.specs.declared.NameStep.{NameStep}
use Rattle.declarations.specs.declared.Header.{Header}

-- the first so many names, and their kinds
abbrev pub named_of : (count : ℕ) (names table : List ℕ) → Named
named_of count names table = (take count names, take count table)

-- what is left to be read behind a turn, or its refusal
abbrev pub turned : (most : ℕ) (line names table : List ℕ) → Std.Result NameStep Unread → Placed Named
turned most line names table (Ok q) = read_names most q.kind line q.at (named_of q.count names table)
turned most line names table (Err e) = refused_at (number_of e.why) e.column

-- one more turn of reading names
pub record NameTurn (line : List ℕ) (p : NameStep) (names table : List ℕ) (r : Std.Result NameStep Unread) (names' table' : List ℕ) : Type 0 where
  pub is : (most : ℕ) → read_names (suc most) p.kind line p.at (named_of p.count names table) ≡ turned most line names' table' r
  pub few : IfOk r (λ q. q.count ≤ 24)

-- names read: the refusal with its column, or how many there are then
pub record NamesRead (x : Placed Named) (r : Std.Result ℕ Unread) (names table : List ℕ) : Type 0 where
  pub is : x ≡ placed_of (λ n. named_of n names table) r
  pub few : IfOk r (λ n. n ≤ 24)

-- the names of the line at a place
pub record LineRead (s : List ℕ) (p : Place) (n : Named) (r : Std.Result ℕ UnreadLine) (names table : List ℕ) : Type 0 where
  pub is : in_line (place_of s p) (declared (line_of (place_of s p)) n) ≡ lined_of s (λ n. named_of n names table) r
  pub few : IfOk r (λ n. n ≤ 24)
  pub here : MatchResult r (λ _. Inside s p) (λ e. e.place ≡ p)

-- names are declared, or none at the place
pub record SomeNames (count : ℕ) (p : Place) (r : Std.Result Header UnreadLine) : Type 0 where
  pub none : count ≡ 0 → r ≡ Err (record { why = BadTable; column = 0; place = p })
  pub some : 1 ≤ count → r ≡ Ok (record { count = count; place = p })

-- the names of a text
pub record HeaderRead (s : List ℕ) (r : Std.Result Header UnreadLine) (names table : List ℕ) : Type 0 where
  pub is : read_header s ≡ lined_of s (λ h. (named_of h.count names table, place_of s h.place)) r
  pub few : IfOk r (λ h. h.count ≤ 24)
  pub inside : MatchResult r (λ h. Inside s h.place) (λ e. Inside s e.place)
