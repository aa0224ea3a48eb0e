-- Names and their numbers as they are read, one after the other. Assumes nothing.
use Rattle.std.specs.Prelude as Std
use Rattle.std.specs.Prelude.{◌≡◌, IfOk, List, ℕ, suc, ◌<◌, leb, length}
use Rattle.specification.specs.Results.{when◌then◌else◌}
use Rattle.specification.specs.Letters.{kind_of}
use Rattle.specification.specs.Evaluation.{good_assignment}
use Rattle.specification.specs.Text.{Placed, refused_at, placed, ◌>>=◌}
use Rattle.specification.specs.LogTexts.{mark}
use Rattle.specification.specs.AssignmentTexts.{read_value, put_three, read_assigned}
use Rattle.assignment_texts.specs.declared.Name.{Name}
use Rattle.texts.specs.declared.Unread.{Unread}
use Rattle.texts.specs.Readings.{placed_of}
use Rattle.log_texts.specs.Letters.{position_of}

-- the end of the line
unfoldable pub at_end : (table : List ℕ) (at : ℕ) (so : List ℕ) → Placed (List ℕ)
at_end table at so = when good_assignment table so then placed so else refused_at 12 at

-- what follows behind a value that is put: the end of the line, or a comma and more names
unfoldable pub behind_value : (most : ℕ) (names table line : List ℕ) (at : ℕ) (so : List ℕ) → Placed (List ℕ)
behind_value most names table line at so =
    let further : Placed (List ℕ) = mark 44 line at >>= λ name. read_assigned most names table line name so in
    when leb (length line) at then at_end table at so else further

-- what follows behind a name
unfoldable pub behind_name : (most : ℕ) (names table line : List ℕ) (at letter : ℕ) (so : List ℕ) → Placed (List ℕ)
behind_name most names table line at letter so =
    mark 61 line at >>= λ value.
    read_value (kind_of table letter) line value >>= λ r.
    behind_value most names table line r.1 (put_three letter r.0 so)

-- a name that was read and the position behind it
abbrev pub name_of : Std.Result Name Unread → Placed (ℕ × ℕ)
name_of r = placed_of (λ q. (q.letter, q.at)) r

-- a name that has no numbers yet, or the refusal at its column
pub record NameRead (names line : List ℕ) (at : ℕ) (so : List ℕ) (r : Std.Result Name Unread) : Type 0 where
  pub is : (table : List ℕ) (most : ℕ) → read_assigned (suc most) names table line at so ≡ (name_of r >>= λ q. behind_name most names table line q.1 q.0 so)
  pub known : IfOk r (λ q. q.letter < length names)

-- one more turn: a name and its numbers, or the refusal at its column
pub record AssignedTurn (names table line : List ℕ) (at : ℕ) (so : List ℕ) (r : Std.Result ℕ Unread) (so' : List ℕ) : Type 0 where
  pub is : (most : ℕ) → read_assigned (suc most) names table line at so ≡ (position_of r >>= λ n. behind_value most names table line n so')

-- the numbers of all letters, or the refusal at its column
pub record AssignedRead (x : Placed (List ℕ)) (r : Std.Result (Unit {0}) Unread) (so : List ℕ) : Type 0 where
  pub is : x ≡ placed_of (λ _. so) r
