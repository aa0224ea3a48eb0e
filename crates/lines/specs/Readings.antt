-- What is read of lines, as the specification has it: the refusal at its column of its line, or what was read. Assumes nothing.
use Rattle.std.specs.Prelude.{Ok, Err, List, ℕ}
use Rattle.std.specs.Prelude as Std
use Rattle.specification.specs.Lines.{Lined, refused_in, lined, line_of}
use Rattle.refusal.specs.Numbers.{number_of}
use Rattle.lines.specs.Places.{place_of}
use Rattle.lines.specs.declared.places.UnreadLine.{UnreadLine}

-- what was read seen as the specification has it, or the refusal
abbrev pub lined_of : {A B : Type 0} (s : List ℕ) → (A → B) → Std.Result A UnreadLine → Lined B
lined_of s see (Ok a) = lined (see a)
lined_of s see (Err e) = refused_in (number_of e.why) e.place.number e.column (line_of (place_of s e.place))
