-- What is told for a formula and an assignment behind names. Assumes nothing.
use Rattle.std.specs.Prelude.{List, ◌++◌, ℕ, length}
use Rattle.specification.specs.Terms.{Form}
use Rattle.specification.specs.Evaluation.{value, assignment}
use Rattle.specification.specs.Words.{bytes}
use Rattle.specification.specs.Text.{Placed, skip, text_form}
use Rattle.specification.specs.Lines.{Place, line_of, next_line, to_line, Lined, in_line, ◌>>>◌}
use Rattle.specification.specs.LogTexts.{nothing_left}
use Rattle.specification.specs.AssignmentTexts.{none_yet, read_assigned}
use Rattle.specification.specs.Commands.{value_text}

-- the assignment of a line
abbrev pub assigned_in : (names table line : List ℕ) → Placed (List ℕ)
assigned_in names table line = read_assigned (length line) names table line (skip line 0) (none_yet table)

-- what follows the assignment
abbrev pub behind_assigned : Form → Place → List ℕ → Lined (List ℕ)
behind_assigned f q a = nothing_left (to_line (next_line q)) (value_text f.kind (value (assignment a) f) ++ bytes "\n")

-- what follows the formula
abbrev pub behind_formula : (names table : List ℕ) → Place → Form → Lined (List ℕ)
behind_formula names table p f = in_line (to_line (next_line p)) (assigned_in names table (line_of (to_line (next_line p)))) >>> behind_assigned f (to_line (next_line p))

-- the lines behind the names
unfoldable pub value_behind : (names table : List ℕ) → Place → Lined (List ℕ)
value_behind names table p = in_line p (text_form names table (line_of p)) >>> behind_formula names table p
