-- What the printers leave in the bytes lent, and the parts of a term's text. Assumes nothing.
use Rattle.std.specs.Prelude.{◌≡◌, Bool, not, ◌&&◌, List, [], ◌∷◌, ◌++◌, map, ℕ, ◌+◌, eqb, length}
use Rattle.specification.specs.Lists.{joined}
use Rattle.specification.specs.Terms.{Term, Form}
use Rattle.specification.specs.Printing.{name_of, print_factor, print_form, is_nothing, print_star}
use Rattle.record_writing.specs.Written.{Written}

-- ════ with these names of letters

module _ (names : List ℕ) where
  -- two letters with a mark between them
  abbrev pub pair_text : (x mark y : ℕ) → List ℕ
  pair_text x mark y = 40 ∷ name_of names x ∷ mark ∷ name_of names y ∷ 41 ∷ []

  -- three letters
  abbrev pub triple_text : (x y z : ℕ) → List ℕ
  triple_text x y z = 40 ∷ name_of names x ∷ name_of names y ∷ name_of names z ∷ 41 ∷ []

  -- the scalar part of a term
  unfoldable pub print_factors : Term → List ℕ
  print_factors t = joined (map (print_factor names) t.factors)

  -- the line of a form: its text and a newline
  abbrev pub print_line : Form → List ℕ
  print_line f = print_form names f.terms ++ 10 ∷ []

-- ════ whatever the names

-- the letters of a term: where there are none, nothing is written but its coefficient
unfoldable pub other_letters : Term → List ℕ
other_letters t = joined t.factors ++ t.part

-- a coefficient of this size is left out, by what stands beside it
unfoldable pub is_left_out : (size : ℕ) (others : List ℕ) → Bool
is_left_out size others = eqb size 1 && not (is_nothing others)

-- the star between a text that stands from a position on and a vector part with these letters
pub record StarWritten (before after : List ℕ) (from at next : ℕ) (part : List ℕ) : Type 0 where
  pub is : (text : List ℕ) → at ≡ from + length text → Written before after at next (print_star text part)
