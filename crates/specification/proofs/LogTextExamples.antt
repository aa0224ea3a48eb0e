-- Worked examples of logs as text, as rows of one table with one computed test. Assumes nothing.
use mathlib.Core.Bool.{Bool, false, ◌&&◌}
use mathlib.Core.List.{List, [], ◌∷◌, ◌++◌}
use Prim.Native.Nat.{ℕ, zero, suc}
use lib.Dec.{T, eqb}
use Rattle.specification.specs.Lists.{all}
use Rattle.specification.specs.Logs.{Checked, refused_at, accepted, check_call}
use Rattle.specification.specs.Printing.{print_rule, print_letters, print_multiplier, print_step, print_steps}
use Rattle.specification.specs.Words.{bytes}
use Rattle.specification.specs.Lines.{first_line, behind_line, is_empty_line, at_end, past_empty, to_line, Lined, refused_in, lined, in_line, same_bytes, is_word_at}
use Rattle.specification.specs.Lines.{read_names, is_declaration, declared, read_declared, some_names, read_header}
use Rattle.specification.specs.LogTexts.{kinds_word, write_names, names_line, kind_word, form_line, log_text, from, of_kind, kind_at, read_form_line, mark}
use Rattle.specification.specs.LogTexts.{read_letters_at, one_term, is_step_line, read_step_line, read_step_lines}
use Rattle.specification.specs.LogTexts.{LogRead, nothing_left, read_log_lines, read_log_text, log_bytes_of}
use Rattle.specification.proofs.Computing.{computing}
use Rattle.specification.proofs.TextExamples.{computing_text}

-- the definitions of lines and of logs as text compute
unfoldable pub computing_lines : Unit {0}
unfolding bytes first_line behind_line is_empty_line at_end past_empty to_line in_line same_bytes is_word_at read_names is_declaration declared read_declared some_names
    read_header print_rule print_letters print_multiplier print_step print_steps kinds_word write_names names_line kind_word form_line log_text from of_kind kind_at
    read_form_line mark read_letters_at one_term is_step_line read_step_line read_step_lines nothing_left read_log_lines read_log_text log_bytes_of
computing_lines = tt

-- ════ the table

data Example : Type 0 where
  -- a text that is written again as it stands
  stays : (text : List ℕ) → Example
  -- a text, and what it says written again
  reads : (text again : List ℕ) → Example
  -- a text whose log the checker accepts, and its steps
  derives : (text : List ℕ) (steps : ℕ) → Example
  -- a text, its refusal, the line, the column and the line's text
  stops : (text : List ℕ) (number line column : ℕ) (told : List ℕ) → Example

-- a text so many times
times : ℕ → List ℕ → List ℕ
times zero text = []
times (suc n) text = text ++ times n text

examples : List Example
examples =
    -- a whole log
    stays (bytes "vectors a b c d\nvector (bcd)*a-(acd)*b+(abd)*c-(abc)*d\nrule 2: a b c d, M = 1\nvector 0\n")
    ∷ derives (bytes "vectors a b c d\nvector (bcd)*a-(acd)*b+(abd)*c-(abc)*d\nrule 2: a b c d, M = 1\nvector 0\n") 1
    -- letters of a step in another order, and two steps
    ∷ derives (bytes "vectors a b c d\nvector (bcd)*a-(acd)*b+(abd)*c-(abc)*d\nrule 2: d b c a, M = -3\nrule 2: b a c d, M = 2\nvector 0\n") 2
    -- formulas need not be in the order of forms, blanks are free, the last newline may be missing
    ∷ reads (bytes "vectors a b c d\n  vector   a(b c d) -(acd)b-d(abc) + c(abd)\nrule 2:abcd ,M=-1*1\nvector  a-a")
    (bytes "vectors a b c d\nvector (bcd)*a-(acd)*b+(abd)*c-(abc)*d\nrule 2: a b c d, M = -1\nvector 0\n")
    -- both kinds in the line of names
    ∷ stays (bytes "vectors w r scalars m vectors u\nscalar 2m(w.u)-m(r.u)\nscalar 0\n")
    -- a scalar first, and a word that says nothing new
    ∷ reads (bytes "scalars m scalars n vectors a\nvector mn*a\nvector mn*a\n") (bytes "scalars m n vectors a\nvector mn*a\nvector mn*a\n")
    -- names on more lines than one
    ∷ reads (bytes "vectors a b\nscalars m\nvectors c\nvector m(a.b)*c\nvector 0\n") (bytes "vectors a b scalars m vectors c\nvector m(a.b)*c\nvector 0\n")
    -- a step of each other rule, with M of more than a number
    ∷ stays (bytes "vectors a b c d h g\nscalar 0\nrule 1: a b c d, M = 2(a.a)\nrule 3: a b c d h, M = -1\n"
    ++ bytes "rule 4: d c b a h, M = 1\nrule 5: a b c d g h, M = a\nscalar 0\n")
    -- empty lines are passed
    ∷ reads (bytes "\n  \nvectors a b\n\nvector (a^b)\n   \n\nvector (a^b)\n\n \n") (bytes "vectors a b\nvector (a^b)\nvector (a^b)\n")
    -- 64 steps are taken, a 65th is 3
    ∷ stays (bytes "vectors a\nvector 0\n" ++ times 64 (bytes "rule 1: a a a a, M = 1\n") ++ bytes "vector 0\n")
    ∷ stops (bytes "vectors a\nvector 0\n" ++ times 65 (bytes "rule 1: a a a a, M = 1\n") ++ bytes "vector 0\n") 3 67 0 (bytes "rule 1: a a a a, M = 1")
    -- a name twice
    ∷ stops (bytes "vectors a b a\nvector 0\nvector 0\n") 1 1 12 (bytes "vectors a b a")
    -- also on another line
    ∷ stops (bytes "vectors a b\n\nscalars m b\nvector 0\nvector 0\n") 1 3 10 (bytes "scalars m b")
    -- 24 names are taken, a 25th is not
    ∷ stops (bytes "vectors a b c d e f g h i j k l m n o p q r s t u v w x y\nvector 0\nvector 0\n") 1 1 56
    (bytes "vectors a b c d e f g h i j k l m n o p q r s t u v w x y")
    -- no names: at the first other line
    ∷ stops (bytes "\nvector 0\nvector 0\n") 1 2 0 (bytes "vector 0")
    ∷ stops (bytes "vectors scalars\nvector 0\nvector 0\n") 1 2 0 (bytes "vector 0")
    -- names are single letters
    ∷ stops (bytes "vectors a bc\nvector 0\nvector 0\n") 4 1 10 (bytes "vectors a bc")
    -- a form without its kind
    ∷ stops (bytes "vectors a b\na\na\n") 4 2 0 (bytes "a")
    -- of the other kind: at the formula
    ∷ stops (bytes "vectors a b\nscalar  a\nvector a\n") 6 2 8 (bytes "scalar  a")
    -- an undeclared letter in a form, and in a step
    ∷ stops (bytes "vectors a b\nvector a+e\nvector a\n") 5 2 9 (bytes "vector a+e")
    ∷ stops (bytes "vectors a b c d\nvector a\nrule 2: a b c e, M = 1\nvector a\n") 5 3 14 (bytes "rule 2: a b c e, M = 1")
    -- a rule's number that is none
    ∷ stops (bytes "vectors a b c d\nvector a\nrule 6: a b c d, M = 1\nvector a\n") 4 3 5 (bytes "rule 6: a b c d, M = 1")
    -- a letter too few, and a comma that is missing
    ∷ stops (bytes "vectors a b c d\nvector a\nrule 3: a b c d, M = 1\nvector a\n") 4 3 15 (bytes "rule 3: a b c d, M = 1")
    ∷ stops (bytes "vectors a b c d\nvector a\nrule 2: a b c d M = 1\nvector a\n") 4 3 16 (bytes "rule 2: a b c d M = 1")
    -- M of two terms, and of none
    ∷ stops (bytes "vectors a b c d\nvector a\nrule 2: a b c d, M = (a.b)+1\nvector a\n") 11 3 21 (bytes "rule 2: a b c d, M = (a.b)+1")
    ∷ stops (bytes "vectors a b c d\nvector a\nrule 2: a b c d, M = 0\nvector a\n") 11 3 21 (bytes "rule 2: a b c d, M = 0")
    -- a refusal inside M, with its column in the line
    ∷ stops (bytes "vectors a b c d\nvector a\nrule 2: a b c d, M = (a.1)\nvector a\n") 4 3 24 (bytes "rule 2: a b c d, M = (a.1)")
    -- text behind the last form, and no last form
    ∷ stops (bytes "vectors a b\nvector a\nvector a\n\nvector b\n") 4 5 0 (bytes "vector b")
    ∷ stops (bytes "vectors a b\nvector a\n") 4 3 0 []
    ∷ []

-- ════ the test

written_as : (text : List ℕ) → Lined LogRead → Bool
written_as text (refused_in n k c t) = false
written_as text (lined l) = same_bytes (log_text l.names l.table l.first l.steps l.last) text

accepted_with : (steps : ℕ) → Checked → Bool
accepted_with steps (refused_at n k) = false
accepted_with steps (accepted a b n) = eqb n steps

accepted_as : (steps : ℕ) → Lined LogRead → Bool
accepted_as steps (refused_in n k c t) = false
accepted_as steps (lined l) = accepted_with steps (check_call l.table (log_bytes_of l))

refused_as : (number line column : ℕ) (told : List ℕ) → Lined LogRead → Bool
refused_as number line column told (refused_in n k c t) = eqb n number && eqb k line && eqb c column && same_bytes t told
refused_as number line column told (lined l) = false

-- the example holds
example_holds : Example → Bool
example_holds (stays text) = written_as text (read_log_text text)
example_holds (reads text again) = written_as again (read_log_text text)
example_holds (derives text steps) = accepted_as steps (read_log_text text)
example_holds (stops text number line column told) = refused_as number line column told (read_log_text text)

log-texts-hold : T (all example_holds examples)
unfolding examples times example_holds written_as accepted_with accepted_as refused_as computing computing_text computing_lines
log-texts-hold = tt
