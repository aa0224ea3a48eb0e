-- What the words answer, computed. Assumes nothing.
use mathlib.Core.Path.{◌≡◌, refl}
use mathlib.Core.List.{[], ◌∷◌, ◌++◌}
use lib.IntN.{pos}
use Rattle.specification.specs.Words.{bytes}
use Rattle.specification.specs.Decision.{differs}
use Rattle.specification.specs.Lines.{refused_in, lined}
use Rattle.specification.specs.Evaluation.{signed_byte, six_or_less, rest_is_zero, good_assignment, assignment, value}
use Rattle.specification.specs.Commands.{numeral, signed_numeral, reason, blanks, refusal_text, step_reason, count_text, checked_text, answer_text, pack_input}
use Rattle.specification.specs.Commands.{value_text, value_input, paired, read_sides, assignment_text, decision_text, read_one_line, tested_log, tested_text, unpacked_text, unpack_log, unpack_input}
use Rattle.specification.specs.Lines.{in_front, lines_of}
use Rattle.specification.specs.Commands.{underway, line_read, names_answer, read_first, first_answer, read_one_step, step_refused, step_answer}
use Rattle.specification.specs.Commands.{answer_line, pass_line, answer_lines, end_text, derivation_input}
use Rattle.specification.specs.AssignmentTexts.{read_component, read_value, put_three, none_yet, read_assigned}
use Rattle.specification.proofs.Computing.{computing}
use Rattle.specification.proofs.TextExamples.{computing_text}
use Rattle.specification.proofs.LogTextExamples.{computing_lines}

-- the definitions of the words compute
unfoldable pub computing_words : Unit {0}
unfolding computing computing_text computing_lines signed_byte six_or_less rest_is_zero good_assignment assignment value numeral signed_numeral reason blanks refusal_text
    step_reason count_text checked_text answer_text pack_input read_component read_value put_three none_yet read_assigned value_text value_input paired read_sides assignment_text decision_text read_one_line tested_log tested_text
    unpacked_text unpack_log unpack_input in_front lines_of line_read names_answer read_first first_answer read_one_step step_refused step_answer answer_line pass_line answer_lines end_text derivation_input
computing_words = tt

-- a value, its assignment in another order than the names
value_example : answer_text (value_input (bytes "vectors a b\nscalars m\nm*(a.b)\n b = (0, -1, 1), m = 2, a = (1, 2, 3)\n")) ≡ bytes "2\n"
unfolding computing_words
value_example = refl

-- a vector's value
vector-example : answer_text (value_input (bytes "vectors a b\na^b\na = (1, 0, 0), b = (0, -6, 0)")) ≡ bytes "(0, 0, -6)\n"
unfolding computing_words
vector-example = refl

-- a name is missing
missing-example : answer_text (value_input (bytes "vectors a b\na^b\na = (1, 0, 0)"))
    ≡ bytes "refused 12 at line 3, column 14: not an assignment of numbers from -6 to 6 to every name\na = (1, 0, 0)\n             ^\n"
unfolding computing_words
missing-example = refl

-- a number beyond 6
large-example : answer_text (value_input (bytes "scalars m\nm\nm = -7"))
    ≡ bytes "refused 12 at line 3, column 6: not an assignment of numbers from -6 to 6 to every name\nm = -7\n     ^\n"
unfolding computing_words
large-example = refl

-- an assignment by names
assignment-example : assignment_text (bytes "am") (1 ∷ 0 ∷ []) (0 ∷ 255 ∷ 1 ∷ 2 ∷ 0 ∷ 0 ∷ []) ≡ bytes "a = (0, -1, 1), m = 2"
unfolding computing_words
assignment-example = refl

-- unpacking what was packed
unpack-example : unpack_input (answer_text (pack_input (bytes "vectors w x y z\nvector z+z-z\nvector z\n"))) ≡ bytes "vectors a b c d\nvector d\nvector d\n"
unfolding computing_words
unpack-example = refl

-- two sides, of which the right one is empty and takes the left one's kind
sides-example : read_one_line read_sides (bytes "vectors a b\na^b = b - b\n")
    ≡ lined ((bytes "ab", 1 ∷ 1 ∷ []), (record { kind = 1; terms = record { coef = pos 1; factors = []; part = 0 ∷ 1 ∷ [] } ∷ [] }, record { kind = 1; terms = [] }))
unfolding computing_words
sides-example = refl

-- kinds that do not fit are refused at the sign
unlike-example : read_one_line read_sides (bytes "vectors a b\na.b = b\n") ≡ refused_in 6 2 4 (bytes "a.b = b")
unfolding computing_words
unlike-example = refl

-- a second sign is torn on the right side
signs-example : read_one_line read_sides (bytes "vectors a\na = a = a\n") ≡ refused_in 4 2 6 (bytes "a = a = a")
unfolding computing_words
signs-example = refl

-- no sign
no_sign-example : read_one_line read_sides (bytes "vectors a\na\n") ≡ refused_in 4 2 1 (bytes "a")
unfolding computing_words
no_sign-example = refl

-- what is told where two forms differ
differs-example : decision_text (bytes "am") (1 ∷ 0 ∷ []) (record { kind = 1; terms = record { coef = pos 2; factors = []; part = 0 ∷ [] } ∷ [] })
    (record { kind = 1; terms = [] }) (0 ∷ 0 ∷ 1 ∷ 0 ∷ 0 ∷ 0 ∷ []) differs ≡ bytes "differs\na = (0, 0, 1), m = 0\nleft = (0, 0, 2)\nright = (0, 0, 0)\n"
unfolding computing_words
differs-example = refl

-- a derivation: each line is answered by itself, a refused one leaves all as before, and at the end stands the log
derivation-example : derivation_input (bytes "vectors a b c\nvectors a\nscalars d\n\nvector e\nvector (a^b)^c+d*a\nrule 1: a b c a, M = 1\nrule 6\nrule 3: a b c b a, M = 1")
    ≡ bytes "refused 1 at line 2, column 9: no name, more than 24 names, or a name twice\nvectors a\n        ^\n"
    ++ bytes "refused 5 at line 5, column 8: a name that is not declared\nvector e\n       ^\n"
    ++ bytes "vector d*a-(b.c)*a+(a.c)*b\n"
    ++ bytes "vector d*a-(b.c)*a+(abc)*a+(a.c)*b-(a.c)*(a^b)+(a.b)*(a^c)-(a.a)*(b^c)\n"
    ++ bytes "refused 4 at line 8, column 6: torn\nrule 6\n     ^\n"
    ++ bytes "refused 6 at step 2: kinds that do not fit\n"
    ++ bytes "\nvectors a b c scalars d\nvector d*a-(b.c)*a+(a.c)*b\nrule 1: a b c a, M = 1\n"
    ++ bytes "vector d*a-(b.c)*a+(abc)*a+(a.c)*b-(a.c)*(a^b)+(a.b)*(a^c)-(a.a)*(b^c)\n"
unfolding computing_words
derivation-example = refl

-- nothing is open at the end
unopened-example : derivation_input (bytes "vectors a\n") ≡ bytes "refused 4 at line 2, column 1: torn\n\n^\n"
unfolding computing_words
unopened-example = refl

-- "14 for a 65th step, tested before anything in that step": a name that is not declared, and no letters at all, come behind it
full-example : (answer_line 70 (bytes "rule 2: x") (underway (bytes "a") (record { kind = 1; terms = [] }) (record { table = 1 ∷ []; count = 64; form = record { kind = 1; terms = [] } }) [])).1
    ≡ bytes "refused 14 at step 65: more than 64 steps\n"
unfolding computing_words
full-example = refl
