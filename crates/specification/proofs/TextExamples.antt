-- Worked examples of formulas as text, as rows of one table with one computed test. Assumes nothing.
use mathlib.Core.Bool.{Bool, true, false, ◌&&◌}
use mathlib.Core.List.{List, [], ◌∷◌}
use Prim.Native.Nat.{ℕ}
use lib.Dec.{T, eqb}
use Rattle.specification.specs.Lists.{all}
use Rattle.specification.specs.Terms.{Form}
use Rattle.specification.specs.Printing.{print_form}
use Rattle.specification.specs.Text.{Placed, refused_at, placed, is_letter, distinct, good_names, place_of, plain, at_column, is_refused, blamed, worked}
use Rattle.specification.specs.Text.{past_blanks, skip, next, is_digit, read_digits, is_triple, is_factor, is_sign, signed, read_name, read_number, read_triple, closed}
use Rattle.specification.specs.Text.{read_bracket, read_atom, read_lead, read_second, read_pair, read_wedge, read_dot, factor_at, more_factors, read_product, more_terms}
use Rattle.specification.specs.Text.{turned_at, read_first, read_sum, read_nested, whole_text, read_text, text_form}
use Rattle.specification.proofs.Computing.{computing}

-- the definitions of texts compute
unfoldable pub computing_text : Unit {0}
unfolding is_letter distinct good_names place_of plain at_column is_refused blamed worked past_blanks skip next is_digit read_digits is_triple is_factor is_sign signed read_name
    read_number read_triple closed read_bracket read_atom read_lead read_second read_pair read_wedge read_dot factor_at more_factors read_product more_terms turned_at read_first read_sum
    read_nested whole_text read_text text_form
computing_text = tt

-- ════ the table

data Example : Type 0 where
  -- names and table, a text, and its form printed with the names
  reads : (names table text printed : List ℕ) → Example
  -- names and table, a text, its refusal and the column
  stops : (names table text : List ℕ) (number column : ℕ) → Example

examples : List Example
examples =
    -- names `abc`: `a^(b^c)` is `(a.c)*b-(a.b)*c`
    reads (97 ∷ 98 ∷ 99 ∷ []) (1 ∷ 1 ∷ 1 ∷ [])
    (97 ∷ 94 ∷ 40 ∷ 98 ∷ 94 ∷ 99 ∷ 41 ∷ []) (40 ∷ 97 ∷ 46 ∷ 99 ∷ 41 ∷ 42 ∷ 98 ∷ 45 ∷ 40 ∷ 97 ∷ 46 ∷ 98 ∷ 41 ∷ 42 ∷ 99 ∷ [])
    -- names `wru`: ` w ^ ( w^r ) ` is `(w.r)*w-(w.w)*r`
    ∷ reads (119 ∷ 114 ∷ 117 ∷ []) (1 ∷ 1 ∷ 1 ∷ [])
    (32 ∷ 119 ∷ 32 ∷ 94 ∷ 32 ∷ 40 ∷ 32 ∷ 119 ∷ 94 ∷ 114 ∷ 32 ∷ 41 ∷ 32 ∷ []) (40 ∷ 119 ∷ 46 ∷ 114 ∷ 41 ∷ 42 ∷ 119 ∷ 45 ∷ 40 ∷ 119 ∷ 46 ∷ 119 ∷ 41 ∷ 42 ∷
    114 ∷ [])
    -- names `abcd`: `-2(a.b)*(c^d)` is `-2(a.b)*(c^d)`
    ∷ reads (97 ∷ 98 ∷ 99 ∷ 100 ∷ []) (1 ∷ 1 ∷ 1 ∷ 1 ∷ [])
    (45 ∷ 50 ∷ 40 ∷ 97 ∷ 46 ∷ 98 ∷ 41 ∷ 42 ∷ 40 ∷ 99 ∷ 94 ∷ 100 ∷ 41 ∷ []) (45 ∷ 50 ∷ 40 ∷ 97 ∷ 46 ∷ 98 ∷ 41 ∷ 42 ∷ 40 ∷ 99 ∷ 94 ∷ 100 ∷ 41 ∷ [])
    -- names `aef`: `2ef*a` is `2ef*a`
    ∷ reads (97 ∷ 101 ∷ 102 ∷ []) (1 ∷ 0 ∷ 0 ∷ []) (50 ∷ 101 ∷ 102 ∷ 42 ∷ 97 ∷ []) (50 ∷ 101 ∷ 102 ∷ 42 ∷ 97 ∷ [])
    -- names `abcd`: `(abc)(abd)` is `(abc)(abd)`
    ∷ reads (97 ∷ 98 ∷ 99 ∷ 100 ∷ []) (1 ∷ 1 ∷ 1 ∷ 1 ∷ [])
    (40 ∷ 97 ∷ 98 ∷ 99 ∷ 41 ∷ 40 ∷ 97 ∷ 98 ∷ 100 ∷ 41 ∷ []) (40 ∷ 97 ∷ 98 ∷ 99 ∷ 41 ∷ 40 ∷ 97 ∷ 98 ∷ 100 ∷ 41 ∷ [])
    -- names `abcd`: `(abc)(abd)-(a b d)(a b c)` is `0`
    ∷ reads (97 ∷ 98 ∷ 99 ∷ 100 ∷ []) (1 ∷ 1 ∷ 1 ∷ 1 ∷ [])
    (40 ∷ 97 ∷ 98 ∷ 99 ∷ 41 ∷ 40 ∷ 97 ∷ 98 ∷ 100 ∷ 41 ∷ 45 ∷ 40 ∷ 97 ∷ 32 ∷ 98 ∷ 32 ∷ 100 ∷ 41 ∷ 40 ∷ 97 ∷ 32 ∷ 98 ∷ 32 ∷ 99 ∷ 41 ∷ []) (48 ∷ [])
    -- names `ab`: `a+b-a-b+a` is `a`
    ∷ reads (97 ∷ 98 ∷ []) (1 ∷ 1 ∷ []) (97 ∷ 43 ∷ 98 ∷ 45 ∷ 97 ∷ 45 ∷ 98 ∷ 43 ∷ 97 ∷ []) (97 ∷ [])
    -- names `ab`: `+3*a-(-b)` is `3*a+b`
    ∷ reads (97 ∷ 98 ∷ []) (1 ∷ 1 ∷ []) (43 ∷ 51 ∷ 42 ∷ 97 ∷ 45 ∷ 40 ∷ 45 ∷ 98 ∷ 41 ∷ []) (51 ∷ 42 ∷ 97 ∷ 43 ∷ 98 ∷ [])
    -- names `mn`: `(mn)` is `mn`
    ∷ reads (109 ∷ 110 ∷ []) (0 ∷ 0 ∷ []) (40 ∷ 109 ∷ 110 ∷ 41 ∷ []) (109 ∷ 110 ∷ [])
    -- names `ab`: `a.b` is `(a.b)`
    ∷ reads (97 ∷ 98 ∷ []) (1 ∷ 1 ∷ []) (97 ∷ 46 ∷ 98 ∷ []) (40 ∷ 97 ∷ 46 ∷ 98 ∷ 41 ∷ [])
    -- names `abc`: `a^b.c` is `(abc)`
    ∷ reads (97 ∷ 98 ∷ 99 ∷ []) (1 ∷ 1 ∷ 1 ∷ []) (97 ∷ 94 ∷ 98 ∷ 46 ∷ 99 ∷ []) (40 ∷ 97 ∷ 98 ∷ 99 ∷ 41 ∷ [])
    -- names `a`: `0*a` is `0`
    ∷ reads (97 ∷ []) (1 ∷ []) (48 ∷ 42 ∷ 97 ∷ []) (48 ∷ [])
    -- a number stands only first in a product or behind `*`: `1 000` is 4 at column 2
    ∷ stops (97 ∷ []) (1 ∷ []) (49 ∷ 32 ∷ 48 ∷ 48 ∷ 48 ∷ []) 4 2
    -- `2.5` is 4 at column 2
    ∷ stops (97 ∷ []) (1 ∷ []) (50 ∷ 46 ∷ 53 ∷ []) 4 2
    -- `2^a` is read, and 6 at column 1
    ∷ stops (97 ∷ []) (1 ∷ []) (50 ∷ 94 ∷ 97 ∷ []) 6 1
    -- `a^b^c` is torn: `a^b^c` is 4 at column 3
    ∷ stops (97 ∷ 98 ∷ 99 ∷ []) (1 ∷ 1 ∷ 1 ∷ []) (97 ∷ 94 ∷ 98 ∷ 94 ∷ 99 ∷ []) 4 3
    -- so is `a.b.c`: `a.b.c` is 4 at column 3
    ∷ stops (97 ∷ 98 ∷ 99 ∷ []) (1 ∷ 1 ∷ 1 ∷ []) (97 ∷ 46 ∷ 98 ∷ 46 ∷ 99 ∷ []) 4 3
    -- an undeclared name: `a^d` is 5 at column 2
    ∷ stops (97 ∷ 98 ∷ 99 ∷ []) (1 ∷ 1 ∷ 1 ∷ []) (97 ∷ 94 ∷ 100 ∷ []) 5 2
    -- in a triple: `(abd)` is 5 at column 3
    ∷ stops (97 ∷ 98 ∷ 99 ∷ []) (1 ∷ 1 ∷ 1 ∷ []) (40 ∷ 97 ∷ 98 ∷ 100 ∷ 41 ∷ []) 5 3
    -- a parenthesis that is not closed: `(a^b` is 4 at column 4
    ∷ stops (97 ∷ 98 ∷ 99 ∷ []) (1 ∷ 1 ∷ 1 ∷ []) (40 ∷ 97 ∷ 94 ∷ 98 ∷ []) 4 4
    -- one that was not opened: `a^b) + c` is 4 at column 3
    ∷ stops (97 ∷ 98 ∷ 99 ∷ []) (1 ∷ 1 ∷ 1 ∷ []) (97 ∷ 94 ∷ 98 ∷ 41 ∷ 32 ∷ 43 ∷ 32 ∷ 99 ∷ []) 4 3
    -- an operand is missing: `a+ ` is 4 at column 3
    ∷ stops (97 ∷ 98 ∷ 99 ∷ []) (1 ∷ 1 ∷ 1 ∷ []) (97 ∷ 43 ∷ 32 ∷ []) 4 3
    -- a sign is no operand: `a^ +b` is 4 at column 3
    ∷ stops (97 ∷ 98 ∷ 99 ∷ []) (1 ∷ 1 ∷ 1 ∷ []) (97 ∷ 94 ∷ 32 ∷ 43 ∷ 98 ∷ []) 4 3
    -- nothing: `` is 4 at column 0
    ∷ stops (97 ∷ 98 ∷ 99 ∷ []) (1 ∷ 1 ∷ 1 ∷ []) [] 4 0
    -- 16 deep is taken: `((((((((((((((((a))))))))))))))))(` is 4 at column 34
    ∷ stops (97 ∷ 98 ∷ 99 ∷ []) (1 ∷ 1 ∷ 1 ∷ [])
    (40 ∷ 40 ∷ 40 ∷ 40 ∷ 40 ∷ 40 ∷ 40 ∷ 40 ∷ 40 ∷ 40 ∷ 40 ∷ 40 ∷ 40 ∷ 40 ∷ 40 ∷ 40 ∷ 97 ∷ 41 ∷ 41 ∷ 41 ∷ 41 ∷ 41 ∷ 41 ∷ 41 ∷ 41 ∷ 41 ∷ 41 ∷ 41 ∷ 41 ∷
    41 ∷ 41 ∷ 41 ∷ 41 ∷ 40 ∷ []) 4 34
    -- 17 deep is not: `(((((((((((((((((a)))))))))))))))))` is 3 at column 16
    ∷ stops (97 ∷ 98 ∷ 99 ∷ []) (1 ∷ 1 ∷ 1 ∷ [])
    (40 ∷ 40 ∷ 40 ∷ 40 ∷ 40 ∷ 40 ∷ 40 ∷ 40 ∷ 40 ∷ 40 ∷ 40 ∷ 40 ∷ 40 ∷ 40 ∷ 40 ∷ 40 ∷ 40 ∷ 97 ∷ 41 ∷ 41 ∷ 41 ∷ 41 ∷ 41 ∷ 41 ∷ 41 ∷ 41 ∷ 41 ∷ 41 ∷ 41 ∷
    41 ∷ 41 ∷ 41 ∷ 41 ∷ 41 ∷ 41 ∷ []) 3 16
    -- kinds that differ: `a+a+m` is 6 at column 3
    ∷ stops (97 ∷ 109 ∷ []) (1 ∷ 0 ∷ []) (97 ∷ 43 ∷ 97 ∷ 43 ∷ 109 ∷ []) 6 3
    -- a wedge with a scalar: `a^m` is 6 at column 1
    ∷ stops (97 ∷ 109 ∷ []) (1 ∷ 0 ∷ []) (97 ∷ 94 ∷ 109 ∷ []) 6 1
    -- a dot of scalars: `(m.m)*a` is 6 at column 2
    ∷ stops (97 ∷ 109 ∷ []) (1 ∷ 0 ∷ []) (40 ∷ 109 ∷ 46 ∷ 109 ∷ 41 ∷ 42 ∷ 97 ∷ []) 6 2
    -- the operator inside: `m*(a^m)*a` is 6 at column 4
    ∷ stops (97 ∷ 109 ∷ []) (1 ∷ 0 ∷ []) (109 ∷ 42 ∷ 40 ∷ 97 ∷ 94 ∷ 109 ∷ 41 ∷ 42 ∷ 97 ∷ []) 6 4
    -- side by side: where the factor stands: `m m m` is 8 at column 4
    ∷ stops (97 ∷ 109 ∷ []) (1 ∷ 0 ∷ []) (109 ∷ 32 ∷ 109 ∷ 32 ∷ 109 ∷ []) 8 4
    -- a number beyond: `m+2147483648` is 9 at column 2
    ∷ stops (109 ∷ []) (0 ∷ []) (109 ∷ 43 ∷ 50 ∷ 49 ∷ 52 ∷ 55 ∷ 52 ∷ 56 ∷ 51 ∷ 54 ∷ 52 ∷ 56 ∷ []) 9 2
    -- a sum beyond: `2147483647+1` is 9 at column 10
    ∷ stops (109 ∷ []) (0 ∷ []) (50 ∷ 49 ∷ 52 ∷ 55 ∷ 52 ∷ 56 ∷ 51 ∷ 54 ∷ 52 ∷ 55 ∷ 43 ∷ 49 ∷ []) 9 10
    ∷ []

-- ════ the test

same : List ℕ → List ℕ → Bool
same [] [] = true
same [] (y ∷ ys) = false
same (x ∷ xs) [] = false
same (x ∷ xs) (y ∷ ys) = eqb x y && same xs ys

prints_as : (names text : List ℕ) → Placed Form → Bool
prints_as names text (refused_at n c) = false
prints_as names text (placed f) = same (print_form names f.terms) text

refused_as : (number column : ℕ) → Placed Form → Bool
refused_as number column (refused_at n c) = eqb n number && eqb c column
refused_as number column (placed f) = false

-- the example holds
example_holds : Example → Bool
example_holds (reads names table text printed) = good_names names table && prints_as names printed (text_form names table text)
example_holds (stops names table text number column) = refused_as number column (text_form names table text)

texts-hold : T (all example_holds examples)
unfolding examples example_holds same prints_as refused_as computing computing_text
texts-hold = tt
