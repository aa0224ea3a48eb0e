-- The five rules as one table: the rows of a rule, in their order, are the terms of its left side and those of its right side negated. Assumes nothing.
use Rattle.std.specs.Prelude.{◌≡◌, List, [], ◌∷◌, ◌++◌, map, ℕ, zero, suc, ◌+◌, ◌-◌, ◌*◌, ◌/◌, ◌%◌, ◌<◌, ◌≤◌, eqb, ℤ, pos, negsuc, nat_abs, ◌*ℤ◌, length, get_or, take, drop}
use Rattle.specification.specs.Results.{when◌then◌else◌}
use Rattle.specification.specs.Lists.{order, sorted}
use Rattle.specification.specs.Terms.{compare_letters, factors_sign, tidy, times_term}
use Rattle.specification.specs.Terms as S
use Rattle.terms.specs.declared.types.Term.{Term}
use Rattle.theory.specs.Elements.{All}
use Rattle.terms.specs.Numbers.{letters_of}
use Rattle.terms.specs.Abstraction.{term_of, Counted}
use Rattle.rule_table.specs.declared.Put.{Put}

-- a row's octal digits: 1 for plus or 2 for minus, three letters for each of three factors, two letters for the vector part; a letter is its place, from 1, among the rule's letters
unfoldable pub rule_rows : List ℕ
rule_rows =
    -- 1: (abc)d = (d·a)(b∧c) + (d·b)(c∧a) + (d·c)(a∧b)
    9982443552  -- 1_123_000_000_40
    ∷ 21609054227  -- 2_410_000_000_23
    ∷ 21743271961  -- 2_420_000_000_31
    ∷ 21877489674  -- 2_430_000_000_12
    -- 2: (abc)d = (dbc)a + (adc)b + (abd)c
    ∷ 9982443552  -- 1_123_000_000_40
    ∷ 21793603592  -- 2_423_000_000_10
    ∷ 18840813584  -- 2_143_000_000_20
    ∷ 18589155352  -- 2_124_000_000_30
    -- 3: (d·h)(abc) = (d·a)(hbc) + (d·b)(ahc) + (d·c)(abh)
    ∷ 13558710272  -- 1_450_123_000_00
    ∷ 21620162560  -- 2_410_523_000_00
    ∷ 21746778112  -- 2_420_153_000_00
    ∷ 21880274944  -- 2_430_125_000_00
    -- 4: (abc)(d∧h) = (dha)(b∧c) + (dhb)(c∧a) + (dhc)(a∧b)
    ∷ 9982443557  -- 1_123_000_000_45
    ∷ 22162702355  -- 2_451_000_000_23
    ∷ 22179479577  -- 2_452_000_000_31
    ∷ 22196256778  -- 2_453_000_000_12
    -- 5: (abc)(dgh) = [(b∧c)·(d∧g)](a·h) + [(c∧a)·(d∧g)](b·h) + [(a∧b)·(d∧g)](c·h)
    ∷ 9992339456  -- 1_123_456_000_00
    ∷ 19871833088  -- 2_240_350_160_00
    ∷ 11415854080  -- 1_250_340_160_00
    ∷ 20941384704  -- 2_340_150_260_00
    ∷ 12485405696  -- 1_350_140_260_00
    ∷ 18796002304  -- 2_140_250_360_00
    ∷ 10340023296 ∷ []  -- 1_150_240_360_00

-- the letter at a place
unfoldable pub letter : (letters : List ℕ) (place : ℕ) → ℕ
letter ls p = get_or ls (p - 1) 0

-- the letter at a place, or none at 0
unfoldable pub letter_at : (letters : List ℕ) (place : ℕ) → List ℕ
letter_at ls p = when eqb p 0 then [] else letter ls p ∷ []

-- the letters at three places, the last of which may be 0
unfoldable pub factor_letters : (letters : List ℕ) (places : ℕ) → List ℕ
factor_letters ls c = letter ls (c / 64) ∷ letter ls (c / 8 % 8) ∷ letter_at ls (c % 8)

-- the factor of three places, or none at 0
unfoldable pub factor_at : (letters : List ℕ) (places : ℕ) → List (List ℕ)
factor_at ls c = when eqb c 0 then [] else factor_letters ls c ∷ []

-- the vector part of two places, nothing where the first is 0
unfoldable pub part_at : (letters : List ℕ) (places : ℕ) → List ℕ
part_at ls c = when eqb (c / 8) 0 then [] else letter ls (c / 8) ∷ letter_at ls (c % 8)

-- the sign of a row
unfoldable pub row_sign : (row : ℕ) → ℤ
row_sign n = when eqb (n / 8589934592) 1 then pos 1 else negsuc 0

-- a row at letters
unfoldable pub row_term : (letters : List ℕ) (row : ℕ) → S.Term
row_term ls n = record {
  coef = row_sign n;
  factors = factor_at ls (n / 16777216 % 512) ++ factor_at ls (n / 32768 % 512) ++ factor_at ls (n / 64 % 512);
  part = part_at ls (n % 64);
}

-- so many rows from a row on
unfoldable pub row_terms : (letters : List ℕ) (first count : ℕ) → List S.Term
row_terms ls k zero = []
row_terms ls k (suc n) = row_term ls (get_or rule_rows k 0) ∷ row_terms ls (k + 1) n

-- the first row of a rule
unfoldable pub first_row : (rule : ℕ) → ℕ
first_row r = 4 * (r - 1)

-- how many rows a rule has: one term on the left, three or six on the right
unfoldable pub row_count : (rule : ℕ) → ℕ
row_count r = when eqb r 5 then 7 else 4

-- ════ what the functions give

-- the rows of a rule, in their order, in front of eight places
pub record RowsOf (rule : ℕ) (r : List ℕ) : Type 0 where
  pub is : take (row_count rule) r ≡ take (row_count rule) (drop (first_row rule) rule_rows)
  pub places : length r ≡ 8

-- factors put in order, as in a term in the order of forms
unfoldable pub ordered : List (List ℕ) → List (List ℕ)
ordered fs = sorted compare_letters (map (sorted order) fs)

-- at most one more factor put in its place among n that stand for others in order, and a coefficient with its sign
pub record FactorPut (fs : List (List ℕ)) (n : ℕ) (c : ℤ) (before after : List ℕ) (r : Put) : Type 0 where
  pub is : (old : List (List ℕ)) → map letters_of (take n before) ≡ ordered old → map letters_of (take r.count after) ≡ ordered (old ++ fs)
  pub signed : (d : ℤ) (old : List (List ℕ)) → c ≡ d *ℤ factors_sign old → r.coef ≡ d *ℤ factors_sign (old ++ fs)
  pub light : nat_abs r.coef ≤ nat_abs c
  pub small : All (λ (k : ℕ). k < 16843008) (take r.count after)
  pub few : r.count ≤ n + 1
  pub places : length after ≡ 7

-- a term in shape times a row, in the order of forms
pub record TimesRow (m : Term) (letters : List ℕ) (row : ℕ) (r : Term) : Type 0 where
  pub is : term_of r ≡ tidy (times_term (term_of m) (row_term letters row))
  pub counted : Counted r
  pub light : nat_abs r.coef ≤ nat_abs m.coef
