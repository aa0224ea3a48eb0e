-- Marks of terms, what the field calls hashes: numbers that depend on no order of letters and factors. A term whose mark no other has is like none of them.
-- Assumes nothing.
use Rattle.std.specs.Prelude.{◌≡◌, ◌⊎◌, List, [], ◌∷◌, ℕ, ◌+◌, ◌*◌, ◌/◌, ◌%◌, ◌≤◌, eqb, ℤ, nat_abs, length, get_or}
use Rattle.specification.specs.Results.{when◌then◌else◌}
use Rattle.specification.specs.Terms as S
use Rattle.theory.specs.Elements.{All}
use Rattle.rule_table.specs.Table.{letter}

-- the mark of a letter; those of the 24 letters are not 0 and differ
unfoldable pub letter_mark : ℕ → ℕ
letter_mark x = (x * 42533 + 44591) % 65536 % 251

-- letters in any order: a product
unfoldable pub letters_mark : List ℕ → ℕ
letters_mark [] = 1
letters_mark (x ∷ l) = letter_mark x * letters_mark l

-- factors in any order: a sum
unfoldable pub factors_mark : List (List ℕ) → ℕ
factors_mark [] = 0
factors_mark (f ∷ fs) = letters_mark f + factors_mark fs

-- the mark of a term
unfoldable pub mark_of : S.Term → ℕ
mark_of t = (factors_mark t.factors + 3 * letters_mark t.part) % 509

-- the mark of a coefficient, by its size alone: from 1 to 253
unfoldable pub size_mark : ℤ → ℕ
size_mark c = nat_abs c % 253 + 1

-- what stands at the mark of a term with the coefficient: the mark of its size, or 255 where terms of several sizes have one mark
unfoldable pub Shows : (stands : ℕ) (c : ℤ) → Type 0
Shows w c = (w ≡ size_mark c) ⊎ (w ≡ 255)

-- at the mark of each term stands its size
unfoldable pub Covering : (marks : List ℕ) (ts : List S.Term) → Type 0
Covering marks ts = All (λ (u : S.Term). Shows (get_or marks (mark_of u) 0) u.coef) ts

-- the coefficient has the size; 0 stands for any
unfoldable pub Sized : (size : ℕ) (c : ℤ) → Type 0
Sized v c = (v ≡ 0) ⊎ (v ≡ size_mark c)

-- what stands at a mark after one more term of a size
pub record Joint (before size after : ℕ) : Type 0 where
  pub own : (after ≡ size) ⊎ (after ≡ 255)
  pub others : (before ≡ 0) ⊎ ((after ≡ before) ⊎ (after ≡ 255))

-- ════ the rows of a rule by the marks of its letters

-- the marks of a rule's letters at their places, from 1; 1 at 0, where there is none
pub record LettersMarked (letters marks : List ℕ) : Type 0 where
  pub none : get_or marks 0 0 ≡ 1
  pub at : (p : ℕ) → 1 ≤ p → p ≤ 6 → get_or marks p 0 ≡ letter_mark (letter letters p)
  pub small : (p : ℕ) → get_or marks p 0 ≤ 250
  pub places : length marks ≡ 8

-- the mark of the factor of three places, 0 where there is none
unfoldable pub places_mark : (marks : List ℕ) (places : ℕ) → ℕ
places_mark l c = when eqb c 0 then 0 else get_or l (c / 64) 0 * get_or l (c / 8 % 8) 0 * get_or l (c % 8) 0

-- the mark of a row's factors
unfoldable pub row_mark : (marks : List ℕ) (row : ℕ) → ℕ
row_mark l n = places_mark l (n / 16777216 % 512) + places_mark l (n / 32768 % 512) + places_mark l (n / 64 % 512)

-- the mark of a row's vector part
unfoldable pub row_part_mark : (marks : List ℕ) (row : ℕ) → ℕ
row_part_mark l n = get_or l (n % 64 / 8) 0 * get_or l (n % 64 % 8) 0

-- the mark of a row times a term, by the marks of the term's factors and of its vector part
unfoldable pub product_mark : (factors part : ℕ) (marks : List ℕ) (row : ℕ) → ℕ
product_mark a b l n = (a + row_mark l n + 3 * (b * row_part_mark l n)) % 509

-- the letters at three places surely differ, where there are three
pub record Differing (marks : List ℕ) (places : ℕ) : Type 0 where
  pub first : (places % 8 ≡ 0 → ⊥) → get_or marks (places / 64) 0 ≡ get_or marks (places / 8 % 8) 0 → ⊥
  pub second : (places % 8 ≡ 0 → ⊥) → get_or marks (places / 64) 0 ≡ get_or marks (places % 8) 0 → ⊥
  pub third : (places % 8 ≡ 0 → ⊥) → get_or marks (places / 8 % 8) 0 ≡ get_or marks (places % 8) 0 → ⊥

-- a row surely does not vanish
pub record RowStands (marks : List ℕ) (row : ℕ) : Type 0 where
  pub first : Differing marks (row / 16777216 % 512)
  pub second : Differing marks (row / 32768 % 512)
  pub third : Differing marks (row / 64 % 512)
  pub part : (row % 64 % 8 ≡ 0 → ⊥) → get_or marks (row % 64 / 8) 0 ≡ get_or marks (row % 64 % 8) 0 → ⊥

-- a row of whose mark no earlier row is surely takes no term away: where its mark stands, no term has the size of M's coefficient
pub record SurelyKept (marks : List ℕ) (size mark : ℕ) : Type 0 where
  pub unlike : (c : ℤ) → Sized size c → Shows (get_or marks mark 0) c → ⊥

-- such a row surely adds a term: no mark stands where its own would
pub record SurelyNew (marks : List ℕ) (mark : ℕ) (letters : List ℕ) (row : ℕ) : Type 0 where
  pub unmarked : get_or marks mark 0 ≡ 0
  pub stands : RowStands letters row

-- the score of such a row: 2 where it surely adds a term, 1 where it surely takes none away, 0 where it may take one away
pub record Scored (marks : List ℕ) (size mark : ℕ) (letters : List ℕ) (row r : ℕ) : Type 0 where
  pub new : r ≡ 2 → SurelyNew marks mark letters row
  pub kept : r ≡ 1 → SurelyKept marks size mark
  pub few : r ≤ 2
