-- A byte that had to stand, and letters that were read. Assumes nothing.
use Rattle.std.specs.Prelude.{◌≡◌, IfOk, List, ◌∷◌, ℕ, suc, ◌≤◌, length, take}
use Rattle.std.specs.Prelude as Std
use Rattle.specification.specs.Text.{Placed, placed, ◌>>=◌}
use Rattle.specification.specs.Rules as R
use Rattle.specification.specs.LogTexts.{mark, read_letters_at}
use Rattle.texts.specs.declared.Unread.{Unread}
use Rattle.texts.specs.Readings.{placed_of}
use Rattle.log_texts.specs.declared.naming.LetterStep.{LetterStep}
use Rattle.log_texts.specs.declared.naming.Letters.{Letters}

-- a position that was read, or the refusal
abbrev pub position_of : Std.Result ℕ Unread → Placed ℕ
position_of r = placed_of (λ n. n) r

-- a position in the line, or the refusal at its column
pub record MarkRead (line : List ℕ) (x : Placed ℕ) (r : Std.Result ℕ Unread) : Type 0 where
  pub is : x ≡ position_of r
  pub within : IfOk r (λ n. n ≤ length line)

-- `, M =` and what follows
unfoldable pub behind_letters : (line : List ℕ) (at : ℕ) (rest : ℕ → Placed R.Step) → Placed R.Step
behind_letters line at rest = mark 44 line at >>= λ m. mark 77 line m >>= λ equals. mark 61 line equals >>= rest

-- the position of the formula, or the refusal at its column
pub record FormulaAt (line : List ℕ) (at : ℕ) (r : Std.Result ℕ Unread) : Type 0 where
  pub is : (rest : ℕ → Placed R.Step) → behind_letters line at rest ≡ (position_of r >>= rest)
  pub within : IfOk r (λ n. n ≤ length line)

-- a letter that was read and the position behind it
abbrev pub letter_of : Std.Result LetterStep Unread → Placed (ℕ × ℕ)
letter_of r = placed_of (λ q. (q.letter, q.at)) r

-- one letter of those to be read
pub record LetterRead (names line : List ℕ) (at : ℕ) (r : Std.Result LetterStep Unread) : Type 0 where
  pub is : (count : ℕ) → read_letters_at (suc count) names line at
      ≡ (letter_of r >>= λ p. read_letters_at count names line p.1 >>= λ q. placed (p.0 ∷ q.0, q.1))

-- so many letters and the position behind them, or the refusal at its column
pub record LettersRead (x : Placed (List ℕ × ℕ)) (count : ℕ) (r : Std.Result Letters Unread) : Type 0 where
  pub is : x ≡ placed_of (λ q. (take count q.letters, q.at)) r
  pub six : IfOk r (λ q. length q.letters ≡ 6)
