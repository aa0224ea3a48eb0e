-- Columns of what is read from a position of a line on. Assumes nothing.
use Rattle.std.specs.Prelude.{◌≡◌, refl, Bool, List, ℕ, ◌+◌, ◌≤◌, T, eqb, length, drop}
use Rattle.std.proofs.Common.{sym, arith, eqb→eq}
use Rattle.std.proofs.Math.Bool.{true, false}
use Rattle.std.proofs.Math.ListN.{get_or, length-drop}
use Rattle.specification.specs.Results.{when◌then◌else◌}
use Rattle.specification.specs.Text.{Placed, refused_at, placed, ◌>>=◌, skip, next, text_form}
use Rattle.specification.specs.Lines.{Place, line_of, at_end, refused_in, lined, is_word_at}
use Rattle.specification.specs.LogTexts.{from, mark, nothing_left}
use Rattle.theory.specs.Text.Bounds.{there, skip_within, next_within}
use Rattle.theory.specs.Text.Words.{word-within}
use Rattle.theory.specs.Text.LineColumns.{Within, ColumnWithin, formula_within}

-- nothing is said of what was read
abbrev pub Any : {A : Type 0} → A → Type 0
Any a = Unit {0}

module _ (line : List ℕ) where
  -- a refusal's column is in the line, or a fact holds of what was read
  unfoldable pub Reads : {A : Type 0} → (A → Type 0) → Placed A → Type 0
  Reads P (refused_at n c) = c ≤ length line
  Reads P (placed a) = P a

  -- one after the other
  pub reads_then : {A B : Type 0} (P : A → Type 0) (Q : B → Type 0) (x : Placed A) (f : A → Placed B) → Reads P x → ((a : A) → P a → Reads Q (f a)) → Reads Q (x >>= f)
  unfolding Reads
  reads_then P Q (refused_at n c) f h g = h
  reads_then P Q (placed a) f h g = g a h

  -- a refusal at a column of the line
  pub refused_reads : {A : Type 0} (P : A → Type 0) (n c : ℕ) → c ≤ length line → Reads P (refused_at n c)
  unfolding Reads
  refused_reads P n c h = h

  -- what was read
  pub placed-reads : {A : Type 0} (P : A → Type 0) (a : A) → P a → Reads P (placed a)
  unfolding Reads
  placed-reads P a h = h

  pub reads-within : {A : Type 0} (P : A → Type 0) (x : Placed A) → Reads P x → ColumnWithin line x
  unfolding Reads ColumnWithin
  reads-within P (refused_at n c) h = h
  reads-within P (placed a) h = tt

  -- a part of the line
  pub part-reads : {A : Type 0} (at : ℕ) (x : Placed A) → at ≤ length line → ColumnWithin (drop at line) x → Reads Any (from at x)
  unfolding Reads ColumnWithin from
  part-reads at (refused_at n c) l h = omega (arith, length-drop at line)
  part-reads at (placed a) l h = tt

  -- the formula behind a position
  pub formula_reads : (names table : List ℕ) (at : ℕ) → at ≤ length line → Reads Any (from at (text_form names table (drop at line)))
  formula_reads names table at l = part-reads at (text_form names table (drop at line)) l (formula_within names table (drop at line))

  -- behind a word that stands
  pub behind-word : (word : List ℕ) (at : ℕ) → 1 ≤ length word → is_word_at word line at ≡ true → skip line (at + length word) ≤ length line
  behind-word word at h e = skip_within line (at + length word) (word-within word line at h e)

  -- a position in the line, or behind it
  abbrev pub At : ℕ → Type 0
  At at = at ≤ length line

  -- a byte that has to stand
  pub mark-reads : (b at : ℕ) → 1 ≤ b → At at → Reads At (mark b line at)
  unfolding mark
  mark-reads b at h l = go (eqb (get_or line at 0) b) (eqb→eq (get_or line at 0) b)
    where
      go : (t : Bool) → (T t → get_or line at 0 ≡ b) → Reads At (when t then placed (next line at) else refused_at 4 at)
      go true f = placed-reads At (next line at) (next_within line at (there line at (omega (arith, f tt))))
      go false f = refused_reads At 4 at l

  -- what was read, and the position behind it
  abbrev pub Behind : {A : Type 0} → A × ℕ → Type 0
  Behind r = At r.1

-- nothing more
pub end-within : {A : Type 0} (p : Place) (l : A) → Within (nothing_left p l)
unfolding nothing_left Within
end-within p l = go (at_end p)
  where
    go : (b : Bool) → Within (when b then lined l else refused_in 4 p.0 0 (line_of p))
    go true = tt
    go false = omega arith
