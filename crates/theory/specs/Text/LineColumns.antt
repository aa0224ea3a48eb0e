-- The column of a refusal that is told with a line is in the line. Assumes nothing.
use Rattle.std.specs.Prelude.{◌≡◌, refl, Bool, true, false, not, ◌&&◌, ◌||◌, List, [], ◌∷◌, ◌++◌, ℕ, zero, suc, ◌+◌, ◌≤◌, ◌<◌, length, get_or, T, ltb, leb}
use Rattle.std.proofs.Common.{subst, arith}
use Rattle.std.proofs.Math.Dec.{nleb→lt}
use Rattle.specification.specs.Results.{when◌then◌else◌}
use Rattle.specification.specs.Letters.{scalar, vector}
use Rattle.specification.specs.Terms.{Form}
use Rattle.specification.specs.Words.{bytes}
use Rattle.specification.specs.Printing.{print_form}
use Rattle.specification.specs.Text.{Placed, refused_at, placed, is_letter, place_of, skip, next, text_form}
use Rattle.specification.specs.Lines.{Place, line_of, next_line, to_line, at_end, Lined, refused_in, lined, in_line, ◌>>>◌, is_word_at, Named, read_names, is_declaration, declared, read_declared, some_names}
use Rattle.specification.specs.Lines.{read_header}
use Rattle.specification.specs.Commands.{reduce_lines, reduce_input}
use Rattle.theory.specs.Text.Bounds.{column_within}

-- a refusal's column is in the line it is told with
unfoldable pub Within : {A : Type 0} → Lined A → Type 0
Within (refused_in n k c t) = c ≤ length t
Within (lined a) = Unit {0}

-- and so it is of a line
unfoldable pub ColumnWithin : {A : Type 0} → (line : List ℕ) → Placed A → Type 0
ColumnWithin line (refused_at n c) = c ≤ length line
ColumnWithin line (placed a) = Unit {0}

lined-within : {A : Type 0} (a : A) → Within (lined a)
unfolding Within
lined-within a = tt

-- one after the other
pub then-within : {A B : Type 0} (x : Lined A) (f : A → Lined B) → Within x → ((a : A) → Within (f a)) → Within (x >>> f)
unfolding Within
then-within (refused_in n k c t) f h g = h
then-within (lined a) f h g = g a

-- what a line gives
pub line-within : {A : Type 0} (p : Place) (x : Placed A) → ColumnWithin (line_of p) x → Within (in_line p x)
unfolding Within ColumnWithin in_line
line-within p (refused_at n c) h = h
line-within p (placed a) h = tt

-- names
pub names-within : (most kind : ℕ) (line : List ℕ) (at : ℕ) (n : Named) → ColumnWithin line (read_names most kind line at n)
unfolding read_names ColumnWithin
names-within zero kind line at n = tt
names-within (suc most) kind line at n =
    go (leb (length line) at) (nleb→lt (length line) at) (is_word_at (bytes "vectors") line at) (is_word_at (bytes "scalars") line at)
    (is_letter (get_or line at 0) && is_word_at (get_or line at 0 ∷ []) line at) (ltb (place_of n.0 (get_or line at 0)) (length n.0) || leb 24 (length n.0))
    (names-within most vector line (skip line (at + 7)) n) (names-within most scalar line (skip line (at + 7)) n)
    (names-within most kind line (next line at) (n.0 ++ get_or line at 0 ∷ [], n.1 ++ kind ∷ []))
  where
    go : (end : Bool) → (T (not end) → at < length line) → (w v l t : Bool)
        → ColumnWithin line (read_names most vector line (skip line (at + 7)) n) → ColumnWithin line (read_names most scalar line (skip line (at + 7)) n)
        → ColumnWithin line (read_names most kind line (next line at) (n.0 ++ get_or line at 0 ∷ [], n.1 ++ kind ∷ []))
        → ColumnWithin line (when end then placed n else
        when w then read_names most vector line (skip line (at + 7)) n else
        when v then read_names most scalar line (skip line (at + 7)) n else
        when l then (when t then refused_at 1 at else read_names most kind line (next line at) (n.0 ++ get_or line at 0 ∷ [], n.1 ++ kind ∷ [])) else refused_at 4 at)
    go true f w v l t a b c = tt
    go false f true v l t a b c = a
    go false f false true l t a b c = b
    go false f false false true true a b c = omega (arith, f tt)
    go false f false false true false a b c = c
    go false f false false false t a b c = omega (arith, f tt)

declared-within : (most : ℕ) (p : Place) (n : Named) → Within (read_declared most p n)
unfolding read_declared declared
declared-within zero p n = lined-within (n, p)
declared-within (suc most) p n = go (is_declaration (line_of p)) (λ m. declared-within most (to_line (next_line p)) m)
  where
    go : (t : Bool) → ((m : Named) → Within (read_declared most (to_line (next_line p)) m))
        → Within (when t then in_line p (declared (line_of p) n) >>> (λ m. read_declared most (to_line (next_line p)) m) else lined (n, p))
    go true again =
        then-within (in_line p (declared (line_of p) n)) (λ m. read_declared most (to_line (next_line p)) m)
        (line-within p (declared (line_of p) n) (names-within (length (line_of p)) vector (line_of p) (skip (line_of p) 0) n)) again
    go false again = lined-within (n, p)

some_within : (r : Named × Place) → Within (some_names r)
unfolding some_names Within
some_within r = go (leb 1 (length r.0.0))
  where
    go : (b : Bool) → Within (when b then lined r else refused_in 1 r.1.0 0 (line_of r.1))
    go true = tt
    go false = omega arith

-- the names of a text
pub header-within : (s : List ℕ) → Within (read_header s)
unfolding read_header
header-within s = then-within (read_declared (length s) (to_line (1, s)) ([], [])) some_names (declared-within (length s) (to_line (1, s)) ([], [])) some_within

-- a formula
pub formula_within : (names table line : List ℕ) → ColumnWithin line (text_form names table line)
unfolding ColumnWithin
formula_within names table line = go (text_form names table line) refl
  where
    go : (x : Placed Form) → text_form names table line ≡ x → ColumnWithin line x
    go (refused_at n c) e = column_within line names table n c e
    go (placed f) e = tt

lines-within : (most : ℕ) (names table : List ℕ) (p : Place) (before : List ℕ) → Within (reduce_lines most names table p before)
unfolding reduce_lines
lines-within zero names table p before = lined-within before
lines-within (suc most) names table p before = go (at_end p) (λ f. lines-within most names table (to_line (next_line p)) (before ++ print_form names f.terms ++ 10 ∷ []))
  where
    go : (t : Bool) → ((f : Form) → Within (reduce_lines most names table (to_line (next_line p)) (before ++ print_form names f.terms ++ 10 ∷ [])))
        → Within (when t then lined before else
        (in_line p (text_form names table (line_of p)) >>> (λ f. reduce_lines most names table (to_line (next_line p)) (before ++ print_form names f.terms ++ 10 ∷ []))))
    go true again = lined-within before
    go false again =
        then-within (in_line p (text_form names table (line_of p))) (λ f. reduce_lines most names table (to_line (next_line p)) (before ++ print_form names f.terms ++ 10 ∷ []))
        (line-within p (text_form names table (line_of p)) (formula_within names table (line_of p))) again

-- the forms of a text
pub reduce-within : (s : List ℕ) → Within (reduce_input s)
unfolding reduce_input
reduce-within s =
    then-within (read_header s) (λ h. reduce_lines (length s) h.0.0 h.0.1 h.1 []) (header-within s) (λ h. lines-within (length s) h.0.0 h.0.1 h.1 [])

-- a refusal that is told
pub told-within : {A : Type 0} (x : Lined A) (n k c : ℕ) (t : List ℕ) → Within x → x ≡ refused_in n k c t → c ≤ length t
unfolding Within
told-within x n k c t h e = subst Within e h
