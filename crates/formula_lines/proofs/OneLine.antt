-- One line behind the names: what is right to be told of it. Assumes nothing.
use mathlib.Core.Path.{◌≡◌, refl, sym, ◌∙◌, ap, subst}
use mathlib.Core.List.{List}
use Prim.Native.Nat.{ℕ, ◌≤◌, ◌<◌}
use native.Mathlib.Omega.{arith}
use borrow.Author.Tests.{eq-eqb, ne_eqb}
use lib.ListN.{length, take, drop, length-drop}
use Rattle.std.specs.Prelude.{Ok, Err}
use Rattle.specification.specs.Text.{Placed, refused_at, placed}
use Rattle.specification.specs.Lines as L
use Rattle.specification.specs.Lines.{line_of, next_line, to_line, at_end, Lined, refused_in, lined, in_line, ◌>>>◌, read_header}
use Rattle.specification.specs.LogTexts.{nothing_left}
use Rattle.specification.specs.Commands.{refusal_text, read_one_line, Answered}
use Rattle.theory.specs.Text.GoodNames.{header_good}
use Rattle.theory.specs.Text.LineColumns.{ColumnWithin, header-within, told-within}
use Rattle.refusal.specs.Numbers.{number_of}
use Rattle.lines.specs.declared.places.Place.{Place}
use Rattle.lines.specs.Places.{place_of, Reached}
use Rattle.lines.specs.declared.places.UnreadLine.{UnreadLine}
use Rattle.declarations.specs.declared.Header.{Header}
use Rattle.declarations.specs.Names.{HeaderRead}
use Rattle.formula_lines.specs.Tables.{GoodTable}

-- a column of a refusal is in its line
pub column_of : {A : Type 0} (line : List ℕ) (x : Placed A) (n c : ℕ) → ColumnWithin line x → x ≡ refused_at n c → c ≤ length line
unfolding ColumnWithin
column_of line x n c h e = subst (ColumnWithin line) e h

-- ════ the names

-- the names are refused
module _ (s : List ℕ) (e : UnreadLine) (names table : List ℕ) (r : HeaderRead s (Err e) names table) where
  -- at a column of their line
  pub header-column : e.column ≤ length (line_of (place_of s e.place))
  header-column = told-within (read_header s) (number_of e.why) e.place.number e.column (line_of (place_of s e.place)) (header-within s) r.is

  -- and that is the answer
  pub names_refused : {A : Type 0} (read : (names table line : List ℕ) → Placed A) (right : (names table : List ℕ) → A → (text : List ℕ) → Type 0) (n : ℕ) → n ≡ number_of e.why
      → Answered (read_one_line read s) right (refusal_text n e.place.number e.column (line_of (place_of s e.place)))
  unfolding read_one_line Answered
  names_refused {A} read right n q =
      subst (λ (x : Lined (L.Named × A)). Answered x right (refusal_text n e.place.number e.column (line_of (place_of s e.place))))
      (sym (ap (λ (x : Lined (L.Named × L.Place)). x >>> λ k. in_line k.1 (read k.0.0 k.0.1 (line_of k.1)) >>> λ a. nothing_left (to_line (next_line k.1)) (k.0, a)) r.is))
      (ap (λ (m : ℕ). refusal_text m e.place.number e.column (line_of (place_of s e.place))) q)

-- they are read
module _ (s : List ℕ) (h : Header) (names table : List ℕ) (r : HeaderRead s (Ok h) names table) where
  -- they are good
  pub header-table : GoodTable (take h.count names) (take h.count table)
  header-table =
      let g = header_good s (take h.count names) (take h.count table) (place_of s h.place) r.is in
      record { table_good = g.table_good; names_good = g.names_good }

  -- ════ the line

  module _ {A : Type 0} (read : (names table line : List ℕ) → Placed A) (right : (names table : List ℕ) → A → (text : List ℕ) → Type 0) where
    -- what follows the names
    abbrev behind_names : L.Named × L.Place → Lined (L.Named × A)
    behind_names k = in_line k.1 (read k.0.0 k.0.1 (line_of k.1)) >>> λ a. nothing_left (to_line (next_line k.1)) (k.0, a)

    -- what is right by what was read
    by-reading : (x : Lined (L.Named × A)) (text : List ℕ) → read_one_line read s ≡ x → Answered x right text → Answered (read_one_line read s) right text
    by-reading x text e w = subst (λ (x : Lined (L.Named × A)). Answered x right text) (sym e) w

    abbrev line : List ℕ
    line = line_of (place_of s h.place)

    abbrev named : List ℕ
    named = take h.count names

    abbrev kinds : List ℕ
    kinds = take h.count table

    abbrev behind_line : A → Lined (L.Named × A)
    behind_line a = nothing_left (to_line (next_line (place_of s h.place))) ((named, kinds), a)

    by-line : read_one_line read s ≡ (in_line (place_of s h.place) (read named kinds line) >>> behind_line)
    unfolding read_one_line
    by-line = ap (λ (x : Lined (L.Named × L.Place)). x >>> behind_names) r.is

    -- the line is refused
    pub line_refused : (n c : ℕ) → read named kinds line ≡ refused_at n c → Answered (read_one_line read s) right (refusal_text n h.place.number c line)
    unfolding in_line Answered
    line_refused n c z =
        by-reading (refused_in n h.place.number c line) _ (by-line ∙ ap (λ (x : Placed A). in_line (place_of s h.place) x >>> behind_line) z) refl

    module _ (a : A) (z : read named kinds line ≡ placed a) (q : Place) (reached : Reached s (to_line (next_line (place_of s h.place))) q) where
      by_end : read_one_line read s ≡ nothing_left (place_of s q) ((named, kinds), a)
      unfolding in_line
      by_end =
          by-line ∙ ap (λ (x : Placed A). in_line (place_of s h.place) x >>> behind_line) z
          ∙ ap (λ (p : L.Place). nothing_left p ((named, kinds), a)) (sym reached.is)

      -- more stands behind it
      pub more_refused : q.at < length s → Answered (read_one_line read s) right (refusal_text 4 q.number 0 (line_of (place_of s q)))
      unfolding nothing_left at_end Answered
      more_refused l =
          by-reading (refused_in 4 q.number 0 (line_of (place_of s q))) _
          (by_end ∙ rw (ne_eqb (length (drop q.at s)) 0 (λ y. omega (arith, length-drop q.at s, y)))) refl

      -- it is all
      pub line_given : length s ≤ q.at → (text : List ℕ) → right named kinds a text → Answered (read_one_line read s) right text
      unfolding nothing_left at_end Answered
      line_given l text w =
          by-reading (lined ((named, kinds), a)) text (by_end ∙ rw (eq-eqb (length (drop q.at s)) 0 (omega (arith, length-drop q.at s)))) w
