-- The sides of a line. Assumes nothing.
use mathlib.Core.Path.{◌≡◌, refl, sym, ◌∙◌, ap}
use mathlib.Core.List.{List, []}
use Prim.Native.Nat.{ℕ, ◌+◌, ◌-◌, ◌≤◌, ◌<◌}
use native.Mathlib.Omega.{arith}
use borrow.Author.Tests.{lt-ltb, le-ltb}
use lib.Dec.{ltb}
use lib.ListN.{length, take, drop, length-drop}
use lib.Seq.{take-length}
use Rattle.specification.specs.Results.{when◌then◌else◌}
use Rattle.specification.specs.Terms as S
use Rattle.specification.specs.Text as T
use Rattle.specification.specs.Text.{Placed, refused_at, ◌>>=◌, text_form}
use Rattle.specification.specs.Lines.{first_line, line_of}
use Rattle.specification.specs.LogTexts.{from}
use Rattle.specification.specs.Commands.{paired, read_sides}
use Rattle.theory.specs.Text.Bounds.{column_within}
use Rattle.theory.specs.Text.Columns.{refused≢placed}
use Rattle.terms.specs.Abstraction.{form_of}
use Rattle.lines.specs.declared.places.Place.{Place}
use Rattle.lines.specs.Places.{place_of}
use Rattle.lines.proofs.Ends.{inside_or}
use Rattle.std.specs.Prelude.{Ok, Err}
use Rattle.std.specs.Prelude as Std
use Rattle.refusal.specs.declared.Refusal.TheVariants.{Torn}
use Rattle.refusal.specs.Numbers.{number_of}
use Rattle.terms.specs.declared.types.Form.{Form}
use Rattle.texts.specs.declared.Unread.{Unread}
use Rattle.texts.specs.Readings.{placed_of}
use Rattle.formula_call.specs.Texts.{TextGives}
use Rattle.formula_lines.specs.Tables.{GoodTable}
use Rattle.formula_lines.proofs.Forms.{text_tested_lem}
use Rattle.sides.specs.Readings.{SidesRead, Paired, both_sides}
use Rattle.sides.proofs.Pairs.{sides_refused, sides_as}

-- ════ before and behind a sign

module _ (names table line : List ℕ) (at : ℕ) where
  -- what follows the first side
  abbrev behind_first : S.Form → Placed (S.Form × S.Form)
  behind_first f = from (at + 1) (text_form names table (drop (at + 1) line)) >>= λ g. paired at f g

  -- the first side is refused
  pub first_refused : (e : Unread) → TextGives (text_form names table (take at line)) (Err e) → SidesRead table (both_sides names table line at) (Err e)
  unfolding both_sides
  first_refused e h = sides_refused table (both_sides names table line at) e (ap (λ (x : Placed S.Form). x >>= behind_first) (sym h.is))

  module _ (f : Form) (h : TextGives (text_form names table (take at line)) (Ok f)) where
    behind : (u : Std.Result Form Unread) → TextGives (text_form names table (take (length line - (at + 1)) (drop (at + 1) line))) u
        → placed_of form_of u ≡ text_form names table (drop (at + 1) line)
    behind u k = k.is ∙ ap (text_form names table) (rw (sym (length-drop (at + 1) line)) (take-length (drop (at + 1) line)))

    by_second : (u : Std.Result Form Unread) → TextGives (text_form names table (take (length line - (at + 1)) (drop (at + 1) line))) u
        → both_sides names table line at ≡ (from (at + 1) (placed_of form_of u) >>= λ g. paired at (form_of f) g)
    unfolding both_sides
    by_second u k =
        ap (λ (x : Placed S.Form). x >>= behind_first) (sym h.is)
        ∙ ap (λ (x : Placed S.Form). from (at + 1) x >>= λ g. paired at (form_of f) g) (sym (behind u k))

    module _ (e : Unread) (k : TextGives (text_form names table (take (length line - (at + 1)) (drop (at + 1) line))) (Err e)) where
      -- the column of a refusal is in the line
      pub column_inside : at < length line → at + 1 + e.column ≤ length line
      column_inside l =
          let w = column_within (drop (at + 1) line) names table (number_of e.why) e.column (sym (behind (Err e) k)) in
          omega (arith, w, length-drop (at + 1) line)

      -- the second side is refused
      pub second_refused : SidesRead table (both_sides names table line at) (Err (record { why = e.why; column = at + 1 + e.column }))
      unfolding from
      second_refused = sides_refused table (both_sides names table line at) (record { why = e.why; column = at + 1 + e.column }) (by_second (Err e) k)

    -- both are put together
    pub both_given : (g : Form) → TextGives (text_form names table (take (length line - (at + 1)) (drop (at + 1) line))) (Ok g)
        → (r : Std.Result (Form × Form) Unread) → GoodTable names table → Paired at f g r → SidesRead table (both_sides names table line at) r
    unfolding from
    both_given g k r good p =
        let v : TextGives (text_form names table (drop (at + 1) line)) (Ok g) = record { is = behind (Ok g) k; valid = k.valid } in
        sides_as table (paired at (form_of f) (form_of g)) (both_sides names table line at) r (sym (by_second (Ok g) k))
        (p table (text_tested_lem names table good _ f h) (text_tested_lem names table good _ g v))

-- ════ the first sign

module _ (names table line : List ℕ) (at : ℕ) (e : at ≡ T.place_of line 61) where
  -- by its position
  by_sign : read_sides names table line ≡ (when ltb at (length line) then both_sides names table line at else refused_at 4 (length line))
  unfolding read_sides both_sides
  by_sign =
      ap (λ (k : ℕ). when ltb k (length line) then both_sides names table line k else refused_at 4 (length line)) (sym e)

  -- there is one
  pub sign-there : (r : Std.Result (Form × Form) Unread) → at < length line → SidesRead table (both_sides names table line at) r → SidesRead table (read_sides names table line) r
  sign-there r l h = sides_as table _ (read_sides names table line) r (sym (by_sign ∙ rw (lt-ltb at (length line) l))) h

  -- there is none
  pub sign-missing : length line ≤ at → SidesRead table (read_sides names table line) (Err (record { why = Torn; column = length line }))
  sign-missing l = sides_refused table (read_sides names table line) (record { why = Torn; column = length line }) (by_sign ∙ rw (le-ltb at (length line) l))

-- ════ at a place

-- nothing has no sides
no_sides : (names table : List ℕ) → read_sides names table (first_line []) ≡ refused_at 4 0
unfolding read_sides T.place_of first_line
no_sides names table = refl

-- sides are in the text
pub sides-inside : (s names table : List ℕ) (p : Place) (f : Form × Form) → SidesRead table (read_sides names table (line_of (place_of s p))) (Ok f)
    → p.at < length s
sides-inside s names table p f h =
    inside_or s p.at
    (λ y. refused≢placed (sym (ap (λ (l : List ℕ). read_sides names table (first_line l)) y ∙ no_sides names table) ∙ h.is))
