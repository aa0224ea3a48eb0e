-- The forms of lines, told one behind the other. Assumes nothing.
use mathlib.Core.Path.{◌≡◌, refl, sym, ◌∙◌, ap, subst}
use mathlib.Core.List.{List, [], ◌∷◌, ◌++◌, append_assoc}
use Prim.Native.Nat.{ℕ, zero, suc, ◌-◌, ◌≤◌, ◌<◌}
use native.Mathlib.Omega.{arith}
use native.Mathlib.Numerals.{sub-one}
use borrow.Author.Tests.{ne_eqb}
use lib.ListN.{length, take, drop, length-append, length-drop, drop_of_length-le}
use lib.Seq.{take-append_seam}
use Rattle.specification.specs.Terms as S
use Rattle.specification.specs.Records.{write_into}
use Rattle.specification.specs.Printing.{print_form, TextWritten}
use Rattle.specification.specs.Text.{Placed, text_form}
use Rattle.specification.specs.Lines as L
use Rattle.specification.specs.Lines.{line_of, next_line, to_line, at_end, Lined, refused_in, lined, in_line, ◌>>>◌}
use Rattle.specification.specs.Commands.{reduce_lines}
use Rattle.terms.specs.Abstraction.{form_of}
use Rattle.lines.specs.declared.places.Place.{Place}
use Rattle.lines.specs.Places.{place_of, Inside, Reached}
use Rattle.std.specs.Prelude.{Ok, Err}
use Rattle.std.specs.Prelude as Std
use Rattle.terms.specs.declared.types.Form.{Form}
use Rattle.texts.specs.declared.Unread.{Unread}
use Rattle.texts.specs.Readings.{placed_of}
use Rattle.formula_call.specs.Texts.{TextGives}
use Rattle.telling.specs.Told.{Told, Tells}
use Rattle.telling.proofs.Pieces.{told-nothing}
use Rattle.reduce_word.specs.Told.{LinesTold}

-- ════ a text in front of lent bytes

module _ (before after : List ℕ) (n : ℕ) (text : List ℕ) (h : TextWritten before after n text) where
  -- it is within them
  pub text-within : n ≤ length after
  unfolding write_into
  text-within = omega (arith, h.ends, ap length h.bytes, length-append text (drop (length text) before))

  -- its bytes
  pub text_taken : take n after ≡ text
  unfolding write_into
  text_taken = (λ i. take (h.ends i) (h.bytes i)) ∙ take-append_seam text (drop (length text) before)

-- ════ lines

-- what is left to be told behind a text is the whole
pub record LinesFrom (s : List ℕ) (x : Lined (List ℕ)) (names table out : List ℕ) (left : ℕ) (q : Place) (end : ℕ) : Type 0 where
  pub text : List ℕ
  pub same : x ≡ reduce_lines left names table (place_of s q) text
  pub told : Told out end text
  pub inside : Inside s q

-- at first
pub lines-begin : (s names table out : List ℕ) (p : Place) (left : ℕ) → Inside s p → left ≡ length s
    → LinesFrom s (reduce_lines (length s) names table (place_of s p) []) names table out left p 0
lines-begin s names table out p left i e = record { text = []; same = ap (λ (k : ℕ). reduce_lines k names table (place_of s p) []) (sym e); told = told-nothing out; inside = i }

nothing_left_lem : (left : ℕ) (names table : List ℕ) (n : ℕ) (r before : List ℕ) → r ≡ [] → reduce_lines left names table (n, r) before ≡ lined before
unfolding reduce_lines at_end
nothing_left_lem zero names table n r before e = refl
nothing_left_lem (suc left) names table n r before e = subst (λ (r : List ℕ). reduce_lines (suc left) names table (n, r) before ≡ lined before) (sym e) refl

one_line : (left : ℕ) (names table : List ℕ) (p : L.Place) (before : List ℕ) → 0 < left → (p.1 ≡ [] → ⊥)
    → reduce_lines left names table p before
    ≡ (in_line p (text_form names table (line_of p)) >>> (λ f. reduce_lines (left - 1) names table (to_line (next_line p)) (before ++ print_form names f.terms ++ 10 ∷ [])))
unfolding reduce_lines at_end
one_line zero names table p before h n = absurd (omega arith)
one_line (suc left) names table p before h n =
    let some : length p.1 ≡ 0 → ⊥ = λ z. n (no_bytes p.1 z) in
    rw (ne_eqb (length p.1) 0 some, sub-one (suc left))
  where
    no_bytes : (r : List ℕ) → length r ≡ 0 → r ≡ []
    no_bytes [] z = refl
    no_bytes (b ∷ r) z = absurd (omega (arith, z))

module _ (s : List ℕ) (x : Lined (List ℕ)) (names table out : List ℕ) (left : ℕ) (q : Place) (end : ℕ) (h : LinesFrom s x names table out left q end) where
  -- told to the end
  all_told : x ≡ lined h.text → LinesTold s x (Ok end) out
  all_told e = record { text = h.text; is = e; told = h.told; inside = tt }

  -- nothing is left
  pub lines_end : length s ≤ q.at → LinesTold s x (Ok end) out
  lines_end l = all_told (h.same ∙ nothing_left_lem left names table q.number (drop q.at s) h.text (drop_of_length-le s l))

  -- no more are told
  pub lines-done : left ≤ 0 → LinesTold s x (Ok end) out
  unfolding reduce_lines
  lines-done z = let e : left ≡ 0 = omega arith in all_told (h.same ∙ ap (λ (k : ℕ). reduce_lines k names table (place_of s q) h.text) e)

  module _ (k : 0 < left) (l : q.at < length s) where
    abbrev after : S.Form → Lined (List ℕ)
    after f = reduce_lines (left - 1) names table (to_line (next_line (place_of s q))) (h.text ++ print_form names f.terms ++ 10 ∷ [])

    turn : (r : Std.Result Form Unread) → TextGives (text_form names table (line_of (place_of s q))) r → x ≡ (in_line (place_of s q) (placed_of form_of r) >>> after)
    turn r g =
        h.same
        ∙ one_line left names table (place_of s q) h.text k (λ z. omega (arith, length-drop q.at s, ap length z))
        ∙ ap (λ (y : Placed S.Form). in_line (place_of s q) y >>> after) (sym g.is)

    -- the line is refused
    pub lines_refused : (out' : List ℕ) (e : Unread) → TextGives (text_form names table (line_of (place_of s q))) (Err e)
        → LinesTold s x (Err (record { why = e.why; column = e.column; place = q })) out'
    unfolding in_line
    lines_refused out' e g = record { text = []; is = turn (Err e) g; told = tt; inside = h.inside }

    -- its form is told
    pub lines_more : (f : Form) → TextGives (text_form names table (line_of (place_of s q))) (Ok f) → (out' : List ℕ) (end' : ℕ) (p : Place) (less : ℕ) → left ≡ suc less
        → Tells out out' end end' (print_form names (form_of f).terms ++ 10 ∷ [])
        → Reached s (to_line (next_line (place_of s q))) p → LinesFrom s x names table out' less p end'
    unfolding in_line
    lines_more f g out' end' p less m t reached = record {
      text = h.text ++ (print_form names (form_of f).terms ++ 10 ∷ []);
      same = turn (Ok f) g
          ∙ (λ i. reduce_lines (lower m i) names table (sym reached.is i) (append_assoc h.text (print_form names (form_of f).terms) (10 ∷ []) i));
      told = t.is h.text h.told;
      inside = reached.inside;
    }
      where
        lower : left ≡ suc less → left - 1 ≡ less
        lower m = omega arith
