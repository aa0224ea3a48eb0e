-- What is told for an input, from its names and its lines. Assumes nothing.
use mathlib.Core.Path.{◌≡◌, sym, ◌∙◌, ap, subst}
use mathlib.Core.List.{List, []}
use Prim.Native.Nat.{ℕ, ◌≤◌}
use lib.ListN.{length, take}
use Rattle.specification.specs.Lines as L
use Rattle.specification.specs.Lines.{line_of, Lined, refused_in, lined, ◌>>>◌, read_header}
use Rattle.specification.specs.Commands.{refusal_text, answer_text, reduce_lines, reduce_input}
use Rattle.telling.specs.Told.{Told}
use Rattle.theory.specs.Text.LineColumns.{reduce-within, told-within}
use Rattle.lines.specs.Places.{place_of}
use Rattle.std.specs.Prelude.{Ok, Err}
use Rattle.refusal.specs.Numbers.{number_of}
use Rattle.lines.specs.declared.places.UnreadLine.{UnreadLine}
use Rattle.declarations.specs.Names.{HeaderRead}
use Rattle.declarations.specs.declared.Header.{Header}
use Rattle.reduce_word.specs.Told.{LinesTold}

-- the forms of the lines behind the names
abbrev reduced : (s : List ℕ) → L.Named × L.Place → Lined (List ℕ)
reduced s h = reduce_lines (length s) h.0.0 h.0.1 h.1 []

-- a refusal told is the answer
answer_refused : (s : List ℕ) (n k c : ℕ) (t out : List ℕ) (r : ℕ) → reduce_input s ≡ refused_in n k c t → Told out r (refusal_text n k c t) → Told out r (answer_text (reduce_input s))
unfolding answer_text
answer_refused s n k c t out r e h = subst (λ (x : Lined (List ℕ)). Told out r (answer_text x)) (sym e) h

-- the names are refused
pub header-answer : (s : List ℕ) (e : UnreadLine) (names table : List ℕ) → HeaderRead s (Err e) names table → (n : ℕ) → n ≡ number_of e.why → (out : List ℕ) (end : ℕ)
    → Told out end (refusal_text n e.place.number e.column (line_of (place_of s e.place))) → Told out end (answer_text (reduce_input s))
unfolding reduce_input
header-answer s e names table r n q out end t =
    answer_refused s n e.place.number e.column (line_of (place_of s e.place)) out end
    (ap (λ (x : Lined (L.Named × L.Place)). x >>> reduced s) r.is ∙ ap (λ (m : ℕ). refused_in m e.place.number e.column (line_of (place_of s e.place))) (sym q)) t

-- the names are good
module _ (s : List ℕ) (h : Header) (names table : List ℕ) (r : HeaderRead s (Ok h) names table) where
  lines_are : reduce_input s ≡ reduce_lines (length s) (take h.count names) (take h.count table) (place_of s h.place) []
  unfolding reduce_input
  lines_are = ap (λ (x : Lined (L.Named × L.Place)). x >>> reduced s) r.is

  -- a line is refused
  module _ (e : UnreadLine) (before : List ℕ)
      (t : LinesTold s (reduce_lines (length s) (take h.count names) (take h.count table) (place_of s h.place) []) (Err e) before) where
    pub line-column : e.column ≤ length (line_of (place_of s e.place))
    line-column =
        told-within (reduce_input s) (number_of e.why) e.place.number e.column (line_of (place_of s e.place)) (reduce-within s) (lines_are ∙ t.is)

    pub line-answer : (n : ℕ) → n ≡ number_of e.why → (out : List ℕ) (end : ℕ) → Told out end (refusal_text n e.place.number e.column (line_of (place_of s e.place)))
        → Told out end (answer_text (reduce_input s))
    line-answer n q out end w =
        answer_refused s n e.place.number e.column (line_of (place_of s e.place)) out end
        (lines_are ∙ t.is ∙ ap (λ (m : ℕ). refused_in m e.place.number e.column (line_of (place_of s e.place))) (sym q)) w

  -- all are told
  pub forms-answer : (end : ℕ) (out : List ℕ) → LinesTold s (reduce_lines (length s) (take h.count names) (take h.count table) (place_of s h.place) []) (Ok end) out
      → Told out end (answer_text (reduce_input s))
  unfolding answer_text
  forms-answer end out t = subst (λ (x : Lined (List ℕ)). Told out end (answer_text x)) (sym (lines_are ∙ t.is)) t.told
