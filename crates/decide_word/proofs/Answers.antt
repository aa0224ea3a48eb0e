-- What is right to be told for `decide`. Assumes nothing.
use mathlib.Core.Path.{◌≡◌, ap, sym, subst, ◌∙◌}
use mathlib.Core.List.{List}
use Prim.Native.Nat.{ℕ, ◌≤◌, ◌<◌}
use lib.ListN.{length, take}
use Rattle.specification.specs.Terms as S
use Rattle.specification.specs.Lines.{line_of, next_line, to_line}
use Rattle.specification.specs.Commands.{refusal_text, read_sides, DecisionTold, DecideAnswer}
use Rattle.theory.specs.Text.WordColumns.{sides-within}
use Rattle.specification.specs.Text.{refused_at}
use Rattle.refusal.specs.declared.Refusal.TheVariants.{Torn}
use Rattle.texts.specs.declared.Unread.{Unread}
use Rattle.terms.specs.declared.types.Form.{Form}
use Rattle.terms.specs.Abstraction.{form_of}
use Rattle.lines.specs.declared.places.Place.{Place}
use Rattle.lines.specs.Places.{place_of, Reached}
use Rattle.declarations.specs.declared.Header.{Header}
use Rattle.lines.specs.declared.places.UnreadLine.{UnreadLine}
use Rattle.refusal.specs.Numbers.{number_of}
use Rattle.std.specs.Prelude.{Ok, Err}
use Rattle.std.specs.Prelude as Std
use Rattle.declarations.specs.Names.{HeaderRead}
use Rattle.formula_lines.proofs.OneLine.{column_of, header-table, names_refused, line_refused, more_refused, line_given}
use Rattle.sides.specs.Readings.{sides_of, SidesRead}
use Rattle.decision_telling.specs.Comparisons.{Comparable}
use Rattle.telling.specs.Told.{Told, AnswerTold}

-- what is right for two sides
abbrev Right : (names table : List ℕ) → S.Form × S.Form → (text : List ℕ) → Type 0
Right names table r text = DecisionTold names table r.0 r.1 text

-- the names are refused
pub names-told : (s : List ℕ) (e : UnreadLine) (names table : List ℕ) → HeaderRead s (Err e) names table → (n : ℕ) → n ≡ number_of e.why → (out : List ℕ) (end : ℕ)
    → Told out end (refusal_text n e.place.number e.column (line_of (place_of s e.place))) → AnswerTold (DecideAnswer s) out end
unfolding DecideAnswer
names-told s e names table r n q out end t = record { text = _; right = names_refused s e names table r read_sides Right n q; told = t }

module _ (s : List ℕ) (h : Header) (names table : List ℕ) (r : HeaderRead s (Ok h) names table) where
  -- what is read of the line
  abbrev Read : Std.Result (Form × Form) Unread → Type 0
  Read f = SidesRead (take h.count table) (read_sides (take h.count names) (take h.count table) (line_of (place_of s h.place))) f

  -- the line is refused
  module _ (e : Unread) (g : Read (Err e)) where
    pub sides-column : e.column ≤ length (line_of (place_of s h.place))
    sides-column =
        column_of (line_of (place_of s h.place)) (read_sides (take h.count names) (take h.count table) (line_of (place_of s h.place))) (number_of e.why) e.column
        (sides-within (take h.count names) (take h.count table) (line_of (place_of s h.place))) g.is

    pub sides-told : (n : ℕ) → n ≡ number_of e.why → (out : List ℕ) (end : ℕ) → Told out end (refusal_text n h.place.number e.column (line_of (place_of s h.place)))
        → AnswerTold (DecideAnswer s) out end
    unfolding DecideAnswer
    sides-told n q out end t = record {
      text = _;
      right = line_refused s h names table r read_sides Right n e.column (g.is ∙ ap (λ (m : ℕ). refused_at m e.column) (sym q));
      told = t;
    }

  module _ (f : Form × Form) (g : Read (Ok f)) where
    -- what telling the decision asks
    pub comparable : Comparable (take h.count names) (take h.count table) f.0 f.1
    comparable = record {
      good = header-table s h names table r;
      valid_first = g.valid_first;
      valid_second = g.valid_second;
      kinds = g.kinds;
      tested_first = g.tested_first;
      tested_second = g.tested_second;
    }

    module _ (q : Place) (reached : Reached s (to_line (next_line (place_of s h.place))) q) where
      -- more stands behind it
      pub more_told : q.at < length s → (n : ℕ) → n ≡ number_of Torn → (out : List ℕ) (end : ℕ) → Told out end (refusal_text n q.number 0 (line_of (place_of s q)))
          → AnswerTold (DecideAnswer s) out end
      unfolding DecideAnswer
      more_told l n w out end t = record {
        text = _;
        right = more_refused s h names table r read_sides Right (sides_of f) g.is q reached l;
        told = subst (λ (m : ℕ). Told out end (refusal_text m q.number 0 (line_of (place_of s q)))) w t;
      }

      -- the decision
      pub decision_told : length s ≤ q.at → (out : List ℕ) (end : ℕ)
          → AnswerTold (DecisionTold (take h.count names) (take h.count table) (form_of f.0) (form_of f.1)) out end → AnswerTold (DecideAnswer s) out end
      unfolding DecideAnswer
      decision_told l out end t = record {
        text = t.text;
        right = line_given s h names table r read_sides Right (sides_of f) g.is q reached l t.text t.right;
        told = t.told;
      }
