-- What is right to be told for `shorten`. Assumes nothing.
use mathlib.Core.Path.{◌≡◌, refl, ap, sym, subst, ◌∙◌}
use mathlib.Core.List.{List}
use Prim.Native.Nat.{ℕ, ◌≤◌, ◌<◌}
use native.Mathlib.Omega.{arith}
use lib.ListN.{length, take}
use Rattle.specification.specs.Text.{refused_at, text_form}
use Rattle.specification.specs.Lines.{line_of, next_line, to_line}
use Rattle.specification.specs.LogTexts.{log_text}
use Rattle.specification.specs.Commands.{refusal_text, ShorteningTold, ShortenAnswer}
use Rattle.theory.proofs.Records.Logs.{log_of}
use Rattle.theory.specs.Text.Names.{names_count}
use Rattle.theory.specs.Text.LineColumns.{formula_within}
use Rattle.terms.specs.Abstraction.{form_of}
use Rattle.logs.specs.Steps.{steps_of}
use Rattle.symbols.specs.Printable.{Printable}
use Rattle.printing.proofs.Named.{printable}
use Rattle.log_lines.specs.Printed.{StepsPrintable}
use Rattle.log_lines.proofs.Named.{steps-printable}
use Rattle.lines.specs.declared.places.Place.{Place}
use Rattle.lines.specs.Places.{place_of, Reached}
use Rattle.declarations.specs.declared.Header.{Header}
use Rattle.lines.specs.declared.places.UnreadLine.{UnreadLine}
use Rattle.refusal.specs.Numbers.{number_of}
use Rattle.std.specs.Prelude.{Ok, Err}
use Rattle.declarations.specs.Names.{HeaderRead}
use Rattle.terms.specs.declared.types.Form.{Form}
use Rattle.refusal.specs.declared.Refusal.TheVariants.{Torn}
use Rattle.texts.specs.declared.Unread.{Unread}
use Rattle.formula_call.specs.Texts.{TextGives}
use Rattle.formula_lines.specs.Tables.{GoodTable}
use Rattle.formula_lines.proofs.Forms.{text_tested_lem, text-printable}
use Rattle.formula_lines.proofs.OneLine.{column_of, header-table, names_refused, line_refused, more_refused, line_given}
use Rattle.shortening.specs.declared.rounds.Derivation.{Derivation}
use Rattle.shortening.specs.Derived.{Derived}
use Rattle.shortening.proofs.Shortens.{steps-derive, steps-shorten}
use Rattle.telling.specs.Told.{Told, AnswerTold}

-- a text that is right, told
told : (s out : List ℕ) (end : ℕ) (text : List ℕ) → ShortenAnswer s text → Told out end text → AnswerTold (ShortenAnswer s) out end
told s out end text w t = record { text = text; right = w; told = t }

-- the names are refused
pub names-told : (s : List ℕ) (e : UnreadLine) (names table : List ℕ) → HeaderRead s (Err e) names table → (n : ℕ) → n ≡ number_of e.why → (out : List ℕ) (end : ℕ)
    → Told out end (refusal_text n e.place.number e.column (line_of (place_of s e.place))) → AnswerTold (ShortenAnswer s) out end
unfolding ShortenAnswer
names-told s e names table r n q out end t = told s out end _ (names_refused s e names table r text_form ShorteningTold n q) t

module _ (s out : List ℕ) (end : ℕ) (h : Header) (names table : List ℕ) (r : HeaderRead s (Ok h) names table) where
  -- the formula is refused
  module _ (e : Unread) (g : TextGives (text_form (take h.count names) (take h.count table) (line_of (place_of s h.place))) (Err e)) where
    pub formula_column : e.column ≤ length (line_of (place_of s h.place))
    formula_column =
        column_of (line_of (place_of s h.place)) (text_form (take h.count names) (take h.count table) (line_of (place_of s h.place))) (number_of e.why) e.column
        (formula_within (take h.count names) (take h.count table) (line_of (place_of s h.place))) (sym g.is)

    pub formula_told : (n : ℕ) → n ≡ number_of e.why → Told out end (refusal_text n h.place.number e.column (line_of (place_of s h.place))) → AnswerTold (ShortenAnswer s) out end
    unfolding ShortenAnswer
    formula_told n q t =
        told s out end _ (line_refused s h names table r text_form ShorteningTold n e.column (sym g.is ∙ ap (λ (m : ℕ). refused_at m e.column) (sym q))) t

  module _ (f : Form) (g : TextGives (text_form (take h.count names) (take h.count table) (line_of (place_of s h.place))) (Ok f)) where
    module _ (q : Place) (reached : Reached s (to_line (next_line (place_of s h.place))) q) where
      -- more stands behind it
      pub more_told : q.at < length s → (n : ℕ) → n ≡ number_of Torn → Told out end (refusal_text n q.number 0 (line_of (place_of s q))) → AnswerTold (ShortenAnswer s) out end
      unfolding ShortenAnswer
      more_told l n k t =
          told s out end _ (more_refused s h names table r text_form ShorteningTold (form_of f) (sym g.is) q reached l)
          (subst (λ (m : ℕ). Told out end (refusal_text m q.number 0 (line_of (place_of s q)))) k t)

      -- the log
      module _ (d : Derivation) (w : Derived (take h.count table) f d) where
        good : GoodTable (take h.count names) (take h.count table)
        good = header-table s h names table r

        pub log_tellable : Printable (take h.count names) f × StepsPrintable (take h.count names) d.steps × Printable (take h.count names) d.last
        log_tellable =
            let kinds = take h.count table in
            let named = take h.count names in
            let many : length kinds ≤ length named = omega (arith, names_count named kinds good.names_good) in
            let ds = steps-derive kinds good.table_good f g.valid (text_tested_lem named kinds good _ f g) d w in (
              text-printable named kinds good _ f g,
              steps-printable kinds named many d.steps w.valid.steps ds.steps_tested,
              printable kinds named many d.last w.valid.last ds.last_tested,
            )

        pub names_fit : length (take h.count names) ≤ length (take h.count table)
        names_fit = omega (arith, names_count (take h.count names) (take h.count table) good.names_good)

        pub log-told : length s ≤ q.at → length f.terms ≡ 48 → length d.last.terms ≡ 48
            → Told out end (log_text (take h.count names) (take h.count table) (form_of f) (steps_of d.steps) (form_of d.last))
            → AnswerTold (ShortenAnswer s) out end
        unfolding ShortenAnswer
        log-told l places rooms t =
            let kinds = take h.count table in
            told s out end _ (line_given s h names table r text_form ShorteningTold (form_of f) (sym g.is) q reached l _
            (record {
              log = log_of (form_of f) (steps_of d.steps) (form_of d.last);
              shortens = steps-shorten kinds good.table_good f g.valid (text_tested_lem (take h.count names) kinds good _ f g) d w places rooms;
              is = refl;
            })) t
