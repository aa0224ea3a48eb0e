-- What is told for a log as text, from what was read. Assumes nothing.
use mathlib.Core.Path.{◌≡◌, refl, sym, ◌∙◌, ap, subst}
use mathlib.Core.List.{List, [], ◌∷◌, ◌++◌}
use Prim.Native.Nat.{ℕ, ◌≤◌}
use native.Mathlib.Omega.{arith}
use lib.ListN.{length, take, drop, length-append}
use lib.Seq.{length-take-le, take-append_seam}
use Rattle.specification.specs.Records.{write_into}
use Rattle.specification.specs.Rules.{Step}
use Rattle.specification.specs.Terms as S
use Rattle.specification.specs.Logs as C
use Rattle.specification.specs.Lines.{line_of, Lined, lined, ◌>>>◌}
use Rattle.specification.specs.LogTexts.{LogRead, read_log_text, log_bytes_of}
use Rattle.specification.specs.Commands.{checked_text, refusal_text, answer_text, check_input, pack_input}
use Rattle.telling.specs.Told.{Told}
use Rattle.theory.specs.Text.LineColumns.{told-within}
use Rattle.terms.specs.Abstraction.{form_of}
use Rattle.logs.specs.Steps.{steps_of}
use Rattle.logs.specs.Writing.{LogWritten}
use Rattle.lines.specs.Places.{place_of}
use Rattle.log_texts.specs.Logs.{log_of, LogTextRead}
use Rattle.log_texts.specs.declared.reading.LogText.{LogText}
use Rattle.std.specs.Prelude.{Ok, Err}
use Rattle.refusal.specs.Numbers.{number_of}
use Rattle.lines.specs.declared.places.UnreadLine.{UnreadLine}
use Rattle.theory.specs.Text.LogColumns.{log_within}

-- a log written in front of lent bytes
module _ (before after : List ℕ) (n : ℕ) (f : S.Form) (q : List Step) (g : S.Form) (h : LogWritten before after n f q g) where
  pub log_within-bytes : n ≤ length after
  unfolding write_into
  log_within-bytes = omega (arith, h.ends, ap length h.bytes, length-append (C.write_log f q g) (drop (length (C.write_log f q g)) before))

  pub log_taken : take n after ≡ C.write_log f q g
  unfolding write_into
  log_taken = (λ i. take (h.ends i) (h.bytes i)) ∙ take-append_seam (C.write_log f q g) (drop (length (C.write_log f q g)) before)

-- ════ a text that was read

module _ (s names table : List ℕ) where
  -- it is refused
  module _ (e : UnreadLine) (r : LogTextRead s (Err e) names table) where
    pub log-column : e.column ≤ length (line_of (place_of s e.place))
    log-column = told-within (read_log_text s) (number_of e.why) e.place.number e.column (line_of (place_of s e.place)) (log_within s) r.is

    module _ (n : ℕ) (q : n ≡ number_of e.why) (out : List ℕ) (end : ℕ) (t : Told out end (refusal_text n e.place.number e.column (line_of (place_of s e.place)))) where
      refused_answer : (f : LogRead → Lined (List ℕ)) → Told out end (answer_text (read_log_text s >>> f))
      unfolding answer_text
      refused_answer f =
          subst (λ (x : Lined LogRead). Told out end (answer_text (x >>> f))) (sym r.is)
          (subst (λ (m : ℕ). Told out end (refusal_text m e.place.number e.column (line_of (place_of s e.place)))) q t)

      pub check_refused : Told out end (answer_text (check_input s))
      unfolding check_input
      check_refused = refused_answer _

      pub pack_refused : Told out end (answer_text (pack_input s))
      unfolding pack_input
      pack_refused = refused_answer _

  -- it is a log
  module _ (l : LogText) (r : LogTextRead s (Ok l) names table) (log : List ℕ) (m : ℕ) (before : List ℕ) (w : LogWritten before log m (form_of l.first) (steps_of l.steps) (form_of l.last))
      (out : List ℕ) (end : ℕ) where
    given_answer : (f : LogRead → Lined (List ℕ)) (text : List ℕ) → f (log_of (take l.count names) (take l.count table) l) ≡ lined text → Told out end text
        → Told out end (answer_text (read_log_text s >>> f))
    unfolding answer_text
    given_answer f text z t =
        subst (λ (x : Lined LogRead). Told out end (answer_text (x >>> f))) (sym r.is) (subst (λ (y : Lined (List ℕ)). Told out end (answer_text y)) (sym z) t)

    pub pack_given : l.count ≤ length table → Told out end ((l.count ∷ []) ++ take l.count table ++ take m log) → Told out end (answer_text (pack_input s))
    unfolding pack_input log_bytes_of
    pack_given k t =
        given_answer _ (length (take l.count table) ∷ take l.count table ++ C.write_log (form_of l.first) (steps_of l.steps) (form_of l.last)) refl
        (subst (Told out end)
        (λ i. sym (length-take-le l.count table k) i ∷ take l.count table ++ log_taken before log m (form_of l.first) (steps_of l.steps) (form_of l.last) w i) t)

    pub check_given : (first last : ℕ) (c : C.Checked) → first ≡ length (form_of l.first).terms → last ≡ length (form_of l.last).terms
        → c ≡ C.check_call (take l.count table) (take m log) → Told out end (checked_text first last c) → Told out end (answer_text (check_input s))
    unfolding check_input log_bytes_of
    check_given first last c a b k t =
        given_answer _ (checked_text (length (form_of l.first).terms) (length (form_of l.last).terms)
        (C.check_call (take l.count table) (C.write_log (form_of l.first) (steps_of l.steps) (form_of l.last)))) refl
        (subst (Told out end) (λ i. checked_text (a i) (b i) (same i)) t)
      where
        same : c ≡ C.check_call (take l.count table) (C.write_log (form_of l.first) (steps_of l.steps) (form_of l.last))
        same = k ∙ ap (C.check_call (take l.count table)) (log_taken before log m (form_of l.first) (steps_of l.steps) (form_of l.last) w)
