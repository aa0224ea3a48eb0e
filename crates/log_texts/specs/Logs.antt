-- A log as text. Assumes nothing.
use Rattle.std.specs.Prelude.{◌≡◌, Ok, Err, IfOk, IfErr, List, ℕ, ◌≤◌, length, take}
use Rattle.std.specs.Prelude as Std
use Rattle.specification.specs.Lines as L
use Rattle.specification.specs.Lines.{Lined, line_of, in_line}
use Rattle.specification.specs.Rules as R
use Rattle.specification.specs.LogTexts.{LogRead, read_form_line, read_step_line, read_log_lines, read_log_text}
use Rattle.terms.specs.declared.types.Form.{Form}
use Rattle.terms.specs.Abstraction.{form_of}
use Rattle.terms.specs.Valid.{FormValid}
use Rattle.rules.specs.declared.steps.Step.{Step}
use Rattle.rules.specs.Steps.{step_of, StepValid}
use Rattle.logs.specs.Steps.{steps_of, StepsValid}
use Rattle.texts.specs.declared.Unread.{Unread}
use Rattle.lines.specs.declared.places.Place.{Place}
use Rattle.lines.specs.declared.places.UnreadLine.{UnreadLine}
use Rattle.lines.specs.Places.{place_of, Inside}
use Rattle.lines.specs.Readings.{lined_of}
use Rattle.log_texts.specs.declared.reading.StepLines.{StepLines}
use Rattle.log_texts.specs.declared.reading.LogText.{LogText}

-- what a line gives, or its refusal with the place
abbrev pub at_place : {A : Type 0} → Std.Result A Unread → Place → Std.Result A UnreadLine
at_place (Ok a) p = Ok a
at_place (Err e) p = Err (record { why = e.why; column = e.column; place = p })

-- the form of the line at a place, or the refusal in its line
pub record FormAt (s : List ℕ) (p : Place) (names table : List ℕ) (r : Std.Result Form UnreadLine) : Type 0 where
  pub is : in_line (place_of s p) (read_form_line names table (line_of (place_of s p))) ≡ lined_of s form_of r
  pub valid : IfOk r FormValid
  pub inside : IfErr r (λ e. Inside s e.place)

-- the step of the line at a place, or the refusal in its line
pub record StepAt (s : List ℕ) (p : Place) (names table : List ℕ) (r : Std.Result Step UnreadLine) : Type 0 where
  pub is : in_line (place_of s p) (read_step_line names table (line_of (place_of s p))) ≡ lined_of s step_of r
  pub valid : IfOk r StepValid
  pub inside : IfErr r (λ e. Inside s e.place)

-- the steps and the place behind them, or the refusal in its line
pub record StepLinesRead (s : List ℕ) (x : Lined (List R.Step × L.Place)) (r : Std.Result StepLines UnreadLine) : Type 0 where
  pub is : x ≡ lined_of s (λ m. (steps_of m.steps, place_of s m.place)) r
  pub valid : IfOk r (λ m. StepsValid m.steps)
  pub behind : IfOk r (λ m. Inside s m.place)
  pub inside : IfErr r (λ e. Inside s e.place)

-- what was read, with these names and this table
abbrev pub log_of : (names table : List ℕ) → LogText → LogRead
log_of names table r = record { names = names; table = table; first = form_of r.first; steps = steps_of r.steps; last = form_of r.last }

-- the lines behind the names, or the refusal in its line
pub record LinesRead (s names table : List ℕ) (p : L.Place) (r : Std.Result LogText UnreadLine) : Type 0 where
  pub is : read_log_lines names table p ≡ lined_of s (log_of names table) r
  pub counted : IfOk r (λ l. l.count ≡ length names)
  pub first : IfOk r (λ l. FormValid l.first)
  pub steps : IfOk r (λ l. StepsValid l.steps)
  pub last : IfOk r (λ l. FormValid l.last)
  pub behind : IfOk r (λ l. Inside s l.place)
  pub inside : IfErr r (λ e. Inside s e.place)

-- a log as text, its names and their kinds in front of the bytes lent; or the refusal in its line
pub record LogTextRead (s : List ℕ) (r : Std.Result LogText UnreadLine) (names table : List ℕ) : Type 0 where
  pub is : read_log_text s ≡ lined_of s (λ l. log_of (take l.count names) (take l.count table) l) r
  pub few : IfOk r (λ l. l.count ≤ 24)
  pub first : IfOk r (λ l. FormValid l.first)
  pub steps : IfOk r (λ l. StepsValid l.steps)
  pub last : IfOk r (λ l. FormValid l.last)
  pub behind : IfOk r (λ l. Inside s l.place)
  pub inside : IfErr r (λ e. Inside s e.place)
