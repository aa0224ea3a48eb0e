-- The lines of an input answered one after the other. Assumes nothing.
use mathlib.Core.Path.{◌≡◌, refl, sym, ◌∙◌, ap, subst}
use mathlib.Core.Bool.{Bool, true, false, ◌&&◌}
use mathlib.Core.List.{List, [], ◌∷◌, ◌++◌}
use Prim.Native.Nat.{ℕ, suc, ◌+◌, ◌-◌, ◌≤◌, ◌<◌}
use native.Mathlib.Omega.{arith}
use lib.Dec.{leb, eqb}
use lib.ListN.{length, take, drop, length-drop, drop_of_length-le}
use Rattle.specification.specs.Results.{when◌then◌else◌}
use Rattle.specification.specs.Words.{bytes}
use Rattle.specification.specs.Lines.{first_line, behind_line, lines_of, next_line, is_empty_line, is_word_at, is_declaration, declared}
use Rattle.specification.specs.LogTexts.{is_step_line, log_text}
use Rattle.specification.specs.Commands.{unopened, underway, line_read, names_answer, read_first, first_answer, read_one_step, step_refused, step_answer}
use Rattle.specification.specs.Commands.{checked_text, answer_line, pass_line, answer_lines, end_text, derivation_input}
use Rattle.specification.specs.OpenLogs.{add_to}
use Rattle.specification.specs.Logs.{write_step}
use Rattle.specification.specs.Logs as Logs
use Rattle.specification.specs.Lines as L
use Rattle.specification.proofs.Computing.{computing}
use Rattle.specification.proofs.TextExamples.{computing_text}
use Rattle.specification.proofs.LogTextExamples.{computing_lines}
use Rattle.theory.proofs.Text.Derivations.{lines-first}
use Rattle.refusal.specs.declared.Refusal.TheVariants.{FullLog}
use Rattle.refusal.specs.Numbers.{number_of}
use Rattle.terms.specs.Abstraction.{form_of}
use Rattle.logs.specs.Steps.{steps_of}
use Rattle.lines.specs.declared.places.Place.{Place}
use Rattle.lines.specs.Places.{place_of, Inside, LineEnd, Reached}
use Rattle.open_log.specs.States.{state_of}
use Rattle.telling.specs.Told.{Told, Tells}
use Rattle.telling.proofs.Pieces.{tells-nothing, told-nothing}
use Rattle.derivation_word.specs.declared.reading.Derivation as D
use Rattle.derivation_word.specs.declared.reading.Answered.{Answered}
use Rattle.derivation_word.specs.Derivations.{names_of, kinds_of, derivation_of, DerivationValid, read_as_first, read_as_step, LineTold}
use Rattle.derivation_word.proofs.Answers.{is_open}

-- ════ a step behind so many

-- the first test fails
pub no-and : (b x y : Bool) → b ≡ x → b ≡ false → false ≡ (x && y)
no-and b x y e h = subst (λ t. false ≡ (t && y)) (sym h ∙ e) refl

-- or the second decides
pub some_and : (b x y : Bool) → b ≡ x → b ≡ true → y ≡ (x && y)
some_and b x y e h = subst (λ t. y ≡ (t && y)) (sym h ∙ e) refl

-- ════ a line of any kind

module _ (d : D.Derivation) (k : ℕ) (line before after : List ℕ) (at : ℕ) where
  -- an empty line is passed
  pub passed-empty : DerivationValid d → (b : Bool) → b ≡ is_empty_line line → b ≡ true → LineTold (pass_line k line (derivation_of d)) before before at (record { derivation = d; end = at })
  unfolding pass_line
  passed-empty valid b e h =
      subst (λ t. LineTold (when t then (derivation_of d, []) else answer_line k line (derivation_of d)) before before at (record { derivation = d; end = at })) (sym h ∙ e)
      (record { is = refl; tells = tells-nothing before at; valid = valid })

  -- a line of an open log
  module _ (valid : DerivationValid d) (o : d.begun ≡ true) (c : Bool) (q : c ≡ (is_step_line line && leb 64 d.state.count)) where
    -- what is told for it, by whether it is one step too many
    told-open : (r : Answered)
        → LineTold (when c then step_refused (names_of d) (form_of d.first) (state_of d.state) (steps_of d.steps) 14
        else line_read k line (underway (names_of d) (form_of d.first) (state_of d.state) (steps_of d.steps)) (read_one_step (names_of d) (kinds_of d) line)
        (λ step. step_answer (names_of d) (form_of d.first) (state_of d.state) (steps_of d.steps) step (add_to (state_of d.state) (write_step step)))) before after at r
        → LineTold (answer_line k line (derivation_of d)) before after at r
    unfolding answer_line state_of kinds_of
    told-open r t =
        subst (λ x. LineTold (answer_line k line x) before after at r) (sym (is_open d valid o))
        (subst (λ x. LineTold (when x then step_refused (names_of d) (form_of d.first) (state_of d.state) (steps_of d.steps) 14
        else line_read k line (underway (names_of d) (form_of d.first) (state_of d.state) (steps_of d.steps)) (read_one_step (names_of d) (kinds_of d) line)
        (λ step. step_answer (names_of d) (form_of d.first) (state_of d.state) (steps_of d.steps) step (add_to (state_of d.state) (write_step step)))) before after at r) q t)

    -- it is
    pub open_full : c ≡ true → (n : ℕ) → n ≡ number_of FullLog → (end : ℕ) → Tells before after at end (checked_text 0 0 (Logs.refused_at n (d.state.count + 1)))
        → LineTold (answer_line k line (derivation_of d)) before after at (record { derivation = d; end = end })
    unfolding step_refused state_of
    open_full w n m end t =
        told-open (record { derivation = d; end = end }) (rw w (record {
          is = is_open d valid o;
          tells = subst (λ (j : ℕ). Tells before after at end (checked_text 0 0 (Logs.refused_at j (d.state.count + 1)))) m t;
          valid = valid;
        }))

    -- it is not
    pub open_step : c ≡ false → (r : Answered)
        → LineTold (read_as_step k line d) before after at r
        → LineTold (answer_line k line (derivation_of d)) before after at r
    open_step w r t =
        told-open r (rw w (subst (λ x. LineTold (line_read k line x (read_one_step (names_of d) (kinds_of d) line)
        (λ step. step_answer (names_of d) (form_of d.first) (state_of d.state) (steps_of d.steps) step (add_to (state_of d.state) (write_step step)))) before after at r)
        (is_open d valid o) t))

  module _ (b : Bool) (e : b ≡ is_empty_line line) (h : b ≡ false) (r : Answered) where
    -- another one is answered
    pub answered : LineTold (answer_line k line (derivation_of d)) before after at r → LineTold (pass_line k line (derivation_of d)) before after at r
    unfolding pass_line
    answered t = subst (λ x. LineTold (when x then (derivation_of d, []) else answer_line k line (derivation_of d)) before after at r) (sym h ∙ e) t

    module _ (o : d.begun ≡ false) (c : Bool) (q : c ≡ is_declaration line) where
      not_open : derivation_of d ≡ unopened (names_of d) (kinds_of d)
      unfolding derivation_of
      not_open = rw o

      -- names
      pub answered-names : c ≡ true → LineTold (line_read k line (derivation_of d) (declared line (names_of d, kinds_of d)) names_answer) before after at r
          → LineTold (pass_line k line (derivation_of d)) before after at r
      unfolding answer_line
      answered-names w t =
          answered (subst (λ x. LineTold (answer_line k line x) before after at r) (sym not_open)
          (subst (λ x. LineTold (when x then line_read k line (unopened (names_of d) (kinds_of d)) (declared line (names_of d, kinds_of d)) names_answer
          else line_read k line (unopened (names_of d) (kinds_of d)) (read_first (names_of d) (kinds_of d) line) (first_answer (names_of d) (kinds_of d))) before after at r) (sym w ∙ q)
          (subst (λ x. LineTold (line_read k line x (declared line (names_of d, kinds_of d)) names_answer) before after at r) not_open t)))

      -- the first form
      pub answered_first : c ≡ false → LineTold (read_as_first k line d) before after at r
          → LineTold (pass_line k line (derivation_of d)) before after at r
      unfolding answer_line
      answered_first w t =
          answered (subst (λ x. LineTold (answer_line k line x) before after at r) (sym not_open)
          (subst (λ x. LineTold (when x then line_read k line (unopened (names_of d) (kinds_of d)) (declared line (names_of d, kinds_of d)) names_answer
          else line_read k line (unopened (names_of d) (kinds_of d)) (read_first (names_of d) (kinds_of d) line) (first_answer (names_of d) (kinds_of d))) before after at r) (sym w ∙ q)
          (subst (λ x. LineTold (line_read k line x (read_first (names_of d) (kinds_of d) line) (first_answer (names_of d) (kinds_of d))) before after at r) not_open t)))

-- ════ the end

-- nothing declares no names
no_declaration : is_declaration [] ≡ false
unfolding computing computing_text computing_lines
no_declaration = refl

module _ (d : D.Derivation) (k : ℕ) (before after : List ℕ) (at end : ℕ) where
  -- nothing is open: what is missing
  pub end-missing : d.begun ≡ false → (r : Answered)
      → LineTold (read_as_first k [] d) before after at r
      → Tells before after at r.end (end_text k (derivation_of d))
  unfolding derivation_of end_text answer_line
  end-missing e r t =
      let is : derivation_of d ≡ unopened (names_of d) (kinds_of d) = rw e in
      subst (λ x. Tells before after at r.end (end_text k x)) (sym is)
      (subst (λ b. Tells before after at r.end (when b then line_read k [] (unopened (names_of d) (kinds_of d)) (declared [] (names_of d, kinds_of d)) names_answer
      else line_read k [] (unopened (names_of d) (kinds_of d)) (read_first (names_of d) (kinds_of d) []) (first_answer (names_of d) (kinds_of d))).1) (sym no_declaration)
      (subst (λ x. Tells before after at r.end (line_read k [] x (read_first (names_of d) (kinds_of d) []) (first_answer (names_of d) (kinds_of d))).1) is t.tells))

  -- the log
  pub end_told : (valid : DerivationValid d) → d.begun ≡ true
      → Tells before after at end (bytes "\n" ++ log_text (names_of d) (kinds_of d) (form_of d.first) (steps_of d.steps) (form_of d.state.form))
      → Tells before after at end (end_text k (derivation_of d))
  unfolding end_text state_of kinds_of
  end_told valid e t = subst (λ x. Tells before after at end (end_text k x)) (sym (is_open d valid e)) t

-- ════ one line after the other

-- the first line, and those behind it, of a text that has one
first_of : (t : List ℕ) → 0 < length t → lines_of t ≡ first_line t ∷ lines_of (behind_line t)
first_of [] h = absurd (omega arith)
first_of (b ∷ t) h = lines-first b t

-- what is behind a line is shorter
behind_short : (t : List ℕ) → length (behind_line t) ≤ length t
unfolding behind_line
behind_short [] = omega arith
behind_short (b ∷ t) = go (eqb b 10) (behind_short t)
  where
    go : (x : Bool) → length (behind_line t) ≤ length t → length (when x then t else behind_line t) ≤ suc (length t)
    go true h = omega arith
    go false h = omega arith

behind-less : (t : List ℕ) → 0 < length t → length (behind_line t) < length t
unfolding behind_line
behind-less [] h = absurd (omega arith)
behind-less (b ∷ t) h = go (eqb b 10)
  where
    go : (x : Bool) → length (when x then t else behind_line t) < suc (length t)
    go true = omega arith
    go false = omega (arith, behind_short t)

-- fewer bytes are left from the next line on
pub next_less : (s : List ℕ) (p q : Place) → p.at < length s → Reached s (next_line (place_of s p)) q → length s - q.at < length s - p.at
next_less s p q l reached =
    let behind : length (drop q.at s) ≡ length (behind_line (drop p.at s)) = ap (λ (x : L.Place). length x.1) reached.is in
    omega (arith, behind, behind-less (drop p.at s) (omega (arith, length-drop p.at s)), length-drop p.at s, length-drop q.at s)

-- the lines up to a place are answered, and these are left
pub record AnsweredTo (s out : List ℕ) (p : Place) (d : D.Derivation) (told : ℕ) : Type 0 where
  pub text : List ℕ
  pub stands : Told out told text
  pub same : answer_lines p.number (lines_of (drop p.at s)) (derivation_of d) text ≡ answer_lines 1 (lines_of s) (unopened [] []) []
  pub number : p.number + length (lines_of (drop p.at s)) ≡ length (lines_of s) + 1
  pub valid : DerivationValid d
  pub inside : Inside s p

-- none yet
pub answered_none : (s out : List ℕ) (d : D.Derivation) → DerivationValid d → derivation_of d ≡ unopened [] [] → AnsweredTo s out (record { number = 1; at = 0 }) d 0
answered_none s out d valid e = record {
  text = [];
  stands = told-nothing out;
  same = ap (λ x. answer_lines 1 (lines_of s) x []) e;
  number = omega arith;
  valid = valid;
  inside = record { within = omega arith; few = omega arith };
}

module _ (s out : List ℕ) (p : Place) (d : D.Derivation) (told : ℕ) (w : AnsweredTo s out p d told) where
  -- one more
  pub answered_more : p.at < length s → (end : ℕ) → LineEnd s p.at end → (after : List ℕ) (r : Answered)
      → LineTold (pass_line p.number (take (end - p.at) (drop p.at s)) (derivation_of d)) out after told r
      → (q : Place) → Reached s (next_line (place_of s p)) q → AnsweredTo s after q r.derivation r.end
  unfolding answer_lines
  answered_more l end e after r t q reached =
      let rest = drop p.at s in
      let lines : lines_of rest ≡ first_line rest ∷ lines_of (behind_line rest) = first_of rest (omega (arith, length-drop p.at s)) in
      let n = p.number in
      let next : q.number ≡ n + 1 = ap (λ (x : L.Place). x.0) reached.is in
      let behind : drop q.at s ≡ behind_line rest = ap (λ (x : L.Place). x.1) reached.is in
      let line : take (end - p.at) rest ≡ first_line rest = e.line in
      let answer = pass_line n (take (end - p.at) rest) (derivation_of d) in
      record {
        text = w.text ++ answer.1;
        stands = t.tells.is w.text w.stands;
        same =
            (λ i. answer_lines (next i) (lines_of (behind i)) (t.is i) (w.text ++ answer.1))
            ∙ (λ i. answer_lines (n + 1) (lines_of (behind_line rest)) (pass_line n (line i) (derivation_of d)).0 (w.text ++ (pass_line n (line i) (derivation_of d)).1))
            ∙ ap (λ (ls : List (List ℕ)). answer_lines n ls (derivation_of d) w.text) (sym lines)
            ∙ w.same;
        number =
            (let few : q.number + length (lines_of (drop q.at s)) ≡ n + 1 + length (lines_of (behind_line rest)) = λ i. next i + length (lines_of (behind i)) in
            omega (arith, few, w.number, ap length lines));
        valid = t.valid;
        inside = reached.inside;
      }

  -- all, and the end
  pub answered_all : length s ≤ p.at → (after : List ℕ) (end : ℕ) → Tells out after told end (end_text p.number (derivation_of d)) → Told after end (derivation_input s)
  unfolding answer_lines derivation_input lines_of
  answered_all l after end t =
      let none : drop p.at s ≡ [] = drop_of_length-le s l in
      let told_is : (derivation_of d, w.text) ≡ answer_lines 1 (lines_of s) (unopened [] []) [] =
      ap (λ (x : List ℕ). answer_lines p.number (lines_of x) (derivation_of d) w.text) (sym none) ∙ w.same in
      let last : p.number ≡ length (lines_of s) + 1 = omega (arith, w.number, ap (λ (x : List ℕ). length (lines_of x)) none) in
      subst (Told after end) (λ i. (told_is i).1 ++ end_text (last i) (told_is i).0) (t.is w.text w.stands)
