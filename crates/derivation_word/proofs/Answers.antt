-- What a line of each kind leaves of a derivation, and what is told for it. Assumes nothing.
use mathlib.Core.Path.{◌≡◌, refl, sym, ◌∙◌, ap, subst}
use mathlib.Core.Bool.{Bool, true, false, true≢false}
use mathlib.Core.List.{List, [], ◌∷◌, ◌++◌, map}
use Prim.Native.Nat.{ℕ, ◌+◌, ◌≤◌, ◌<◌}
use native.Mathlib.Omega.{arith}
use borrow.Author.Tests.{ne_eqb, le-leb, lt-leb}
use lib.Dec.{T, ltb, ltb→lt}
use lib.ListN.{length, take, drop, set, length-set, length-map}
use lib.Seq.{length-take-le, take_at}
use Rattle.specification.specs.Results.{Result, refused, given, when◌then◌else◌}
use Rattle.specification.specs.Records.{write_into}
use Rattle.specification.specs.Rules as R
use Rattle.specification.specs.Logs as L
use Rattle.specification.specs.Logs.{write_step}
use Rattle.specification.specs.OpenLogs.{step_from, add_to}
use Rattle.specification.specs.OpenLogs as O
use Rattle.specification.specs.Text.{Placed, refused_at, placed, skip}
use Rattle.specification.specs.Lines.{declared}
use Rattle.specification.specs.LogTexts.{form_line, read_form_line, is_step_line, read_step_line}
use Rattle.specification.specs.Commands.{refusal_text, checked_text, unopened, underway, line_read, names_answer, read_first, first_answer, read_one_step, step_refused, step_answer}
use Rattle.specification.specs.Commands as C
use Rattle.theory.specs.Tests.{past, into, given_same}
use Rattle.theory.specs.Elements.{All, all_append}
use Rattle.theory.specs.Text.LineColumns.{ColumnWithin}
use Rattle.theory.specs.Text.GoodNames.{GoodSoFar, declared_good}
use Rattle.theory.proofs.Text.Derivations.{step-line-shape, Leading, Going, first_goes, step-goes, declared-within, first_within, one_step-within}
use Rattle.theory.specs.Text.Columns.{refused≢placed}
use Rattle.terms.specs.declared.types.Form.{Form}
use Rattle.terms.specs.Abstraction.{form_of}
use Rattle.terms.specs.Valid.{FormValid}
use Rattle.terms.proofs.Arrays.{stored-behind, mapped-behind}
use Rattle.record_writing.specs.Written.{Written}
use Rattle.forms.proofs.Forms.{front_is}
use Rattle.rules.specs.declared.steps.Step.{Step}
use Rattle.rules.specs.Steps.{step_of, StepValid}
use Rattle.logs.specs.declared.steps.Steps.{Steps}
use Rattle.logs.specs.Steps.{steps_of, StepsValid}
use Rattle.symbols.specs.Printable.{Printable}
use Rattle.printing.proofs.Named.{printable}
use Rattle.log_lines.specs.Printed.{StepsPrintable}
use Rattle.log_lines.proofs.Named.{steps-printable}
use Rattle.formulas.specs.Readings.{Named}
use Rattle.formula_call.specs.Texts.{TextGives}
use Rattle.std.specs.Prelude.{Ok, Err}
use Rattle.std.specs.Prelude as Std
use Rattle.refusal.specs.declared.Refusal.{Refusal}
use Rattle.refusal.specs.declared.Refusal.TheVariants.{BadTable, Torn}
use Rattle.refusal.specs.Numbers.{number_of}
use Rattle.refusal.specs.Tests.{test_of}
use Rattle.texts.specs.declared.Unread.{Unread}
use Rattle.declarations.specs.Names.{named_of, NamesRead}
use Rattle.log_texts.specs.Steps.{StepLineRead}
use Rattle.open_log.specs.declared.adding.Added.{Added}
use Rattle.open_log.specs.States.{state_of, StateValid}
use Rattle.open_log.specs.Added.{AddedAs}
use Rattle.open_log.proofs.Additions.{stood_refused, stood_given}
use Rattle.telling.specs.Told.{Tells}
use Rattle.telling.proofs.Pieces.{tells-nothing}
use Rattle.derivation_word.specs.declared.reading.Derivation.{Derivation}
use Rattle.derivation_word.specs.Derivations.{names_of, kinds_of, derivation_of, DerivationValid, LineTold, StepTyped, StepAdded}

-- ════ a derivation by its parts

module _ (d : Derivation) (valid : DerivationValid d) where
  -- there are as many names as kinds, and no more than 24
  pub names-long : length (names_of d) ≡ d.state.letters
  unfolding names_of
  names-long = length-take-le d.state.letters d.names (omega (arith, valid.few, valid.named))

  pub kinds-long : length (kinds_of d) ≡ d.state.letters
  unfolding kinds_of
  kinds-long = length-take-le d.state.letters d.state.table (omega (arith, valid.few, valid.kinds))

  pub names_fit : Named (names_of d) (kinds_of d)
  names_fit = record { fit = omega (arith, names-long, kinds-long); few = omega (arith, kinds-long, valid.few) }

  -- not open yet
  module _ (e : d.begun ≡ false) where
    not_open : derivation_of d ≡ unopened (names_of d) (kinds_of d)
    unfolding derivation_of
    not_open = rw e

    good : GoodSoFar (names_of d, kinds_of d)
    unfolding Going
    good = subst Going not_open valid.going

  -- open
  module _ (e : d.begun ≡ true) where
    pub is_open : derivation_of d ≡ underway (names_of d) (form_of d.first) (state_of d.state) (steps_of d.steps)
    unfolding derivation_of
    is_open = rw e

    pub leading : Leading (names_of d) (form_of d.first) (state_of d.state) (steps_of d.steps)
    unfolding Going
    leading = subst Going is_open valid.going

    -- as many steps as are counted
    pub steps-counted : d.state.count ≡ d.steps.count
    unfolding state_of steps_of
    steps-counted =
        let v = (valid.whole e).steps in
        leading.counted ∙ length-map (take d.steps.count d.steps.steps) step_of ∙ length-take-le d.steps.count d.steps.steps (omega (arith, v.few, v.long))

    pub count_small : d.state.count ≤ 64
    count_small = omega (arith, steps-counted, (valid.whole e).steps.few)

    pub state-valid : StateValid d.state
    state-valid = record { few = valid.few; form = (valid.whole e).form }

    -- what is told at the end can be told
    pub log_tellable : Printable (names_of d) d.first × StepsPrintable (names_of d) d.steps × Printable (names_of d) d.state.form
    unfolding state_of kinds_of
    log_tellable =
        let many : length (kinds_of d) ≤ length (names_of d) = omega (arith, names-long, kinds-long) in
        let w = valid.whole e in
        let g = leading.derives in (
          printable (kinds_of d) (names_of d) many d.first w.first g.first_tested,
          steps-printable (kinds_of d) (names_of d) many d.steps w.steps g.steps_tested,
          printable (kinds_of d) (names_of d) many d.state.form w.form g.last_tested,
        )

-- ════ a line that is refused

-- its column is in the line
pub column_in : {A : Type 0} (line : List ℕ) (x : Placed A) (n c : ℕ) → ColumnWithin line x → x ≡ refused_at n c → c ≤ length line
unfolding ColumnWithin
column_in line x n c h e = subst (ColumnWithin line) e h

-- and leaves all as before
pub refused_line : {A : Type 0} (d : Derivation) → DerivationValid d → (k : ℕ) (line before after : List ℕ) (at : ℕ) (x : Placed A) (answer : A → C.Derivation × List ℕ) (n c end : ℕ)
    → x ≡ refused_at n c → Tells before after at end (refusal_text n k c line)
    → LineTold (line_read k line (derivation_of d) x answer) before after at (record { derivation = d; end = end })
unfolding line_read
refused_line d valid k line before after at x answer n c end e t =
    subst (λ y. LineTold (line_read k line (derivation_of d) y answer) before after at (record { derivation = d; end = end })) (sym e)
    (record { is = refl; tells = t; valid = valid })

-- ════ names

module _ (d : Derivation) (valid : DerivationValid d) (e : d.begun ≡ false) (k : ℕ) (line : List ℕ) (names table : List ℕ) where
  -- refused
  module _ (r : Unread) (read : NamesRead (declared line (names_of d, kinds_of d)) (Err r) names table) where
    pub names-column : r.column ≤ length line
    names-column = column_in line (declared line (names_of d, kinds_of d)) (number_of r.why) r.column (declared-within line (names_of d, kinds_of d)) read.is

    pub names_refused : (n : ℕ) → n ≡ number_of r.why → (before after : List ℕ) (at end : ℕ) → Tells before after at end (refusal_text n k r.column line)
        → LineTold (line_read k line (derivation_of d) (declared line (names_of d, kinds_of d)) names_answer) before after at (record { derivation = d; end = end })
    names_refused n q before after at end t =
        refused_line d valid k line before after at (declared line (names_of d, kinds_of d)) names_answer n r.column end
        (read.is ∙ ap (λ (m : ℕ). refused_at m r.column) (sym q)) t

  -- taken
  pub names_taken : (n : ℕ) → NamesRead (declared line (names_of d, kinds_of d)) (Ok n) names table → (out : List ℕ) (at : ℕ) (form first : Form) (steps : Steps)
      → length names ≡ 24 → length table ≡ 24
      → LineTold (line_read k line (derivation_of d) (declared line (names_of d, kinds_of d)) names_answer) out out at
      (record {
        derivation = record { begun = false; names = names; state = record { letters = n; table = table; count = 0; form = form }; first = first; steps = steps };
        end = at;
      })
  unfolding line_read names_answer derivation_of names_of kinds_of Going
  names_taken n read out at form first steps long_names long_table =
      let next : Derivation =
      record { begun = false; names = names; state = record { letters = n; table = table; count = 0; form = form }; first = first; steps = steps } in
      let q = read.is in
      let g : GoodSoFar (named_of n names table) = declared_good line (names_of d, kinds_of d) (named_of n names table) (good d valid e) q in
      subst (λ x. LineTold (line_read k line (derivation_of d) x names_answer) out out at (record { derivation = next; end = at })) (sym q)
      (record {
        is = refl;
        tells = tells-nothing out at;
        valid = record { few = read.few; named = long_names; kinds = long_table; going = g; whole = λ t. absurd (true≢false (sym t)) };
      })

-- ════ the first form

module _ (names table line : List ℕ) where
  -- no names
  pub first_nameless : length names ≡ 0 → TextGives (read_first names table line) (Err (record { why = BadTable; column = 0 }))
  unfolding read_first
  first_nameless e = record { is = rw (lt-leb 1 (length names) (omega arith)); valid = tt }

  pub first_named : (r : Std.Result Form Unread) → (length names ≡ 0 → ⊥) → TextGives (read_form_line names table line) r → TextGives (read_first names table line) r
  unfolding read_first
  first_named r e g = record { is = g.is ∙ sym (rw (le-leb 1 (length names) (omega arith))); valid = g.valid }

module _ (d : Derivation) (valid : DerivationValid d) (e : d.begun ≡ false) (k : ℕ) (line : List ℕ) where
  module _ (r : Unread) (g : TextGives (read_first (names_of d) (kinds_of d) line) (Err r)) where
    pub first_column : r.column ≤ length line
    first_column =
        column_in line (read_first (names_of d) (kinds_of d) line) (number_of r.why) r.column (first_within (names_of d) (kinds_of d) line) (sym g.is)

    pub first_refused : (n : ℕ) → n ≡ number_of r.why → (before after : List ℕ) (at end : ℕ) → Tells before after at end (refusal_text n k r.column line)
        → LineTold (line_read k line (derivation_of d) (read_first (names_of d) (kinds_of d) line) (first_answer (names_of d) (kinds_of d))) before after at
        (record { derivation = d; end = end })
    first_refused n q before after at end t =
        refused_line d valid k line before after at (read_first (names_of d) (kinds_of d) line) (first_answer (names_of d) (kinds_of d)) n r.column end
        (sym g.is ∙ ap (λ (m : ℕ). refused_at m r.column) (sym q)) t

  module _ (f : Form) (g : TextGives (read_first (names_of d) (kinds_of d) line) (Ok f)) where
    first-is : read_first (names_of d) (kinds_of d) line ≡ placed (form_of f)
    first-is = sym g.is

    opens : Leading (names_of d) (form_of f) (record { table = kinds_of d; count = 0; form = form_of f }) []
    opens = first_goes (names_of d) (kinds_of d) line (form_of f) (good d valid e) first-is

    pub first_printable : Printable (names_of d) f
    first_printable =
        printable (kinds_of d) (names_of d) (omega (arith, names-long d valid, kinds-long d valid)) f g.valid opens.derives.first_tested

    pub first_taken : (before after : List ℕ) (at end : ℕ) (steps : Steps) → steps.count ≡ 0 → length steps.steps ≡ 64
        → Tells before after at end (form_line (names_of d) (form_of f))
        → LineTold (line_read k line (derivation_of d) (read_first (names_of d) (kinds_of d) line) (first_answer (names_of d) (kinds_of d))) before after at
        (record {
          derivation = record {
            begun = true;
            names = d.names;
            state = record { letters = d.state.letters; table = d.state.table; count = 0; form = f };
            first = f;
            steps = steps;
          };
          end = end;
        })
    unfolding line_read first_answer derivation_of names_of kinds_of state_of steps_of Going
    first_taken before after at end steps none places tells =
        let next : Derivation = record {
          begun = true;
          names = d.names;
          state = record { letters = d.state.letters; table = d.state.table; count = 0; form = f };
          first = f;
          steps = steps;
        } in
        let nothing : map step_of (take steps.count steps.steps) ≡ [] = ap (λ (n : ℕ). map step_of (take n steps.steps)) none in
        let same : derivation_of next ≡ underway (names_of d) (form_of f) (record { table = kinds_of d; count = 0; form = form_of f }) [] =
        ap (underway (names_of d) (form_of f) (record { table = kinds_of d; count = 0; form = form_of f })) nothing in
        let shapes : StepsValid steps = record { few = omega (arith, none); long = places; steps = subst (λ (n : ℕ). All StepValid (take n steps.steps)) (sym none) tt } in
        subst (λ x. LineTold (line_read k line (derivation_of d) x (first_answer (names_of d) (kinds_of d))) before after at (record { derivation = next; end = end })) (sym first-is)
        (record {
          is = same;
          tells = tells;
          valid = record {
            few = valid.few;
            named = valid.named;
            kinds = valid.kinds;
            going = subst Going (sym same) opens;
            whole = λ _. record { first = g.valid; form = g.valid; steps = shapes };
          };
        })

-- ════ a step

-- the line is none
pub step-none : (names table line : List ℕ) (b : Bool) (at : ℕ) → b ≡ is_step_line line → b ≡ false → at ≡ skip line 0
    → StepTyped (read_one_step names table line) (Err (record { why = Torn; column = at }))
unfolding read_one_step
step-none names table line b at e h c = record { is = rw (sym e ∙ h, c); valid = tt }

pub step-some : (names table line : List ℕ) (b : Bool) (r : Std.Result Step Unread) → b ≡ is_step_line line → b ≡ true → StepLineRead names table line r → StepTyped (read_one_step names table line) r
unfolding read_one_step
step-some names table line b r e h read =
    let same : read_one_step names table line ≡ read_step_line names table line = rw (sym e ∙ h) in
    record { is = same ∙ read.is; valid = read.valid }

-- what was written in front of bytes
pub record-front : (l m : List ℕ) (n : ℕ) (xs : List ℕ) → Written l m 0 n xs → take n m ≡ xs
unfolding write_into
record-front l m n xs w =
    (λ i. take (w.ends i) (w.bytes i)) ∙ ap (take (0 + length xs)) (front_is l xs) ∙ take_at xs (drop (length xs) l) (0 + length xs) (omega arith)

-- one step more stored behind the others
pub step-stored : (d : Derivation) → DerivationValid d → (e : d.begun ≡ true) → d.state.count < 64 → (step : Step) → StepValid step → (f : Form)
    → StepAdded d step f (record {
      begun = true;
      names = d.names;
      state = record { letters = d.state.letters; table = d.state.table; count = d.state.count + 1; form = f };
      first = d.first;
      steps = record { count = d.state.count + 1; steps = set d.steps.steps d.state.count step };
    })
unfolding derivation_of names_of kinds_of state_of steps_of
step-stored d valid e few step v f =
    let n = d.state.count in
    let w = (valid.whole e).steps in
    let counted : n ≡ d.steps.count = steps-counted d valid e in
    let inside : n < length d.steps.steps = omega (arith, w.long) in
    let behind : take (n + 1) (set d.steps.steps n step) ≡ take n d.steps.steps ++ step ∷ [] = stored-behind d.steps.steps n step inside in
    let listed : map step_of (take (n + 1) (set d.steps.steps n step)) ≡ map step_of (take d.steps.count d.steps.steps) ++ step_of step ∷ [] =
    ap (map step_of) behind ∙ mapped-behind step_of (take n d.steps.steps) step
    ∙ ap (λ (m : ℕ). map step_of (take m d.steps.steps) ++ step_of step ∷ []) counted in
    record {
      is = ap (underway (names_of d) (form_of d.first) (record { table = kinds_of d; count = n + 1; form = form_of f })) listed;
      few = valid.few;
      named = valid.named;
      kinds = valid.kinds;
      first = refl;
      form = refl;
      steps = record {
        few = omega arith;
        long = length-set d.steps.steps n step ∙ w.long;
        steps = subst (All StepValid) (sym behind)
            (all_append StepValid (take n d.steps.steps) (step ∷ []) (subst (λ (m : ℕ). All StepValid (take m d.steps.steps)) (sym counted) w.steps) (v, tt));
      };
    }

module _ (d : Derivation) (valid : DerivationValid d) (e : d.begun ≡ true) (k : ℕ) (line : List ℕ) where
  -- what is done with a step
  abbrev added : R.Step → C.Derivation × List ℕ
  added step = step_answer (names_of d) (form_of d.first) (state_of d.state) (steps_of d.steps) step (add_to (state_of d.state) (write_step step))

  module _ (r : Unread) (typed : StepTyped (read_one_step (names_of d) (kinds_of d) line) (Err r)) where
    pub step-column : r.column ≤ length line
    step-column =
        column_in line (read_one_step (names_of d) (kinds_of d) line) (number_of r.why) r.column (one_step-within (names_of d) (kinds_of d) line) typed.is

    pub step_unread : (n : ℕ) → n ≡ number_of r.why → (before after : List ℕ) (at end : ℕ) → Tells before after at end (refusal_text n k r.column line)
        → LineTold (line_read k line (derivation_of d) (read_one_step (names_of d) (kinds_of d) line) added) before after at (record { derivation = d; end = end })
    step_unread n w before after at end t =
        refused_line d valid k line before after at (read_one_step (names_of d) (kinds_of d) line) added n r.column end
        (typed.is ∙ ap (λ (m : ℕ). refused_at m r.column) (sym w)) t

  module _ (q : Step) (typed : StepTyped (read_one_step (names_of d) (kinds_of d) line) (Ok q)) (a : Added) (was : AddedAs (state_of d.state) (write_step (step_of q)) a) where
    by-added : (end : ℕ) (before after : List ℕ) (at : ℕ) (next : Derivation) (x : Result O.State) → add_to (state_of d.state) (write_step (step_of q)) ≡ x
        → LineTold (step_answer (names_of d) (form_of d.first) (state_of d.state) (steps_of d.steps) (step_of q) x) before after at (record { derivation = next; end = end })
        → LineTold (line_read k line (derivation_of d) (read_one_step (names_of d) (kinds_of d) line) added) before after at (record { derivation = next; end = end })
    unfolding line_read
    by-added end before after at next x s t =
        subst (λ y. LineTold (line_read k line (derivation_of d) y added) before after at (record { derivation = next; end = end })) (sym typed.is)
        (subst (λ y. LineTold (step_answer (names_of d) (form_of d.first) (state_of d.state) (steps_of d.steps) (step_of q) y) before after at (record { derivation = next; end = end }))
        (sym s) t)

    -- the step is refused
    pub add_refused_lem : (w : Refusal) → a.answer ≡ Err w → (n : ℕ) → n ≡ number_of w → (before after : List ℕ) (at end : ℕ) → Tells before after at end (checked_text 0 0 (L.refused_at n (d.state.count + 1)))
        → LineTold (line_read k line (derivation_of d) (read_one_step (names_of d) (kinds_of d) line) added) before after at (record { derivation = d; end = end })
    unfolding step_refused step_answer state_of
    add_refused_lem w h n m before after at end t =
        let s = stood_refused (state_of d.state) (state_of a.state) (add_to (state_of d.state) (write_step (step_of q))) (number_of w)
        (ap (λ (x : Std.Result (Unit {0}) Refusal). (test_of x, state_of a.state)) (sym h) ∙ was.is) in
        by-added end before after at d (refused (number_of w)) s (record {
          is = is_open d valid e;
          tells = subst (λ (j : ℕ). Tells before after at end (checked_text 0 0 (L.refused_at j (d.state.count + 1)))) m t;
          valid = valid;
        })

    -- it is taken
    module _ (u : Unit {0}) (h : a.answer ≡ Ok u) where
      add_given : add_to (state_of d.state) (write_step (step_of q)) ≡ given (state_of a.state)
      add_given =
          stood_given (state_of d.state) (state_of a.state) (add_to (state_of d.state) (write_step (step_of q)))
          (ap (λ (x : Std.Result (Unit {0}) Refusal). (test_of x, state_of a.state)) (sym h) ∙ was.is)

      -- there was room for it
      pub add-room : d.state.count < 64
      unfolding add_to state_of
      add-room = past (ltb d.state.count 64) 14 _ (state_of a.state) add_given λ l _. ltb→lt d.state.count 64 l

      -- the table stands, and one step more is taken
      reached_is : state_of a.state ≡ record { table = kinds_of d; count = d.state.count + 1; form = form_of a.state.form }
      unfolding add_to state_of kinds_of
      reached_is =
          past (ltb d.state.count 64) 14 _ (state_of a.state) add_given λ _ e₁.
          into (step_from (kinds_of d) (form_of d.state.form) (write_step (step_of q))) _ (state_of a.state) e₁ λ reached _ e₃.
          let same = given_same e₃ in
          let form : reached ≡ form_of a.state.form = ap (λ (s : O.State). s.form) same in
          sym same ∙ ap (λ f. record { table = kinds_of d; count = d.state.count + 1; form = f }) form

      -- the step of a line is in shape
      in_shape_lem : T (R.step_in_shape (step_of q))
      unfolding read_one_step state_of kinds_of
      in_shape_lem = go (is_step_line line) typed.is
        where
          go : (b : Bool) → (when b then read_step_line (names_of d) (kinds_of d) line else refused_at 4 (skip line 0)) ≡ placed (step_of q) → T (R.step_in_shape (step_of q))
          go false p = absurd (refused≢placed p)
          go true p = step-line-shape (names_of d) (kinds_of d) (leading d valid e).derives.table_good (leading d valid e).names_good line (step_of q) p

      leads : Leading (names_of d) (form_of d.first) (record { table = kinds_of d; count = d.state.count + 1; form = form_of a.state.form })
          (steps_of d.steps ++ step_of q ∷ [])
      leads =
          subst (λ (s : O.State). Leading (names_of d) (form_of d.first) s (steps_of d.steps ++ step_of q ∷ [])) reached_is
          (step-goes (names_of d) (form_of d.first) (state_of d.state) (steps_of d.steps) (step_of q) (state_of a.state) (leading d valid e) in_shape_lem add_given)

      pub reached-printable : Printable (names_of d) a.state.form
      reached-printable =
          printable (kinds_of d) (names_of d) (omega (arith, names-long d valid, kinds-long d valid)) a.state.form was.valid.form leads.derives.last_tested

      pub add_taken : (before after : List ℕ) (at end : ℕ) (next : Derivation) → StepAdded d q a.state.form next
          → Tells before after at end (form_line (names_of d) (form_of a.state.form))
          → LineTold (line_read k line (derivation_of d) (read_one_step (names_of d) (kinds_of d) line) added) before after at (record { derivation = next; end = end })
      unfolding step_answer state_of Going
      add_taken before after at end next more t =
          by-added end before after at next (given (state_of a.state)) add_given (record {
            is = more.is
                ∙ ap (λ (s : O.State). underway (names_of d) (form_of d.first) s (steps_of d.steps ++ step_of q ∷ [])) (sym reached_is);
            tells = t;
            valid = record {
              few = more.few;
              named = more.named;
              kinds = more.kinds;
              going = subst Going (sym more.is) leads;
              whole = λ _. record {
                first = subst FormValid (sym more.first) (valid.whole e).first;
                form = subst FormValid (sym more.form) was.valid.form;
                steps = more.steps;
              };
            };
          })
