-- A step's bytes at a form, and the state with the step added. Assumes nothing.
use mathlib.Core.Path.{◌≡◌, ap, sym, ◌∙◌, subst}
use mathlib.Core.List.{List}
use Prim.Native.Nat.{ℕ, ◌+◌, ◌≤◌, ◌<◌}
use lib.ListN.{length, take}
use borrow.Author.Tests.{eq-eqb, ne_eqb, lt-ltb, le-ltb}
use Rattle.std.specs.Prelude.{Ok, Err}
use Rattle.std.specs.Prelude as Std
use Rattle.specification.specs.Results.{Result, Test, refused, given}
use Rattle.specification.specs.Rules.{step_at}
use Rattle.specification.specs.Logs.{read_step_at}
use Rattle.specification.specs.OpenLogs.{read_step, step_from, add_to}
use Rattle.specification.specs.OpenLogs as O
use Rattle.theory.specs.Tests.{refused≢given}
use Rattle.refusal.specs.declared.Refusal.{Refusal}
use Rattle.refusal.specs.declared.Refusal.TheVariants.{WrongShape, FullLog}
use Rattle.refusal.specs.Numbers.{number_of}
use Rattle.refusal.specs.Tests.{test_of}
use Rattle.terms.specs.declared.types.Form.{Form}
use Rattle.terms.specs.Abstraction.{form_of}
use Rattle.terms.specs.Valid.{Gives}
use Rattle.terms.proofs.Outcomes.{refuses, works_as, worked_given, worked_refused}
use Rattle.rules.specs.declared.steps.Step.{Step}
use Rattle.rules.specs.Steps.{step_of}
use Rattle.logs.specs.Reading.{step_read_of, StepRead}
use Rattle.open_log.specs.declared.state.State.{State}
use Rattle.open_log.specs.declared.adding.Added.{Added}
use Rattle.open_log.specs.States.{state_of, StateValid}
use Rattle.open_log.specs.Added.{standing, AddedAs}

-- ════ a step's bytes at a form

module _ (table : List ℕ) (f : Form) (s : List ℕ) where
  -- no step record begins there
  pub no_step_lem : (e : Refusal) → StepRead (read_step_at s 0) (Err e) → Gives (step_from table (form_of f) s) (Err e)
  unfolding step_from read_step step_read_of
  no_step_lem e read = refuses (step_from table (form_of f) s) e (rw (← read.is))

  module _ (step : Step) (next : ℕ) (read : StepRead (read_step_at s 0) (Ok (step, next))) where
    step_read : read_step_at s 0 ≡ given (step_of step, next)
    unfolding step_read_of
    step_read = sym read.is

    -- bytes are left over
    pub left_over_lem : (next ≡ length s → ⊥) → Gives (step_from table (form_of f) s) (Err WrongShape)
    unfolding step_from read_step
    left_over_lem l = refuses (step_from table (form_of f) s) WrongShape (simp (step_read, ne_eqb next (length s) l))

    -- the step decides
    pub step_decides : next ≡ length s → (r : Std.Result Form Refusal) → Gives (step_at table (form_of f) (step_of step)) r → Gives (step_from table (form_of f) s) r
    unfolding step_from read_step
    step_decides l r = works_as (step_at table (form_of f) (step_of step)) (step_from table (form_of f) s) r (sym (simp (step_read, eq-eqb next (length s) l)))

-- ════ a step added

module _ {A : Type 0} (before after : A) where
  -- what refused was refused
  pub stood_refused : (x : Result A) (n : ℕ) → (refused n, after) ≡ standing before x → x ≡ refused n
  unfolding standing
  stood_refused (refused m) n e = let q : m ≡ n = cc (ap (λ (p : Test × A). p.0) e) in ap refused q
  stood_refused (given a) n e = absurd (refused≢given (ap (λ (p : Test × A). p.0) e))

  -- what was given stands
  pub stood_given : (x : Result A) → (given tt, after) ≡ standing before x → x ≡ given after
  unfolding standing
  stood_given (refused m) e = absurd (refused≢given (sym (ap (λ (p : Test × A). p.0) e)))
  stood_given (given a) e = ap given (sym (ap (λ (p : Test × A). p.1) e))

module _ (before : State) (s : List ℕ) (valid : StateValid before) where
  -- refused: the state stands
  stands : (e : Refusal) (r : Added) → add_to (state_of before) s ≡ refused (number_of e) → r.answer ≡ Err e → r.state ≡ before → AddedAs (state_of before) s r
  unfolding standing
  stands e r p a g = record {
    is = (λ i. (test_of (a i), state_of (g i))) ∙ ap (standing (state_of before)) (sym p);
    valid = subst StateValid (sym g) valid;
  }

  -- a 65th step
  pub too_many_lem : 64 ≤ before.count → (r : Added) → r.answer ≡ Err FullLog → r.state ≡ before → AddedAs (state_of before) s r
  unfolding add_to state_of
  too_many_lem l r = stands FullLog r (rw (le-ltb before.count 64 l))

  module _ (l : before.count < 64) where
    -- the step is refused
    pub add_refused_lem : (e : Refusal) → Gives (step_from (take before.letters before.table) (form_of before.form) s) (Err e) → (r : Added) → r.answer ≡ Err e → r.state ≡ before
        → AddedAs (state_of before) s r
    unfolding add_to state_of
    add_refused_lem e w r = stands e r (simp (lt-ltb before.count 64 l, worked_refused _ e w))

    -- the step is taken
    pub add_taken : (f : Form) → Gives (step_from (take before.letters before.table) (form_of before.form) s) (Ok f) → (r : Added) → r.answer ≡ Ok tt
        → r.state ≡ record { letters = before.letters; table = before.table; count = before.count + 1; form = f } → AddedAs (state_of before) s r
    unfolding add_to state_of standing
    add_taken f w r a g =
        let next : O.State = record { table = take before.letters before.table; count = before.count + 1; form = form_of f } in
        let e : add_to (state_of before) s ≡ given next = simp (lt-ltb before.count 64 l, worked_given _ f w) in
        record {
          is = (λ i. (test_of (a i), state_of (g i))) ∙ ap (standing (state_of before)) (sym e);
          valid = subst StateValid (sym g) (record { few = valid.few; form = w.valid });
        }
