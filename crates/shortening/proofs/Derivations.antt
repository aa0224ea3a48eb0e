-- One round after the other: the steps taken lead from the first form to the current one, and each saves a term. Assumes nothing.
use mathlib.Core.Path.{◌≡◌, refl, sym, ap, subst, ◌∙◌}
use mathlib.Core.Bool.{true}
use mathlib.Core.List.{List, [], ◌∷◌, ◌++◌, map}
use Prim.Native.Nat.{ℕ, ◌+◌, ◌<◌, ◌≤◌}
use native.Mathlib.Omega.{arith}
use lib.Dec.{T}
use lib.IntN.{ℤ}
use lib.ListN.{length, length-map, length-set, take, set}
use lib.Seq.{length-take-le}
use Rattle.specification.specs.Results.{given}
use Rattle.specification.specs.Terms.{gather, gather_into}
use Rattle.specification.specs.Terms as S
use Rattle.specification.specs.Records.{test_terms}
use Rattle.specification.specs.Rules.{step_in_shape, step_terms, take_step}
use Rattle.specification.specs.Rules as R
use Rattle.specification.specs.Logs.{take_steps}
use Rattle.theory.specs.Elements.{All, all_append}
use Rattle.theory.specs.Shape.Forms.{FormInShape, form-gathered, within_given}
use Rattle.theory.specs.Gathering.Gathered.{gather-onto}
use Rattle.theory.specs.Shape.Letters.{AllKnown, terms_known, known_terms}
use Rattle.theory.proofs.Rules.Steps.{step-closes, step_taken, step-admitted}
use Rattle.theory.proofs.Records.Logs.{StepsInShape}
use Rattle.theory.proofs.Replay.Accepted.{test_steps, steps_more, tests_more}
use Rattle.theory.proofs.Replay.Ends.{steps-keep}
use Rattle.theory.specs.Shortening.Candidates.{NoCandidate}
use Rattle.theory.proofs.Shortening.Completeness.{no_candidate-shortest}
use Rattle.terms.specs.declared.types.Form.{Form}
use Rattle.terms.specs.Abstraction.{form_of}
use Rattle.terms.specs.Valid.{FormValid}
use Rattle.terms.proofs.Arrays.{stored-behind, mapped-behind}
use Rattle.rows.specs.Rows.{run_of, form_by, HeldIn, FormOfRun}
use Rattle.rows.proofs.Runs.{run_length}
use Rattle.rows.proofs.RowForms.{form-valid, held_is}
use Rattle.rules.specs.declared.steps.Step.{Step}
use Rattle.rules.specs.Steps.{step_of, StepValid}
use Rattle.marking.specs.Marks.{Covering}
use Rattle.marks.specs.Steps.{Carried}
use Rattle.std.specs.Prelude.{Option, Some, None, is_some}
use Rattle.searching.specs.declared.searching.Found.{Found}
use Rattle.shortening.specs.declared.rounds.Rounds.{Rounds}
use Rattle.searching.specs.Searching.{Shorter, SearchedBy}
use Rattle.logs.specs.Steps.{steps_of}
use Rattle.shortening.specs.Derived.{Leads, RoundsTaken, Derived}

-- ════ the rounds so far

pub rounds_none : (table : List ℕ) (f g : S.Form) (steps : List Step) → f ≡ g → length steps ≡ 64 → Leads table f steps 0 g
unfolding take_steps test_steps
rounds_none table f g steps q e = record {
  places = e;
  valid = tt;
  saves = omega (arith, ap (λ (h : S.Form). length h.terms) q);
  reaches = ap given q;
  tests = refl;
  in_shape = tt;
}

-- a step that was found is one, wherever the search began
pub found_anywhere : (table : List ℕ) (g : S.Form) (first : ℕ) (r : Option Found) (rows : List (List ℕ)) (coefs : List ℤ)
    → SearchedBy first table g r rows coefs → is_some r ≡ true
    → SearchedBy 0 table g r rows coefs
unfolding SearchedBy
found_anywhere table g first (Some r) rows coefs w e = w
found_anywhere table g first None rows coefs w e = absurd (subst T (sym e) tt)

-- the search that found a step
pub found_is : (table : List ℕ) (g : S.Form) (r : Option Found) (x : Found) (rows : List (List ℕ)) (coefs : List ℤ) → r ≡ Some x
    → SearchedBy 0 table g r rows coefs → SearchedBy 0 table g (Some x) rows coefs
found_is table g r x rows coefs e w = subst (λ (r : Option Found). SearchedBy 0 table g r rows coefs) e w

module _ (table : List ℕ) (f : S.Form) (few : length f.terms ≤ 48) (steps : List Step) (n : ℕ) (g : S.Form) (w : Leads table f steps n g)
    (to : List (List ℕ)) (tos : List ℤ) where
  module _ (r : Found) (sr : SearchedBy 0 table g (Some r) to tos) where
    pub shorter : Shorter table g r to tos
    unfolding SearchedBy
    shorter = sr

    pub round_room : n < 48
    round_room = omega (arith, w.saves, shorter.fewer, few)

    abbrev pub reached : S.Form
    reached = form_by g.kind r.count to tos

    -- its terms are those gathered
    reached-terms : FormInShape g → reached.terms ≡ gather_into g.terms (step_terms (step_of r.step))
    reached-terms v =
        let a = step-admitted table g (step_of r.step) reached shorter.admissible in
        let t = step_taken g (step_of r.step) reached a.takes in
        ap (λ (h : S.Form). h.terms) (within_given g.kind (gather (g.terms ++ step_terms (step_of r.step))) reached t.gathers).is
        ∙ sym (gather-onto g.terms (step_terms (step_of r.step)) (form-gathered g v))

    -- marks carried over the step cover them, wherever they stand
    pub round-covered : FormInShape g → (marks after : List ℕ) → Covering marks g.terms → Carried marks (step_of r.step) after → (rows : List (List ℕ))
        (coefs : List ℤ)
        → run_of r.count rows coefs ≡ run_of r.count to tos → Covering after (run_of r.count rows coefs)
    unfolding Carried
    round-covered v marks after q k rows coefs m = subst (Covering after) (sym (m ∙ reached-terms v)) (k g.terms q)

    pub round_more : Leads table f (set steps n r.step) (n + 1) reached
    round_more =
        let s : R.Step = step_of r.step in
        let a = step-admitted table g s reached shorter.admissible in
        let inside : n < length steps = omega (arith, w.places, round_room) in
        let more : take (n + 1) (set steps n r.step) ≡ take n steps ++ r.step ∷ [] = stored-behind steps n r.step inside in
        let listed : map step_of (take n steps) ++ s ∷ [] ≡ map step_of (take (n + 1) (set steps n r.step)) = sym (ap (map step_of) more
        ∙ mapped-behind step_of (take n steps) r.step) in
        let run = shorter.form.run in
        record {
          places = length-set steps n r.step ∙ w.places;
          valid = subst (All StepValid) (sym more) (all_append StepValid (take n steps) (r.step ∷ []) w.valid (shorter.step, tt));
          saves = omega (arith, w.saves, shorter.fewer, run_length to tos r.count run.room run.beside);
          reaches =
              subst (λ (l : List R.Step). take_steps f l ≡ given reached) listed
              (steps_more f (map step_of (take n steps)) s g reached w.reaches a.takes);
          tests = subst (λ (l : List R.Step). test_steps table l ≡ given tt) listed (tests_more table (map step_of (take n steps)) s w.tests a.known);
          in_shape = subst StepsInShape listed (all_append (λ (st : R.Step). T (step_in_shape st)) (map step_of (take n steps)) (s ∷ []) w.in_shape
              (step-closes s a.shape, tt));
        }

  -- none was found
  pub rounds_end : SearchedBy 0 table g None to tos → AllKnown table g.terms → NoCandidate table g
  unfolding SearchedBy
  rounds_end sr = sr refl

-- ════ by value

module _ (table : List ℕ) (f last : Form) (v : FormValid f) (u : FormValid last) (n : ℕ) (steps : List Step) (few : length (form_of f).terms ≡ f.count)
    (fewer : length (form_of last).terms ≡ last.count)
    (w : Leads table (form_of f) steps n (form_of last)) where
  -- the letters of the form reached are in the table
  last_known_lem : test_terms table (form_of f).terms ≡ given tt → AllKnown table (form_of last).terms
  last_known_lem known =
      (steps-keep table (form_of f) (map step_of (take n steps)) (form_of last) v.in_shape (terms_known table (form_of f).terms known) w.in_shape w.tests
      w.reaches).known

  derived : (AllKnown table (form_of last).terms → NoCandidate table (form_of last)) → Derived table f (record {
    steps = record {
      count = n;
      steps =
          steps;
    };
    last = last;
  })
  unfolding steps_of
  derived none =
      let enough : n ≤ 48 = omega (arith, w.saves, few, v.few) in
      record {
        valid = record { few = enough; steps = record { few = omega (arith, enough); long = w.places; steps = w.valid }; last = u };
        saves = omega (arith, w.saves, few, fewer);
        derives = λ good known. record {
          table_good = good;
          in_shape =
              record {
                first_form = v.in_shape;
                step_count = omega (arith, length-map (take n steps) step_of, length-take-le n steps (omega (arith, w.places, enough)), enough);
                every_step = w.in_shape;
                last_form = u.in_shape;
              };
          first_tested = known;
          steps_tested = w.tests;
          last_tested = known_terms table (form_of last).terms (last_known_lem known);
          reaches = w.reaches;
        };
        shortest = λ known. no_candidate-shortest table (form_of last) u.in_shape (none (last_known_lem known));
      }

-- the form held in rows, the rounds taken there, and what they reach given back
pub rounds-derived : (table : List ℕ) (f last : Form) (rows : List (List ℕ)) (coefs : List ℤ) (r : Rounds) (rows' : List (List ℕ)) (coefs' : List ℤ)
    → FormValid f → HeldIn f rows coefs
    → RoundsTaken table f.kind f.count rows coefs r rows' coefs' → FormOfRun f.kind r.count rows' coefs' last → Derived table f (record {
      steps =
          r.steps;
      last = last;
    })
unfolding form_of
rounds-derived table f last rows coefs r rows' coefs' v h w g =
    let run = w.form.run in
    let start = h.run in
    derived table f last v (form-valid f.kind r.count rows' coefs' last w.form g) r.steps.count r.steps.steps
    (ap length (sym h.is) ∙ run_length rows coefs f.count start.room start.beside)
    (ap (λ (k : S.Form). length k.terms) g.is ∙ run_length rows' coefs' r.count run.room run.beside ∙ sym g.count_is)
    (subst (λ (k : S.Form). Leads table k r.steps.steps r.steps.count (form_of last)) (held_is f rows coefs h)
    (subst (λ (k : S.Form). Leads table (form_by f.kind f.count rows coefs) r.steps.steps r.steps.count k) (sym g.is) w.leads))
    (subst (λ (k : S.Form). AllKnown table k.terms → NoCandidate table k) (sym g.is) w.none)
