-- Steps tested and taken one after the other, and forms compared term by term. Assumes nothing.
use mathlib.Core.Path.{◌≡◌, refl, ap, sym, ◌∙◌}
use mathlib.Core.Bool.{Bool, true, false, ◌&&◌}
use mathlib.Core.List.{List, [], ◌∷◌, map}
use Prim.Native.Nat.{ℕ, suc, ◌+◌, ◌<◌, ◌≤◌}
use borrow.Author.Tests.{eq-eqb, ne_eqb}
use lib.Dec.{compare_is_eq}
use lib.IntN.{ℤ}
use lib.ListN.{length, get_or, take, drop, length-map, drop_of_length-le}
use lib.Seq.{length-take-le}
use Rattle.specification.specs.Results.{Result, refused, given, when◌then◌else◌}
use Rattle.specification.specs.Terms.{compare_terms}
use Rattle.specification.specs.Terms as S
use Rattle.specification.specs.Rules.{take_step}
use Rattle.specification.specs.Logs.{Log, refused_at, accepted, at_step, replay, same_coef, same_terms, same_form}
use Rattle.specification.specs.Logs as L
use Rattle.theory.specs.Tests.{and-false}
use Rattle.terms.specs.declared.types.Term.{Term}
use Rattle.terms.specs.declared.types.Form.{Form}
use Rattle.std.specs.declared.cmp.Ordering.{Ordering}
use Rattle.std.specs.Prelude.{Ok, Err}
use Rattle.std.specs.Prelude as Std
use Rattle.refusal.specs.declared.Refusal.{Refusal}
use Rattle.refusal.specs.declared.Refusal.TheVariants.{OtherForm}
use Rattle.refusal.specs.Numbers.{number_of}
use Rattle.refusal.specs.Tests.{answer_of}
use Rattle.logs.specs.declared.steps.RefusedAt.{RefusedAt}
use Rattle.logs.specs.Steps as Steps
use Rattle.logs.proofs.AtSteps.{ends_at, goes_on_at}
use Rattle.terms.specs.Abstraction.{term_of, form_of, ordering_of}
use Rattle.terms.proofs.Arrays.{no_term, rest_at, map-drop}
use Rattle.rows.specs.Rows.{term_by, form_by}
use Rattle.rules.specs.declared.steps.Step.{Step}
use Rattle.logs.specs.Steps.{steps_of, found_of}
use Rattle.logs.proofs.StepLetters.{steps_from, here, one_left, none_left}
use Rattle.logs.specs.declared.steps.Steps.{Steps}
use Rattle.replaying.specs.Replaying.{same_term, ReachedAs, ReplayedAs}

-- ════ steps taken

module _ (q : List Step) (n i : ℕ) (h : n ≤ length q) where
  module _ (current : S.Form) (k : ℕ) (log : Log) (g : i < n) {A : Type 0} (see : A → S.Form) (r : Std.Result A Refusal)
      (e : answer_of see r ≡ take_step current (here q n i h)) where
    by_step : replay log k current (steps_from q n i) ≡ at_step k (answer_of see r) (λ f. replay log (k + 1) f (steps_from q n (i + 1)))
    unfolding replay
    by_step = ap (replay log k current) (one_left q n i h g) ∙ ap (λ (x : Result S.Form). at_step k x (λ f. replay log (k + 1) f (steps_from q n (i + 1)))) (sym e)

    -- the step at a place is refused
    pub step-fails : (w : RefusedAt) → Err w ≡ Steps.at_step r k → replay log k current (steps_from q n i) ≡ refused_at (number_of w.why) w.step
    step-fails w z = by_step ∙ ends_at see k _ r w z

    -- or it reaches a form
    pub step-reaches : (a : A) → Ok a ≡ Steps.at_step r k → replay log k current (steps_from q n i) ≡ replay log (k + 1) (see a) (steps_from q n (i + 1))
    step-reaches a z = by_step ∙ goes_on_at see k _ r a z

  -- all steps are taken
  pub all_taken : n ≤ i → (log : Log) (k : ℕ) (f : S.Form) → replay log k f (steps_from q n i) ≡ replay log k f []
  all_taken g log k f = ap (replay log k f) (none_left q n i h g)

-- ════ one form

-- a term is that of a row where coefficient and order say so
pub row_same : (t : Term) (v u : List ℕ) (c : ℤ) (b : Bool) (o : Ordering) → b ≡ same_coef t.coef c → b ≡ true → term_by v t.coef ≡ term_of t
    → ordering_of o ≡ compare_terms (term_by v t.coef) (term_by u c) → compare_is_eq (ordering_of o) ≡ same_term (term_of t) (term_by u c)
unfolding same_term term_of term_by
row_same t v u c b o e z q p = λ i. (sym z ∙ e) i && compare_is_eq ((p ∙ ap (λ (x : S.Term). compare_terms x (term_by u c)) q) i)

-- or not the same
pub coef-other : (t : Term) (u : List ℕ) (c : ℤ) (b : Bool) → b ≡ same_coef t.coef c → b ≡ false → false ≡ same_term (term_of t) (term_by u c)
unfolding same_term term_of term_by
coef-other t u c b e z = ap (λ (x : Bool). x && compare_is_eq (compare_terms (term_of t) (term_by u c))) (sym z ∙ e)

-- lists of unlike lengths
lengths_differ : (ts us : List S.Term) → (length ts ≡ length us → ⊥) → same_terms ts us ≡ false
unfolding same_terms
lengths_differ [] [] h = absurd (h refl)
lengths_differ [] (u ∷ us) h = refl
lengths_differ (t ∷ ts) [] h = refl
lengths_differ (t ∷ ts) (u ∷ us) h =
    ap (λ (b : Bool). (same_coef t.coef u.coef && compare_is_eq (compare_terms t u)) && b) (lengths_differ ts us (λ e. h (ap suc e)))
    ∙ and-false (same_coef t.coef u.coef && compare_is_eq (compare_terms t u))

module _ (f : Form) (kind : ℕ) (us : List S.Term) where
  -- another kind
  pub kind-other : (f.kind ≡ kind → ⊥) → false ≡ same_form (form_of f) (record { kind = kind; terms = us })
  unfolding same_form form_of
  kind-other h = rw (ne_eqb f.kind kind h)

  module _ (k : f.kind ≡ kind) where
    -- the terms decide
    pub by-terms : same_form (form_of f) (record { kind = kind; terms = us }) ≡ same_terms (form_of f).terms us
    unfolding same_form form_of
    by-terms = rw (eq-eqb f.kind kind k)

    -- another count
    pub count_other : (length (form_of f).terms ≡ length us → ⊥) → false ≡ same_form (form_of f) (record { kind = kind; terms = us })
    count_other h = sym (by-terms ∙ lengths_differ (form_of f).terms us h)

-- as many terms as are counted
pub form-length : (f : Form) → f.count ≤ length f.terms → length (form_of f).terms ≡ f.count
unfolding form_of
form-length f h = length-map (take f.count f.terms) term_of ∙ length-take-le f.count f.terms h

-- the first of those from a place on
pub form-at : (f : Form) (i : ℕ) → f.count ≤ length f.terms → i < f.count → drop i (form_of f).terms ≡ term_of (get_or f.terms i no_term) ∷ drop (i + 1)
    (form_of f).terms
unfolding form_of
form-at f i h g =
    sym (map-drop term_of i (take f.count f.terms)) ∙ ap (map term_of) (rest_at f.terms f.count i no_term h g)
    ∙ ap (λ (l : List S.Term). term_of (get_or f.terms i no_term) ∷ l) (map-drop term_of (i + 1) (take f.count f.terms))

module _ (ts us : List S.Term) (i : ℕ) where
  module _ (t u : S.Term) (ht : drop i ts ≡ t ∷ drop (i + 1) ts) (hu : drop i us ≡ u ∷ drop (i + 1) us) where
    one_pair : same_terms (drop i ts) (drop i us) ≡ (same_term t u && same_terms (drop (i + 1) ts) (drop (i + 1) us))
    unfolding same_terms same_term
    one_pair = λ j. same_terms (ht j) (hu j)

    -- a pair of terms differs
    pub pair-differs : (b : Bool) → b ≡ same_term t u → b ≡ false → same_terms (drop i ts) (drop i us) ≡ false
    pair-differs b e z = one_pair ∙ ap (λ (x : Bool). x && same_terms (drop (i + 1) ts) (drop (i + 1) us)) (sym e ∙ z)

    -- or the others decide
    pub pair_same : (b : Bool) → b ≡ same_term t u → b ≡ true → same_terms (drop i ts) (drop i us) ≡ same_terms (drop (i + 1) ts) (drop (i + 1) us)
    pair_same b e z = one_pair ∙ ap (λ (x : Bool). x && same_terms (drop (i + 1) ts) (drop (i + 1) us)) (sym e ∙ z)

  -- no pair differs
  pub all_same : length ts ≤ i → length us ≤ i → same_terms (drop i ts) (drop i us) ≡ true
  unfolding same_terms
  all_same ht hu = rw (drop_of_length-le ts ht, drop_of_length-le us hu)

-- ════ the form reached

module _ (f last : Form) (q : Steps) (n : ℕ) (rows : List (List ℕ)) (coefs : List ℤ) (rows' : List (List ℕ)) (coefs' : List ℤ)
    (e : form_by f.kind n rows coefs ≡ form_of f) where
  -- none: a step is refused
  pub not-replayed : (w : RefusedAt) → ReachedAs f.kind n rows coefs q (Err w) rows' coefs' → ReplayedAs f q last (Err w)
  unfolding found_of
  not-replayed w h = record { is = λ log l. ap (λ (g : S.Form). replay log 1 g (steps_of q)) (sym e) ∙ h.is log }

  module _ (m : ℕ) (w : ReachedAs f.kind n rows coefs q (Ok m) rows' coefs') (b : Bool) (o : b ≡ same_form (form_of last) (form_by f.kind m rows' coefs')) where
    compared : (log : Log) → log.last ≡ form_of last
        → replay log 1 (form_of f) (steps_of q) ≡ (when b then accepted log.first_end log.last_start (length log.steps) else refused_at 13 (q.count + 1))
    unfolding found_of replay
    compared log l = ap (λ (g : S.Form). replay log 1 g (steps_of q)) (sym e) ∙ w.is log
        ∙ (λ i. when (ap (λ (g : S.Form). same_form g (form_by f.kind m rows' coefs')) l ∙ sym o) i then accepted log.first_end log.last_start
        (length log.steps) else refused_at 13 (q.count + 1))

    -- the last is reached
    pub replayed : b ≡ true → ReplayedAs f q last (Ok tt)
    unfolding found_of
    replayed h = record { is = λ log l. compared log l ∙ rw h }

    -- another is
    pub other-reached : b ≡ false → ReplayedAs f q last (Err (record { why = OtherForm; step = q.count + 1 }))
    unfolding found_of
    other-reached h = record { is = λ log l. compared log l ∙ rw h }
