-- The ends of an accepted log (P5, P7): equal values under every assignment, and the decision says holds of them. Assumes nothing.
use Rattle.std.specs.Prelude.{◌≡◌, refl, true, List, [], ◌∷◌, ◌++◌, ℕ, ◌≤◌, ◌<◌, length, take, drop, T}
use Rattle.std.proofs.Common.{sym, ◌∙◌, ap, subst, append_assoc, arith, length-append, take_at, eq-eqb, le-leb}
use Rattle.std.proofs.Math.Seq.{drop-append_seam}
use Rattle.specification.specs.Results.{Result, given}
use Rattle.specification.specs.Letters.{test_table, good_table}
use Rattle.specification.specs.Terms.{Form}
use Rattle.specification.specs.Records.{write_form, read_form, test_terms, take_both}
use Rattle.specification.specs.Rules.{Step, take_step, test_step_letters, step_in_shape, step_at}
use Rattle.specification.specs.Evaluation.{value, assignment}
use Rattle.specification.specs.Logs.{accepted, check_call, write_steps, write_log, take_steps}
use Rattle.specification.specs.Promises.{EndsAgree, EndsRead, AcceptedEnds}
use Rattle.specification.specs.Decision.{buffer_bytes, work_bytes, Decision, holds, differs, undecided, take_two_forms, decide_tested, DecidedBy, Decided}
use Rattle.theory.specs.Tests.{is_true, given_same, tested, bound}
use Rattle.theory.specs.Shape.Forms.{FormInShape}
use Rattle.theory.specs.Elements.{all_append}
use Rattle.theory.specs.Shape.Letters.{AllKnown, terms_known, known_terms}
use Rattle.theory.proofs.Reduction.Products.{Denotes}
use Rattle.theory.proofs.Rules.Steps.{step-closes, step-admitted, step_keeps}
use Rattle.theory.specs.Records.Positions.{Bytes}
use Rattle.theory.specs.Records.Forms.{form-read_back}
use Rattle.theory.proofs.Records.Logs.{StepsInShape, last_start_of}
use Rattle.theory.proofs.Replay.Accepted.{test_steps, steps_more, tests_more, Derives, Accepted, accepted-derives}

-- ════ equal values

-- steps that are taken one after the other keep value, kind, shape and letters
pub steps-keep : (table : List ℕ) (f : Form) (steps : List Step) (g : Form) → FormInShape f → AllKnown table f.terms
    → StepsInShape steps → test_steps table steps ≡ given tt → take_steps f steps ≡ given g → Denotes table g f.kind (λ σ. value σ f)
unfolding take_steps test_steps
steps-keep table f [] g shape known shapes tests e =
    subst (λ (g : Form). Denotes table g f.kind (λ σ. value σ f)) (given_same e) (record { kind_is = refl; in_shape = shape; known = known; value_is = λ σ. refl })
steps-keep table f (s ∷ ss) g shape known shapes tests e =
    let t = tested (test_step_letters table s) (test_steps table ss) tt tests in
    let r = bound (take_step f s) (λ g. take_steps g ss) g e in
    let d = step_keeps table f s r.0 shape known shapes.0 t.0 r.1 in
    let rest = steps-keep table r.0 ss g d.in_shape d.known shapes.1 t.1 r.2 in
    record { kind_is = rest.kind_is ∙ d.kind_is; in_shape = rest.in_shape; known = rest.known; value_is = λ σ. rest.value_is σ ∙ d.value_is σ }

-- no steps lead from a form to itself
pub derives_none : (table : List ℕ) (f : Form) → T (good_table table) → FormInShape f → test_terms table f.terms ≡ given tt → Derives table f [] f
unfolding take_steps test_steps
derives_none table f good shape letters = record {
  table_good = good;
  in_shape = record { first_form = shape; step_count = omega arith; every_step = tt; last_form = shape };
  first_tested = letters;
  steps_tested = refl;
  last_tested = letters;
  reaches = refl;
}

-- and a step that is admissible at the form reached leads on
pub derives_more : (table : List ℕ) (first : Form) (steps : List Step) (f : Form) (s : Step) (g : Form) → Derives table first steps f → length steps < 64
    → step_at table f s ≡ given g → Derives table first (steps ++ s ∷ []) g
derives_more table first steps f s g d l e =
    let a = step-admitted table f s g e in
    let shapes = all_append (λ (st : Step). T (step_in_shape st)) steps (s ∷ []) d.in_shape.every_step (step-closes s a.shape, tt) in
    let tests = tests_more table steps s d.steps_tested a.known in
    let reaches = steps_more first steps s f g d.reaches a.takes in
    let k = steps-keep table first (steps ++ s ∷ []) g d.in_shape.first_form (terms_known table first.terms d.first_tested) shapes tests reaches in
    record {
      table_good = d.table_good;
      in_shape = record { first_form = d.in_shape.first_form; step_count = omega (arith, length-append steps (s ∷ [])); every_step = shapes; last_form = k.in_shape };
      first_tested = d.first_tested;
      steps_tested = tests;
      last_tested = known_terms table g.terms k.known;
      reaches = reaches;
    }

-- P5: the ends of a derivation have equal values under every assignment, and the same kind
pub derivation-ends : (table : List ℕ) (first : Form) (steps : List Step) (last : Form) → Derives table first steps last → EndsAgree first last
derivation-ends table first steps last d =
    let k = steps-keep table first steps last d.in_shape.first_form (terms_known table first.terms d.first_tested) d.in_shape.every_step d.steps_tested d.reaches in
    record { same_kind = sym k.kind_is; same_value = λ σ. sym (k.value_is σ) }

-- ════ the ends as parts of the log

ends_read : (table s : List ℕ) (a b n : ℕ) (r : Accepted table s a b n) → EndsRead s a b r.first r.last
unfolding write_log
ends_read table s a b n r =
    let u = write_form r.first in
    let v = length r.steps ∷ write_steps r.steps in
    let w = write_form r.last in
    let front : take a s ≡ u = (λ i. take (r.first_end i) (r.is_written i)) ∙ ap (take (length u)) (append_assoc u v w) ∙ take_at u (v ++ w) (length u) refl in
    let start : last_start_of r.first r.steps ≡ length (u ++ v) = simp length-append (omega arith) in
    let back : drop b s ≡ w = (λ i. drop ((r.last_start ∙ start) i) (r.is_written i)) ∙ drop-append_seam (u ++ v) w in
    record {
      first_is = ap read_form front ∙ form-read_back r.first r.derives.in_shape.first_form;
      last_is = ap read_form back ∙ form-read_back r.last r.derives.in_shape.last_form;
    }

-- P7: an accepted log's first and last forms, read as parts of the log, have equal values under every assignment
pub accepted-ends : (table s : List ℕ) (a b n : ℕ) → Bytes s → check_call table s ≡ accepted a b n → AcceptedEnds s a b
accepted-ends table s a b n bs e =
    let r = accepted-derives table s a b n bs e in
    record { first = r.first; last = r.last; are_read = ends_read table s a b n r; agree = derivation-ends table r.first r.steps r.last r.derives }

-- ════ the decision

two_taken : (table s t : List ℕ) (f g : Form) → read_form s ≡ given f → read_form t ≡ given g
    → test_terms table f.terms ≡ given tt → test_terms table g.terms ≡ given tt → f.kind ≡ g.kind → take_two_forms table s t ≡ given (f, g)
unfolding take_two_forms take_both
two_taken table s t f g hs ht hf hg k = simp (hs, ht, hf, hg, eq-eqb f.kind g.kind k)

decide_tested_lem : (table s t buffer work : List ℕ) (p : Form × Form) → good_table table ≡ true → buffer_bytes ≤ length buffer → work_bytes ≤ length work
    → take_two_forms table s t ≡ given p → decide_tested table s t buffer work ≡ given p
unfolding decide_tested test_table
decide_tested_lem table s t buffer work p ht hb hw e = simp (ht, le-leb buffer_bytes (length buffer) hb, le-leb work_bytes (length work) hw, e)

-- P7: the ends of an accepted log, whoever wrote it, decide "holds", where buffer and work bytes are long enough
pub ends-hold : (table log : List ℕ) (a b n : ℕ) → Bytes log → check_call table log ≡ accepted a b n
    → (buffer work buffer' work' : List ℕ) (answer : Decision) → buffer_bytes ≤ length buffer → work_bytes ≤ length work
    → Decided table (take a log) (drop b log) buffer work answer buffer' work' → answer ≡ holds
unfolding Decided DecidedBy
ends-hold table log a b n bs e buffer work buffer' work' answer hb hw d =
    let r = accepted-derives table log a b n bs e in
    let ends = ends_read table log a b n r in
    let agree = derivation-ends table r.first r.steps r.last r.derives in
    let tests = decide_tested_lem table (take a log) (drop b log) buffer work (r.first, r.last) (is_true (good_table table) r.derives.table_good) hb hw
    (two_taken table (take a log) (drop b log) r.first r.last ends.first_is ends.last_is r.derives.first_tested r.derives.last_tested agree.same_kind) in
    said r.first r.last agree answer (subst (λ (t : Result (Form × Form)). DecidedBy t table buffer work answer buffer' work') tests d)
  where
    said : (first last : Form) → EndsAgree first last → (answer : Decision) → DecidedBy (given (first, last)) table buffer work answer buffer' work' → answer ≡ holds
    said first last agree holds d = refl
    said first last agree differs d = absurd (d.unequal (agree.same_value (assignment buffer')))
    said first last agree (undecided m) d = absurd d
