-- The decision from its tests, in their order. Assumes nothing.
use mathlib.Core.Path.{◌≡◌, refl, sym, ◌∙◌, subst}
use mathlib.Core.Bool.{◌&&◌}
use mathlib.Core.List.{List}
use Prim.Native.Nat.{ℕ, ◌≤◌, ◌<◌}
use lib.Dec.{T, leb, eqb, leb→le, eqb→eq}
use lib.ListN.{length}
use borrow.Author.Tests.{eq-eqb, ne_eqb, le-leb, lt-leb}
use Rattle.std.specs.Prelude.{Ok, Err}
use Rattle.specification.specs.Results.{Result, refused, given}
use Rattle.specification.specs.Letters.{test_table}
use Rattle.specification.specs.Terms as S
use Rattle.specification.specs.Records.{take_both}
use Rattle.specification.specs.Decision.{undecided, take_two_forms, decide_tested, DecidedBy, buffer_bytes, work_bytes}
use Rattle.specification.specs.Decision as D
use Rattle.theory.specs.Tests.{and_split, given_same, required, tested, past, into}
use Rattle.theory.specs.Shape.Letters.{table_good_lem, good_short}
use Rattle.theory.specs.Records.Taken.{both_taken}
use Rattle.refusal.specs.declared.Refusal.{Refusal}
use Rattle.refusal.specs.declared.Refusal.TheVariants.{NoRoom, WrongKind}
use Rattle.refusal.specs.Numbers.{number_of}
use Rattle.refusal.specs.Tests.{test_of}
use Rattle.terms.specs.declared.types.Form.{Form}
use Rattle.terms.specs.Abstraction.{form_of}
use Rattle.forms.specs.Reading.{both_of, BothRead}
use Rattle.forms.proofs.BothForms.{both-passed, both_refused}
use Rattle.decision.specs.Settling.{Decidable}

module _ (table s t b w : List ℕ) where
  -- ════ the tests

  refused_so : (e : Refusal) → decide_tested table s t b w ≡ refused (number_of e) → BothRead (decide_tested table s t b w) (Err e)
  unfolding both_of
  refused_so e h = record { is = sym h; first = tt; second = tt }

  -- 1: the table
  pub table_refused : (e : Refusal) → test_of (Err e) ≡ test_table table → BothRead (decide_tested table s t b w) (Err e)
  unfolding decide_tested
  table_refused e h = refused_so e (rw (← h))

  module _ (u : Unit {0}) (h : test_of (Ok u) ≡ test_table table) where
    -- 2: the buffer
    pub buffer_refused : length b < buffer_bytes → BothRead (decide_tested table s t b w) (Err NoRoom)
    unfolding decide_tested
    buffer_refused l = refused_so NoRoom (rw (← h, lt-leb buffer_bytes (length b) l))

    module _ (lb : buffer_bytes ≤ length b) where
      -- 2: the work bytes
      pub work_refused : length w < work_bytes → BothRead (decide_tested table s t b w) (Err NoRoom)
      unfolding decide_tested
      work_refused l = refused_so NoRoom (rw (← h, le-leb buffer_bytes (length b) lb, lt-leb work_bytes (length w) l))

      module _ (lw : work_bytes ≤ length w) where
        lengths-passed : decide_tested table s t b w ≡ take_two_forms table s t
        unfolding decide_tested
        lengths-passed = rw (← h, le-leb buffer_bytes (length b) lb, le-leb work_bytes (length w) lw)

        -- 11, then 5 or 6: the two forms
        pub forms_refused : (e : Refusal) → BothRead (take_both table s t) (Err e) → BothRead (decide_tested table s t b w) (Err e)
        unfolding take_two_forms
        forms_refused e p = refused_so e (lengths-passed ∙ rw (both_refused e (take_both table s t) p.is))

        module _ (f g : Form) (p : BothRead (take_both table s t) (Ok (f, g))) where
          forms-passed : take_both table s t ≡ given (form_of f, form_of g)
          forms-passed = both-passed f g (take_both table s t) p.is

          -- 6: unlike kinds
          pub kinds_refused : ¬ (f.kind ≡ g.kind) → BothRead (decide_tested table s t b w) (Err WrongKind)
          unfolding take_two_forms form_of
          kinds_refused n = refused_so WrongKind (lengths-passed ∙ rw (forms-passed, ne_eqb f.kind g.kind n))

          -- or every test is passed
          pub forms_taken : f.kind ≡ g.kind → BothRead (decide_tested table s t b w) (Ok (f, g))
          unfolding take_two_forms form_of both_of
          forms_taken k = record { is = sym (lengths-passed ∙ rw (forms-passed, eq-eqb f.kind g.kind k)); first = p.first; second = p.second }

  -- ════ the answer

  -- a refusal: everything stands
  pub stands : (e : Refusal) → BothRead (decide_tested table s t b w) (Err e) → DecidedBy (decide_tested table s t b w) table b w (undecided (number_of e)) b w
  unfolding DecidedBy
  stands e p =
      subst (λ (x : Result (S.Form × S.Form)). DecidedBy x table b w (undecided (number_of e)) b w) (sym (both_refused e (decide_tested table s t b w) p.is))
      (refl, record { buffer_stands = refl; work_stands = refl })

  module _ (f g : Form) (p : BothRead (decide_tested table s t b w) (Ok (f, g))) where
    taken : decide_tested table s t b w ≡ given (form_of f, form_of g)
    taken = both-passed f g (decide_tested table s t b w) p.is

    -- every test is passed
    pub settle-asks : Decidable table f g b w
    unfolding decide_tested take_two_forms form_of
    settle-asks =
        let forms : S.Form × S.Form = (form_of f, form_of g) in
        let first = tested (test_table table) _ forms taken in
        past (leb buffer_bytes (length b) && leb work_bytes (length w)) 2 _ forms first.1 (λ rooms e₁.
        into (take_both table s t) _ forms e₁ (λ q both e₂.
        let kinds = required (eqb q.0.kind q.1.kind) 6 (given q) forms e₂ in
        let same : q ≡ forms = given_same kinds.1 in
        let letters = both_taken table s t forms (both ∙ (λ i. given (same i))) in
        let room = and_split (leb buffer_bytes (length b)) (leb work_bytes (length w)) rooms in
        record {
          letters = good_short table (table_good_lem table first.0);
          room = leb→le buffer_bytes (length b) room.0;
          work_room = leb→le work_bytes (length w) room.1;
          valid_first = p.first;
          valid_second = p.second;
          tested_first = letters.0.letters_tested;
          tested_second = letters.1.letters_tested;
          kinds = eqb→eq f.kind g.kind (subst (λ (q : S.Form × S.Form). T (eqb q.0.kind q.1.kind)) same kinds.0);
        }))

    -- what is decided then is what the call says
    pub settled : (a : D.Decision) (b' w' : List ℕ) → DecidedBy (given (form_of f, form_of g)) table b w a b' w'
        → DecidedBy (decide_tested table s t b w) table b w a b' w'
    settled a b' w' h = subst (λ (x : Result (S.Form × S.Form)). DecidedBy x table b w a b' w') (sym taken) h
