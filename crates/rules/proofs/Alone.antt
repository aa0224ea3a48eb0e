-- A step alone at a form: its shape, its letters one after the other, then the step. Assumes nothing.
use mathlib.Core.Path.{◌≡◌, refl, ap, sym, subst, ◌∙◌}
use mathlib.Core.Bool.{Bool, true, false, ◌&&◌}
use mathlib.Core.List.{List}
use Prim.Native.Nat.{ℕ, ◌+◌, ◌<◌, ◌≤◌}
use native.Mathlib.Omega.{arith}
use borrow.Author.Tests.{eq-eqb}
use lib.Dec.{T, eqb}
use lib.ListN.{length, get_or, take, drop}
use lib.Seq.{length-take-le}
use Rattle.specification.specs.Results.{refused, given}
use Rattle.specification.specs.Letters.{vector, test_letter, test_letters}
use Rattle.specification.specs.Terms.{term_in_shape}
use Rattle.specification.specs.Terms as S
use Rattle.specification.specs.Records.{test_term}
use Rattle.specification.specs.Rules.{is_rule, rule_letters, step_in_shape, test_step_letters, take_step, step_at}
use Rattle.terms.specs.Abstraction.{term_of, Counted}
use Rattle.terms.proofs.Arrays.{rest_at, nothing_left_lem}
use Rattle.std.specs.Prelude.{Ok, Err}
use Rattle.std.specs.Prelude as Std
use Rattle.refusal.specs.declared.Refusal.{Refusal}
use Rattle.refusal.specs.Numbers.{number_of}
use Rattle.refusal.specs.Tests.{test_of}
use Rattle.letters.proofs.LetterTests.{stops, goes_on}
use Rattle.rules.specs.declared.steps.Step.{Step}
use Rattle.rules.specs.Steps.{step_of, StepValid}
use Rattle.rules.proofs.Taking.{few-letters}

-- ════ the rule's letters

module _ (table ls : List ℕ) (n i : ℕ) (h : n ≤ length ls) where
  -- the letter at a place is refused
  pub letters-stop : (r : Refusal) → i < n → test_of (Err r) ≡ test_letter table vector (get_or ls i 0) → test_of (Err r) ≡ test_letters table vector (drop i (take n ls))
  unfolding test_letters
  letters-stop r g e = rw (rest_at ls n i 0 h g) (stops r (test_letter table vector (get_or ls i 0)) (test_letters table vector (drop (i + 1) (take n ls))) e)

  -- or it passes
  pub letters-pass : {u : Unit {0}} → i < n → test_of (Ok u) ≡ test_letter table vector (get_or ls i 0)
      → test_letters table vector (drop i (take n ls)) ≡ test_letters table vector (drop (i + 1) (take n ls))
  unfolding test_letters
  letters-pass g e =
      ap (test_letters table vector) (rest_at ls n i 0 h g) ∙ goes_on (test_letter table vector (get_or ls i 0)) (test_letters table vector (drop (i + 1)
      (take n ls))) e

  -- all passed
  pub letters-end : n ≤ i → test_letters table vector (drop i (take n ls)) ≡ given tt
  unfolding test_letters
  letters-end g = ap (test_letters table vector) (nothing_left_lem ls n i h g)

-- ════ the step's letters

module _ (table : List ℕ) (s : Step) (n : ℕ) (e : n ≡ rule_letters s.rule) where
  pub rule_letters-stop : (r : Refusal) → test_of (Err r) ≡ test_letters table vector (take n s.letters) → test_of (Err r) ≡ test_step_letters table (step_of s)
  unfolding test_step_letters step_of
  rule_letters-stop r t =
      stops r (test_letters table vector (take (rule_letters s.rule) s.letters)) (test_term table (term_of s.m))
      (t ∙ ap (λ (m : ℕ). test_letters table vector (take m s.letters)) e)

  pub rule_letters-pass : {u : Unit {0}} (q : Std.Result (Unit {0}) Refusal) → test_of (Ok u) ≡ test_letters table vector (take n s.letters)
      → test_of q ≡ test_term table (term_of s.m) → test_of q ≡ test_step_letters table (step_of s)
  unfolding test_step_letters step_of
  rule_letters-pass q t u =
      u ∙ sym
      (goes_on (test_letters table vector (take (rule_letters s.rule) s.letters)) (test_term table (term_of s.m))
      (t ∙ ap (λ (m : ℕ). test_letters table vector (take m s.letters)) e))

-- ════ the step

module _ (table : List ℕ) (f : S.Form) (s : Step) (six : length s.letters ≡ 6) where
  long : eqb (length (step_of s).letters) (rule_letters s.rule) ≡ true
  unfolding step_of
  long = eq-eqb _ _ (length-take-le (rule_letters s.rule) s.letters (omega (arith, six, few-letters s.rule)))

  -- the shape by the rule and M
  shape_is : step_in_shape (step_of s) ≡ (is_rule s.rule && term_in_shape (term_of s.m))
  unfolding step_in_shape step_of
  shape_is = (λ i. (is_rule s.rule && long i) && term_in_shape (term_of s.m)) ∙ go (is_rule s.rule)
    where
      go : (b : Bool) → ((b && true) && term_in_shape (term_of s.m)) ≡ (b && term_in_shape (term_of s.m))
      go true = refl
      go false = refl

  out_of_shape : step_in_shape (step_of s) ≡ false → step_at table f (step_of s) ≡ refused 11
  unfolding step_at
  out_of_shape h = rw h

  module _ (b : Bool) (eb : b ≡ is_rule s.rule) where
    -- no rule
    pub no_rule : b ≡ false → step_at table f (step_of s) ≡ refused 11
    no_rule h = out_of_shape (shape_is ∙ ap (λ (x : Bool). x && term_in_shape (term_of s.m)) (sym eb ∙ h))

    module _ (hb : b ≡ true) (m : Bool) (em : m ≡ term_in_shape (term_of s.m)) where
      -- M is not in shape
      pub no_shape : m ≡ false → step_at table f (step_of s) ≡ refused 11
      no_shape h = out_of_shape (shape_is ∙ (λ i. (sym eb ∙ hb) i && (sym em ∙ h) i))

      module _ (hm : m ≡ true) where
        in_shape_is : step_in_shape (step_of s) ≡ true
        in_shape_is = shape_is ∙ (λ i. (sym eb ∙ hb) i && (sym em ∙ hm) i)

        pub step-valid : Counted s.m → StepValid s
        step-valid c = record { rule = subst T (sym hb ∙ eb) tt; m = record { counted = c; in_shape = subst T (sym hm ∙ em) tt } }

        -- the letters are refused
        pub letters_refused : (e : Refusal) → test_of (Err e) ≡ test_step_letters table (step_of s) → step_at table f (step_of s) ≡ refused (number_of e)
        unfolding step_at
        letters_refused e t = rw (in_shape_is, ← t)

        -- the step decides
        pub step-decides : {u : Unit {0}} → test_of (Ok u) ≡ test_step_letters table (step_of s) → take_step f (step_of s) ≡ step_at table f (step_of s)
        unfolding step_at
        step-decides t = rw (in_shape_is, ← t)
