-- What a step does, by marks: that it leads to no fewer terms, which marks stand afterwards, what it adds to a term. Assumes nothing.
use Rattle.std.specs.Prelude.{◌≡◌, ◌⊎◌, List, [], ◌∷◌, ◌++◌, ℕ, ◌≤◌, ℤ, nat_abs, length}
use Rattle.algebra.specs.Integers.{NonZero}
use Rattle.specification.specs.Terms.{with_coef, tidy, gather, gather_into}
use Rattle.specification.specs.Terms as S
use Rattle.specification.specs.Rules.{step_terms}
use Rattle.specification.specs.Rules as R
use Rattle.theory.specs.Order.{monomial}
use Rattle.theory.specs.Gathering.Weights.{weight}
use Rattle.theory.specs.Gathering.Coefficients.{only}
use Rattle.theory.specs.Shape.Forms.{FormInShape}
use Rattle.marking.specs.Marks.{letters_mark, factors_mark, Covering, Sized, LettersMarked}
use Rattle.marks.specs.declared.steps.StepMarks.{StepMarks}

-- whatever the coefficient of M, if it has the size, the step leads no form whose terms are covered to fewer terms
unfoldable pub NotShorter : (marks : List ℕ) (size : ℕ) (s : R.Step) → Type 0
NotShorter marks v s =
    (c : ℤ) → NonZero c → Sized v c → (f : S.Form) → FormInShape f → Covering marks f.terms
    → length f.terms ≤ length (gather (f.terms ++ step_terms (record { rule = s.rule; letters = s.letters; m = with_coef c s.m })))

-- marks after a step: whatever terms were covered, those that it reaches from them are
unfoldable pub Carried : (before : List ℕ) (s : R.Step) (after : List ℕ) → Type 0
Carried before s after = (ts : List S.Term) → Covering before ts → Covering after (gather_into ts (step_terms s))

-- the marks of a step's letters and of M
pub record StepMarked (ls : List ℕ) (m : S.Term) (r : StepMarks) : Type 0 where
  pub factors : r.factors ≡ factors_mark m.factors
  pub part : r.part ≡ letters_mark m.part
  pub letters : LettersMarked ls r.letters
  pub few_factors : r.factors ≤ 109375000
  pub small_part : r.part ≤ 62500

-- a mark is one of these
unfoldable pub Among : (mark : ℕ) (marks : List ℕ) → Type 0
Among h [] = ⊥
Among h (k ∷ l) = (h ≡ k) ⊎ Among h l

-- ════ what a product adds to a term

-- the coefficient of the product, put in order, where it is like the term
pub record RowGained (t product : S.Term) (r : ℤ) : Type 0 where
  pub is : r ≡ weight (only (monomial t)) (tidy product)
  pub light : nat_abs r ≤ 2147483647
