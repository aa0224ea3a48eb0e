-- A good table, and letters that are in it and of their kind: tidying, products and gathering keep them. Assumes nothing.
use Rattle.std.specs.Prelude.{◌≡◌, ◌&&◌, ltb, eqb, length}
use Rattle.std.proofs.Math.Path.{refl, ap}
use Rattle.std.proofs.Common.{sym, ◌∙◌, subst, ltb→lt}
use mathlib.Core.List.{List, [], ◌∷◌, map}
use Prim.Native.Nat.{ℕ, zero, suc, ◌≤◌, ◌<◌}
use native.Mathlib.Omega.{arith}
use Rattle.std.proofs.Math.Dec.{T, leb, leb→le, eqb→eq}
use Rattle.specification.specs.Results.{given, ◌>>◌, require, when◌then◌else◌}
use Rattle.specification.specs.Lists.{order, all, sorted}
use Rattle.specification.specs.Letters.{scalar, vector, is_kind, good_table, test_table, kind_of, test_letter, test_letters}
use Rattle.specification.specs.Terms.{Term, compare_letters, tidy, times_term, gather}
use Rattle.specification.specs.Records.{test_factors, test_term, test_terms}
use Rattle.theory.specs.Tests.{and_split, required, passed, tested}
use Rattle.theory.specs.Elements.{All, all_append, all_implies}
use Rattle.theory.specs.Order.{Monomial, monomial}
use Rattle.theory.specs.Sorting as O
use Rattle.theory.specs.Gathering.Gathered.{Good, Unless0, gather_good}

-- ════ the table

-- a table that passes its test is good
pub table_good_lem : (table : List ℕ) → test_table table ≡ given tt → T (good_table table)
unfolding test_table
table_good_lem table e = passed (good_table table) 1 e

module _ (table : List ℕ) (good : T (good_table table)) where
  -- a good table has at most 24 letters
  pub good_short : length table ≤ 24
  unfolding good_table
  good_short =
      let few = (and_split (leb 1 (length table) && leb (length table) 24) (all is_kind table) good).0 in
      leb→le (length table) 24 (and_split (leb 1 (length table)) (leb (length table) 24) few).1

  -- and each is a scalar or a vector
  pub good_kind : (n : ℕ) → kind_of table n ≤ 1
  unfolding good_table all is_kind kind_of
  good_kind n = go table n (and_split (leb 1 (length table) && leb (length table) 24) (all is_kind table) good).1
    where
      go : (kinds : List ℕ) (n : ℕ) → T (all is_kind kinds) → kind_of kinds n ≤ 1
      go [] n h = omega arith
      go (b ∷ kinds) zero h = leb→le b 1 (and_split (is_kind b) (all is_kind kinds) h).0
      go (b ∷ kinds) (suc n) h = go kinds n (and_split (is_kind b) (all is_kind kinds) h).1

-- ════ its letters

module _ (table : List ℕ) where
  -- the letter is in the table, and of the kind
  abbrev pub Known : (kind n : ℕ) → Type 0
  Known kind n = test_letter table kind n ≡ given tt

  -- in other words
  pub known_is : (kind n : ℕ) → Known kind n → (n < length table) × (kind_of table n ≡ kind)
  unfolding test_letter
  known_is kind n e =
      let w = required (ltb n (length table)) 5 (require (eqb (kind_of table n) kind) 6) tt e in
      (ltb→lt n (length table) w.0, eqb→eq (kind_of table n) kind (passed (eqb (kind_of table n) kind) 6 w.1))

  -- letters that pass the test are known
  pub letters_known : (kind : ℕ) (ls : List ℕ) → test_letters table kind ls ≡ given tt → All (Known kind) ls
  unfolding test_letters
  letters_known kind [] e = tt
  letters_known kind (n ∷ ls) e = let w = tested (test_letter table kind n) (test_letters table kind ls) tt e in (w.0, letters_known kind ls w.1)

  -- and known letters pass
  pub known_letters : (kind : ℕ) (ls : List ℕ) → All (Known kind) ls → test_letters table kind ls ≡ given tt
  unfolding test_letters
  known_letters kind [] h = refl
  known_letters kind (n ∷ ls) h = ap (λ t. t >> test_letters table kind ls) h.0 ∙ known_letters kind ls h.1

  -- the kind of a factor's letters
  abbrev kind_of_factor : List ℕ → ℕ
  kind_of_factor f = when eqb (length f) 1 then scalar else vector

  -- the letters of a factor are known
  abbrev pub FactorKnown : List ℕ → Type 0
  FactorKnown f = All (Known (kind_of_factor f)) f

  -- every letter of the monomial is known
  pub record MonomialKnown (m : Monomial) : Type 0 where
    pub factors : All FactorKnown m.1
    pub part : All (Known vector) m.0

  -- every letter of the terms is known
  abbrev pub AllKnown : List Term → Type 0
  AllKnown ts = All (λ (t : Term). MonomialKnown (monomial t)) ts

  -- ════ what the tests of letters say

  factors_known : (fs : List (List ℕ)) → test_factors table fs ≡ given tt → All FactorKnown fs
  unfolding test_factors
  factors_known [] e = tt
  factors_known (f ∷ fs) e =
      let w = tested (test_letters table (kind_of_factor f) f) (test_factors table fs) tt e in (letters_known (kind_of_factor f) f w.0, factors_known fs w.1)

  known_factors : (fs : List (List ℕ)) → All FactorKnown fs → test_factors table fs ≡ given tt
  unfolding test_factors
  known_factors [] h = refl
  known_factors (f ∷ fs) h = ap (λ r. r >> test_factors table fs) (known_letters (kind_of_factor f) f h.0) ∙ known_factors fs h.1

  -- the letters of a term that passes are known
  pub term_known : (t : Term) → test_term table t ≡ given tt → MonomialKnown (monomial t)
  unfolding test_term
  term_known t e =
      let w = tested (test_factors table t.factors) (test_letters table vector t.part) tt e in
      record { factors = factors_known t.factors w.0; part = letters_known vector t.part w.1 }

  known_term : (t : Term) → MonomialKnown (monomial t) → test_term table t ≡ given tt
  unfolding test_term
  known_term t h = ap (λ r. r >> test_letters table vector t.part) (known_factors t.factors h.factors) ∙ known_letters vector t.part h.part

  -- letters that pass the tests are known
  pub terms_known : (ts : List Term) → test_terms table ts ≡ given tt → AllKnown ts
  unfolding test_terms
  terms_known [] e = tt
  terms_known (t ∷ ts) e = let w = tested (test_term table t) (test_terms table ts) tt e in (term_known t w.0, terms_known ts w.1)

  -- and known letters pass
  pub known_terms : (ts : List Term) → AllKnown ts → test_terms table ts ≡ given tt
  unfolding test_terms
  known_terms [] h = refl
  known_terms (t ∷ ts) h = ap (λ r. r >> test_terms table ts) (known_term t h.0) ∙ known_terms ts h.1

  -- ════ what keeps them

  sorted_known : (f : List ℕ) → FactorKnown f → FactorKnown (sorted order f)
  sorted_known f h =
      subst (λ (n : ℕ). All (Known (when eqb n 1 then scalar else vector)) (sorted order f)) (sym (O.length-sorted order f)) (O.all_sorted order (Known (kind_of_factor f)) f h)

  each-sorted : (fs : List (List ℕ)) → All FactorKnown fs → All FactorKnown (map (sorted order) fs)
  each-sorted [] h = tt
  each-sorted (f ∷ fs) h = (sorted_known f h.0, each-sorted fs h.1)

  tidy_known : (t : Term) → MonomialKnown (monomial t) → MonomialKnown (monomial (tidy t))
  unfolding tidy
  tidy_known t h = record {
    factors = O.all_sorted compare_letters FactorKnown (map (sorted order) t.factors) (each-sorted t.factors h.factors);
    part = O.all_sorted order (Known vector) t.part h.part;
  }

  -- a product has the letters of both
  pub times_known : (t u : Term) → MonomialKnown (monomial t) → MonomialKnown (monomial u) → MonomialKnown (monomial (times_term t u))
  unfolding times_term
  times_known t u h k = record {
    factors = all_append FactorKnown t.factors u.factors h.factors k.factors;
    part = all_append (Known vector) t.part u.part h.part k.part;
  }

  -- gathering brings in no letter
  pub gather_known : (ts : List Term) → AllKnown ts → AllKnown (gather ts)
  gather_known ts h =
      all_implies (Good MonomialKnown) (λ (t : Term). MonomialKnown (monomial t)) (λ t g. g.1) (gather ts)
      (gather_good MonomialKnown ts
      (all_implies (λ (t : Term). MonomialKnown (monomial t)) (λ (t : Term). Unless0 MonomialKnown (tidy t)) (λ t k z. tidy_known t k) ts h))
