-- Tables and letters: each test as its comparisons decide it. Assumes nothing.
use mathlib.Core.Path.{◌≡◌, refl, ap, sym, ◌∙◌}
use mathlib.Core.Bool.{true, false}
use mathlib.Core.List.{List, [], ◌∷◌, map}
use Prim.Native.Nat.{ℕ, ◌+◌, ◌-◌, ◌/◌, ◌%◌, ◌<◌, ◌≤◌}
use native.Mathlib.Numerals.{add-one}
use lib.Dec.{eqb}
use lib.ListN.{length, get_or, take, drop, drop_of_length-le}
use lib.Seq.{drop-cons}
use borrow.Author.Tests.{lt-ltb, le-ltb, le-leb, lt-leb, eq-eqb, ne_eqb}
use Rattle.specification.specs.Lists.{all}
use Rattle.specification.specs.Results.{Test, refused, given, ◌>>◌, when◌then◌else◌}
use Rattle.specification.specs.Letters.{scalar, vector, kind_of, is_kind, good_table, test_table, test_letter, test_letters}
use Rattle.specification.specs.Records.{test_factors, test_term, test_terms}
use Rattle.terms.specs.declared.factors.Factor.{Factor}
use Rattle.terms.specs.declared.factors.Factor.TheVariants.{Scalar, Dot, Triple}
use Rattle.terms.specs.declared.types.Part.{Part}
use Rattle.terms.specs.declared.types.Part.TheVariants.{Nothing, Letter, Wedge}
use Rattle.terms.specs.declared.types.Term.{Term}
use Rattle.terms.specs.Numbers.{letters_of}
use Rattle.terms.specs.Abstraction.{factor_of, part_of, term_of}
use Rattle.terms.proofs.Arrays.{rest_at, nothing_left_lem}
use Rattle.std.specs.Prelude.{Ok, Err}
use Rattle.std.specs.Prelude as Std
use Rattle.refusal.specs.declared.Refusal.{Refusal}
use Rattle.refusal.specs.declared.Refusal.TheVariants.{BadTable, AbsentLetter, WrongKind}
use Rattle.refusal.specs.Tests.{test_of}
use Rattle.terms.proofs.Letters.{scalar_is, dot_is, triple_is}

-- what a test answers
abbrev Answer : Type 0
Answer = Std.Result (Unit {0}) Refusal

-- ════ a test's answer

-- refused: what follows is not tested
pub stops : (e : Refusal) (t u : Test) → test_of (Err e) ≡ t → test_of (Err e) ≡ (t >> u)
stops e t u h = ap (λ (z : Test). z >> u) h

-- passed: what follows decides
pub goes_on : {x : Unit {0}} (t u : Test) → test_of (Ok x) ≡ t → (t >> u) ≡ u
goes_on t u h = sym (ap (λ (z : Test). z >> u) h)

-- ════ the table

module _ (t : List ℕ) where
  pub table_empty : length t < 1 → test_of (Err BadTable) ≡ test_table t
  unfolding test_table good_table
  table_empty h = rw (lt-leb 1 (length t) h)

  pub table-long : 1 ≤ length t → 24 < length t → test_of (Err BadTable) ≡ test_table t
  unfolding test_table good_table
  table-long h g = rw (le-leb 1 (length t) h, lt-leb (length t) 24 g)

  module _ (h : 1 ≤ length t) (g : length t ≤ 24) where
    pub table-bad : all is_kind t ≡ false → test_of (Err BadTable) ≡ test_table t
    unfolding test_table good_table
    table-bad e = rw (le-leb 1 (length t) h, le-leb (length t) 24 g, e)

    pub table_good_lem : all is_kind t ≡ true → test_of (Ok tt) ≡ test_table t
    unfolding test_table good_table
    table_good_lem e = rw (le-leb 1 (length t) h, le-leb (length t) 24 g, e)

  module _ (i : ℕ) where
    here : i < length t → drop i t ≡ get_or t i 0 ∷ drop (i + 1) t
    here h = drop-cons t i 0 h ∙ rw add-one

    pub kind-bad : i < length t → 1 < get_or t i 0 → all is_kind (drop i t) ≡ false
    unfolding all is_kind
    kind-bad h g = rw (here h, lt-leb (get_or t i 0) 1 g)

    pub kind_good : i < length t → get_or t i 0 ≤ 1 → all is_kind (drop i t) ≡ all is_kind (drop (i + 1) t)
    unfolding all is_kind
    kind_good h g = rw (here h, le-leb (get_or t i 0) 1 g)

    pub kind-end : length t ≤ i → all is_kind (drop i t) ≡ true
    unfolding all
    kind-end h = rw (drop_of_length-le t h)

-- ════ letters

module _ (t : List ℕ) (kind x : ℕ) where
  pub letter-absent : length t ≤ x → test_of (Err AbsentLetter) ≡ test_letter t kind x
  unfolding test_letter
  letter-absent h = rw (le-ltb x (length t) h)

  pub letter-other : x < length t → (kind_of t x ≡ kind → ⊥) → test_of (Err WrongKind) ≡ test_letter t kind x
  unfolding test_letter
  letter-other h g = rw (lt-ltb x (length t) h, ne_eqb (kind_of t x) kind g)

  pub letter_good : x < length t → kind_of t x ≡ kind → test_of (Ok tt) ≡ test_letter t kind x
  unfolding test_letter
  letter_good h g = rw (lt-ltb x (length t) h, eq-eqb (kind_of t x) kind g)

  pub letters_one : (r : Answer) → test_of r ≡ test_letter t kind x → test_of r ≡ test_letters t kind (x ∷ [])
  unfolding test_letters
  letters_one r e = e ∙ sym (last (test_letter t kind x))
    where
      last : (u : Test) → (u >> given tt) ≡ u
      last (refused n) = refl
      last (given v) = refl

  pub letters-stop : (e : Refusal) (xs : List ℕ) → test_of (Err e) ≡ test_letter t kind x → test_of (Err e) ≡ test_letters t kind (x ∷ xs)
  unfolding test_letters
  letters-stop r xs e = stops r _ _ e

  pub letters_on : {u : Unit {0}} (xs : List ℕ) (q : Answer) → test_of (Ok u) ≡ test_letter t kind x → test_of q ≡ test_letters t kind xs → test_of q ≡ test_letters t kind (x ∷ xs)
  unfolding test_letters
  letters_on xs q e f = f ∙ sym (goes_on _ _ e)

-- ════ a factor

module _ (t : List ℕ) (k : ℕ) (f : Factor) (e : factor_of f ≡ letters_of k) (r : Answer) where
  abbrev FactorTest : Test
  FactorTest = test_letters t (when eqb (length (letters_of k)) 1 then scalar else vector) (letters_of k)

  pub factor_one : (x : ℕ) → f ≡ Scalar x → test_of r ≡ test_letter t scalar x → test_of r ≡ FactorTest
  factor_one x h w = rw (scalar_is k f e x h) (letters_one t scalar x r w)

  pub factor_two : (x y : ℕ) → f ≡ Dot x y → test_of r ≡ test_letters t vector (x ∷ y ∷ []) → test_of r ≡ FactorTest
  factor_two x y h w = rw (dot_is k f e x y h) w

  pub factor-three : (x y z : ℕ) → f ≡ Triple x y z → test_of r ≡ test_letters t vector (x ∷ y ∷ z ∷ []) → test_of r ≡ FactorTest
  factor-three x y z h w = rw (triple_is k f e x y z h) w

-- ════ a vector part

pub part_none : (t : List ℕ) (p : Part) → p ≡ Nothing → test_of (Ok tt) ≡ test_letters t vector (part_of p)
unfolding test_letters part_of
part_none t p e = rw e

pub part-letter : (t : List ℕ) (p : Part) (x : ℕ) (r : Answer) → p ≡ Letter x → test_of r ≡ test_letter t vector x → test_of r ≡ test_letters t vector (part_of p)
unfolding part_of
part-letter t p x r e h = rw e (letters_one t vector x r h)

pub part-wedge : (t : List ℕ) (p : Part) (x y : ℕ) (r : Answer) → p ≡ Wedge x y → test_of r ≡ test_letters t vector (x ∷ y ∷ []) → test_of r ≡ test_letters t vector (part_of p)
unfolding part_of
part-wedge t p x y r e h = rw e h

-- ════ a term, from a factor on

module _ (t f : List ℕ) (n i : ℕ) (rest : Test) (fl : n ≤ length f) where
  abbrev From : ℕ → Test
  From j = test_factors t (map letters_of (drop j (take n f))) >> rest

  abbrev pub AtFactor : Test
  AtFactor = test_letters t (when eqb (length (letters_of (get_or f i 0))) 1 then scalar else vector) (letters_of (get_or f i 0))

  pub factor-stops : (e : Refusal) → i < n → test_of (Err e) ≡ AtFactor → test_of (Err e) ≡ From i
  unfolding test_factors
  factor-stops r h e = rw (rest_at f n i 0 fl h) (stops r _ rest (stops r _ (test_factors t (map letters_of (drop (i + 1) (take n f)))) e))

  pub factor-passes : {u : Unit {0}} → i < n → test_of (Ok u) ≡ AtFactor → From i ≡ From (i + 1)
  unfolding test_factors
  factor-passes h e = rw (rest_at f n i 0 fl h) (ap (λ (z : Test). z >> rest) (goes_on _ _ e))

  pub factors-end : n ≤ i → From i ≡ rest
  unfolding test_factors
  factors-end h = rw (nothing_left_lem f n i fl h)

-- ════ the terms of a form, from one on

module _ (t : List ℕ) (l : List Term) (n i : ℕ) (d : Term) (fl : n ≤ length l) where
  abbrev TermsFrom : ℕ → Test
  TermsFrom j = test_terms t (map term_of (drop j (take n l)))

  pub term-stops : (e : Refusal) → i < n → test_of (Err e) ≡ test_term t (term_of (get_or l i d)) → test_of (Err e) ≡ TermsFrom i
  unfolding test_terms
  term-stops r h e = rw (rest_at l n i d fl h) (stops r _ _ e)

  pub term-passes : {u : Unit {0}} → i < n → test_of (Ok u) ≡ test_term t (term_of (get_or l i d)) → TermsFrom i ≡ TermsFrom (i + 1)
  unfolding test_terms
  term-passes h e = rw (rest_at l n i d fl h) (goes_on _ _ e)

  pub terms-end : n ≤ i → TermsFrom i ≡ given tt
  unfolding test_terms
  terms-end h = rw (nothing_left_lem l n i fl h)
