-- What holds of every element of a list: joined, mapped, tested. Assumes nothing.
use Rattle.std.specs.Prelude.{◌≡◌, refl, ◌⊎◌, Bool, ℕ, zero, suc, ◌<◌, T, length, drop, get_or}
use Rattle.std.proofs.Common.{sym, ◌∙◌, ap, subst, inl, inr, arith}
use Rattle.std.proofs.Math.Bool.{true, false}
use mathlib.Core.List.{List, [], ◌∷◌, ◌++◌, map, flat_map, append_assoc}
use Rattle.std.proofs.Math.Nat as N
use Rattle.algebra.specs.Lists.{tabulated}
use Rattle.specification.specs.Results.{when◌then◌else◌}
use Rattle.specification.specs.Lists.{all, each, select}
use Rattle.theory.specs.Tests.{and_both, and_split}

-- every element has the property
abbrev pub All : {A : Type 0} → (A → Type 0) → List A → Type 0
All P [] = Unit {0}
All P (x ∷ xs) = P x × All P xs

module _ {A : Type 0} where
  -- two lists joined
  pub all_append : (P : A → Type 0) (xs ys : List A) → All P xs → All P ys → All P (xs ++ ys)
  all_append P [] ys h k = k
  all_append P (x ∷ xs) ys h k = (h.0, all_append P xs ys h.1 k)

  -- and apart again
  pub all_split : (P : A → Type 0) (xs ys : List A) → All P (xs ++ ys) → All P xs × All P ys
  all_split P [] ys h = (tt, h)
  all_split P (x ∷ xs) ys h = let w = all_split P xs ys h.1 in ((h.0, w.0), w.1)

  -- a weaker property
  pub all_implies : (P Q : A → Type 0) → ((x : A) → P x → Q x) → (xs : List A) → All P xs → All Q xs
  all_implies P Q f [] h = tt
  all_implies P Q f (x ∷ xs) h = (f x h.0, all_implies P Q f xs h.1)

  -- what holds of everything
  pub all_of : (P : A → Type 0) → ((x : A) → P x) → (xs : List A) → All P xs
  all_of P f [] = tt
  all_of P f (x ∷ xs) = (f x, all_of P f xs)

  -- two properties together
  pub both_all : (P Q : A → Type 0) (xs : List A) → All P xs → All Q xs → All (λ x. P x × Q x) xs
  both_all P Q [] h k = tt
  both_all P Q (x ∷ xs) h k = ((h.0, k.0), both_all P Q xs h.1 k.1)

  -- those that pass a test
  pub all_select : (P : A → Type 0) (f : A → Bool) (xs : List A) → All P xs → All P (select f xs)
  unfolding select
  all_select P f [] h = tt
  all_select P f (x ∷ xs) h = go (f x) (all_select P f xs h.1)
    where
      go : (b : Bool) → All P (select f xs) → All P (when b then x ∷ select f xs else select f xs)
      go true rest = (h.0, rest)
      go false rest = rest

  -- those from a place on
  pub all_drop : (P : A → Type 0) (i : ℕ) (xs : List A) → All P xs → All P (drop i xs)
  all_drop P zero xs h = h
  all_drop P (suc i) [] h = tt
  all_drop P (suc i) (x ∷ xs) h = all_drop P i xs h.1

  -- at one place
  pub all-at : (P : A → Type 0) (xs : List A) (i : ℕ) (d : A) → All P xs → i < length xs → P (get_or xs i d)
  all-at P [] i d h l = absurd (N.not-suc-le-zero l)
  all-at P (x ∷ xs) zero d h l = h.0
  all-at P (x ∷ xs) (suc i) d h l = all-at P xs i d h.1 (omega arith)

  -- at every place
  pub at_all : (P : A → Type 0) (xs : List A) (d : A) → ((i : ℕ) → i < length xs → P (get_or xs i d)) → All P xs
  at_all P [] d h = tt
  at_all P (x ∷ xs) d h = (h 0 (omega arith), at_all P xs d (λ i l. h (suc i) (omega arith)))

  -- a computed test of every element, as a property
  pub all_T : (f : A → Bool) (xs : List A) → T (all f xs) → All (λ x. T (f x)) xs
  unfolding all
  all_T f [] t = tt
  all_T f (x ∷ xs) t = let w = and_split (f x) (all f xs) t in (w.0, all_T f xs w.1)

  -- and back
  pub T_all : (f : A → Bool) (xs : List A) → All (λ x. T (f x)) xs → T (all f xs)
  unfolding all
  T_all f [] h = tt
  T_all f (x ∷ xs) h = and_both (f x) (all f xs) h.0 (T_all f xs h.1)

-- a computed test at 0, 1, .., n − 1, at one of them
pub each_T : (f : ℕ → Bool) (n : ℕ) → T (each n f) → (i : ℕ) → i < n → T (f i)
unfolding each
each_T f zero t i h = absurd (N.not-suc-le-zero h)
each_T f (suc n) t i h = let w = and_split (each n f) (f n) t in go w.1 (each_T f n w.0 i) (N.eq-or-lt_of_le h)
  where
    go : T (f n) → (i < n → T (f i)) → (suc i ≡ suc n) ⊎ (suc i < suc n) → T (f i)
    go t rest (inl e) = let q : n ≡ i = omega arith in subst (λ (k : ℕ). T (f k)) q t
    go t rest (inr l) = rest (omega arith)

-- and at each of them
pub T_each : (f : ℕ → Bool) (n : ℕ) → ((i : ℕ) → i < n → T (f i)) → T (each n f)
unfolding each
T_each f zero h = tt
T_each f (suc n) h = and_both (each n f) (f n) (T_each f n (λ i l. h i (omega arith))) (h n (N.le_refl (suc n)))

-- what a function gives for each
pub all_map : {A B : Type 0} (P : A → Type 0) (Q : B → Type 0) (f : A → B) → ((x : A) → P x → Q (f x)) → (xs : List A) → All P xs → All Q (map f xs)
all_map P Q f g [] h = tt
all_map P Q f g (x ∷ xs) h = (g x h.0, all_map P Q f g xs h.1)

-- and back
pub all_unmap : {A B : Type 0} (P : B → Type 0) (f : A → B) (xs : List A) → All P (map f xs) → All (λ (x : A). P (f x)) xs
all_unmap P f [] h = tt
all_unmap P f (x ∷ xs) h = (h.0, all_unmap P f xs h.1)

-- the values of a function
pub all_tabulated : {A : Type 0} (P : A → Type 0) (n : ℕ) (f : ℕ → A) → ((i : ℕ) → i < n → P (f i)) → All P (tabulated n f)
all_tabulated P zero f h = tt
all_tabulated P (suc n) f h = (h 0 (omega arith), all_tabulated P n (λ i. f (suc i)) (λ i l. h (suc i) (omega arith)))

-- what the elements of two joined lists give
pub flat_map-append : {A B : Type 0} (f : A → List B) (xs ys : List A) → flat_map f (xs ++ ys) ≡ flat_map f xs ++ flat_map f ys
unfolding flat_map
flat_map-append f [] ys = refl
flat_map-append f (x ∷ xs) ys = ap (λ (l : List _). f x ++ l) (flat_map-append f xs ys) ∙ sym (append_assoc (f x) (flat_map f xs) (flat_map f ys))

-- what each element gives, one list behind the other
pub all_flat_map : {A B : Type 0} (P : A → Type 0) (Q : B → Type 0) (f : A → List B) → ((x : A) → P x → All Q (f x)) → (xs : List A) → All P xs → All Q (flat_map f xs)
unfolding flat_map
all_flat_map P Q f g [] h = tt
all_flat_map P Q f g (x ∷ xs) h = all_append Q (f x) (flat_map f xs) (g x h.0) (all_flat_map P Q f g xs h.1)
