-- Factors in their order are the scalar letters, the dots and the triples, one after the other; and how many letters they have. Assumes nothing.
use Rattle.std.specs.Prelude.{◌≡◌, refl, Bool, true, false, List, [], ◌∷◌, ◌++◌, ℕ, ◌+◌, ◌*◌, ◌≤◌, ◌<◌, length, eqb}
use Rattle.std.proofs.Common.{ap, inl, inr, arith, eqb-true, eq-eqb, ne_eqb}
use Rattle.specification.specs.Lists.{select}
use Rattle.specification.specs.Terms.{vector_letters_of, scalar_letters_of}
use Rattle.theory.specs.Elements.{All, all_implies}
use Rattle.theory.specs.Order.{letters-laws}
use Rattle.theory.specs.Sorting as O
use Rattle.theory.specs.Shape.Terms.{OneToThree}
use Rattle.theory.specs.Records.Fields.{Sized}

-- the factors of n letters
abbrev pub of_size : ℕ → List (List ℕ) → List (List ℕ)
of_size n fs = select (λ f. eqb (length f) n) fs

-- ════ lists split by the number of letters

-- they have n letters
pub of_size-sized : (n : ℕ) (fs : List (List ℕ)) → Sized n (of_size n fs)
unfolding select
of_size-sized n [] = tt
of_size-sized n (f ∷ fs) = go (of_size-sized n fs) (eqb (length f) n) refl
  where
    go : Sized n (of_size n fs) → (b : Bool) → eqb (length f) n ≡ b → Sized n (of_size n (f ∷ fs))
    go i true e = simp e (eqb-true (length f) n e, i)
    go i false e = simp e i

pub of_size-append : (n : ℕ) (fs gs : List (List ℕ)) → of_size n (fs ++ gs) ≡ of_size n fs ++ of_size n gs
unfolding select
of_size-append n [] gs = refl
of_size-append n (f ∷ fs) gs = go (of_size-append n fs gs) (eqb (length f) n) refl
  where
    go : of_size n (fs ++ gs) ≡ of_size n fs ++ of_size n gs → (b : Bool) → eqb (length f) n ≡ b → of_size n (f ∷ fs ++ gs) ≡ of_size n (f ∷ fs) ++ of_size n gs
    go i true e = simp (e, i)
    go i false e = simp (e, i)

-- where all have n letters, they are all
pub of_size_same : (n : ℕ) (fs : List (List ℕ)) → Sized n fs → of_size n fs ≡ fs
unfolding select
of_size_same n [] h = refl
of_size_same n (f ∷ fs) h = simp (eq-eqb (length f) n h.0, of_size_same n fs h.1)

-- of factors that all have another number of letters none is left
none_of : (n : ℕ) (fs : List (List ℕ)) → All (λ (f : List ℕ). length f ≡ n → ⊥) fs → of_size n fs ≡ []
unfolding select
none_of n [] h = refl
none_of n (f ∷ fs) h = simp (ne_eqb (length f) n h.0, none_of n fs h.1)

-- where all have another number of letters, there are none
pub of_size-other : (m n : ℕ) (fs : List (List ℕ)) → (m ≡ n → ⊥) → Sized m fs → of_size n fs ≡ []
of_size-other m n fs d h = none_of n fs (all_implies (λ (f : List ℕ). length f ≡ m) (λ (f : List ℕ). length f ≡ n → ⊥) (λ f e k. d (omega (arith, e, k))) fs h)

-- ════ factors in their order

-- every factor has at least so many letters
abbrev AtLeast : ℕ → List (List ℕ) → Type 0
AtLeast m fs = All (λ (f : List ℕ). m ≤ length f) fs

none_shorter : (m n : ℕ) (fs : List (List ℕ)) → n < m → AtLeast m fs → of_size n fs ≡ []
none_shorter m n fs l h = none_of n fs (all_implies (λ (f : List ℕ). m ≤ length f) (λ (f : List ℕ). length f ≡ n → ⊥) (λ f k e. omega (arith, k, e)) fs h)

-- a factor that stands first is not longer
not-longer : (f g : List ℕ) → O.Le letters-laws f g → length f ≤ length g
not-longer f g (inl (inl h)) = omega arith
not-longer f g (inl (inr h)) = omega (arith, h.0)
not-longer f g (inr e) = omega (arith, ap length e)

ascending-at_least : (f : List ℕ) (fs : List (List ℕ)) → O.Asc letters-laws (f ∷ fs) → AtLeast (length f) fs
ascending-at_least f [] h = tt
ascending-at_least f (g ∷ gs) h =
    let l = not-longer f g h.0 in
    (l, all_implies (λ (k : List ℕ). length g ≤ length k) (λ (k : List ℕ). length f ≤ length k) (λ k m. omega (arith, l, m)) gs (ascending-at_least g gs h.1))

-- factors that ascend are the scalar letters, then the dots, then the triples
pub factors-split : (fs : List (List ℕ)) → All OneToThree fs → O.Asc letters-laws fs → fs ≡ of_size 1 fs ++ of_size 2 fs ++ of_size 3 fs
unfolding select
factors-split [] h o = refl
factors-split ([] ∷ fs) h o = absurd (omega (arith, h.0.0))
factors-split ((a ∷ []) ∷ fs) h o = ap (λ (l : List (List ℕ)). (a ∷ []) ∷ l) (factors-split fs h.1 o.1)
factors-split ((a ∷ b ∷ []) ∷ fs) h o =
    let i = factors-split fs h.1 o.1 in
    let e = none_shorter 2 1 fs (omega arith) (ascending-at_least (a ∷ b ∷ []) fs o) in
    rw e (ap (λ (l : List (List ℕ)). (a ∷ b ∷ []) ∷ l) (rw e at i))
factors-split ((a ∷ b ∷ c ∷ []) ∷ fs) h o =
    let i = factors-split fs h.1 o.1 in
    let e₁ = none_shorter 3 1 fs (omega arith) (ascending-at_least (a ∷ b ∷ c ∷ []) fs o) in
    let e₂ = none_shorter 3 2 fs (omega arith) (ascending-at_least (a ∷ b ∷ c ∷ []) fs o) in
    rw (e₁, e₂) (ap (λ (l : List (List ℕ)). (a ∷ b ∷ c ∷ []) ∷ l) (rw (e₁, e₂) at i))
factors-split ((a ∷ b ∷ c ∷ d ∷ f) ∷ fs) h o = absurd (omega (arith, h.0.1))

-- ════ how many letters

-- as many scalar letters as factors of one letter
pub scalars-counted : (fs : List (List ℕ)) → All OneToThree fs → scalar_letters_of fs ≡ length (of_size 1 fs)
unfolding select scalar_letters_of
scalars-counted [] h = refl
scalars-counted ([] ∷ fs) h = absurd (omega (arith, h.0.0))
scalars-counted ((a ∷ []) ∷ fs) h = omega (arith, scalars-counted fs h.1)
scalars-counted ((a ∷ b ∷ []) ∷ fs) h = omega (arith, scalars-counted fs h.1)
scalars-counted ((a ∷ b ∷ c ∷ []) ∷ fs) h = omega (arith, scalars-counted fs h.1)
scalars-counted ((a ∷ b ∷ c ∷ d ∷ f) ∷ fs) h = absurd (omega (arith, h.0.1))

-- two vector letters a dot, three a triple
pub vectors-counted : (fs : List (List ℕ)) → All OneToThree fs → vector_letters_of fs ≡ length (of_size 2 fs) * 2 + length (of_size 3 fs) * 3
unfolding select vector_letters_of
vectors-counted [] h = refl
vectors-counted ([] ∷ fs) h = absurd (omega (arith, h.0.0))
vectors-counted ((a ∷ []) ∷ fs) h = omega (arith, vectors-counted fs h.1)
vectors-counted ((a ∷ b ∷ []) ∷ fs) h = omega (arith, vectors-counted fs h.1)
vectors-counted ((a ∷ b ∷ c ∷ []) ∷ fs) h = omega (arith, vectors-counted fs h.1)
vectors-counted ((a ∷ b ∷ c ∷ d ∷ f) ∷ fs) h = absurd (omega (arith, h.0.1))
