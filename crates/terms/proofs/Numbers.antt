-- Numbers of factors: the numbers of one, two and three bytes, and that the order of factors is the order of their numbers. Assumes nothing.
use mathlib.Core.Path.{◌≡◌, refl, ap, sym, ◌∙◌}
use mathlib.Core.Logic.{◌⊎◌, inl, inr}
use mathlib.Core.Bool.{Bool, true, false}
use mathlib.Core.List.{List, [], ◌∷◌}
use Prim.Native.Nat.{ℕ, zero, suc, ◌+◌, ◌-◌, ◌*◌, ◌/◌, ◌%◌, ◌<◌, ◌≤◌}
use native.Mathlib.Omega.{arith}
use lib.Dec.{ltb}
use lib.ListN.{length}
use borrow.Author.Tests.{lt-ltb, le-ltb, ltb-true, ltb-false}
use Rattle.specification.specs.Results.{when◌then◌else◌}
use Rattle.specification.specs.Lists.{order}
use Rattle.specification.specs.Terms.{compare_letters}
use Rattle.theory.specs.Order.{LtLetters, letters-laws, nat-laws, compares-less, compares-equal, compares_more}
use Rattle.theory.specs.Sorting as O
use Rattle.terms.specs.declared.types.Part.{Part}
use Rattle.terms.specs.declared.types.Part.TheVariants.{Nothing, Letter, Wedge}
use Rattle.terms.specs.Numbers.{letters_of, part_letters_of, FactorNumber, PartNumber}
use Rattle.terms.specs.Abstraction.{part_of}

-- ════ the number of letters

-- a byte widened
abbrev Widened : ℕ → ℕ → Type 0
Widened a x = (a ≡ x) × (a < 256)

pub one_letter : (x a : ℕ) → Widened a x → FactorNumber (x ∷ []) a
unfolding letters_of
one_letter x a h = record { letters = rw (lt-ltb a 256 h.1, h.0); small = omega (arith, h.1) }

pub two_letters : (x y a b : ℕ) → Widened a x → Widened b y → FactorNumber (x ∷ y ∷ []) (256 + 256 * a + b)
unfolding letters_of
two_letters x y a b h g =
    let k = 256 + 256 * a + b in
    let e₁ : (256 + 256 * a + b - 256) / 256 ≡ x = omega (arith, h.0, h.1, g.1) in
    let e₀ : (256 + 256 * a + b - 256) % 256 ≡ y = omega (arith, h.1, g.0, g.1) in
    record { letters = rw (le-ltb k 256 (omega arith), lt-ltb k 65792 (omega (arith, h.1, g.1)), e₁, e₀); small = omega (arith, h.1, g.1) }

pub three-letters : (x y z a b c : ℕ) → Widened a x → Widened b y → Widened c z → FactorNumber (x ∷ y ∷ z ∷ []) (65792 + 65536 * a + 256 * b + c)
unfolding letters_of
three-letters x y z a b c h g i =
    let k = 65792 + 65536 * a + 256 * b + c in
    let e₂ : (65792 + 65536 * a + 256 * b + c - 65792) / 65536 ≡ x = omega (arith, h.0, h.1, g.1, i.1) in
    let e₁ : (65792 + 65536 * a + 256 * b + c - 65792) / 256 % 256 ≡ y = omega (arith, h.1, g.0, g.1, i.1) in
    let e₀ : (65792 + 65536 * a + 256 * b + c - 65792) % 256 ≡ z = omega (arith, h.1, g.1, i.0, i.1) in
    record { letters = rw (le-ltb k 256 (omega arith), le-ltb k 65792 (omega arith), e₂, e₁, e₀); small = omega (arith, h.1, g.1, i.1) }

-- ════ the order

pub one_is : (k : ℕ) → k < 256 → letters_of k ≡ k ∷ []
unfolding letters_of
one_is k h = rw (lt-ltb k 256 h)

pub two_is : (k : ℕ) → 256 ≤ k → k < 65792 → letters_of k ≡ (k - 256) / 256 ∷ (k - 256) % 256 ∷ []
unfolding letters_of
two_is k h g = rw (le-ltb k 256 h, lt-ltb k 65792 g)

pub three_is : (k : ℕ) → 65792 ≤ k → letters_of k ≡ (k - 65792) / 65536 ∷ (k - 65792) / 256 % 256 ∷ (k - 65792) % 256 ∷ []
unfolding letters_of
three_is k h = rw (le-ltb k 256 (omega arith), le-ltb k 65792 h)

-- less, or equal
below : (a b : ℕ) → a ≤ b → (a < b) ⊎ (a ≡ b)
below a b h = go (O.tri nat-laws a b)
  where
    go : ((a < b) ⊎ (a ≡ b)) ⊎ (b < a) → (a < b) ⊎ (a ≡ b)
    go (inl w) = w
    go (inr g) = absurd (omega arith)

two_less : (k l : ℕ) → k < l → LtLetters (k / 256 ∷ k % 256 ∷ []) (l / 256 ∷ l % 256 ∷ [])
two_less k l h = inr (refl, go (below (k / 256) (l / 256) (omega arith)))
  where
    go : (k / 256 < l / 256) ⊎ (k / 256 ≡ l / 256) → (k / 256 < l / 256) ⊎ ((k / 256 ≡ l / 256) × ((k % 256 < l % 256) ⊎ ((k % 256 ≡ l % 256) × ⊥)))
    go (inl g) = inl g
    go (inr e) = inr (e, inl (omega arith))

three-less : (k l : ℕ) → k < l → LtLetters (k / 65536 ∷ k / 256 % 256 ∷ k % 256 ∷ []) (l / 65536 ∷ l / 256 % 256 ∷ l % 256 ∷ [])
three-less k l h = inr (refl, go (below (k / 65536) (l / 65536) (omega arith)))
  where
    last : k / 65536 ≡ l / 65536 → (k / 256 % 256 < l / 256 % 256) ⊎ (k / 256 % 256 ≡ l / 256 % 256)
        → (k / 256 % 256 < l / 256 % 256) ⊎ ((k / 256 % 256 ≡ l / 256 % 256) × ((k % 256 < l % 256) ⊎ ((k % 256 ≡ l % 256) × ⊥)))
    last e (inl g) = inl g
    last e (inr g) = inr (g, inl (omega arith))

    go : (k / 65536 < l / 65536) ⊎ (k / 65536 ≡ l / 65536)
        → (k / 65536 < l / 65536) ⊎ ((k / 65536 ≡ l / 65536) × ((k / 256 % 256 < l / 256 % 256) ⊎ ((k / 256 % 256 ≡ l / 256 % 256)
        × ((k % 256 < l % 256) ⊎ ((k % 256 ≡ l % 256) × ⊥)))))
    go (inl g) = inl g
    go (inr e) = inr (e, last e (below (k / 256 % 256) (l / 256 % 256) (omega arith)))

-- a smaller number is a factor before
pub letters-less : (k l : ℕ) → k < l → LtLetters (letters_of k) (letters_of l)
letters-less k l h = go (ltb k 256) refl (ltb k 65792) refl (ltb l 256) refl (ltb l 65792) refl
  where
    go : (a : Bool) → ltb k 256 ≡ a → (b : Bool) → ltb k 65792 ≡ b → (c : Bool) → ltb l 256 ≡ c → (d : Bool) → ltb l 65792 ≡ d → LtLetters (letters_of k)
        (letters_of l)
    go true a b p true c d q = rw (one_is k (ltb-true k 256 a), one_is l (ltb-true l 256 c)) (inr (refl, inl h))
    go true a b p false c true q = rw (one_is k (ltb-true k 256 a), two_is l (ltb-false l 256 c) (ltb-true l 65792 q)) (inl (omega arith))
    go true a b p false c false q = rw (one_is k (ltb-true k 256 a), three_is l (ltb-false l 65792 q)) (inl (omega arith))
    go false a true p true c d q = absurd (omega (arith, ltb-false k 256 a, ltb-true l 256 c))
    go false a true p false c true q =
        rw (two_is k (ltb-false k 256 a) (ltb-true k 65792 p), two_is l (ltb-false l 256 c) (ltb-true l 65792 q)) (two_less (k - 256) (l - 256)
        (omega (arith, ltb-false k 256 a)))
    go false a true p false c false q = rw (two_is k (ltb-false k 256 a) (ltb-true k 65792 p), three_is l (ltb-false l 65792 q)) (inl (omega arith))
    go false a false p true c d q = absurd (omega (arith, ltb-false k 256 a, ltb-true l 256 c))
    go false a false p false c true q = absurd (omega (arith, ltb-false k 65792 p, ltb-true l 65792 q))
    go false a false p false c false q = rw (three_is k (ltb-false k 65792 p), three_is l (ltb-false l 65792 q)) (three-less (k - 65792) (l - 65792)
        (omega (arith, ltb-false k 65792 p)))

-- numbers in their order number things in theirs
by_number : (letters_by : ℕ → List ℕ) → ((k l : ℕ) → k < l → LtLetters (letters_by k) (letters_by l)) → (k l : ℕ) → compare_letters (letters_by k)
    (letters_by l) ≡ order k l
by_number letters_by less k l = go (O.tri nat-laws k l)
  where
    go : ((k < l) ⊎ (k ≡ l)) ⊎ (l < k) → compare_letters (letters_by k) (letters_by l) ≡ order k l
    go (inl (inl h)) = compares-less letters-laws (letters_by k) (letters_by l) (less k l h) ∙ sym (compares-less nat-laws k l h)
    go (inl (inr e)) = compares-equal letters-laws (letters_by k) (letters_by l) (ap letters_by e) ∙ sym (compares-equal nat-laws k l e)
    go (inr h) = compares_more letters-laws (letters_by k) (letters_by l) (less l k h) ∙ sym (compares_more nat-laws k l h)

-- the order of factors is the order of their numbers
pub number-order : (k l : ℕ) → compare_letters (letters_of k) (letters_of l) ≡ order k l
number-order = by_number letters_of letters-less

-- ════ parts

some_letters : (k : ℕ) → 0 < length (letters_of k)
unfolding letters_of
some_letters k = go (ltb k 256) (ltb k 65792)
  where
    go : (a b : Bool)
        → 0 < length (when a then k ∷ [] else when b then (k - 256) / 256 ∷ (k - 256) % 256 ∷ [] else (k - 65792) / 65536 ∷ (k - 65792) / 256 % 256 ∷ (k - 65792) %
        256 ∷ [])
    go true b = omega arith
    go false true = omega arith
    go false false = omega arith

parts-less : (k l : ℕ) → k < l → LtLetters (part_letters_of k) (part_letters_of l)
unfolding part_letters_of
parts-less zero zero h = absurd (omega arith)
parts-less zero (suc l) h = inl (some_letters l)
parts-less (suc k) zero h = absurd (omega arith)
parts-less (suc k) (suc l) h = letters-less k l (omega arith)

-- and so is the order of vector parts
pub part-order : (k l : ℕ) → compare_letters (part_letters_of k) (part_letters_of l) ≡ order k l
part-order = by_number part_letters_of parts-less

pub number-part : (k : ℕ) → part_letters_of (1 + k) ≡ letters_of k
unfolding part_letters_of
number-part k = let e : 1 + k ≡ suc k = omega arith in ap part_letters_of e

-- two letters or fewer are those of a small number
few-letters : (k : ℕ) → length (letters_of k) < 3 → k < 65792
unfolding letters_of
few-letters k = go (ltb k 256) refl (ltb k 65792) refl
  where
    go : (a : Bool) → ltb k 256 ≡ a → (b : Bool) → ltb k 65792 ≡ b
        → length (when a then k ∷ [] else when b then (k - 256) / 256 ∷ (k - 256) % 256 ∷ [] else (k - 65792) / 65536 ∷ (k - 65792) / 256 % 256 ∷ (k - 65792) % 256
        ∷ []) < 3 → k < 65792
    go true p b q h = omega (arith, ltb-true k 256 p)
    go false p true q h = ltb-true k 65792 q
    go false p false q h = absurd (omega arith)

-- the number of nothing, of a letter, of a wedge
pub nothing-number : (p : Part) → p ≡ Nothing → PartNumber (part_of p) 0
unfolding part_letters_of part_of
nothing-number p e = record { letters = rw e; small = omega arith }

pub letter-number : (p : Part) (x k : ℕ) → FactorNumber (x ∷ []) k → p ≡ Letter x → PartNumber (part_of p) (1 + k)
unfolding part_of
letter-number p x k h e = record { letters = number-part k ∙ h.letters ∙ rw e; small = omega (arith, few-letters k (omega (arith, ap length h.letters))) }

pub wedge-number : (p : Part) (x y k : ℕ) → FactorNumber (x ∷ y ∷ []) k → p ≡ Wedge x y → PartNumber (part_of p) (1 + k)
unfolding part_of
wedge-number p x y k h e = record { letters = number-part k ∙ h.letters ∙ rw e; small = omega (arith, few-letters k (omega (arith, ap length h.letters))) }
