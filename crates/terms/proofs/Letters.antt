-- The letters of factors and vector parts by their cases; every factor has one, two or three. Assumes nothing.
use mathlib.Core.Path.{◌≡◌, ap, sym, ◌∙◌}
use mathlib.Core.Bool.{Bool, true, false}
use mathlib.Core.List.{[], ◌∷◌}
use Prim.Native.Nat.{ℕ, ◌+◌, ◌-◌, ◌/◌, ◌%◌, ◌<◌, ◌≤◌}
use native.Mathlib.Omega.{arith}
use lib.Dec.{ltb}
use lib.ListN.{length}
use Rattle.specification.specs.Results.{when◌then◌else◌}
use Rattle.terms.specs.declared.factors.Factor.{Factor}
use Rattle.terms.specs.declared.factors.Factor.TheVariants.{Scalar, Dot, Triple}
use Rattle.terms.specs.declared.types.Part.{Part}
use Rattle.terms.specs.declared.types.Part.TheVariants.{Nothing, Letter, Wedge}
use Rattle.terms.specs.Numbers.{letters_of, part_letters_of}
use Rattle.terms.specs.Abstraction.{factor_of, part_of}
use Rattle.terms.proofs.Numbers.{one_is, two_is, three_is, number-part}

-- ════ the letters as bytes

-- a scalar letter is one byte
pub one_byte : (k a : ℕ) → k < 256 → a ≡ k % 256 → factor_of (Scalar a) ≡ letters_of k
unfolding factor_of
one_byte k a h p = let e : k ≡ a = omega arith in sym (one_is k h ∙ rw e)

-- a dot is two
pub two_bytes : (k a b : ℕ) → 256 ≤ k → k < 65792 → a ≡ (k - 256) / 256 % 256 → b ≡ (k - 256) % 256 → factor_of (Dot a b) ≡ letters_of k
unfolding factor_of
two_bytes k a b h g p q = let e : (k - 256) / 256 ≡ a = omega arith in sym (two_is k h g ∙ rw (e, sym q))

-- a triple is three
pub three_bytes : (k a b c : ℕ) → 65792 ≤ k → k < 16843008 → a ≡ (k - 65792) / 65536 % 256 → b ≡ (k - 65792) / 256 % 256 → c ≡ (k - 65792) % 256
    → factor_of (Triple a b c) ≡ letters_of k
unfolding factor_of
three_bytes k a b c h g p q r = let e : (k - 65792) / 65536 ≡ a = omega arith in sym (three_is k h ∙ rw (e, sym q, sym r))

-- ════ the factor of a number, by its case

module _ (k : ℕ) (f : Factor) (e : factor_of f ≡ letters_of k) where
  pub scalar_is : (x : ℕ) → f ≡ Scalar x → letters_of k ≡ x ∷ []
  unfolding factor_of
  scalar_is x h = sym e ∙ ap factor_of h

  pub dot_is : (x y : ℕ) → f ≡ Dot x y → letters_of k ≡ x ∷ y ∷ []
  unfolding factor_of
  dot_is x y h = sym e ∙ ap factor_of h

  pub triple_is : (x y z : ℕ) → f ≡ Triple x y z → letters_of k ≡ x ∷ y ∷ z ∷ []
  unfolding factor_of
  triple_is x y z h = sym e ∙ ap factor_of h

-- ════ how many letters

pub one_long : (k : ℕ) → k < 256 → 1 ≡ length (letters_of k)
one_long k h = rw (one_is k h)

pub two_long : (k : ℕ) → 256 ≤ k → k < 65792 → 2 ≡ length (letters_of k)
two_long k h g = rw (two_is k h g)

pub three-long : (k : ℕ) → 65792 ≤ k → 3 ≡ length (letters_of k)
three-long k h = rw (three_is k h)

-- at least one, at most three
pub letters-long : (k : ℕ) → (1 ≤ length (letters_of k)) × (length (letters_of k) ≤ 3)
unfolding letters_of
letters-long k = go (ltb k 256) (ltb k 65792)
  where
    go : (a b : Bool)
        → (1 ≤ length (when a then k ∷ [] else when b then (k - 256) / 256 ∷ (k - 256) % 256 ∷ [] else (k - 65792) / 65536 ∷ (k - 65792) / 256 % 256 ∷ (k - 65792)
        % 256 ∷ []))
        × (length (when a then k ∷ [] else when b then (k - 256) / 256 ∷ (k - 256) % 256 ∷ [] else (k - 65792) / 65536 ∷ (k - 65792) / 256 % 256 ∷ (k - 65792) %
        256 ∷ []) ≤ 3)
    go true b = (omega arith, omega arith)
    go false true = (omega arith, omega arith)
    go false false = (omega arith, omega arith)

-- ════ vector parts

-- no part has no letters
pub nothing_is : (p : Part) → p ≡ Nothing → part_of p ≡ []
unfolding part_of
nothing_is p e = rw e

-- a letter has one
pub letter_is : (p : Part) (x : ℕ) → p ≡ Letter x → part_of p ≡ x ∷ []
unfolding part_of
letter_is p x e = rw e

-- a wedge has two
pub wedge_is : (p : Part) (x y : ℕ) → p ≡ Wedge x y → part_of p ≡ x ∷ y ∷ []
unfolding part_of
wedge_is p x y e = rw e

-- the vector part of a number: nothing
pub part-nothing : (k : ℕ) → k ≡ 0 → part_of Nothing ≡ part_letters_of k
unfolding part_of part_letters_of
part-nothing k e = rw e

module _ (k i : ℕ) (z : k ≡ 0 → ⊥) (e : i ≡ k - 1) where
  behind-nothing : letters_of i ≡ part_letters_of k
  behind-nothing = let q : 1 + i ≡ k = omega arith in sym (number-part i) ∙ ap part_letters_of q

  -- a letter
  pub part-letter : (a : ℕ) → i < 256 → a ≡ i % 256 → part_of (Letter a) ≡ part_letters_of k
  unfolding part_of
  part-letter a h p = let r : i ≡ a = omega arith in sym (one_is i h ∙ rw r) ∙ behind-nothing

  -- a wedge
  pub part-wedge : (a b : ℕ) → 256 ≤ i → k < 65793 → a ≡ (i - 256) / 256 % 256 → b ≡ (i - 256) % 256 → part_of (Wedge a b) ≡ part_letters_of k
  unfolding part_of
  part-wedge a b h g p q = let l : i < 65792 = omega arith in let r : (i - 256) / 256 ≡ a = omega arith in sym (two_is i h l ∙ rw (r, sym q)) ∙ behind-nothing
