-- Where a letter occurs: in a factor or a vector part by its case, and behind how many leading factors. Assumes nothing.
use mathlib.Core.Path.{◌≡◌, refl, ap, sym, ◌∙◌}
use mathlib.Core.Bool.{Bool, true, false, ◌||◌}
use mathlib.Core.List.{List, map}
use Prim.Native.Nat.{ℕ, suc, ◌+◌, ◌<◌, ◌≤◌}
use native.Mathlib.Omega.{arith}
use lib.Dec.{eqb}
use lib.ListN.{length, get_or, take, drop}
use Rattle.specification.specs.Results.{when◌then◌else◌}
use Rattle.theory.specs.Reduction.Standing.{has_letter, factor_has, leading_of}
use Rattle.terms.specs.declared.factors.Factor.{Factor}
use Rattle.terms.specs.declared.factors.Factor.TheVariants.{Scalar, Dot, Triple}
use Rattle.terms.specs.declared.types.Part.{Part}
use Rattle.terms.specs.declared.types.Part.TheVariants.{Nothing, Letter, Wedge}
use Rattle.terms.specs.Numbers.{letters_of}
use Rattle.terms.specs.Abstraction.{factor_of, part_of}
use Rattle.terms.proofs.Arrays.{rest_at, nothing_left_lem}
use Rattle.terms.proofs.Letters.{scalar_is, dot_is, triple_is, nothing_is, letter_is, wedge_is}

-- ════ one test or another

-- the first decides where it holds
pub or_first : (a b : Bool) → a ≡ true → a ≡ (a || b)
or_first a b e = rw e

-- and the second where it does not
pub or_second : (a b : Bool) → a ≡ false → b ≡ (a || b)
or_second a b e = rw e

or_nothing : (a : Bool) → a ≡ (a || false)
or_nothing true = refl
or_nothing false = refl

or_three : (a b c : Bool) → ((a || b) || c) ≡ (a || (b || (c || false)))
or_three true b c = refl
or_three false true c = refl
or_three false false c = or_nothing c

-- ════ in a factor

module _ (letter k : ℕ) (f : Factor) (e : factor_of f ≡ letters_of k) where
  -- a scalar letter is without it
  pub scalar-has : (x : ℕ) → f ≡ Scalar x → false ≡ factor_has letter (letters_of k)
  unfolding factor_has
  scalar-has x h = sym (ap (factor_has letter) (scalar_is k f e x h))

  -- a dot has it first or second
  pub dot-has : (x y : ℕ) → f ≡ Dot x y → (eqb x letter || eqb y letter) ≡ factor_has letter (letters_of k)
  unfolding factor_has has_letter
  dot-has x y h = ap (λ (b : Bool). eqb x letter || b) (or_nothing (eqb y letter)) ∙ sym (ap (factor_has letter) (dot_is k f e x y h))

  -- a triple first or second, or third
  pub triple-has : (x y z : ℕ) → f ≡ Triple x y z → (b : Bool) → b ≡ (eqb x letter || eqb y letter)
      → (b || eqb z letter) ≡ factor_has letter (letters_of k)
  unfolding factor_has has_letter
  triple-has x y z h b q =
      ap (λ (c : Bool). c || eqb z letter) q ∙ or_three (eqb x letter) (eqb y letter) (eqb z letter)
      ∙ sym (ap (factor_has letter) (triple_is k f e x y z h))

-- ════ in a vector part

module _ (letter : ℕ) (p : Part) where
  -- no part is without it
  pub nothing-has : p ≡ Nothing → false ≡ has_letter letter (part_of p)
  unfolding has_letter
  nothing-has h = sym (ap (has_letter letter) (nothing_is p h))

  -- a letter is it or not
  pub letter-has : (x : ℕ) → p ≡ Letter x → eqb x letter ≡ has_letter letter (part_of p)
  unfolding has_letter
  letter-has x h = or_nothing (eqb x letter) ∙ sym (ap (has_letter letter) (letter_is p x h))

  -- a wedge has it first or second
  pub wedge-has : (x y : ℕ) → p ≡ Wedge x y → (eqb x letter || eqb y letter) ≡ has_letter letter (part_of p)
  unfolding has_letter
  wedge-has x y h = ap (λ (b : Bool). eqb x letter || b) (or_nothing (eqb y letter)) ∙ sym (ap (has_letter letter) (wedge_is p x y h))

-- ════ leading factors

module _ (letter : ℕ) (f : List ℕ) (n i d : ℕ) (g : n ≤ length f) where
  leading_at : (b : Bool) → i < n → b ≡ factor_has letter (letters_of (get_or f i d))
      → leading_of letter (map letters_of (drop i (take n f))) ≡ (when b then 0 else suc (leading_of letter (map letters_of (drop (i + 1) (take n f)))))
  unfolding leading_of
  leading_at b h e =
      ap (λ (l : List ℕ). leading_of letter (map letters_of l)) (rest_at f n i d g h)
      ∙ ap (λ (c : Bool). when c then 0 else suc (leading_of letter (map letters_of (drop (i + 1) (take n f))))) (sym e)

  module _ (b : Bool) (e : b ≡ factor_has letter (letters_of (get_or f i d))) (h : i < n)
      (total : leading_of letter (map letters_of (take n f)) ≡ i + leading_of letter (map letters_of (drop i (take n f)))) where
    -- a factor with the letter ends them
    pub leading-found : b ≡ true → i ≡ leading_of letter (map letters_of (take n f))
    leading-found p =
        let z : leading_of letter (map letters_of (drop i (take n f))) ≡ 0 = leading_at true h (sym p ∙ e) in
        omega (arith, total, z)

    -- one without it is one more
    pub leading-passed : b ≡ false → leading_of letter (map letters_of (take n f)) ≡ (i + 1) + leading_of letter (map letters_of (drop (i + 1) (take n f)))
    leading-passed p =
        let z : leading_of letter (map letters_of (drop i (take n f))) ≡ suc (leading_of letter (map letters_of (drop (i + 1) (take n f)))) =
        leading_at false h (sym p ∙ e) in
        omega (arith, total, z)

-- behind the last factor there is none
pub leading-ended : (letter : ℕ) (f : List ℕ) (n i : ℕ) → n ≤ length f → n ≡ i
    → leading_of letter (map letters_of (take n f)) ≡ i + leading_of letter (map letters_of (drop i (take n f)))
    → n ≡ leading_of letter (map letters_of (take n f))
unfolding leading_of
leading-ended letter f n i g h total =
    let z : leading_of letter (map letters_of (drop i (take n f))) ≡ 0 =
    ap (λ (l : List ℕ). leading_of letter (map letters_of l)) (nothing_left_lem f n i g (omega arith)) in
    omega (arith, total, z)
