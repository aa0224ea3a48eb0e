-- The letters that a mask leaves to the rule, counted one factor after the other. Assumes nothing.
use mathlib.Core.Path.{◌≡◌, refl, sym, ap, subst, ◌∙◌}
use mathlib.Core.Bool.{false}
use mathlib.Core.List.{List, ◌∷◌, map}
use Prim.Native.Nat.{ℕ, ◌+◌, ◌/◌, ◌%◌, ◌<◌, ◌≤◌}
use native.Mathlib.Omega.{arith}
use borrow.Author.Tests.{eq-eqb, ne_eqb}
use lib.Dec.{T}
use lib.ListN.{length, length-append, get_or, take, drop}
use Rattle.specification.specs.Lists.{joined, all}
use Rattle.theory.specs.Shortening.Masks.{left_over}
use Rattle.terms.specs.Numbers.{letters_of}
use Rattle.terms.proofs.Arrays.{rest_at, nothing_left_lem}
use Rattle.picks.specs.Choosing.{is_vectors, LeftBy}

-- the letters counted so far, before those from a place on
pub record Counting (fs rest : List (List ℕ)) (mask b c : ℕ) : Type 0 where
  pub is : all is_vectors (left_over mask fs) ≡ all is_vectors (left_over b rest)
  pub counted : length (joined (left_over mask fs)) ≡ c + length (joined (left_over b rest))

pub counting_as : {fs rest : List (List ℕ)} {mask b c c' : ℕ} → c ≡ c' → Counting fs rest mask b c' → Counting fs rest mask b c
counting_as {fs} {rest} {mask} {b} {c} {c'} e w = subst (λ (n : ℕ). Counting fs rest mask b n) (sym e) w

module _ (f : List ℕ) (n mask : ℕ) (h : n ≤ length f) where
  abbrev from : ℕ → List (List ℕ)
  from i = map letters_of (drop i (take n f))

  pub counting_none : Counting (from 0) (from 0) mask mask 0
  counting_none = record { is = refl; counted = omega arith }

  module _ (b c i : ℕ) (g : i < n) (w : Counting (from 0) (from i) mask b c) where
    next : from i ≡ letters_of (get_or f i 0) ∷ from (i + 1)
    next = ap (map letters_of) (rest_at f n i 0 h g)

    -- a letter alone is left
    pub scalar-stays : b % 2 ≡ 0 → length (letters_of (get_or f i 0)) ≡ 1 → LeftBy (from 0) mask 64
    unfolding left_over all is_vectors
    scalar-stays e s =
        let fails : all is_vectors (left_over b (from i)) ≡ false = rw (next, e, eq-eqb (length (letters_of (get_or f i 0))) 1 s) in
        record { is = λ v. absurd (subst T (sym v ∙ w.is ∙ fails) tt); few = omega arith }

    -- a factor of vectors is left
    pub vectors-stay : b % 2 ≡ 0 → (l : ℕ) → l ≡ length (letters_of (get_or f i 0)) → (l ≡ 1 → ⊥) → Counting (from 0) (from (i + 1)) mask (b / 2) (c + l)
    unfolding left_over all is_vectors joined
    vectors-stay e l el s =
        let rest = joined (left_over (b / 2) (from (i + 1))) in
        let here : length (joined (left_over b (from i))) ≡ length (letters_of (get_or f i 0)) + length rest = rw (next, e)
        (length-append (letters_of (get_or f i 0)) rest) in
        record {
          is = w.is ∙ rw (next, e, ne_eqb (length (letters_of (get_or f i 0))) 1 (λ q. s (el ∙ q)));
          counted = omega (arith, w.counted, here, el);
        }

    -- a factor goes to M
    pub factor-goes : (b % 2 ≡ 0 → ⊥) → Counting (from 0) (from (i + 1)) mask (b / 2) c
    unfolding left_over all joined
    factor-goes e = let one : b % 2 ≡ 1 = omega (arith, e) in record { is = w.is ∙ rw (next, one); counted = w.counted ∙ rw (next, one) }

  pub counting_all : (b c i : ℕ) → n ≤ i → c ≤ 64 → Counting (from 0) (from i) mask b c → LeftBy (from 0) mask c
  unfolding left_over joined
  counting_all b c i g few w = record { is = λ v. sym (w.counted ∙ rw (ap (map letters_of) (nothing_left_lem f n i h g)) (omega arith)); few = few }
