-- The gathered difference of two forms: what is left is a polynomial of the same value. Assumes nothing.
use mathlib.Core.Path.{◌≡◌, refl, sym, ◌∙◌, ap, ap₂, subst}
use mathlib.Core.Bool.{true}
use mathlib.Core.List.{List, [], ◌∷◌, map}
use Prim.Native.Nat.{ℕ, zero, suc, ◌*◌, ◌/◌, ◌%◌, ◌≤◌}
use native.Mathlib.Nat as N
use native.Mathlib.Omega.{arith}
use borrow.Author.Tests.{le-ltb}
use lib.IntN.{ℤ, pos, ◌*ℤ◌}
use lib.ListN.{length, take}
use Rattle.algebra.specs.Integers as R
use Rattle.algebra.specs.Numbers.{power_one}
use Rattle.theory.specs.Elements.{All}
use Rattle.polynomials.specs.Keys.{rest, exponent, tally, key_value}
use Rattle.polynomials.specs.Summands.{Summand, total, size, like_added, put_for, substituted, is_some, Rising}
use Rattle.polynomials.specs.Memory.{summand}
use Rattle.polynomials.specs.Expansion.{Modest}
use Rattle.elimination.specs.Differences.{Compared}
use Rattle.elimination.specs.Elimination.{strange_digit, Has, weight, bound, Polynomial}
use Rattle.polynomials.proofs.Keys.{Digit, none, same, other, digit, rest_none, rest-other}
use Rattle.polynomials.proofs.Summands.{like-weigh, like-size, like-rising, like-keys}
use Rattle.polynomials.proofs.Orders.{reordered-weigh, reordered-size, reordered_all}
use Rattle.decision.proofs.Contents.{AllHas}

module _ (table : List ℕ) (short : length table ≤ 24) where
  -- 255 is no variable
  strange-255 : strange_digit table 255 ≡ 1
  unfolding strange_digit
  strange-255 = rw (le-ltb 254 (3 * length table) (omega arith))

  plain : (n k : ℕ) → tally (strange_digit table) n k ≡ 0 → rest n 255 k ≡ k
  unfolding tally rest
  plain zero k h = refl
  plain (suc n) k h = go (digit 255 (k % 256)) (plain n (k / 256) (omega arith))
    where
      go : Digit 255 (k % 256) → rest n 255 (k / 256) ≡ k / 256 → rest (suc n) 255 k ≡ k
      go (none e) ih = rest_none n 255 k e ∙ omega (arith, ih, e)
      go (same p e) ih = absurd (omega (arith, h, ap (strange_digit table) e, strange-255))
      go (other p e) ih = rest-other n 255 k p e

  reduced-plain : (ms : List Summand) → AllHas table 6 2 ms → map (put_for 255 1) ms ≡ ms
  unfolding put_for
  reduced-plain [] a = refl
  reduced-plain (m ∷ ms) a =
      ap₂ (λ (x : Summand) (l : List Summand). x ∷ l)
      (ap₂ summand (plain 8 m.key a.0.known) (ap (λ (e : ℕ). m.coef *ℤ pos e) (power_one (exponent 8 255 m.key)) ∙ R.*ℤ-1 m.coef)) (reduced-plain ms a.1)

  weight-most : (k : ℕ) → Has table 6 2 k → weight table k ≤ 186624
  unfolding weight
  weight-most k h = N.mul-le-mul (N.pow-le-pow_right {n = 6} (omega arith) h.vectors) (N.pow-le-pow_right {n = 2} (omega arith) h.scalars)

  size-modest : (ms : List Summand) → All Modest ms → AllHas table 6 2 ms → size (weight table) ms ≤ length ms * (2147483647 * 186624)
  unfolding size
  size-modest [] h a = omega arith
  size-modest (m ∷ ms) h a = omega (arith, size-modest ms h.1 a.1, N.mul-le-mul h.0 (weight-most m.key a.0))

  module _ (es : List Summand) (modest : All Modest es) (has : AllHas table 6 2 es) (few : length es ≤ 3456) (r : ℕ) (ms ns : List Summand) (w : Compared es r ms ns) where
    sorted-has : AllHas table 6 2 (take (length es) w.sorted)
    sorted-has = reordered_all (λ (m : Summand). Has table 6 2 m.key) (length es) w.before w.reordered (subst (AllHas table 6 2) (sym w.expanded) has)

    is : take r ns ≡ like_added (take (length es) w.sorted)
    unfolding substituted
    is = w.is ∙ ap like_added (reduced-plain (take (length es) w.sorted) sorted-has)

    -- what is left has the value
    pub gathered_value : (σ : ℕ → ℤ) → total σ (take r ns) ≡ total σ es
    gathered_value σ =
        ap (total σ) is ∙ like-weigh (key_value σ 8) (take (length es) w.sorted) ∙ reordered-weigh (key_value σ 8) (length es) w.before w.reordered ∙ ap (total σ) w.expanded

    size-there : size (weight table) (take r ns) ≤ bound
    size-there =
        omega (
          arith,
          ap (size (weight table)) is,
          like-size (weight table) (take (length es) w.sorted),
          reordered-size (weight table) (length es) w.before w.reordered,
          ap (size (weight table)) w.expanded,
          size-modest es modest has,
          N.mul-le-mul_right (2147483647 * 186624) few,
        )

    -- and is a polynomial of forms
    pub gathered-polynomial : is_some (take r ns) ≡ true → Polynomial table (take r ns)
    gathered-polynomial s =
        record {
          rising = subst (Rising 0) (sym is) (like-rising (take (length es) w.sorted) w.ascending);
          some = s;
          has = subst (AllHas table 6 2) (sym is) (like-keys (Has table 6 2) (take (length es) w.sorted) sorted-has);
          small = size-there;
        }
