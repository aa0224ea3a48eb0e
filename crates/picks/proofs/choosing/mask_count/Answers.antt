use mathlib.Core.Path.{◌≡◌, ap, sym}
use Prim.Native.Nat.{ℕ, ◌^◌, ◌≤◌}
use native.Mathlib.Omega.{arith}
use Rattle.picks.proofs.choosing.mask_count.Goals as goal

two : (n : ℕ) → (n ≡ 0 → ⊥) → (n ≡ 1 → ⊥) → 2 ≤ n
two n a b = omega (arith, a, b)

four : (n : ℕ) → 2 ≤ n → (n ≡ 2 → ⊥) → (n ≡ 3 → ⊥) → 4 ≤ n
four n h c d = omega (arith, c, d)

seven : (n : ℕ) → n ≤ 7 → 4 ≤ n → (n ≡ 4 → ⊥) → (n ≡ 5 → ⊥) → (n ≡ 6 → ⊥) → 7 ≡ n
seven n h k e f g = omega (arith, e, f, g)

pub returns-in-0 : goal.returns-in-0
returns-in-0 c = ap (λ (n : ℕ). 2 ^ n) (sym c.in-0.is)

pub returns-in-1 : goal.returns-in-1
returns-in-1 c = ap (λ (n : ℕ). 2 ^ n) (sym c.in-1.is)

pub returns-in-2 : goal.returns-in-2
returns-in-2 c = ap (λ (n : ℕ). 2 ^ n) (sym c.in-2.is)

pub returns-in-3 : goal.returns-in-3
returns-in-3 c = ap (λ (n : ℕ). 2 ^ n) (sym c.in-3.is)

pub returns-in-4 : goal.returns-in-4
returns-in-4 c = ap (λ (n : ℕ). 2 ^ n) (sym c.in-4.is)

pub returns-in-5 : goal.returns-in-5
returns-in-5 c = ap (λ (n : ℕ). 2 ^ n) (sym c.in-5.is)

pub returns-in-6 : goal.returns-in-6
returns-in-6 c = ap (λ (n : ℕ). 2 ^ n) (sym c.in-6.is)

pub returns-in_default : goal.returns-in_default
returns-in_default c = let w = c.in_default.in_default-own.rest in ap (λ (n : ℕ). 2 ^ n) (seven c.args.n c.requires (four c.args.n
    (two c.args.n w.0.0.0.0.0.0.1 w.0.0.0.0.0.1) w.0.0.0.0.1 w.0.0.0.1) w.0.0.1 w.0.1 w.1)
