-- Polynomials as lists of summands: values, like neighbours added, a number put for the lowest variable. Assumes nothing.
use Rattle.std.specs.Prelude.{Bool, true, false, List, [], ◌∷◌, map, ℕ, suc, ◌+◌, ◌*◌, ◌^◌, ◌≤◌, eqb, ℤ, pos, nat_abs, ◌+ℤ◌, ◌*ℤ◌}
use Rattle.algebra.specs.Integers.{NonZero}
use Rattle.specification.specs.Results.{when◌then◌else◌}
use Rattle.specification.specs.Terms.{is_zero}
use Rattle.polynomials.specs.Keys.{key_value, rest, exponent}

-- a coefficient and a product of variables
pub record Summand : Type 0 where
  pub key : ℕ
  pub coef : ℤ

-- the sum of the coefficients, each times the weight of its key
unfoldable pub weigh : (w : ℕ → ℤ) (ms : List Summand) → ℤ
weigh w [] = pos 0
weigh w (m ∷ ms) = m.coef *ℤ w m.key +ℤ weigh w ms

-- the value where each variable x has the value σ x
abbrev pub total : (σ : ℕ → ℤ) (ms : List Summand) → ℤ
total σ ms = weigh (key_value σ 8) ms

-- the sum of the sizes of the coefficients, each times the weight of its key
unfoldable pub size : (w : ℕ → ℕ) (ms : List Summand) → ℕ
size w [] = 0
size w (m ∷ ms) = nat_abs m.coef * w m.key + size w ms

-- the sum of the sizes of the coefficients
abbrev pub mass : (ms : List Summand) → ℕ
mass ms = size (λ k. 1) ms

-- a summand in front, unless its coefficient is 0
unfoldable pub kept : (m : Summand) (ms : List Summand) → List Summand
kept m ms = when is_zero m.coef then ms else m ∷ ms

-- a summand and those behind it: neighbours of one key are added, zeros dropped
unfoldable pub onto : (m : Summand) (ms : List Summand) → List Summand
onto m [] = kept m []
onto m (r ∷ rs) =
    let added = onto (record { key = m.key; coef = m.coef +ℤ r.coef }) rs in
    let apart = kept m (onto r rs) in
    when eqb m.key r.key then added else apart

-- neighbours of one key added, zeros dropped
unfoldable pub like_added : (ms : List Summand) → List Summand
like_added [] = []
like_added (m ∷ ms) = onto m ms

-- v put for the variable of the digit d where it stands at the end of the key
unfoldable pub put_for : (d v : ℕ) (m : Summand) → Summand
put_for d v m = record { key = rest 8 d m.key; coef = m.coef *ℤ pos (v ^ exponent 8 d m.key) }

-- v put for the variable of the digit d, like neighbours added
unfoldable pub substituted : (d v : ℕ) (ms : List Summand) → List Summand
substituted d v ms = like_added (map (put_for d v) ms)

-- there is a summand
unfoldable pub is_some : (ms : List Summand) → Bool
is_some [] = false
is_some (m ∷ ms) = true

-- the keys ascend from `low` on, equal ones allowed
abbrev pub Weakly : (low : ℕ) (ms : List Summand) → Type 0
Weakly low [] = Unit {0}
Weakly low (m ∷ ms) = (low ≤ m.key) × Weakly m.key ms

-- the keys ascend strictly from `low` on, and no coefficient is 0
abbrev pub Rising : (low : ℕ) (ms : List Summand) → Type 0
Rising low [] = Unit {0}
Rising low (m ∷ ms) = (low ≤ m.key) × NonZero m.coef × Rising (suc m.key) ms
