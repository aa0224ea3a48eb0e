-- What the passes over summands ask and promise. Assumes nothing.
use Rattle.std.specs.Prelude.{◌≡◌, List, [], ◌∷◌, ◌++◌, map, ℕ, ◌+◌, ◌^◌, ◌≤◌, ◌<◌, leb, eqb, ℤ, length, take, drop}
use Rattle.specification.specs.Results.{when◌then◌else◌}
use Rattle.polynomials.specs.declared.passes.Loaded.{Loaded}
use Rattle.polynomials.specs.Keys.{lowest}
use Rattle.polynomials.specs.Summands.{Summand, mass, kept, put_for, substituted}
use Rattle.polynomials.specs.Memory.{summand}

-- a summand out of memory
unfoldable pub loaded_of : Loaded → Summand
loaded_of s = summand s.key s.coef

-- v can be put for the variable of the digit d: no sum on the way leaves 64 bits
pub record Substitutable (d v : ℕ) (ms : List Summand) : Type 0 where
  pub digit : 1 ≤ d
  pub number : v ≤ 6
  pub small : mass (map (put_for d v) ms) < 2 ^ 62

-- a summand written behind the first j of ms, unless its coefficient is 0: ns are they afterwards, and r are in front
pub record Kept (j key : ℕ) (coef : ℤ) (r : ℕ) (ms ns : List Summand) : Type 0 where
  pub front : take r ns ≡ take j ms ++ kept (summand key coef) []
  pub behind : drop (j + 1) ns ≡ drop (j + 1) ms
  pub few : r ≤ j + 1
  pub count : length ns ≡ length ms

-- v put for the variable of the digit d in the first n of ms: ns are they afterwards, and r are left in front
pub record Substituted (d v n r : ℕ) (ms ns : List Summand) : Type 0 where
  pub is : take r ns ≡ substituted d v (take n ms)
  pub few : r ≤ n
  pub count : length ns ≡ length ms

-- the lesser of two digits, where 0 is none
unfoldable pub lesser_of : (a b : ℕ) → ℕ
lesser_of a b = when eqb a 0 then b else when eqb b 0 then a else when leb a b then a else b

-- the least digit of the keys and of d that is not 0, or 0
unfoldable pub least_from : (d : ℕ) (ms : List Summand) → ℕ
least_from d [] = d
least_from d (m ∷ ms) = least_from (lesser_of d (lowest 8 m.key)) ms
