-- What two vector parts make: the terms as data. Assumes nothing.
use Rattle.std.specs.Prelude.{◌≡◌, ◌⊎◌, Bool, true, false, List, [], ◌∷◌, ◌++◌, map, ℕ, ◌≤◌, pos, nat_abs, take}
use Rattle.specification.specs.Terms.{exchange_sign}
use Rattle.specification.specs.Terms as S
use Rattle.specification.specs.Reduction.{times_parts, dot_parts, wedge_parts}
use Rattle.terms.specs.declared.types.Term.{Term}
use Rattle.terms.specs.Abstraction.{term_of, Counted}
use Rattle.pairing.specs.declared.parts.Operation.{Operation}
use Rattle.pairing.specs.declared.parts.Operation.TheVariants.{Times, Dot, Wedge}
use Rattle.pairing.specs.declared.parts.Few.{Few}

-- what an operation makes of two vector parts
unfoldable pub parts_of : Operation → List ℕ → List ℕ → List S.Term
parts_of Times = times_parts
parts_of Dot = dot_parts
parts_of Wedge = wedge_parts

-- a product by a scalar has at most one vector part, its letters in order
unfoldable pub Together : Operation → List ℕ → List ℕ → Type 0
Together Times p q = ((p ≡ []) ⊎ (q ≡ [])) × (exchange_sign (p ++ q) ≡ pos 1)
Together Dot p q = Unit {0}
Together Wedge p q = Unit {0}

-- there is a term
unfoldable pub is_some : List S.Term → Bool
is_some [] = false
is_some (t ∷ ts) = true

-- a term with the coefficient 1 or −1 and at most two factors
pub record Small (t : Term) : Type 0 where
  pub counted : Counted t
  pub few : t.factor_count ≤ 2
  pub unit : nat_abs t.coef ≤ 1

-- such a term, as the specification has it
pub record Made (t : S.Term) (r : Term) : Type 0 where
  pub is : term_of r ≡ t
  pub small : Small r

-- at most two terms as a list
unfoldable pub list_of : Few → List S.Term
list_of r = map term_of (take r.count (r.first ∷ r.second ∷ []))

-- at most two such terms, as the specification has them
pub record FewMade (ts : List S.Term) (r : Few) : Type 0 where
  pub is : list_of r ≡ ts
  pub few : r.count ≤ 2
  pub first : Small r.first
  pub second : Small r.second
