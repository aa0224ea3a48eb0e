-- The terms of pairs, as data. Assumes nothing.
use Rattle.std.specs.Prelude.{◌≡◌, List, [], ℕ, ◌*◌, ◌≤◌, T}
use Rattle.specification.specs.Lists.{all}
use Rattle.specification.specs.Terms.{letters_fit, term_within}
use Rattle.specification.specs.Terms as S
use Rattle.specification.specs.Reduction.{pair_staying}
use Rattle.theory.specs.Elements.{All}
use Rattle.terms.specs.declared.types.Term.{Term}
use Rattle.terms.specs.Abstraction.{term_of, Counted}
use Rattle.gathering.specs.Bringing.{Bringable}
use Rattle.pairing.specs.declared.parts.Few.{Few}
use Rattle.pairing.specs.declared.parts.Operation.{Operation}
use Rattle.pairing.specs.Parts.{parts_of, list_of}
use Rattle.pair_limits.specs.Limits.{Paired}

-- a term without its vector part
pub record Scalars (t r : Term) : Type 0 where
  pub is : term_of r ≡ record { coef = t.coef; factors = (term_of t).factors; part = [] }
  pub counted : Counted r
  pub count : r.factor_count ≡ t.factor_count

-- two terms: what stays of them passed the tests
pub record PairFits (op : Operation) (t u : S.Term) : Type 0 where
  pub paired : Paired op t u
  pub letters : T (all letters_fit (pair_staying (parts_of op) (t, u)))
  pub coef : T (all term_within (pair_staying (parts_of op) (t, u)))

-- as data
pub record Pair (op : Operation) (t u : Term) : Type 0 where
  pub left : Counted t
  pub right : Counted u
  pub fits : PairFits op (term_of t) (term_of u)

-- the terms of a pair that stay, each of which can be brought in
pub record PairMade (op : Operation) (t u : Term) (r : Few) : Type 0 where
  pub is : list_of r ≡ pair_staying (parts_of op) (term_of t, term_of u)
  pub few : r.count ≤ 2
  pub first : Bringable r.first
  pub second : Bringable r.second

-- no coefficient is larger before a left term's products are brought in: 96 times 2147483647
abbrev pub pairs_bound : ℕ
pairs_bound = 206158430112

-- nor before those of one pair: twice as much
abbrev pub few_bound : ℕ
few_bound = 412316860224

-- what stays of all pairs of n terms and m terms passed the tests
pub record PairsFit (op : Operation) (n : ℕ) (ts : List S.Term) (m : ℕ) (us : List S.Term) : Type 0 where
  pub few : n * m ≤ 48
  pub right : m ≤ 48
  pub fits : All (λ (t : S.Term). All (PairFits op t) us) ts
