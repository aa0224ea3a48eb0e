-- A leaf's term. Assumes nothing.
use Rattle.std.specs.Prelude.{◌≡◌}
use Rattle.specification.specs.Terms as S
use Rattle.terms.specs.declared.types.Term.{Term}
use Rattle.terms.specs.Abstraction.{term_of, Counted}

-- a term as the specification has it
pub record TermAs (t : S.Term) (r : Term) : Type 0 where
  pub is : term_of r ≡ t
  pub counted : Counted r
