-- The letters that factors use. Assumes nothing.
use Rattle.std.specs.Prelude.{◌≡◌, List, ℕ, ◌≤◌}
use Rattle.specification.specs.Terms.{vector_letters_of, scalar_letters_of}
use Rattle.terms.specs.declared.shape.Used.{Used}

-- their number, never many: a term has at most seven factors of three letters
pub record UsedBy (factors : List (List ℕ)) (u : Used) : Type 0 where
  pub vectors : u.vectors ≡ vector_letters_of factors
  pub scalars : u.scalars ≡ scalar_letters_of factors
  pub few : u.vectors ≤ 21
