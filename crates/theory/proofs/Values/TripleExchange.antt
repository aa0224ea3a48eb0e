-- The last two letters of a triple exchanged: it changes its sign. Assumes nothing.
use Rattle.std.specs.Prelude.{◌≡◌, List, [], ◌∷◌, ◌*ℤ◌}
use Rattle.std.proofs.Math.Path.{refl}
use Rattle.std.proofs.Math.IntN.{pos, negsuc}
use Rattle.algebra.proofs.Normaliser.{lit, ◌⊗◌, normalising}
use Rattle.specification.specs.Values.{Vec, triple}
use Rattle.theory.specs.Values.Expressions.{triple_e, A, B, C, letters, same_numbers}

-- (acb) = −(abc)
pub triple-exchange_last : (a b c : Vec) → triple a b c ≡ negsuc 0 *ℤ triple a c b
unfolding normalising
triple-exchange_last a b c =
    same_numbers (triple_e A B C) (lit (negsuc 0) ⊗ triple_e A C B) (letters (a ∷ b ∷ c ∷ [])) refl
