-- How far an input is answered. Assumes nothing.
use Rattle.std.specs.Prelude.{ℕ, ◌+◌, ◌≤◌}
use Rattle.derivation_word.specs.Derivations.{DerivationValid}
use Rattle.kalzunbi.specs.declared.typing.Progress.{Progress}

-- a line begins within so many bytes of an input, which are no more than it may have and one, and it has no more lines before it than bytes
pub record InText (n : ℕ) (p : Progress) : Type 0 where
  pub small : n ≤ 65537
  pub valid : DerivationValid p.derivation
  pub within : p.at ≤ n
  pub few : p.line ≤ p.at + 1
