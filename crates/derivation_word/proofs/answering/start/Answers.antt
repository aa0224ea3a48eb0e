-- `derivation_word::answering::start` meets its contract. Assumes nothing.
use mathlib.Core.Bool.{true≢false}
use mathlib.Core.Path.{refl, sym}
use native.Mathlib.Omega.{arith}
use Rattle.theory.proofs.Text.Derivations.{start-goes}
use Rattle.derivation_word.specs.Derivations.{names_of, kinds_of, derivation_of}
use Rattle.derivation_word.proofs.answering.start.Goals as goal

pub returns : goal.returns
unfolding names_of kinds_of derivation_of
returns c =
    (record { few = omega arith; named = refl; kinds = refl; going = start-goes; whole = λ t. absurd (true≢false (sym t)) }, refl)
