-- `replacing::occurrences::factor_has` meets its contract by the factor's case. Assumes nothing.
use mathlib.Core.Path.{◌≡◌, ◌∙◌}
use mathlib.Core.Bool.{◌||◌}
use lib.Dec.{eqb}
use borrow.Author.Tests.{eq-eqb, ne_eqb}
use Rattle.replacing.proofs.Places.{or_first, or_second, scalar-has, dot-has, triple-has}
use Rattle.replacing.proofs.occurrences.factor_has.Goals.{Joined-x-letter-2, then-x-letter-2, else-x-letter-2}
use Rattle.replacing.proofs.occurrences.factor_has.Goals as goal

pub returns-in-Scalar : goal.returns-in-Scalar
returns-in-Scalar c = scalar-has _ _ _ c.letters_of-f.ensures _ c.in-Scalar.is

pub returns-then-x-letter : goal.returns-then-x-letter
returns-then-x-letter c =
    or_first _ _ (eq-eqb _ _ c.if-x-letter.true) ∙ dot-has _ _ _ c.letters_of-f.ensures _ _ c.in-Dot.is

pub returns-else-x-letter : goal.returns-else-x-letter
returns-else-x-letter c =
    or_second _ _ (ne_eqb _ _ c.if-x-letter.false) ∙ dot-has _ _ _ c.letters_of-f.ensures _ _ c.in-Dot.is

-- a triple's first two letters
either : (c : Joined-x-letter-2) → c.if-x-letter-2.t-12 ≡ (eqb c.in-Triple.x c.args.letter
    || eqb c.in-Triple.y c.args.letter)
either c =
    elim c.if-x-letter-2.branch [
      | then-x-letter-2 w ↦ w.t-12-is ∙ or_first _ _ (eq-eqb _ _ w.if-x-letter-2.true)
      | else-x-letter-2 w ↦ w.t-12-is ∙ or_second _ _ (ne_eqb _ _ w.if-x-letter-2.false)
    ]

pub returns-then-y-letter : goal.returns-then-y-letter
returns-then-y-letter c =
    or_first _ _ c.if-y-letter.true-raw
    ∙ triple-has _ _ _ c.letters_of-f.ensures _ _ _ c.in-Triple.is _ (either (goal.at.returns-then-y-letter c).Joined-x-letter-2)

pub returns-else-y-letter : goal.returns-else-y-letter
returns-else-y-letter c =
    or_second _ _ c.if-y-letter.false-raw
    ∙ triple-has _ _ _ c.letters_of-f.ensures _ _ _ c.in-Triple.is _ (either (goal.at.returns-else-y-letter c).Joined-x-letter-2)
