-- `replacing::occurrences::part_has` meets its contract by the part's case. Assumes nothing.
use mathlib.Core.Path.{◌∙◌}
use borrow.Author.Tests.{eq-eqb, ne_eqb}
use Rattle.replacing.proofs.Places.{or_first, or_second, nothing-has, letter-has, wedge-has}
use Rattle.replacing.proofs.occurrences.part_has.Goals as goal

pub returns-in-Nothing : goal.returns-in-Nothing
returns-in-Nothing c = nothing-has _ _ c.in-Nothing.is

pub returns-in-Letter : goal.returns-in-Letter
returns-in-Letter c = letter-has _ _ _ c.in-Letter.is

pub returns-then-x-letter : goal.returns-then-x-letter
returns-then-x-letter c = or_first _ _ (eq-eqb _ _ c.if-x-letter.true) ∙ wedge-has _ _ _ _ c.in-Wedge.is

pub returns-else-x-letter : goal.returns-else-x-letter
returns-else-x-letter c = or_second _ _ (ne_eqb _ _ c.if-x-letter.false) ∙ wedge-has _ _ _ _ c.in-Wedge.is
