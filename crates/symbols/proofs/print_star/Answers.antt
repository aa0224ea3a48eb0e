-- `symbols::print_star` meets its contract: a star between what stands before and a vector part. Assumes nothing.
use Rattle.terms.proofs.Letters.{nothing_is, letter_is, wedge_is}
use Rattle.symbols.proofs.Pieces.{star-none_before, star_none_behind, star-stored}
use Rattle.symbols.proofs.print_star.Goals as goal

pub returns-then-at-from : goal.returns-then-at-from
returns-then-at-from c = star-none_before _ _ _ _ c.if-at-from.true

pub returns-in-Nothing : goal.returns-in-Nothing
returns-in-Nothing c = star_none_behind _ _ _ _ (nothing_is _ c.in-Nothing.is)

pub returns-in-Letter : goal.returns-in-Letter
returns-in-Letter c = star-stored _ _ _ _ _ _ c.if-at-from.false c.requires (letter_is _ _ c.in-Letter.is)

pub returns-in-Wedge : goal.returns-in-Wedge
returns-in-Wedge c = star-stored _ _ _ _ _ _ c.if-at-from.false c.requires (wedge_is _ _ _ c.in-Wedge.is)
