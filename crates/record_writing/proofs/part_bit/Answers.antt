-- `record_writing::part_bit` meets its contract: a bit for each kind of vector part. Assumes nothing.
use Rattle.std.proofs.Common.{rules}
use Rattle.specification.specs.Records.{part_bit}
use Rattle.terms.proofs.Letters.{nothing_is, letter_is, wedge_is}
use Rattle.record_writing.proofs.part_bit.Goals as goal

pub returns-in-Nothing : goal.returns-in-Nothing
unfolding part_bit
returns-in-Nothing c = rw (nothing_is _ c.in-Nothing.is)

pub returns-in-Letter : goal.returns-in-Letter
unfolding part_bit
returns-in-Letter c = rw (letter_is _ _ c.in-Letter.is)

pub returns-in-Wedge : goal.returns-in-Wedge
unfolding part_bit
returns-in-Wedge c = rw (wedge_is _ _ _ c.in-Wedge.is)
