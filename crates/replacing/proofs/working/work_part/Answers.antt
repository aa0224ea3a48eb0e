-- `replacing::working::work_part` meets its contract by the part's case. Assumes nothing.
use Rattle.replacing.proofs.Factors.{part_none, part-letter, part-wedge}
use Rattle.replacing.proofs.working.work_part.Goals as goal

pub returns-in-Nothing : goal.returns-in-Nothing
returns-in-Nothing c = part_none _ _ _ _ c.in-Nothing.is

pub returns-in-Letter : goal.returns-in-Letter
returns-in-Letter c = part-letter _ _ _ _ _ _ c.in-Letter.is c.leaf.ensures

pub returns-in-Wedge : goal.returns-in-Wedge
returns-in-Wedge c = part-wedge _ _ _ _ _ _ _ c.in-Wedge.is c.work_wedge.ensures
