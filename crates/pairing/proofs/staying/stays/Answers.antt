use Rattle.std.proofs.Common.{rules}
use Rattle.pairing.specs.Parts.{parts_of}
use Rattle.pairing.proofs.Few.{together-times, some_operation, times_some}
use Rattle.pairing.proofs.staying.stays.Goals as goal

pub returns-in-Times : goal.returns-in-Times
unfolding parts_of
returns-in-Times c =
    let a = c in
    some_operation _ _ _ _ _ c.in-Times.is (times_some _ _ (together-times _ _ _ c.in-Times.is a.requires).1)

pub returns-in-Dot : goal.returns-in-Dot
unfolding parts_of
returns-in-Dot c = some_operation _ _ _ _ _ c.in-Dot.is c.dot_stays.ensures

pub returns-in-Wedge : goal.returns-in-Wedge
unfolding parts_of
returns-in-Wedge c = some_operation _ _ _ _ _ c.in-Wedge.is c.wedge_stays.ensures
