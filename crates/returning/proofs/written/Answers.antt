-- `returning::written` meets its contract: a length fits. Assumes nothing.
use Rattle.returning.proofs.Numbers.{cast-length}
use Rattle.returning.proofs.written.Goals as goal

pub returns : goal.returns
returns c = cast-length c.requires
