use Rattle.std.proofs.Common.{rules}
use Rattle.pairing.proofs.Few.{times-made}
use Rattle.pairing.proofs.parts.times_parts.Goals as goal

pub returns : goal.returns
returns c = times-made _ _ _ _ _ c.requires.1 c.join_parts-o.ensures c.alone.ensures c.one.ensures
