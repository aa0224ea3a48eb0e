use Rattle.std.proofs.Common.{rules}
use Rattle.texts.proofs.Standing.{behind-text}
use Rattle.texts.proofs.byte_at.Reads as reads
use Rattle.texts.proofs.byte_at.Lts as lts
use Rattle.texts.proofs.byte_at.Goals as goal

pub returns : goal.returns
returns c = behind-text c.args.s.now c.args.at c.if-at-s.false
