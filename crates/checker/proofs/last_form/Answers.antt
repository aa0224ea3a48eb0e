use Rattle.std.proofs.Common.{rules}
use Rattle.checker.proofs.LogParts.{whole_rest, nothing-behind}
use Rattle.checker.proofs.last_form.Goals as goal

pub returns-then-start-n : goal.returns-then-start-n
returns-then-start-n c = let s = c.args.log.now in nothing-behind s c.args.start c.if-start-n.true

pub returns : goal.returns
returns c = whole_rest c.args.log.now c.args.start
