use Rattle.terms.specs.Abstraction.{part_of}
use Rattle.term_trees.proofs.Splitting.{kind_none, kind_some}
use Rattle.term_trees.proofs.kind_of_part.Goals as goal

pub returns-then-part_letters-eq0 : goal.returns-then-part_letters-eq0
returns-then-part_letters-eq0 c = kind_none (part_of c.args.p) _ c.part_letters.ensures c.if-part_letters-eq0.true

pub returns : goal.returns
returns c = kind_some (part_of c.args.p) _ c.part_letters.ensures c.if-part_letters-eq0.false
