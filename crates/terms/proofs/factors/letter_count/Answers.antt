use Rattle.std.proofs.Common.{rules}
use Rattle.terms.proofs.Letters.{one_long, two_long, three-long}
use Rattle.terms.proofs.factors.letter_count.Goals as goal

pub returns-then-k-lt-DOTS : goal.returns-then-k-lt-DOTS
returns-then-k-lt-DOTS c = one_long _ c.if-k-lt-DOTS.true

pub returns-then-k-lt-TRIPLES : goal.returns-then-k-lt-TRIPLES
returns-then-k-lt-TRIPLES c = two_long _ c.if-k-lt-DOTS.false c.if-k-lt-TRIPLES.true

pub returns : goal.returns
returns c = three-long _ c.if-k-lt-TRIPLES.false
