use Rattle.std.proofs.Common.{rules}
use Rattle.terms.proofs.InShape.{scalar-in_shape, dot-in_shape, triple-in_shape, triple-not_in-shape}
use Rattle.terms.proofs.factors.factor_in_shape.Goals as goal

pub returns-then-k-lt-DOTS : goal.returns-then-k-lt-DOTS
returns-then-k-lt-DOTS c = scalar-in_shape _ c.if-k-lt-DOTS.true

pub returns-then-k-lt-TRIPLES : goal.returns-then-k-lt-TRIPLES
returns-then-k-lt-TRIPLES c = dot-in_shape _ c.if-k-lt-DOTS.false c.if-k-lt-TRIPLES.true

pub returns-then-j : goal.returns-then-j
returns-then-j c = triple-in_shape _ c.if-k-lt-TRIPLES.false c.if-j.true

pub returns : goal.returns
returns c = triple-not_in-shape _ c.if-k-lt-TRIPLES.false c.if-j.false
