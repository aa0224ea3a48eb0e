use Rattle.std.proofs.Common.{rules}
use Rattle.terms.proofs.Letters.{one_byte, two_bytes, three_bytes}
use Rattle.terms.proofs.factors.letters_of.Goals as goal

pub returns-then-k-lt-DOTS : goal.returns-then-k-lt-DOTS
returns-then-k-lt-DOTS c = one_byte _ _ c.if-k-lt-DOTS.true c.low.ensures

pub returns-then-k-lt-TRIPLES : goal.returns-then-k-lt-TRIPLES
returns-then-k-lt-TRIPLES c = two_bytes _ _ _ c.if-k-lt-DOTS.false c.if-k-lt-TRIPLES.true c.low-then-k-lt-TRIPLES.ensures c.low-then-k-lt-TRIPLES-2.ensures

pub returns : goal.returns
returns c =
    three_bytes _ _ _ _ c.if-k-lt-TRIPLES.false c.requires c.low-2.ensures
    c.low-3.ensures c.low-4.ensures
