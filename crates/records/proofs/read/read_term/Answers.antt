use Rattle.std.proofs.Common.{rules}
use mathlib.Core.Path.{sym, ◌∙◌}
use Rattle.records.specs.Reading.{read_of}
use Rattle.records.proofs.Readers.{term-behind, term-bad-bits, term-fields}
use borrow.Author.Tests.{not-true, not-false}
use Rattle.records.proofs.read.read_term.Goals as goal

pub returns-then-at-s : goal.returns-then-at-s
unfolding read_of
returns-then-at-s c = record { is = term-behind _ _ c.if-at-s.true; counted = tt }

pub returns-then-not-bits_fit : goal.returns-then-not-bits_fit
unfolding read_of
returns-then-not-bits_fit c = record { is = term-bad-bits _ _ c.if-at-s.false (sym c.bits_fit.ensures ∙ c.if-not-bits_fit.true); counted = tt }

pub returns : goal.returns
returns c =
    record {
      is = c.read_fields.ensures.is ∙ term-fields _ _ c.if-at-s.false
          (sym c.bits_fit.ensures ∙ c.if-not-bits_fit.false);
      counted = c.read_fields.ensures.counted;
    }
