use Rattle.std.proofs.Common.{rules}
use mathlib.Core.Path.{sym, ◌∙◌}
use native.Mathlib.Omega.{arith}
use Rattle.records.proofs.Readers.{size_one, size_two, size_none}
use Rattle.records.proofs.read.part_size.Goals as goal

pub returns-then-bit_stands : goal.returns-then-bit_stands
returns-then-bit_stands c = (size_one _ (sym c.bit_stands.ensures ∙ c.if-bit_stands.true), omega arith)

pub returns-then-bit_stands-2 : goal.returns-then-bit_stands-2
returns-then-bit_stands-2 c = (size_two _ (sym c.bit_stands.ensures ∙ c.if-bit_stands.false) (sym c.bit_stands-2.ensures ∙ c.if-bit_stands-2.true), omega arith)

pub returns : goal.returns
returns c = (size_none _ (sym c.bit_stands.ensures ∙ c.if-bit_stands.false) (sym c.bit_stands-2.ensures ∙ c.if-bit_stands-2.false), omega arith)
