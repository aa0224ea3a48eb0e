use Rattle.std.proofs.Common.{rules}
use mathlib.Core.Path.{sym, ◌∙◌}
use Rattle.records.proofs.Readers.{bits-beyond, bits-letter, bits-other}
use Rattle.records.proofs.read.bits_fit.Goals as goal

pub returns-then-m-ge64 : goal.returns-then-m-ge64
returns-then-m-ge64 c = bits-beyond _ c.if-m-ge64.true

pub returns-then-bit_stands : goal.returns-then-bit_stands
returns-then-bit_stands c = bits-letter _ c.if-m-ge64.false (sym c.bit_stands.ensures ∙ c.if-bit_stands.true) _ c.bit_stands-then-bit_stands.ensures

pub returns : goal.returns
returns c = bits-other _ c.if-m-ge64.false (sym c.bit_stands.ensures ∙ c.if-bit_stands.false)
