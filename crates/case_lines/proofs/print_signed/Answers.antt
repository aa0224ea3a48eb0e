-- `case_lines::print_signed` is safe and ends: only the least number has no size of 63 bits. Assumes nothing.
use mathlib.Core.Path.{sym, ◌∙◌}
use Rattle.case_lines.proofs.Sizes.{not_least}
use Rattle.case_lines.proofs.print_signed.Goals as goal

pub print_number-requires : goal.print_number-requires
print_number-requires c = not_least c.ranges.a (sym c.less.ensures ∙ c.if-less.false)
