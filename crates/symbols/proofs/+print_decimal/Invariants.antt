-- `symbols::print_decimal` calls itself on a tenth: the measure is the number. Assumes nothing.
use Rattle.symbols.proofs.+print_decimal.Given as goal

abbrev pub decreases-print_decimal : goal.decreases-print_decimal
decreases-print_decimal l = l.n
