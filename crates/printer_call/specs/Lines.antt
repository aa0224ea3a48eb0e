-- The line that a table and an expression print. Assumes nothing.
use Rattle.std.specs.Prelude.{List, ℕ}
use Rattle.specification.specs.Results.{Result, ◌>>◌}
use Rattle.specification.specs.Letters.{test_table}
use Rattle.specification.specs.Terms.{Form}
use Rattle.specification.specs.Reduction.{reduced}
use Rattle.specification.specs.Printing.{print_result}

-- the table's own test, then the expression's form, or a refusal
unfoldable pub table_reduced : (table expr : List ℕ) → Result Form
table_reduced table expr = test_table table >> reduced table expr

-- its line
unfoldable pub print_reduced : (table expr : List ℕ) → List ℕ
print_reduced table expr = print_result (table_reduced table expr)
