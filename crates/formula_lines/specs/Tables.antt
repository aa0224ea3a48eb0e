-- Names and the table of their kinds. Assumes nothing.
use Rattle.std.specs.Prelude.{List, ℕ, T}
use Rattle.specification.specs.Letters.{good_table}
use Rattle.specification.specs.Text.{good_names}

-- names that fit a good table
pub record GoodTable (names table : List ℕ) : Type 0 where
  pub table_good : T (good_table table)
  pub names_good : T (good_names names table)
