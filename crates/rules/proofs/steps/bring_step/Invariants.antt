-- `rules::steps::bring_step` meets its contract: the products of M with the rule's first rows are brought in. Assumes nothing.
use mathlib.Core.Path.{◌≡◌, refl, subst, sym}
use mathlib.Core.Logic.{◌⊎◌}
use mathlib.Core.List.{[]}
use Prim.Native.Nat.{ℕ, ◌+◌, ◌*◌, ◌-◌, ◌%◌, ◌≤◌, ◌<◌}
use native.Mathlib.Nat.{mul-le-mul_right}
use native.Mathlib.Omega.{arith}
use lib.IntN.{nat_abs}
use lib.ListN.{length, get_or}
use Rattle.integers.proofs.Machine.{back, fits_back}
use Rattle.theory.specs.Shape.Terms.{in_limit}
use Rattle.terms.specs.Abstraction.{part_of, term_of}
use Rattle.gathering.specs.Bringing.{coef_bound}
use Rattle.rows.proofs.RowForms.{light_more}
use Rattle.rule_table.specs.Table.{rule_rows, first_row, row_count, part_at, TimesRow}
use Rattle.rule_table.proofs.Tied.{rows_few, row_given}
use Rattle.rules.proofs.Taking.{Turned, product-light, turned_none, turned_more, turned_all, row_fits}
use Rattle.rules.proofs.steps.bring_step.Given as goal

abbrev pub invariant-loop-i : goal.invariant-loop-i
invariant-loop-i l = (l.i ≤ l.count) × Turned (record {
  rule = l.rule;
  letters = l.letters;
  m =
      l.m;
}) l.n l.initial.rows l.initial.coefs l.i l.held l.rows l.coefs × (length l.rows ≡ length l.initial.rows) × (length l.coefs ≡ length l.initial.coefs)
