-- A form in rows taken on by an operator whose second operand was worked in others, and products factor by factor. Assumes nothing.
use mathlib.Core.Path.{◌≡◌, refl, ap, sym}
use mathlib.Core.List.{List, [], ◌∷◌}
use Prim.Native.Nat.{ℕ}
use native.Mathlib.Omega.{arith}
use lib.IntN.{ℤ}
use lib.ListN.{length}
use Rattle.specification.specs.Results.{Result, given, ◌>>=◌}
use Rattle.specification.specs.Terms as S
use Rattle.theory.specs.Reduction.Standing.{part_with, times_part_with}
use Rattle.std.specs.Prelude.{Ok, Err}
use Rattle.std.specs.Prelude as Std
use Rattle.refusal.specs.declared.Refusal.{Refusal}
use Rattle.rows.specs.declared.Worked.{Worked}
use Rattle.rows.specs.Rows.{form_by, FormRun, RowsGive}
use Rattle.rows.proofs.RowForms.{rows_refused, rows_as}
use Rattle.replacing.specs.Replacing.{times_result}

-- ════ results

-- a form that stands in its rows
pub stands_so : (x : Worked) (rows : List (List ℕ)) (coefs : List ℤ) → FormRun x.kind x.count rows coefs
    → RowsGive (given (form_by x.kind x.count rows coefs)) (Ok x) rows coefs
stands_so x rows coefs v = record { is = refl; form = v }

module _ (k : S.Form → Result S.Form) (r : Result S.Form) (more : List (List ℕ)) (beside : List ℤ) where
  -- the operand was refused: what follows is not worked
  pub refused_on : (e : Refusal) → RowsGive r (Err e) more beside → (rows : List (List ℕ)) (coefs : List ℤ) → RowsGive (r >>= k) (Err e) rows coefs
  refused_on e g rows coefs = rows_refused (r >>= k) e rows coefs (ap (λ (x : Result S.Form). x >>= k) (sym g.is))

  -- the operand is a form: what follows is worked with it
  pub given_on : (y : Worked) → RowsGive r (Ok y) more beside → (w : Std.Result Worked Refusal) (rows : List (List ℕ)) (coefs : List ℤ)
      → RowsGive (k (form_by y.kind y.count more beside)) w rows coefs → RowsGive (r >>= k) w rows coefs
  given_on y g w rows coefs = rows_as _ (r >>= k) w rows coefs (ap (λ (x : Result S.Form). x >>= k) g.is)

-- ════ vector parts

module _ (leaf : (n kind : ℕ) → S.Form) where
  -- no vector part: the form stands
  pub no_part-stands : (x : Worked) (rows : List (List ℕ)) (coefs : List ℤ) (p : List ℕ) → length p ≡ 0 → FormRun x.kind x.count rows coefs
      → RowsGive (times_part_with leaf (form_by x.kind x.count rows coefs) p) (Ok x) rows coefs
  unfolding times_part_with
  no_part-stands x rows coefs [] e v = stands_so x rows coefs v
  no_part-stands x rows coefs (a ∷ p) e v = absurd (omega (arith, e))

  -- a vector part is an operand
  pub part-times : (f : S.Form) (p : List ℕ) (w : Std.Result Worked Refusal) (rows : List (List ℕ)) (coefs : List ℤ) → (length p ≡ 0 → ⊥)
      → RowsGive (times_result f (part_with leaf p)) w rows coefs → RowsGive (times_part_with leaf f p) w rows coefs
  unfolding times_part_with
  part-times f [] w rows coefs h g = absurd (h refl)
  part-times f (a ∷ p) w rows coefs h g = g
