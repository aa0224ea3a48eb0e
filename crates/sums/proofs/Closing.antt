-- Rows closed by their limits. Assumes nothing.
use mathlib.Core.Path.{◌≡◌, refl, ap, sym, ◌∙◌}
use mathlib.Core.List.{List}
use Prim.Native.Nat.{ℕ, ◌≤◌}
use borrow.Author.Tests.{eq-eqb, ne_eqb}
use lib.IntN.{ℤ}
use lib.ListN.{length}
use Rattle.specification.specs.Results.{given, refused}
use Rattle.specification.specs.Terms.{within}
use Rattle.specification.specs.Terms as S
use Rattle.theory.specs.Shape.Forms.{within_given, within-in_shape}
use Rattle.rows.specs.Rows.{run_of, form_by, FormRun, Copied, RowsGive}
use Rattle.std.specs.Prelude.{Ok, Err}
use Rattle.refusal.specs.declared.Refusal.{Refusal}
use Rattle.rows.proofs.RowForms.{rows_refused, rows_given}
use Rattle.limits.specs.Limits.{RunTested, limited_of}
use Rattle.rows.proofs.RowForms.{run-copied, form-copied}
use Rattle.sums.specs.Results.{GatheredRows}

-- ════ rows closed

module _ (kind n : ℕ) (rows : List (List ℕ)) (coefs : List ℤ) (g : GatheredRows kind n rows coefs) where
  -- beyond the limits
  pub limits-stop : (e : Refusal) → RunTested n coefs (Err e) → (rows' : List (List ℕ)) (coefs' : List ℤ) → RowsGive (within kind (run_of n rows coefs)) (Err e) rows' coefs'
  unfolding limited_of
  limits-stop e t rows' coefs' = rows_refused _ e rows' coefs' (t.is rows g.run.room kind)

  module _ (u : Unit {0}) (t : RunTested n coefs (Ok u)) where
    limits_given : within kind (run_of n rows coefs) ≡ given (form_by kind n rows coefs)
    unfolding limited_of
    limits_given = t.is rows g.run.room kind

    limits-form : FormRun kind n rows coefs
    limits-form = record {
      run = g.run;
      light = t.light;
      few = t.few;
      in_shape = within-in_shape kind g.terms (form_by kind n rows coefs) g.small g.fit
          (within_given kind (S.gather g.terms) (form_by kind n rows coefs) (ap (within kind) (sym g.is) ∙ limits_given));
    }

    -- where they stand
    pub limits-give : RowsGive (within kind (run_of n rows coefs)) (Ok (record { kind = kind; count = n })) rows coefs
    limits-give = rows_given _ (record { kind = kind; count = n }) rows coefs limits_given limits-form

    -- and where they were copied
    pub copies-give : (rows' : List (List ℕ)) (coefs' : List ℤ) → n ≤ length rows' → n ≤ length coefs' → Copied n rows coefs rows' coefs'
        → RowsGive (within kind (run_of n rows coefs)) (Ok (record { kind = kind; count = n })) rows' coefs'
    copies-give rows' coefs' hr hc w = rows_given _ (record { kind = kind; count = n }) rows' coefs'
        (limits_given ∙ ap (λ (l : List S.Term). given (record { kind = kind; terms = l })) (sym (run-copied n rows coefs rows' coefs' w)))
        (form-copied n rows coefs rows' coefs' w kind hr hc limits-form)
