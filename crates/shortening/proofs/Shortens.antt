-- The log of a derivation that was found shortens its form. Assumes nothing.
use mathlib.Core.Path.{◌≡◌, refl}
use mathlib.Core.List.{List}
use Prim.Native.Nat.{ℕ}
use native.Mathlib.Omega.{arith}
use lib.Dec.{T}
use lib.ListN.{length}
use Rattle.specification.specs.Results.{given}
use Rattle.specification.specs.Letters.{good_table}
use Rattle.specification.specs.Records.{test_terms}
use Rattle.specification.specs.Logs.{write_log}
use Rattle.specification.specs.Shortening.{Shortens}
use Rattle.theory.proofs.Records.Logs.{log_of, log-read_back}
use Rattle.theory.proofs.Replay.Accepted.{Derives, derivation-accepted}
use Rattle.terms.specs.declared.types.Form.{Form}
use Rattle.terms.specs.Abstraction.{form_of}
use Rattle.terms.specs.Valid.{FormValid}
use Rattle.terms.proofs.Forms.{form-long}
use Rattle.logs.specs.Steps.{steps_of}
use Rattle.logs.proofs.StepRecords.{steps-long}
use Rattle.shortening.specs.declared.rounds.Derivation.{Derivation}
use Rattle.shortening.specs.Derived.{Derived}

module _ (table : List ℕ) (good : T (good_table table)) (f : Form) (valid : FormValid f) (tested : test_terms table (form_of f).terms ≡ given tt) (d : Derivation)
    (w : Derived table f d) where
  -- its steps lead from the form to the last one
  pub steps-derive : Derives table (form_of f) (steps_of d.steps) (form_of d.last)
  steps-derive = w.derives good tested

  -- and its log shortens the form
  pub steps-shorten : length f.terms ≡ 48 → length d.last.terms ≡ 48 → Shortens table (form_of f) (log_of (form_of f) (steps_of d.steps) (form_of d.last))
  steps-shorten places rooms = record {
    bytes = write_log (form_of f) (steps_of d.steps) (form_of d.last);
    reads = log-read_back (form_of f) (steps_of d.steps) (form_of d.last) steps-derive.in_shape;
    begins = refl;
    is_accepted = derivation-accepted table (form_of f) (steps_of d.steps) (form_of d.last) steps-derive;
    saves = omega (arith, steps-long d.steps w.valid.steps, w.saves, form-long f valid places, form-long d.last w.valid.last rooms);
    shortest = w.shortest tested;
  }
