-- The limits of a run of rows. Assumes nothing.
use Rattle.std.specs.Prelude.{◌≡◌, List, ℕ, ◌≤◌, ℤ, length, OnOk}
use Rattle.std.specs.Prelude as Std
use Rattle.specification.specs.Results.{Result}
use Rattle.specification.specs.Terms.{within}
use Rattle.specification.specs.Terms as S
use Rattle.refusal.specs.declared.Refusal.{Refusal}
use Rattle.refusal.specs.Tests.{answer_of}
use Rattle.rows.specs.Rows.{run_of, Light}

-- a form of a kind with these terms, or the refusal of its limits
unfoldable pub limited_of : Std.Result (Unit {0}) Refusal → (kind : ℕ) → List S.Term → Result S.Form
limited_of r kind ts = answer_of (λ _. record { kind = kind; terms = ts }) r

-- the limits of n rows tested
pub record RunTested (n : ℕ) (coefs : List ℤ) (r : Std.Result (Unit {0}) Refusal) : Type 0 where
  pub is : (rows : List (List ℕ)) → n ≤ length rows → (kind : ℕ) → within kind (run_of n rows coefs) ≡ limited_of r kind (run_of n rows coefs)
  pub few : OnOk r (n ≤ 48)
  pub light : OnOk r (Light 2147483647 n coefs)
