-- What the replay gives, and equal terms. Assumes nothing.
use Rattle.std.specs.Prelude.{◌≡◌, Bool, ◌&&◌, List, [], ℕ, ◌+◌, ℤ, length}
use Rattle.std.proofs.Math.Dec.{compare_is_eq}
use Rattle.specification.specs.Results.{when◌then◌else◌}
use Rattle.specification.specs.Terms.{compare_terms}
use Rattle.specification.specs.Terms as S
use Rattle.specification.specs.Logs.{Log, refused_at, accepted, same_coef, replay}
use Rattle.terms.specs.declared.types.Form.{Form}
use Rattle.terms.specs.Abstraction.{form_of}
use Rattle.rows.specs.Rows.{form_by, FormRun}
use Rattle.logs.specs.declared.steps.Steps.{Steps}
use Rattle.std.specs.Prelude.{IfOk}
use Rattle.std.specs.Prelude as Std
use Rattle.logs.specs.declared.steps.RefusedAt.{RefusedAt}
use Rattle.logs.specs.Steps.{steps_of, found_of}

-- how many rows the form has that all steps reach from that of a kind in n rows, or the refusal of one
pub record ReachedAs (kind n : ℕ) (rows : List (List ℕ)) (coefs : List ℤ) (q : Steps) (r : Std.Result ℕ RefusedAt) (rows' : List (List ℕ)) (coefs' : List ℤ) : Type 0 where
  pub is : (log : Log) → replay log 1 (form_by kind n rows coefs) (steps_of q) ≡ found_of r (λ m. replay log (q.count + 1) (form_by kind m rows' coefs') [])
  pub form : IfOk r (λ m. FormRun kind m rows' coefs')

-- a log with this last form: accepted where all steps reach it, or the refusal of one, or 13 with the last form's step
pub record ReplayedAs (f : Form) (q : Steps) (last : Form) (r : Std.Result (Unit {0}) RefusedAt) : Type 0 where
  pub is : (log : Log) → log.last ≡ form_of last → replay log 1 (form_of f) (steps_of q) ≡ found_of r (λ _. accepted log.first_end log.last_start (length log.steps))

-- equal terms
unfoldable pub same_term : S.Term → S.Term → Bool
same_term t u = same_coef t.coef u.coef && compare_is_eq (compare_terms t u)
