-- A refusal passed up by `?` is the one that came. Assumes nothing.
use mathlib.Core.Path.{◌≡◌, ap, ◌∙◌}
use Rattle.std.specs.Prelude.{Err}
use Rattle.std.specs.Prelude as Std
use Rattle.std.specs.Result.{IsErrAnd}
use Rattle.std.proofs.lemmas.Result.{err_from_is_err_and}

pub passed_up : {A E : Type 0} (r : Std.Result A E) (e : E) → IsErrAnd r (λ x. x ≡ e) → r ≡ Err e
passed_up r e h = let p = err_from_is_err_and r h in p.1 ∙ ap Err p.2
