-- Answers about one step of a log, as the replay has them. Assumes nothing.
use mathlib.Core.Path.{◌≡◌, refl, ap, sym, ◌∙◌}
use Prim.Native.Nat.{ℕ}
use Rattle.std.specs.Prelude.{Ok, Err}
use Rattle.std.specs.Prelude as Std
use Rattle.specification.specs.Logs.{refused_at}
use Rattle.specification.specs.Logs as L
use Rattle.refusal.specs.declared.Refusal.{Refusal}
use Rattle.refusal.specs.Numbers.{number_of}
use Rattle.refusal.specs.Tests.{answer_of}
use Rattle.logs.specs.declared.steps.RefusedAt.{RefusedAt}
use Rattle.logs.specs.Steps.{at_step}

module _ {A B : Type 0} (see : A → B) (k : ℕ) (rest : B → L.Checked) where
  -- refused: the replay ends there
  pub ends_at : (r : Std.Result A Refusal) (e : RefusedAt) → Err e ≡ at_step r k → L.at_step k (answer_of see r) rest ≡ refused_at (number_of e.why) e.step
  ends_at (Ok a) e h = cc h
  ends_at (Err w) e h = cc h

  -- or it goes on
  pub goes_on_at : (r : Std.Result A Refusal) (a : A) → Ok a ≡ at_step r k → L.at_step k (answer_of see r) rest ≡ rest (see a)
  goes_on_at (Ok b) a h = cc h
  goes_on_at (Err w) a h = cc h

-- what went on is what was given
pub at_step_ok : {A : Type 0} (r : Std.Result A Refusal) (k : ℕ) (a : A) → Ok a ≡ at_step r k → r ≡ Ok a
at_step_ok (Ok b) k a h = cc h
at_step_ok (Err w) k a h = cc h
