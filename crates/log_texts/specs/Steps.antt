-- The line of a step. Assumes nothing.
use Rattle.std.specs.Prelude.{◌≡◌, IfOk, List, ℕ, T, length}
use Rattle.std.specs.Prelude as Std
use Rattle.specification.specs.Text.{Placed, placed, ◌>>=◌}
use Rattle.specification.specs.Rules.{is_rule, rule_letters}
use Rattle.specification.specs.Rules as R
use Rattle.specification.specs.LogTexts.{read_letters_at, read_step_line}
use Rattle.rules.specs.Steps.{step_of, StepValid}
use Rattle.texts.specs.declared.Unread.{Unread}
use Rattle.texts.specs.Readings.{placed_of}
use Rattle.log_texts.specs.declared.steps.Rule.{Rule}
use Rattle.rules.specs.declared.steps.Step.{Step}
use Rattle.log_texts.specs.Letters.{behind_letters}
use Rattle.log_texts.specs.Formulas.{behind_mark}

-- what stands behind the colon of a rule
unfoldable pub behind_colon : (names table line : List ℕ) (rule at : ℕ) → Placed R.Step
behind_colon names table line rule at =
    read_letters_at (rule_letters rule) names line at >>= λ r.
    behind_letters line r.1 λ formula.
    behind_mark names table line formula λ t. placed (record { rule = rule; letters = r.0; m = t })

-- a rule that was read and the position behind its colon
abbrev pub rule_of : Std.Result Rule Unread → Placed (ℕ × ℕ)
rule_of r = placed_of (λ q. (q.rule, q.at)) r

-- the number of a rule and the position behind its colon, or the refusal at its column
pub record RuleRead (line : List ℕ) (r : Std.Result Rule Unread) : Type 0 where
  pub is : (names table : List ℕ) → read_step_line names table line ≡ (rule_of r >>= λ q. behind_colon names table line q.0 q.1)
  pub is_one : IfOk r (λ q. T (is_rule q.rule))

-- the step of a line, or the refusal at its column
pub record StepLineRead (names table line : List ℕ) (r : Std.Result Step Unread) : Type 0 where
  pub is : read_step_line names table line ≡ placed_of step_of r
  pub valid : IfOk r StepValid
  pub six : IfOk r (λ t. length t.letters ≡ 6)
