-- `rules::admissible::step_at` meets its contract: the shape, the letters, then the step. Assumes nothing.
use Rattle.std.proofs.Common.{rules}
use mathlib.Core.Path.{◌≡◌, refl, ap, ◌∙◌}
use native.Mathlib.Omega.{arith}
use lib.ListN.{length}
use lib.IntN.{ℤ}
use borrow.Author.Tests.{not-true, not-false}
use Rattle.specification.specs.Terms.{term_in_shape}
use Rattle.specification.specs.Terms as S
use Rattle.integers.proofs.Machine.{back_is}
use Rattle.terms.specs.Abstraction.{term_of}
use Rattle.rows.specs.Rows.{form_by}
use Rattle.rows.proofs.RowForms.{rows_refused, rows_as}
use Rattle.rules.proofs.Alone.{no_rule, no_shape, letters_refused, step-valid, step-decides}
use Rattle.refusal.proofs.Passing.{passed_up}
use Rattle.rules.proofs.admissible.step_at.Goals.{After-in_shape, Start}
use Rattle.rules.proofs.admissible.step_at.Goals as goal

six : (c : Start) → length c.args.s.letters ≡ 6
six c = search rules

-- the form that the rows stand for
abbrev form : (c : Start) → S.Form
form c = form_by c.args.kind c.args.n c.args.rows.now c.args.coefs.now

-- whether M is in shape, its coefficient read back as it was stored
shape : (c : After-in_shape) → c.in_shape.result ≡ term_in_shape (term_of c.args.s.m)
shape c =
    c.in_shape.ensures
    ∙ ap (λ (z : ℤ). term_in_shape (term_of (record {
      coef = z;
      factors = c.args.s.m.factors;
      factor_count = c.args.s.m.factor_count;
      part =
          c.args.s.m.part;
    })))
    (back_is {z = c.args.s.m.coef} (record {
      sfits =
          search rules;
    }))

pub returns-then-not-is_rule : goal.returns-then-not-is_rule
returns-then-not-is_rule c = let a = c in record {
  reached = rows_refused _ _ _ _ (no_rule a.args.table.now (form (goal.at.returns-then-not-is_rule c).Start) a.args.s (six (goal.at.returns-then-not-is_rule c).Start) _ c.is_rule.ensures
      c.if-not-is_rule.true);
  kind = tt;
}

pub returns-then-not-in_shape : goal.returns-then-not-in_shape
returns-then-not-in_shape c = let a = c in record {
  reached = rows_refused _ _ _ _
      (no_shape a.args.table.now (form (goal.at.returns-then-not-in_shape c).Start) a.args.s (six (goal.at.returns-then-not-in_shape c).Start) _ c.is_rule.ensures
      c.if-not-is_rule.false _ (shape (goal.at.returns-then-not-in_shape c).After-in_shape) c.if-not-in_shape.true);
  kind = tt;
}

pub returns-in_err-test_step_letters : goal.returns-in_err-test_step_letters
returns-in_err-test_step_letters c = let a = c in rw (passed_up _ _ c.from_residual.ensures.1) (record {
  reached = rows_refused _ _ _ _
      (letters_refused a.args.table.now (form (goal.at.returns-in_err-test_step_letters c).Start) a.args.s (six (goal.at.returns-in_err-test_step_letters c).Start) _ c.is_rule.ensures c.if-not-is_rule.false _ (shape (goal.at.returns-in_err-test_step_letters c).After-in_shape)
      c.if-not-in_shape.false _ c.in_err-test_step_letters.ensures);
  kind = tt;
})

pub take_step-requires : goal.take_step-requires
take_step-requires c = let a = c in (
  a.requires.0,
  step-valid a.args.table.now (form (goal.at.take_step-requires c).Start) a.args.s (six (goal.at.take_step-requires c).Start) _ c.is_rule.ensures c.if-not-is_rule.false
      _ (shape (goal.at.take_step-requires c).After-in_shape) c.if-not-in_shape.false a.requires.1,
  a.requires.2,
  a.requires.3,
  a.requires.0.light,
  omega arith,
)

pub returns : goal.returns
returns c = let a = c in record {
  reached = rows_as _ _ _ _ _
      (step-decides a.args.table.now (form (goal.at.returns c).Start) a.args.s (six (goal.at.returns c).Start) _ c.is_rule.ensures c.if-not-is_rule.false _ (shape (goal.at.returns c).After-in_shape)
      c.if-not-in_shape.false c.in_ok-test_step_letters.ensures)
      c.take_step.ensures.reached;
  kind = c.take_step.ensures.kind;
}
