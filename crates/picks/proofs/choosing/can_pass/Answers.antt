use mathlib.Core.Path.{sym, subst}
use mathlib.Core.Bool.{Bool}
use Rattle.terms.specs.Abstraction.{term_of}
use Rattle.rules.specs.Steps.{step_of}
use Rattle.picks.specs.Choosing.{PassesBy}
use Rattle.picks.proofs.Openings.{out_of_shape, in_shape-by, tests_by}
use Rattle.picks.proofs.choosing.can_pass.Goals as goal

pub returns-then-not-in_shape : goal.returns-then-not-in_shape
unfolding term_of
returns-then-not-in_shape c = let w = c in out_of_shape w.args.kind w.args.rule w.args.m w.requires.2
    _ c.in_shape.ensures c.if-not-in_shape.true

pub test_step-requires : goal.test_step-requires
unfolding term_of
test_step-requires c = let w = c in record {
  rule = w.requires.0;
  m = record {
    counted = w.requires.1;
    in_shape =
        in_shape-by w.args.kind w.args.rule w.args.m w.requires.2 _ c.in_shape.ensures c.if-not-in_shape.false;
  };
}

pub returns : goal.returns
unfolding step_of term_of
returns c = let w = c in
    subst (λ (b : Bool). PassesBy b w.args.kind w.args.rule w.args.m) (sym c.is_ok.ensures.value)
    (tests_by w.args.kind w.args.rule w.args.m w.requires.2 _ _ _ c.in_shape.ensures c.if-not-in_shape.false c.test_step.ensures)
