use Rattle.std.proofs.Common.{rules}
use borrow.Author.Tests.{not-true, not-false}
use Rattle.rules.proofs.Taking.{test-six, test-eight, test_none}
use Rattle.rules.proofs.steps.test_step.Goals as goal

pub kinds_fit-requires : goal.kinds_fit-requires
kinds_fit-requires c = tt

pub returns-then-not-kinds_fit : goal.returns-then-not-kinds_fit
returns-then-not-kinds_fit c = test-six _ c.args.s _ c.kinds_fit.ensures c.if-not-kinds_fit.true

pub letters_fit-requires : goal.letters_fit-requires
letters_fit-requires c = c.requires

pub returns-then-not-letters_fit : goal.returns-then-not-letters_fit
returns-then-not-letters_fit c = test-eight _ c.args.s _ c.kinds_fit.ensures c.if-not-kinds_fit.false _ c.letters_fit.ensures c.if-not-letters_fit.true

pub returns : goal.returns
returns c = test_none _ c.args.s _ c.kinds_fit.ensures c.if-not-kinds_fit.false _ c.letters_fit.ensures c.if-not-letters_fit.false
