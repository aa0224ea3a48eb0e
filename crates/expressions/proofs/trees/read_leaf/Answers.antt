-- `expressions::trees::read_leaf` meets its contract: the tests at a tree, then the leaf. Assumes nothing.
use Rattle.std.proofs.Common.{rules}
use mathlib.Core.List.{[]}
use Rattle.expressions.proofs.Levels.{level, level_refused, leaf_at, level-leaf}
use Rattle.refusal.proofs.Passing.{passed_up}
use Rattle.expressions.proofs.trees.read_leaf.Goals as goal

pub returns-in_err-test_head : goal.returns-in_err-test_head
returns-in_err-test_head c = rw (passed_up _ _ c.from_residual.ensures.1) (level_refused _ _ _ _ _ _ _ c.in_err-test_head.ensures)

pub leaf-requires : goal.leaf-requires
leaf-requires c = let p = c.requires in (leaf_at _ _ _ _ (level _ _ _ _ _ c.in_ok-test_head.ensures) [] [] p.0, p.1, p.2)

pub returns : goal.returns
returns c = level-leaf _ _ _ _ (level _ _ _ _ _ c.in_ok-test_head.ensures) _ _ _ c.requires.0 c.leaf.ensures
