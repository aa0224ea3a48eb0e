-- `expressions::trees::read_tree` and the functions for the operands behind the first meet their contracts: the tests at a tree, then its operands, each at a
-- depth less. Assumes nothing.
use mathlib.Core.Path.{refl, sym, ◌∙◌}
use mathlib.Core.List.{[]}
use native.Mathlib.Omega.{arith}
use Rattle.expressions.proofs.Heads.{starts, some_depth}
use Rattle.expressions.proofs.Levels.{level, level_refused, leaf_at, level-leaf, one_light, read_sound}
use Rattle.expressions.proofs.Levels.{level_first, level_one, level_leafy, second-unread_lem, two-worked, three-left, third-unread_lem, three-worked}
use Rattle.refusal.proofs.Passing.{passed_up}
use Rattle.expressions.proofs.trees.+read_tree_with_second_with_third.Goals as goal

pub read_tree-returns-in_err-test_head : goal.read_tree-returns-in_err-test_head
read_tree-returns-in_err-test_head t c = rw (passed_up _ _ c.from_residual.ensures.1) (level_refused _ _ _ _ _ _ _ c.in_err-test_head.ensures)

pub read_tree-bounds-s-at : goal.read_tree-bounds-s-at
read_tree-bounds-s-at t c = omega (arith, starts _ _ _ (level _ _ _ _ _ c.in_ok-test_head.ensures).bytes)

pub read_tree-leaf-requires : goal.read_tree-leaf-requires
read_tree-leaf-requires t c = (
  leaf_at _ _ _ _ (level _ _ _ _ _ c.in_ok-test_head.ensures) [] [] (sym c.operands-k.ensures ∙ c.if-k-eq0.true),
  omega (arith, c.requires.0),
  omega (arith, c.requires.1),
)

pub read_tree-returns-then-k-eq0 : goal.read_tree-returns-then-k-eq0
read_tree-returns-then-k-eq0 t c =
    level-leaf _ _ _ _ (level _ _ _ _ _ c.in_ok-test_head.ensures) _ _ _ (sym c.operands-k.ensures ∙ c.if-k-eq0.true)
    c.leaf.ensures

pub read_tree-overflow_add-at : goal.read_tree-overflow_add-at
read_tree-overflow_add-at t c = omega (arith, starts _ _ _ (level _ _ _ _ _ c.in_ok-test_head.ensures).bytes)

pub read_tree-overflow_sub-depth : goal.read_tree-overflow_sub-depth
read_tree-overflow_sub-depth t c = omega (arith, some_depth _ (level _ _ _ _ _ c.in_ok-test_head.ensures).deep)

pub read_tree-read_tree-requires : goal.read_tree-read_tree-requires
read_tree-read_tree-requires t c = (omega (arith, some_depth _ (level _ _ _ _ _ c.in_ok-test_head.ensures).deep), c.requires)

pub read_tree-returns-in_err-a : goal.read_tree-returns-in_err-a
read_tree-returns-in_err-a t c =
    rw (passed_up _ _ c.from_residual-in_err-a.ensures.1)
    (level_first _ _ _ _ (level _ _ _ _ _ c.in_ok-test_head.ensures) _ _ _ c.operands-k.ensures _ _ c.if-k-eq0.false _ c.in_err-a.ensures)

pub read_tree-apply_one-work-requires : goal.read_tree-apply_one-work-requires
read_tree-apply_one-work-requires t c = one_light _ _ _ (read_sound _ _ _ _ c.in_ok-a.ensures)

pub read_tree-returns-then-k-eq1 : goal.read_tree-returns-then-k-eq1
read_tree-returns-then-k-eq1 t c =
    level_one _ _ _ _ (level _ _ _ _ _ c.in_ok-test_head.ensures) _ _ _ c.operands-k.ensures _ _ c.if-k-eq0.false _ c.in_ok-a.ensures _
    c.if-k-eq1.true (c.apply_one-work.ensures _ (read_sound _ _ _ _ c.in_ok-a.ensures))

pub read_tree-overflow_sub-depth-then-ends_in_leaf : goal.read_tree-overflow_sub-depth-then-ends_in_leaf
read_tree-overflow_sub-depth-then-ends_in_leaf t c = omega (arith, some_depth _ (level _ _ _ _ _ c.in_ok-test_head.ensures).deep)

pub read_tree-with_leaf-requires : goal.read_tree-with_leaf-requires
read_tree-with_leaf-requires t c = (
  (c.ends_in_leaf.ensures c.if-ends_in_leaf.true).1,
  read_sound _ _ _ _ c.in_ok-a.ensures,
  omega (arith, c.read_tree.auto.rows, c.requires.0),
  omega (arith, c.read_tree.auto.coefs, c.requires.1),
)

pub read_tree-returns-then-ends_in_leaf : goal.read_tree-returns-then-ends_in_leaf
read_tree-returns-then-ends_in_leaf t c =
    level_leafy _ _ _ _ (level _ _ _ _ _ c.in_ok-test_head.ensures) _ _ _ c.operands-k.ensures _ _ c.if-k-eq0.false _ c.in_ok-a.ensures
    c.if-k-eq1.false _ (c.ends_in_leaf.ensures c.if-ends_in_leaf.true).0 c.with_leaf.ensures

pub read_tree-with_second-requires : goal.read_tree-with_second-requires
read_tree-with_second-requires t c = (
  omega arith,
  (
    omega (arith, some_depth _ (level _ _ _ _ _ c.in_ok-test_head.ensures).deep),
    omega (arith, c.if-k-eq0.false, c.if-k-eq1.false),
    read_sound _ _ _ _ c.in_ok-a.ensures,
    omega (arith, c.read_tree.auto.rows, c.requires.0),
    omega (arith, c.read_tree.auto.coefs, c.requires.1),
  ),
)

pub read_tree-returns : goal.read_tree-returns
read_tree-returns t c = c.with_second.ensures.is _ c.in_ok-test_head.ensures refl c.operands-k.ensures c.in_ok-a.ensures

-- ════ the operands behind the first

pub with_second-read_tree-requires : goal.with_second-read_tree-requires
with_second-read_tree-requires t c = (omega (arith, c.requires.0), (omega arith, omega arith))

pub with_second-returns-in_err-b : goal.with_second-returns-in_err-b
with_second-returns-in_err-b t c = rw (passed_up _ _ c.from_residual.ensures.1) (second-unread_lem _ _ _ _ _ _ _ _ c.requires.1 _ _ _ c.in_err-b.ensures _ _)

pub with_second-apply_two-work-requires : goal.with_second-apply_two-work-requires
with_second-apply_two-work-requires t c = (c.requires.2, read_sound _ _ _ _ c.in_ok-b.ensures, c.requires.3, c.requires.4)

pub with_second-returns-then-k-eq2 : goal.with_second-returns-then-k-eq2
with_second-returns-then-k-eq2 t c = two-worked _ _ _ _ _ _ _ _ c.requires.1 _ _ _ c.in_ok-b.ensures c.if-k-eq2.true _ _ _ c.apply_two-work.ensures

pub with_second-with_third-requires : goal.with_second-with_third-requires
with_second-with_third-requires t c = (omega arith, (c.requires.0, c.requires.2, read_sound _ _ _ _ c.in_ok-b.ensures, c.requires.3, c.requires.4))

pub with_second-returns : goal.with_second-returns
with_second-returns t c = three-left _ _ _ _ _ _ _ _ c.requires.1 _ _ _ c.in_ok-b.ensures c.if-k-eq2.false _ _ _ c.with_third.ensures

pub with_third-read_tree-requires : goal.with_third-read_tree-requires
with_third-read_tree-requires t c = (omega (arith, c.requires.0), (omega arith, omega arith))

pub with_third-returns-in_err-d : goal.with_third-returns-in_err-d
with_third-returns-in_err-d t c = rw (passed_up _ _ c.from_residual.ensures.1) (third-unread_lem _ _ _ _ _ _ _ _ _ _ _ _ c.in_err-d.ensures _ _)

pub with_third-apply_three-work-requires : goal.with_third-apply_three-work-requires
with_third-apply_three-work-requires t c = (c.requires.1, c.requires.2, read_sound _ _ _ _ c.in_ok-d.ensures, c.requires.3, c.requires.4)

pub with_third-returns : goal.with_third-returns
with_third-returns t c = three-worked _ _ _ _ _ _ _ _ _ _ _ _ c.in_ok-d.ensures _ _ _ c.apply_three-work.ensures
