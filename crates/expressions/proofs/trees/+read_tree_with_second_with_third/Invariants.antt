-- The measure of the reader is the depth that is left, then which of the three functions it is. Assumes nothing.
use Prim.Native.Nat.{◌+◌, ◌*◌}
use Rattle.expressions.proofs.trees.+read_tree_with_second_with_third.Given as goal

abbrev pub decreases-read_tree : goal.decreases-read_tree
decreases-read_tree l = l.depth * 3 + 2

abbrev pub decreases-with_second : goal.decreases-with_second
decreases-with_second l = l.depth * 3 + 1

abbrev pub decreases-with_third : goal.decreases-with_third
decreases-with_third l = l.depth * 3
