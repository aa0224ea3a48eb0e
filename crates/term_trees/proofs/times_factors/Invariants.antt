-- `term_trees::times_factors` meets its contract. The loop: what stands in the rows, times the factors left, is the whole. Assumes nothing.
use mathlib.Core.Path.{◌≡◌}
use mathlib.Core.List.{map}
use Prim.Native.Nat.{◌≤◌}
use lib.ListN.{length, take, drop}
use Rattle.theory.specs.Reduction.Standing.{times_each}
use Rattle.terms.specs.Numbers.{letters_of}
use Rattle.rows.specs.Rows.{form_by}
use Rattle.replacing.specs.Replacing.{leaf_by, times_factor}
use Rattle.replacing.proofs.Turns.{Left, times_none, times_first, factors_from}
use Rattle.term_trees.proofs.times_factors.Given as goal

abbrev pub invariant-loop-i : goal.invariant-loop-i
invariant-loop-i l = (l.i ≤ l.n) × (length l.rows ≡ length l.initial.rows) × (length l.coefs ≡ length l.initial.coefs)
    × Left (times_each (leaf_by l.replaced l.m l.right l.rights)) (times_factor (leaf_by l.replaced l.m l.right l.rights))
    (times_none (leaf_by l.replaced l.m l.right l.rights))
    (times_first (leaf_by l.replaced l.m l.right l.rights))
    (times_each (leaf_by l.replaced l.m l.right l.rights) (form_by l.initial.w.kind l.initial.w.count l.initial.rows l.initial.coefs)
    (factors_from l.t.factors l.n l.fn.k)) (factors_from l.t.factors l.n l.i) l.w l.rows l.coefs
