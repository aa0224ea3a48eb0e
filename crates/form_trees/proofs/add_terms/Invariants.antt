-- `form_trees::add_terms` meets its contract. The loop: what stands in the rows, plus the terms left, is the whole. Assumes nothing.
use mathlib.Core.Path.{◌≡◌}
use Prim.Native.Nat.{◌-◌, ◌≤◌}
use lib.ListN.{length, drop}
use Rattle.theory.specs.Reduction.Standing.{plus_each}
use Rattle.rows.specs.Rows.{form_by, run_of}
use Rattle.replacing.specs.Replacing.{leaf_by, plus_term}
use Rattle.replacing.proofs.Turns.{Left, plus_none, plus_first}
use Rattle.form_trees.proofs.add_terms.Given as goal

abbrev pub invariant-loop-i : goal.invariant-loop-i
invariant-loop-i l = (l.i ≤ l.n) × (length l.rows ≡ length l.initial.rows) × (length l.coefs ≡ length l.initial.coefs)
    × (length l.more ≡ 48) × (length l.beside ≡ 48)
    × Left (plus_each (leaf_by l.replaced l.m l.right l.rights)) (plus_term (leaf_by l.replaced l.m l.right l.rights)) (plus_none (leaf_by l.replaced l.m l.right l.rights))
    (plus_first (leaf_by l.replaced l.m l.right l.rights))
    (plus_each (leaf_by l.replaced l.m l.right l.rights) (form_by l.initial.w.kind l.initial.w.count l.initial.rows l.initial.coefs)
    (drop 1 (run_of l.n l.old l.olds))) (drop l.i (run_of l.n l.old l.olds)) l.w l.rows l.coefs
