-- `operators::products::bring_pairs` meets its contract. The loop: the terms of the pairs of the first i left terms are brought in. Assumes nothing.
use mathlib.Core.Path.{◌≡◌}
use Prim.Native.Nat.{◌*◌, ◌-◌, ◌≤◌}
use lib.ListN.{length, take}
use Rattle.specification.specs.Reduction.{product_terms}
use Rattle.rows.specs.Rows.{run_of}
use Rattle.pairing.specs.Parts.{parts_of}
use Rattle.sums.specs.Results.{Brought}
use Rattle.operators.proofs.products.bring_pairs.Given as goal

abbrev pub invariant-loop-i : goal.invariant-loop-i
invariant-loop-i l = (l.i ≤ l.n) × Brought (2 * (l.i * l.m)) 0 l.initial.more l.initial.beside
    (product_terms (parts_of l.op) (take l.i (run_of l.n l.rows l.coefs)) (run_of l.m l.right l.rights)) l.count l.more l.beside
    × (length l.more ≡ length l.initial.more) × (length l.beside ≡ length l.initial.beside)
