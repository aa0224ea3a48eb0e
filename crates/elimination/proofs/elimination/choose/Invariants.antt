-- `elimination::elimination::choose` meets its contract: the numbers chosen keep the value, and under all before them it is 0. Assumes nothing.
use mathlib.Core.Path.{◌≡◌}
use Prim.Native.Nat.{◌≤◌}
use lib.ListN.{length, take}
use Rattle.polynomials.specs.Memory.{summands}
use Rattle.elimination.proofs.Choices.{Choosing, fall_of}
use Rattle.elimination.proofs.elimination.choose.Given as goal

abbrev pub invariant-loop-d : goal.invariant-loop-d
invariant-loop-d l = (length l.work ≡ length l.initial.work) × (l.m ≤ length (summands l.work)) × Choosing l.table (take l.n (summands l.initial.work)) (take l.m (summands l.work)) l.d l.initial.buffer l.buffer

abbrev pub decreases-loop-d : goal.decreases-loop-d
decreases-loop-d l = fall_of l.d
