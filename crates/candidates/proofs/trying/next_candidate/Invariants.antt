-- `candidates::trying::next_candidate` meets its contract: nothing is to be hoped for from the places passed, mask by mask. Assumes nothing.
use Prim.Native.Nat.{◌≤◌, ◌<◌, ◌+◌, ◌*◌}
use Rattle.terms.specs.Abstraction.{term_of}
use Rattle.candidates.proofs.Trials.{PlacesPassed}
use Rattle.candidates.proofs.trying.next_candidate.Given as goal

abbrev pub invariant-loop-k : goal.invariant-loop-k
invariant-loop-k l = (l.from ≤ l.k * 320 + l.at) × (l.at < 320) × PlacesPassed l.marks l.kind (term_of l.t) l.from (l.k * 320 + l.at)
