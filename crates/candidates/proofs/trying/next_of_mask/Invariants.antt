-- `candidates::trying::next_of_mask` meets its contract: nothing is to be hoped for from the places passed. Assumes nothing.
use Prim.Native.Nat.{◌≤◌, ◌<◌, ◌+◌, ◌*◌}
use Rattle.terms.specs.Abstraction.{term_of}
use Rattle.candidates.proofs.Trials.{RulesPassed}
use Rattle.candidates.proofs.trying.next_of_mask.Given as goal

abbrev pub invariant-loop-q : goal.invariant-loop-q
invariant-loop-q l = (l.from ≤ l.q * 64 + l.at) × (l.at < 64) × RulesPassed l.marks l.kind (term_of l.t) l.k l.from (l.q * 64 + l.at)
