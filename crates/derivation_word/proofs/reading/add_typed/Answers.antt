-- `derivation_word::reading::add_typed` meets its contract. Assumes nothing.
use mathlib.Core.Path.{subst, sym}
use mathlib.Core.List.{List}
use Prim.Native.Nat.{ℕ, ◌≤◌}
use native.Mathlib.Omega.{arith}
use lib.Seq.{length-take-le}
use Rattle.logs.proofs.WrittenLogs.{step_short}
use Rattle.open_log.specs.States.{state_of}
use Rattle.open_log.specs.Added.{AddedAs}
use Rattle.derivation_word.proofs.Answers.{record-front}
use Rattle.derivation_word.proofs.reading.add_typed.Goals.{After-write_step-n}
use Rattle.derivation_word.proofs.reading.add_typed.Goals as goal

-- a step's record has at most 23 bytes
written_few : (c : After-write_step-n) → c.write_step-n.result ≤ 23
written_few c = omega (arith, c.write_step-n.ensures.ends, step_short c.args.step c.requires.1)

pub slice_bounds-record-end : goal.slice_bounds-record-end
slice_bounds-record-end c = omega (arith, written_few (goal.at.slice_bounds-record-end c).After-write_step-n)

pub slice_bounds-add_step-end : goal.slice_bounds-add_step-end
slice_bounds-add_step-end c = sym (length-take-le _ _ (omega (arith, written_few (goal.at.slice_bounds-add_step-end c).After-write_step-n)))

pub returns : goal.returns
returns c =
    subst (λ (l : List ℕ). AddedAs (state_of c.args.state) l c.add_step.result) (record-front _ _ _ _ c.write_step-n.ensures) c.add_step.ensures
