-- `log_texts::reading::read_step_lines` meets its contract. The loop's invariant: what is left to be read is the whole (`StepsFrom`). Assumes nothing.
use mathlib.Core.List.{[]}
use Prim.Native.Nat.{◌-◌}
use Rattle.specification.specs.LogTexts.{read_step_lines}
use Rattle.lines.specs.Places.{place_of}
use Rattle.log_texts.proofs.Lines.{StepsFrom}
use Rattle.log_texts.proofs.reading.read_step_lines.Given as goal

abbrev pub invariant-loop-i : goal.invariant-loop-i
invariant-loop-i l = StepsFrom l.s l.names l.table (read_step_lines 64 l.names l.table (place_of l.s l.initial.q) []) l.q l.steps l.i
