-- `log_texts::naming::read_letters` meets its contract. The loop's invariant: what is left to be read is the whole (`LettersFrom`). Assumes nothing.
use Prim.Native.Nat.{◌-◌}
use Rattle.specification.specs.LogTexts.{read_letters_at}
use Rattle.log_texts.proofs.Marks.{LettersFrom}
use Rattle.log_texts.proofs.naming.read_letters.Given as goal

abbrev pub invariant-loop-i : goal.invariant-loop-i
invariant-loop-i l = LettersFrom (read_letters_at l.n l.names l.line l.at) l.names l.line l.n l.letters l.next l.i
