use mathlib.Core.Path.{◌≡◌, refl, sym, ◌∙◌}
use Prim.Native.Nat.{◌-◌}
use native.Mathlib.Omega.{arith}
use lib.ListN.{length}
use Rattle.specification.specs.Text.{skip}
use Rattle.texts.proofs.Standing.{blank-passed, blank_none, blanks_end}
use Rattle.texts.proofs.past_blanks.Reads as reads
use Rattle.texts.proofs.past_blanks.Lts as lts
use Rattle.texts.proofs.past_blanks.Given as goal

abbrev pub invariant-loop-i : goal.invariant-loop-i
invariant-loop-i l = skip l.s l.i ≡ skip l.s l.at
