-- `kalzunbi::typing::derive_into` meets its contract. Assumes nothing.
use mathlib.Core.Path.{◌≡◌, refl, sym, ◌∙◌}
use Prim.Native.Nat.{◌+◌}
use Prim.Native.Nat.{◌-◌, ◌≤◌}
use native.Mathlib.Omega.{arith}
use borrow.Rule.Slice.PartMut.{put_mid, same_len_mid}
use lib.Seq.{length-take-le}
use lib.ListN.{length, length-take, length-drop}
use Rattle.kalzunbi.specs.Progress.{InText}
use Rattle.kalzunbi.proofs.Texts.{in_more, in_front_lem}
use Rattle.kalzunbi.proofs.typing.derive_into.Given as goal

abbrev pub invariant-loop-n : goal.invariant-loop-n
invariant-loop-n g l = (length l.input ≡ length l.initial.input) × (l.n ≤ length l.input) × InText l.n l.p

abbrev pub decreases-loop-n : goal.decreases-loop-n
decreases-loop-n g l = length l.input - l.n
