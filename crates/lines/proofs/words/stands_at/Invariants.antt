-- `lines::words::stands_at` meets its contract. The loop's invariant: what is left decides. Assumes nothing.
use Rattle.specification.specs.Lines.{same_bytes}
use mathlib.Core.Path.{◌≡◌, refl}
use lib.ListN.{length, take, drop}
use Prim.Native.Nat.{◌-◌}
use native.Mathlib.Omega.{arith}
use Rattle.lines.proofs.Bytes.{byte-differs, byte_same, bytes_same}
use Rattle.lines.proofs.words.stands_at.Given as goal

abbrev pub invariant-loop-i : goal.invariant-loop-i
invariant-loop-i l = same_bytes (take (length l.word) (drop l.at l.line)) l.word ≡ same_bytes (drop l.i (take (length l.word) (drop l.at l.line))) (drop l.i l.word)
