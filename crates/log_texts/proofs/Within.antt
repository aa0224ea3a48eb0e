-- All of a line from a position on. Assumes nothing.
use mathlib.Core.Path.{◌≡◌, sym}
use mathlib.Core.List.{List}
use Prim.Native.Nat.{ℕ, ◌-◌}
use lib.ListN.{length, take, drop, length-drop}
use lib.Seq.{take-length}

pub rest_of : (line : List ℕ) (at : ℕ) → take (length line - at) (drop at line) ≡ drop at line
rest_of line at = rw (sym (length-drop at line)) (take-length (drop at line))
