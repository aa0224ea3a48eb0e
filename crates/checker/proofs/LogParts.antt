-- The last form as a part of the log: from a place to the end, or nothing behind it. Assumes nothing.
use mathlib.Core.Path.{◌≡◌, sym, ◌∙◌}
use mathlib.Core.List.{List}
use Prim.Native.Nat.{ℕ, ◌-◌, ◌<◌, ◌≤◌}
use native.Mathlib.Omega.{arith}
use lib.ListN.{length, take, drop, length-drop, drop_of_length-le}
use lib.Seq.{take_all}

-- from a place to the end
pub whole_rest : (s : List ℕ) (a : ℕ) → take (length s - a) (drop a s) ≡ drop a s
whole_rest s a = take_all (length s - a) (drop a s) (omega (arith, length-drop a s))

-- past the end there is nothing
pub nothing-behind : (s : List ℕ) (a : ℕ) → length s < a → take (length s - length s) (drop (length s) s) ≡ drop a s
nothing-behind s a h =
    let e : length s ≤ length s = omega arith in
    let g : length s ≤ a = omega arith in
    whole_rest s (length s) ∙ drop_of_length-le s e ∙ sym (drop_of_length-le s g)
