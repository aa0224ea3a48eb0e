-- How far an input is answered, when more of it is read. Assumes nothing.
use mathlib.Core.List.{List}
use Prim.Native.Nat.{ℕ, ◌≤◌}
use native.Mathlib.Omega.{arith}
use lib.ListN.{length, take}
use lib.Seq.{length-take-le}
use Rattle.kalzunbi.specs.declared.typing.Progress.{Progress}
use Rattle.kalzunbi.specs.Progress.{InText}

module _ (n m : ℕ) (o : List ℕ) (p : Progress) (fits : m ≤ length o) (few : length o ≤ 65537) where
  -- a place in so many bytes is one in more
  pub in_more : n ≤ m → InText n p → InText (length (take m o)) p
  in_more l t =
      let e = length-take-le m o fits in
      record { small = omega (arith, e); valid = t.valid; within = omega (arith, e, t.within); few = t.few }

  -- and one in the front of bytes is one in as many
  pub in_front_lem : InText (length (take m o)) p → InText m p
  in_front_lem t =
      let e = length-take-le m o fits in
      record { small = omega arith; valid = t.valid; within = omega (arith, e, t.within); few = t.few }
