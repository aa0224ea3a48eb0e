use mathlib.Core.Path.{◌≡◌, refl, sym, ◌∙◌}
use Prim.Native.Nat.{◌+◌, ◌-◌, ◌≤◌}
use native.Mathlib.Omega.{arith}
use lib.ListN.{length, drop}
use Rattle.specification.specs.Text.{place_of}
use Rattle.texts.proofs.Standing.{place_found, place-passed, place_none}
use Rattle.texts.proofs.place_of.Given as goal

-- the names passed are others
abbrev pub invariant-loop-i : goal.invariant-loop-i
invariant-loop-i l = l.i + place_of (drop l.i l.names) l.b ≡ place_of l.names l.b
