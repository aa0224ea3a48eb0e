-- `polynomials::variables::times` meets its contract: what is put together is `low` below the digits that are left. Assumes nothing.
use Prim.Native.Nat.{◌-◌, ◌/◌}
use Rattle.polynomials.specs.Keys.{placed}
use Rattle.polynomials.proofs.Digits.{Put}
use Rattle.polynomials.proofs.variables.times.Given as goal

abbrev pub invariant-loop-i : goal.invariant-loop-i
invariant-loop-i l = Put (placed 7 l.d (l.key / 256)) l.low l.place (7 - l._i) l.d l.left
