use Rattle.std.proofs.Common.{rules}
use mathlib.Core.Path.{sym}
use Prim.Native.Nat.{◌≤◌}
use native.Mathlib.Omega.{arith}
use lib.Seq.{take_all, length-take-le}
use lib.ListN.{length}
use Rattle.checker.proofs.first_form.Goals as goal

pub returns-then-end-log : goal.returns-then-end-log
returns-then-end-log c = let h : length c.args.log.now ≤ c.args.end = omega (arith, c.if-end-log.true) in sym (take_all c.args.end c.args.log.now h)

pub slice_bounds-result-end : goal.slice_bounds-result-end
slice_bounds-result-end c = sym (length-take-le c.args.end c.args.log.now c.if-end-log.false)
