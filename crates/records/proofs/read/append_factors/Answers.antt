-- `records::read::append_factors`. The loop: the first i factors of the record stand behind those that were there, and the position is behind them. Assumes nothing.
use Rattle.std.proofs.Common.{rules}
use mathlib.Core.Path.{◌≡◌}
use Prim.Native.Nat.{◌+◌, ◌-◌, ◌*◌, ◌≤◌}
use native.Mathlib.Omega.{arith}
use native.Mathlib.Nat.{suc-mul}
use native.Mathlib.Numerals.{add-one}
use lib.ListN.{length}
use Rattle.specification.specs.Records.{factors_at}
use Rattle.terms.specs.Build.{Appended}
use Rattle.records.specs.Reading.{listed}
use Rattle.records.proofs.Readers.{listed_none, listed-turn, turn-fits}
use Rattle.records.proofs.read.append_factors.Goals as goal

pub loop-i-init : goal.loop-i-init
loop-i-init c = (omega arith, omega arith, c.requires.5, listed_none _ _ _ _ _ c.requires.0)

pub factor_at-requires : goal.factor_at-requires
factor_at-requires c = let w = c.requires in let inv = c.loop-i.invariant in (w.2, w.3, turn-fits _ _ _ _ _ _ c.loop-i-test.true w.4 inv.1)

pub overflow_add-next : goal.overflow_add-next
overflow_add-next c = let w = c.requires in let inv = c.loop-i.invariant in omega (arith, turn-fits _ _ _ _ _ _ c.loop-i-test.true w.4 inv.1)

pub loop-i-preserved : goal.loop-i-preserved
loop-i-preserved c =
    let inv = c.loop-i.invariant in (
      omega arith,
      omega (arith, inv.1, suc-mul c.loop-i.i c.args.size, add-one c.loop-i.i),
      search rules,
      listed-turn _ _ _ _ _ _ _ _ _ inv.1 c.factor_at.ensures (omega arith) inv.2 inv.3,
    )

pub returns : goal.returns
returns c = let inv = c.loop-i.invariant in let e : c.loop-i.i ≡ c.args.count = omega arith in (rw e at inv.3, inv.2)
