-- `record_writing::write_factors` meets its contract: nothing where the count is 0, else the count and the letters behind it. Assumes nothing.
use Rattle.std.proofs.Common.{rules}
use mathlib.Core.Path.{ap, ◌∙◌}
use Prim.Native.Nat.{◌+◌, ◌≤◌}
use native.Mathlib.Omega.{arith}
use lib.ListN.{length, length-set}
use Rattle.specification.specs.Lists.{joined}
use Rattle.specification.specs.Records.{factors_of}
use Rattle.terms.specs.Abstraction.{term_of}
use Rattle.record_writing.proofs.Writes.{written_none}
use Rattle.record_writing.proofs.Terms.{none_left_out, some_counted, count_written}
use Rattle.record_writing.proofs.write_factors.Goals.{Else-count-eq0}
use Rattle.record_writing.proofs.write_factors.Goals as goal

-- where there are factors, there is room for their count and their letters
room : (c : Else-count-eq0) → let s = c.args in s.at + 1 + length (joined (factors_of s.size (term_of s.t))) ≤ length s.out.now
room c =
    let w = c in
    let fs = factors_of w.args.size (term_of w.args.t) in
    omega (arith, w.requires.1, ap length (some_counted fs c.count_of_size-count.result c.count_of_size-count.ensures c.if-count-eq0.false))

pub returns-then-count-eq0 : goal.returns-then-count-eq0
returns-then-count-eq0 c = written_none _ _ _ (none_left_out _ _ c.count_of_size-count.ensures c.if-count-eq0.true)

pub bounds-out-at : goal.bounds-out-at
bounds-out-at c = omega (arith, room (goal.at.bounds-out-at c).Else-count-eq0)

pub write_joined-requires : goal.write_joined-requires
write_joined-requires c = (c.requires.0, simp length-set (room (goal.at.write_joined-requires c).Else-count-eq0))

pub shape_of-out : goal.shape_of-out
shape_of-out c = c.write_joined.auto.out ∙ simp length-set

pub returns : goal.returns
returns c =
    let w = c in
    count_written _ _ _ _ _ _ (omega (arith, room (goal.at.returns c).Else-count-eq0)) w.count_of_size-count.ensures w.if-count-eq0.false c.write_joined.ensures
