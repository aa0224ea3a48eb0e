use Rattle.std.proofs.Common.{rules}
use mathlib.Core.Path.{sym, ap, ◌∙◌}
use Prim.Native.Nat.{◌+◌, ◌*◌, ◌≤◌, ◌<◌}
use native.Mathlib.Omega.{arith}
use borrow.Author.Tests.{not-true, not-false}
use lib.ListN.{length, get_or}
use Rattle.specification.specs.Results.{given}
use Rattle.specification.specs.Terms as S
use Rattle.terms.specs.Abstraction.{Counted}
use Rattle.integers.proofs.Machine.{back_is}
use Rattle.records.specs.Reading.{at_fields}
use Rattle.records.proofs.Readers.{goes, refuses, factors-absent, factors_refused, factors_given, stand-says, small_product, fields-counted, fields-appended}
use Rattle.records.proofs.read.read_factors.Goals.{Else-not-factors_stand, Start}
use Rattle.records.proofs.read.read_factors.Goals as goal

-- the tests before the factors say that the count and all of them are there
says : (c : Else-not-factors_stand) → (c.args.r.next < length c.args.s.now) × (1 ≤ get_or c.args.s.now c.args.r.next 0) × (get_or c.args.s.now c.args.r.next 0 ≤ c.args.most) × (c.args.r.next + 1 + get_or c.args.s.now c.args.r.next 0 * c.args.size ≤ length c.args.s.now)
says c = stand-says c.args.s.now c.args.r.next c.args.most c.args.size (sym c.factors_stand.ensures ∙ c.if-not-factors_stand.false)

-- the factors at the start
counted : (c : Start) → Counted (at_fields c.args.r c.args.f.now)
counted c = fields-counted c.args.r c.args.f.now c.requires.0

pub returns-then-not-there : goal.returns-then-not-there
returns-then-not-there c = (goes _ _ _ _ _ _ (factors-absent _ _ _ _ _ _ c.if-not-there.true) (counted (goal.at.returns-then-not-there c).Start) (omega arith), c.requires.4)

pub factors_stand-requires : goal.factors_stand-requires
factors_stand-requires c = c.requires.3

pub returns-then-not-factors_stand : goal.returns-then-not-factors_stand
returns-then-not-factors_stand c = let w = c in (refuses _ _ _ _ _ (factors_refused w.args.s.now w.args.r.next w.args.most w.args.size _ _ c.if-not-there.false (sym c.factors_stand.ensures ∙ c.if-not-factors_stand.true)), w.requires.4)

pub bounds-s-at : goal.bounds-s-at
bounds-s-at c = (says (goal.at.bounds-s-at c).Else-not-factors_stand).0

pub overflow_cast-n : goal.overflow_cast-n
overflow_cast-n c = omega (arith, c.type_inv.s c.args.r.next)

pub overflow_add-at : goal.overflow_add-at
overflow_add-at c = omega (arith, (says (goal.at.overflow_add-at c).Else-not-factors_stand).0)

pub append_factors-requires : goal.append_factors-requires
append_factors-requires c = let w = says (goal.at.append_factors-requires c).Else-not-factors_stand in let q = c.requires in (q.0, omega (arith, w.2, q.1), q.2, q.3, w.3, q.4)

pub returns : goal.returns
unfolding at_fields
returns c =
    let w = c in
    let v = says (goal.at.returns c).Else-not-factors_stand in
    let h = c.append_factors.ensures.0 in
    let n = get_or w.args.s.now w.args.r.next 0 in
    rw (back_is {z = w.args.r.coef} (record { sfits = search rules })) (
      goes _ _ _ _ _ (record { next = w.args.r.next + 1 + n * w.args.size; coef = w.args.r.coef; count = w.args.r.count + n })
          (factors_given w.args.s.now w.args.r.next w.args.most w.args.size _ _ c.if-not-there.false (sym c.factors_stand.ensures ∙ c.if-not-factors_stand.false)
          ∙ ap (λ (t : S.Term). given (t, w.args.r.next + 1 + n * w.args.size)) (fields-appended w.args.r.coef w.args.r.count n w.args.f.now _ _ h))
          (fields-counted (record { next = w.args.r.next + 1 + n * w.args.size; coef = w.args.r.coef; count = w.args.r.count + n }) _ h.counted) (omega (arith, v.2)),
      c.append_factors.ensures.1,
    )
