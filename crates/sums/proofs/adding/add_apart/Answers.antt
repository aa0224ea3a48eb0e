-- `sums::adding::add_apart` meets its contract: the left rows copied, the right ones brought in, and what is gathered closed. Assumes nothing.
use Rattle.std.proofs.Common.{rules}
use Rattle.rows.proofs.RowForms.{form-copied}
use Rattle.sums.proofs.Sums.{sum-gathered, sum_gives, sum-apart}
use native.Mathlib.Omega.{arith}
use Rattle.sums.proofs.adding.add_apart.Goals as goal

pub copy-requires : goal.copy-requires
copy-requires c = let p = c.requires in (p.0.run.room, p.0.run.beside, omega (arith, p.0.few), omega (arith, p.0.few))

pub bring_rows-count-requires : goal.bring_rows-count-requires
bring_rows-count-requires c =
    let p = c.requires in
    let v = form-copied _ _ _ _ _ c.copy.ensures _ (omega (arith, p.0.few)) (omega (arith, p.0.few)) p.0 in
    (v.run, v.light, record { kind = _; form = p.1 }, omega (arith, p.0.few, p.1.few), omega (arith, p.0.few, p.1.few))

pub close-requires : goal.close-requires
close-requires c =
    let p = c.requires in
    let v = form-copied _ _ _ _ _ c.copy.ensures _
    (omega (arith, p.0.few)) (omega (arith, p.0.few)) p.0 in
    (sum-gathered _ _ _ _ _ _ _ v p.1 _ _ _ c.bring_rows-count.ensures, p.2, p.3)

pub returns : goal.returns
returns c =
    let p = c.requires
    in let v = form-copied _ _ _ _ _
    c.copy.ensures _
    (omega (arith, p.0.few)) (omega (arith, p.0.few)) p.0 in
    sum-apart _ _ _ _ _ _ _ p.0 p.1 _ _ _ _ _
    c.copy.ensures
    (sum_gives _ _ _ _ _ _ _ v p.1 _ _ _ c.bring_rows-count.ensures _ _ _
    c.close.ensures)
