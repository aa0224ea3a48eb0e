-- `logs::writing::write_step` meets its contract: the rule's number, its letters and M stand one behind the other. Assumes nothing.
use Rattle.std.proofs.Common.{rules}
use mathlib.Core.Path.{◌≡◌, sym, ◌∙◌}
use native.Mathlib.Omega.{arith}
use lib.Seq.{length-take-le}
use lib.ListN.{length, length-set}
use Rattle.logs.proofs.WrittenLogs.{taken_few, step_written}
use Rattle.logs.proofs.writing.write_step.Goals.{After-write_letters-behind, Start}
use Rattle.logs.proofs.writing.write_step.Goals as goal

-- there are six places for letters
places : (c : Start) → length c.args.s.letters ≡ 6
places c = search rules

-- the call that writes the letters keeps the length
letters-kept : (c : After-write_letters-behind) → length c.write_letters-behind.new.out ≡ length
    c.args.out.now
letters-kept c =
    let c7 = c in
    let a = c7.args in c.write_letters-behind.auto.out ∙ length-set a.out.now a.at a.s.rule

pub slice_bounds-letters-end : goal.slice_bounds-letters-end
slice_bounds-letters-end c = omega (arith, places (goal.at.slice_bounds-letters-end c).Start, c.rule_letters-n.ensures.1)

pub slice_bounds-write_letters-end : goal.slice_bounds-write_letters-end
slice_bounds-write_letters-end c =
    let c2 = c in
    let c6 = c in
    sym (length-take-le _ _ (omega (arith, places (goal.at.slice_bounds-write_letters-end c).Start, c2.rule_letters-n.ensures.1)))

pub write_letters-behind-requires : goal.write_letters-behind-requires
write_letters-behind-requires c =
    let n = c.rule_letters-n in
    let s = c in
    simp length-set (omega (arith, n.ensures.1, s.requires.1, taken_few n.result s.args.s.letters))

pub write_term-requires : goal.write_term-requires
write_term-requires c =
    let w = c in
    let c6 = c in
    let s = c in
    let n = c6.rule_letters-n in (
      s.requires.0.m,
      omega (arith, s.requires.1, letters-kept (goal.at.write_term-requires c).After-write_letters-behind, w.write_letters-behind.ensures.ends, n.ensures.1, taken_few n.result s.args.s.letters),
    )

pub shape_of-out : goal.shape_of-out
shape_of-out c = c.write_term.auto.out ∙ letters-kept (goal.at.shape_of-out c).After-write_letters-behind

pub returns : goal.returns
returns c =
    let c2 = c in
    let w = c in
    let c9 = c in
    let s = c in
    step_written s.args.s _ _ _ _ _ _ _ c9.rule_letters-n.ensures.0 (omega (arith, s.requires.1)) w.write_letters-behind.ensures c2.write_term.ensures
