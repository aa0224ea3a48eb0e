-- `marking::marking::mark_rows` meets its contract: the marks cover the terms passed. Assumes nothing.
use mathlib.Core.Path.{◌≡◌, refl, ap, subst, ◌∙◌}
use mathlib.Core.List.{[]}
use Prim.Native.Nat.{ℕ, ◌≤◌}
use native.Mathlib.Omega.{arith}
use lib.IntN.{ℤ, pos, nat_abs}
use lib.ListN.{length-set, get_or}
use Rattle.integers.proofs.Machine.{back, back_is}
use Rattle.terms.proofs.Arrays.{all-at}
use Rattle.rows.specs.Rows.{term_by, RowValid, Light}
use Rattle.marking.specs.Marks.{mark_of, size_mark, Joint}
use Rattle.marking.proofs.MarkSizes.{covering_none, covering_more, covering_all}
use Rattle.marking.proofs.marking.mark_rows.Goals.{After-c-1, In-loop-i}
use Rattle.marking.proofs.marking.mark_rows.Goals as goal

-- the coefficient is read back as it was stored
coefficient : (c : After-c-1) → back (get_or c.args.coefs.now c.loop-i.i
    (pos 0)) ≡ get_or c.args.coefs.now c.loop-i.i (pos 0)
coefficient c = back_is (record { sfits = c.c-1.given })

-- and is small
small : (c : In-loop-i) → nat_abs (get_or c.args.coefs.now c.loop-i.i (pos 0)) ≤ 2147483647
unfolding Light
small c = let w = c in
    all-at (λ (z : ℤ). nat_abs z ≤ 2147483647) w.args.coefs.now w.args.n c.loop-i.i (pos 0) w.requires.0.beside c.loop-i-test.true
    w.requires.1

pub loop-i-init : goal.loop-i-init
loop-i-init c = (omega arith, refl, covering_none _)

pub offset_bounds-rows-i : goal.offset_bounds-rows-i
offset_bounds-rows-i c = omega (arith, c.requires.0.room)

pub bounds-rows-i : goal.bounds-rows-i
bounds-rows-i c = omega (arith, c.requires.0.room, c.loop-i-test.true)

pub offset_bounds-coefs-i : goal.offset_bounds-coefs-i
offset_bounds-coefs-i c = omega (arith, c.requires.0.beside)

pub bounds-coefs-i : goal.bounds-coefs-i
bounds-coefs-i c = omega (arith, c.requires.0.beside, c.loop-i-test.true)

pub term_of-t-requires : goal.term_of-t-requires
term_of-t-requires c = let w = c in all-at RowValid w.args.rows.now w.args.n
    c.loop-i.i [] w.requires.0.room c.loop-i-test.true w.requires.0.valid

pub term_mark-h-requires : goal.term_mark-h-requires
term_mark-h-requires c = c.term_of-t.ensures.1

pub size_mark-v-requires : goal.size_mark-v-requires
size_mark-v-requires c = omega (arith, ap nat_abs (coefficient (goal.at.size_mark-v-requires c).After-c-1), small (goal.at.size_mark-v-requires c).In-loop-i)

pub bounds-marks-h : goal.bounds-marks-h
bounds-marks-h c = omega (arith, c.term_mark-h.ensures.1, c.loop-i.invariant.1)

pub joint_mark-requires : goal.joint_mark-requires
joint_mark-requires c = tt

pub bounds-marks-h-in-loop-i : goal.bounds-marks-h-in-loop-i
bounds-marks-h-in-loop-i c = omega (arith, c.term_mark-h.ensures.1, c.loop-i.invariant.1)

pub loop-i-preserved : goal.loop-i-preserved
loop-i-preserved c = let v = c.loop-i in
    let w = c in
    let e = coefficient (goal.at.loop-i-preserved c).After-c-1 in (
      omega arith,
      length-set v.marks _ _ ∙ v.invariant.1,
      covering_more _ _ _ v.marks v.i _ _ w.requires.0 c.loop-i-test.true v.invariant.1
          (c.term_mark-h.ensures.0 ∙ ap mark_of (c.term_of-t.ensures.0 ∙ ap (term_by _) e))
          (subst (λ (n : ℕ). Joint (get_or v.marks c.term_mark-h.result 0) n c.joint_mark.result) (c.size_mark-v.ensures
          ∙ ap size_mark e) c.joint_mark.ensures) v.invariant.2,
    )

pub returns : goal.returns
returns c = let v = c.loop-i in
    record { covering = covering_all _ _ _ v.marks v.i c.requires.0 c.loop-i-test.false v.invariant.2; long = v.invariant.1 }
