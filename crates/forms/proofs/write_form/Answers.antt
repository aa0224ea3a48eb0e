-- `forms::write_form` meets its contract: after i turns the records of the first i terms stand behind the kind and the count, in at most 2 + 16 · i bytes.
-- Assumes nothing.
use Rattle.std.proofs.Common.{rules}
use mathlib.Core.Path.{◌≡◌, refl, sym, ◌∙◌}
use Prim.Native.Nat.{◌+◌, ◌-◌, ◌*◌, ◌≤◌, ◌<◌}
use native.Mathlib.Omega.{arith}
use lib.ListN.{length, take, length-map, length-set}
use Rattle.record_writing.specs.Written.{Written}
use Rattle.record_writing.proofs.Writes.{written_none}
use Rattle.forms.proofs.Forms.{records, records_none, term_at_lem, record-within, record_written, form_written}
use Rattle.forms.proofs.write_form.Goals.{At-loop-i, Start}
use Rattle.forms.proofs.write_form.Goals as goal

-- there are 48 places
places : (c : Start) → length c.args.f.terms ≡ 48
places c = search rules

-- so that the terms are among them
few : (c : Start) → c.args.f.count ≤ length c.args.f.terms
few c = omega (arith, places c, c.requires.0.few)

-- the bytes stay as many as they were
long : (c : At-loop-i) → 2 + 16 * c.args.f.count ≤ length c.loop-i.out
long c = rw c.loop-i.invariant.1 (simp length-set c.requires.1)

pub overflow_cast-out : goal.overflow_cast-out
overflow_cast-out c = omega (arith, c.requires.0.few)

pub bounds-out-1 : goal.bounds-out-1
bounds-out-1 c = simp length-set (omega arith)

pub loop-i-init : goal.loop-i-init
loop-i-init c = (omega arith, refl, omega arith, written_none _ _ _ (records_none c.args.f.terms))

pub offset_bounds-f-i : goal.offset_bounds-f-i
offset_bounds-f-i c = omega (arith, c.requires.0.few)

pub bounds-f-i : goal.bounds-f-i
bounds-f-i c = omega (arith, c.requires.0.few)

pub write_term-at-requires : goal.write_term-at-requires
write_term-at-requires c =
    let w = c in
    let s = c in
    let h : w.loop-i.at + 16 ≤ length w.loop-i.out = omega (arith, long (goal.at.write_term-at-requires c).At-loop-i, c.loop-i-test.true, w.loop-i.invariant.2, s.requires.0.few) in
    (term_at_lem s.args.f _ _ s.requires.0 (few (goal.at.write_term-at-requires c).Start) c.loop-i-test.true, h)

pub loop-i-preserved : goal.loop-i-preserved
loop-i-preserved c =
    let w = c in
    let s = c in
    let t = c.loop-i-test.true in
    let h : w.loop-i.i < length s.args.f.terms = omega (arith, few (goal.at.loop-i-preserved c).Start, t) in
    let e = c.write_term-at.ensures in (
      omega (arith, t),
      c.write_term-at.auto.out ∙ w.loop-i.invariant.1,
      record-within s.args.f _ _ _ _ _ _ s.requires.0 (few (goal.at.loop-i-preserved c).Start) t e w.loop-i.invariant.2,
      record_written _ _ _ _ _ _ _ _ _ h (simp length-set (omega (arith, s.requires.1))) w.loop-i.invariant.3 e,
    )

pub shape_of-out : goal.shape_of-out
shape_of-out c = c.loop-i.invariant.1 ∙ simp length-set

pub returns : goal.returns
returns c =
    let w = c in
    let s = c in
    let e : w.loop-i.i ≡ s.args.f.count = omega (arith, c.loop-i-test.false, w.loop-i.invariant.0) in
    form_written _ _ _ _ (few (goal.at.returns c).Start) (omega (arith, s.requires.1)) (rw e at w.loop-i.invariant.3)
