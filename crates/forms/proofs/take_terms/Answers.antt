-- `forms::take_terms`. The loop: reading all terms is reading those from the position reached behind the i taken; these stand in the form, and `last` is the last of
-- them, behind which the next must stand. Assumes nothing.
use Rattle.std.proofs.Common.{rules}
use mathlib.Core.Path.{◌≡◌, refl, ap, ◌∙◌}
use mathlib.Core.List.{[]}
use Prim.Native.Nat.{ℕ, suc, ◌-◌, ◌+◌, ◌≤◌, ◌<◌}
use native.Mathlib.Omega.{arith}
use borrow.Author.Tests.{not-true, not-false}
use lib.ListN.{length, length-set}
use Rattle.specification.specs.Lists.{follows}
use Rattle.specification.specs.Terms.{term_before}
use Rattle.specification.specs.Terms as S
use Rattle.specification.specs.Records.{read_terms}
use Rattle.terms.specs.Abstraction.{term_of, Counted, terms_of}
use Rattle.terms.specs.Valid.{Readable}
use Rattle.forms.specs.Reading.{behind_last}
use Rattle.forms.proofs.Takers.{begins, behind_none, behind_more, more_room, pushed-terms, pushed-readable, turn_refused, turned, terms_refused, terms_given}
use Rattle.refusal.proofs.Passing.{passed_up}
use Rattle.forms.proofs.take_terms.Goals as goal

pub loop-i-init : goal.loop-i-init
loop-i-init c =
    let w = c.no_terms-f.ensures in
    let a = c.args in
    (omega arith, w.3, w.4, begins a.kind a.n a.s.now a.at _ w.0, w.1, w.2, behind_none _ _ w.0, c.no_term-last.ensures)

pub take_term-requires : goal.take_term-requires
take_term-requires c = c.loop-i.invariant.7

pub returns-in_err-t : goal.returns-in_err-t
returns-in_err-t c =
    let a = c.args in
    let v = c.loop-i in
    let inv = v.invariant in
    let e : a.n - v.i ≡ suc (a.n - (v.i + 1)) = omega arith in
    rw (passed_up _ _ c.from_residual.ensures.1)
    (terms_refused _ _ _ _ (inv.3 ∙ rw e (turn_refused a.kind v.i _ a.s.now _ _ inv.6 _ c.in_err-t.ensures.is _ _ refl)))

pub loop-i-preserved : goal.loop-i-preserved
loop-i-preserved c =
    let a = c.args in
    let v = c.loop-i in
    let inv = v.invariant in
    let w = c.in_ok-t.ensures in
    let t = c.in_ok-t.t in
    let l : v.i < length v.f.terms = omega (arith, inv.2, c.requires) in
    let p = pushed-terms t v.f _ v.i inv.1 l refl refl in (
      omega arith,
      refl,
      simp length-set inv.2,
      inv.3 ∙ turned a.kind a.n v.i _ a.s.now (terms_of v.f) _ v.next inv.6 _ _ w.is c.loop-i-test.true p,
      pushed-readable t v.f _ v.i inv.1 l refl refl inv.4 w.counted,
      inv.5,
      behind_more (terms_of v.f) _ v.i (term_of t) p,
      w.counted,
    )

pub returns : goal.returns
returns c =
    let a = c.args in
    let v = c.loop-i in
    let inv = v.invariant in
    let e : a.n - v.i ≡ 0 = omega arith in
    terms_given _ _ _ _ _ a.s.now (more_room _ _ _ inv.0 inv.4) inv.5 (inv.3 ∙ ap (λ (m : ℕ). read_terms m a.kind (terms_of v.f) a.s.now v.next) e)
