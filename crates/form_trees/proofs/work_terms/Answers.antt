-- `form_trees::work_terms` meets its contract: the empty form, or its first term and the others. Assumes nothing.
use Prim.Native.Nat.{ℕ, ◌<◌}
use mathlib.Core.Path.{◌≡◌}
use native.Mathlib.Omega.{arith}
use Rattle.integers.proofs.Machine.{back_is}
use Rattle.form_trees.proofs.Rowed.{row_at, term-valid, term_next}
use Rattle.form_trees.proofs.Whole.{empty_stands, first_refused, others-added}
use Rattle.refusal.proofs.Passing.{passed_up}
use Rattle.form_trees.proofs.work_terms.Goals as goal

some_term : {n : ℕ} → (n ≡ 0 → ⊥) → 0 < n
some_term h = omega arith

pub returns-then-n-eq0 : goal.returns-then-n-eq0
returns-then-n-eq0 c = empty_stands _ _ _ _ _ _ _ c.if-n-eq0.true c.requires.0

pub term_of-t-requires : goal.term_of-t-requires
term_of-t-requires c = let l = some_term c.if-n-eq0.false in row_at _ _ _ (record { kind = _; form = c.requires.0 }) _ l

pub work_term-requires : goal.work_term-requires
work_term-requires c =
    let s = c in
    let l = some_term c.if-n-eq0.false in (
      term-valid _ _ _ (record { kind = _; form = c.requires.0 }) _ l _ (back_is (record { sfits = c.term_of-arg-1.given })) _ c.term_of-t.ensures,
      record { form = s.requires.1.form; room = omega (arith, s.requires.1.room); beside = omega (arith, s.requires.1.beside) },
    )

pub returns-in_err-w : goal.returns-in_err-w
returns-in_err-w c =
    let s = c in
    let l = some_term c.if-n-eq0.false in
    rw (passed_up _ _ c.from_residual.ensures.1)
    (first_refused _ _ _ _ _ (term_next _ _ _ (record { kind = _; form = s.requires.0 }) _ l _
    (back_is (record { sfits = c.term_of-arg-1.given })) _ c.term_of-t.ensures) _ _ _ c.in_err-w.ensures)

pub add_terms-requires : goal.add_terms-requires
add_terms-requires c =
    let s = c in (
      record { kind = _; form = s.requires.0 },
      record { form = s.requires.1.form; room = omega (arith, s.requires.1.room); beside = omega (arith, s.requires.1.beside) },
      c.in_ok-w.ensures.form,
      some_term c.if-n-eq0.false,
    )

pub returns : goal.returns
returns c =
    let s = c in
    let l = some_term c.if-n-eq0.false in
    others-added _ _ _ _ _ (term_next _ _ _ (record { kind = _; form = s.requires.0 }) _ l _
    (back_is (record { sfits = c.term_of-arg-1.given })) _ c.term_of-t.ensures) _ _ _ c.in_ok-w.ensures _ _ _ c.add_terms.ensures
