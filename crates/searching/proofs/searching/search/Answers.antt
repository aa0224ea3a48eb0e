-- `searching::searching::search` meets its contract. The loop: no place passed so far, from the first on, is a step to fewer terms. Assumes nothing.
use mathlib.Core.Path.{◌≡◌, refl, ap, subst, ◌∙◌}
use mathlib.Core.List.{[]}
use Prim.Native.Nat.{◌*◌, ◌+◌, ◌/◌, ◌%◌, ◌<◌}
use native.Mathlib.Omega.{arith}
use lib.ListN.{get_or}
use Rattle.specification.specs.Terms as S
use Rattle.integers.proofs.Machine.{back_is}
use Rattle.terms.specs.Abstraction.{term_of}
use Rattle.terms.proofs.Arrays.{all-at}
use Rattle.rows.specs.Rows.{term_by, RowValid, form_by}
use Rattle.rows.proofs.Runs.{run_length}
use Rattle.theory.specs.Gathering.Coefficients.{term_at}
use Rattle.std.specs.Prelude.{Option, None}
use Rattle.candidates.specs.declared.trying.Next.{Next}
use Rattle.candidates.specs.Trying.{found_step, place_behind, NextPlace}
use Rattle.searching.specs.Searching.{SearchedBy}
use Rattle.searching.proofs.Searches.{RowPassed, Useless, row-none, row_more, row_past, row_term_lem, row-valid, row-searched, refused_useless, long_useless, shorter}
use Rattle.searching.proofs.searching.search.Goals.{After-term_of-t, In-loop-at}
use Rattle.searching.proofs.searching.search.Goals as goal

-- the term whose candidates are looked at
inside : (c : In-loop-at) → c.loop-at.at / 40960 < c.args.n
inside c = omega (arith, c.loop-at-test.true)

-- the places up to the next candidate, where it does not shorten
onward : (c : After-term_of-t) (r : Option Next) → NextPlace c.args.marks.now c.args.kind (term_of c.term_of-t.result) (c.loop-at.at % 40960) r
    → Useless c.args.table.now (form_by c.args.kind c.args.n c.args.rows.now c.args.coefs.now) (found_step r)
    → RowPassed c.args.table.now (form_by c.args.kind c.args.n c.args.rows.now c.args.coefs.now) c.args.first
    (c.loop-at.at / 40960 * 40960 + place_behind 40960 r)
onward c r n u =
    let w = c in
    let v = c.loop-at in
    let f : S.Form = form_by w.args.kind w.args.n w.args.rows.now w.args.coefs.now in
    let own : term_of c.term_of-t.result ≡ term_at f.terms (v.at / 40960) = c.term_of-t.ensures.0
    ∙ ap (term_by (get_or w.args.rows.now (v.at / 40960) [])) (back_is (record { sfits = c.term_of-arg-1.given }))
    ∙ row_term_lem _ _ _ _ w.requires.0 (v.at / 40960) (omega (arith, c.loop-at-test.true)) in
    row_more w.args.marks.now w.args.table.now f w.args.first v.at (v.at / 40960) r
    w.requires.0.in_shape w.requires.3 refl v.invariant.0
    (subst (λ (t : S.Term). NextPlace w.args.marks.now w.args.kind t (v.at % 40960) r) own n) u

pub overflow_mul-end : goal.overflow_mul-end
overflow_mul-end c = omega (arith, c.requires.0.few)

pub overflow_mul-at : goal.overflow_mul-at
overflow_mul-at c = omega (arith, c.requires.1)

pub loop-at-init : goal.loop-at-init
loop-at-init c = (row-none _ _ _, refl, refl)

pub offset_bounds-rows-i : goal.offset_bounds-rows-i
offset_bounds-rows-i c = omega (arith, inside (goal.at.offset_bounds-rows-i c).In-loop-at, c.requires.0.few)

pub bounds-rows-i : goal.bounds-rows-i
bounds-rows-i c = omega (arith, inside (goal.at.bounds-rows-i c).In-loop-at, c.requires.0.run.room)

pub offset_bounds-coefs-i : goal.offset_bounds-coefs-i
offset_bounds-coefs-i c = omega (arith, inside (goal.at.offset_bounds-coefs-i c).In-loop-at, c.requires.0.few)

pub bounds-coefs-i : goal.bounds-coefs-i
bounds-coefs-i c = omega (arith, inside (goal.at.bounds-coefs-i c).In-loop-at, c.requires.0.run.beside)

pub term_of-t-requires : goal.term_of-t-requires
term_of-t-requires c = let w = c in
    all-at RowValid w.args.rows.now w.args.n (c.loop-at.at / 40960) [] w.requires.0.run.room (inside (goal.at.term_of-t-requires c).In-loop-at)
    w.requires.0.run.valid

pub next_candidate-requires : goal.next_candidate-requires
next_candidate-requires c = let w = c in (
  w.requires.2,
  row-valid _ _ _ _ w.requires.0 (c.loop-at.at / 40960) (inside (goal.at.next_candidate-requires c).In-loop-at)
      c.term_of-t.result _ (back_is (record { sfits = c.term_of-arg-1.given })) c.term_of-t.ensures,
  omega arith,
)

pub overflow_add-at : goal.overflow_add-at
overflow_add-at c = omega (arith, inside (goal.at.overflow_add-at c).In-loop-at, c.requires.0.few)

pub overflow_mul-at-in-loop-at : goal.overflow_mul-at-in-loop-at
overflow_mul-at-in-loop-at c = omega (arith, inside (goal.at.overflow_mul-at-in-loop-at c).In-loop-at, c.requires.0.few)

pub loop-at-smaller-in_default : goal.loop-at-smaller-in_default
loop-at-smaller-in_default c = omega (arith, c.loop-at-test.true)

pub loop-at-preserved-in_default : goal.loop-at-preserved-in_default
unfolding Useless
loop-at-preserved-in_default c = (
  row_past _ _ _ _ (onward (goal.at.loop-at-preserved-in_default c).After-term_of-t None c.in_default.ensures tt),
  c.loop-at.invariant.1,
  c.loop-at.invariant.2,
)

pub overflow_mul-at-in_default : goal.overflow_mul-at-in_default
overflow_mul-at-in_default c = omega (arith, inside (goal.at.overflow_mul-at-in_default c).In-loop-at, c.requires.0.few)

pub overflow_add-at-in-loop-at : goal.overflow_add-at-in-loop-at
overflow_add-at-in-loop-at c = omega (
  arith,
  inside (goal.at.overflow_add-at-in-loop-at c).In-loop-at,
  c.requires.0.few,
  c.in-Some.ensures.inside,
)

pub try_step-requires : goal.try_step-requires
try_step-requires c = let w = c in
    let v = c.loop-at in (
      w.requires.0,
      c.in-Some.ensures.counted,
      omega (arith, w.requires.0.few, w.requires.4, v.invariant.1),
      omega (arith, w.requires.0.few, w.requires.5, v.invariant.2),
    )

pub place_of-requires : goal.place_of-requires
place_of-requires c = let w = c in
    let g = c.in-Ok.ensures.reached.form.run in (
      g.room,
      g.valid,
      all-at RowValid w.args.rows.now w.args.n (c.loop-at.at / 40960) [] w.requires.0.run.room
          (inside (goal.at.place_of-requires c).In-loop-at)
          w.requires.0.run.valid,
    )

pub shape_of-to-then-count-n : goal.shape_of-to-then-count-n
shape_of-to-then-count-n c = omega (
  arith,
  c.loop-at.invariant.1,
)

pub shape_of-tos-then-count-n : goal.shape_of-tos-then-count-n
shape_of-tos-then-count-n c = omega (
  arith,
  c.loop-at.invariant.2,
)

pub returns-then-count-n : goal.returns-then-count-n
unfolding SearchedBy
returns-then-count-n c = let w = c in
    let l = run_length w.args.rows.now w.args.coefs.now w.args.n w.requires.0.run.room w.requires.0.run.beside in
    shorter w.args.table.now (form_by w.args.kind w.args.n w.args.rows.now w.args.coefs.now) _ _ _ _ c.in-Ok.ensures.reached
    c.in-Ok.ensures.kind
    (omega (arith, c.if-count-n.true, l))
    c.in-Some.ensures.counted
    _ c.place_of.ensures

pub loop-at-smaller-else-count-n : goal.loop-at-smaller-else-count-n
loop-at-smaller-else-count-n c = let n = c.in-Some.ensures in omega (arith, c.loop-at-test.true, n.forward, n.inside)

pub loop-at-preserved-else-count-n : goal.loop-at-preserved-else-count-n
loop-at-preserved-else-count-n c = let w = c in
    let l = run_length w.args.rows.now w.args.coefs.now w.args.n w.requires.0.run.room w.requires.0.run.beside in (
      onward (goal.at.loop-at-preserved-else-count-n c).After-term_of-t _ c.in-Some.ensures
          (long_useless w.args.table.now (form_by w.args.kind w.args.n w.args.rows.now w.args.coefs.now)
          _ _ _ _ c.in-Ok.ensures.reached (omega (arith, c.if-count-n.false, l))),
      omega (arith, c.loop-at.invariant.1),
      omega (arith, c.loop-at.invariant.2),
    )

pub loop-at-smaller : goal.loop-at-smaller
loop-at-smaller c = let n = c.in-Some.ensures in omega (arith, c.loop-at-test.true, n.forward, n.inside)

pub loop-at-preserved : goal.loop-at-preserved
loop-at-preserved c = let w = c in (
  onward (goal.at.loop-at-preserved c).After-term_of-t _ c.in-Some.ensures
      (refused_useless w.args.table.now (form_by w.args.kind w.args.n w.args.rows.now w.args.coefs.now) _ _ _ _ c.in_default-try_step.ensures.reached),
  omega (arith, c.loop-at.invariant.1),
  omega (arith, c.loop-at.invariant.2),
)

pub shape_of-to : goal.shape_of-to
shape_of-to c = c.loop-at.invariant.1

pub shape_of-tos : goal.shape_of-tos
shape_of-tos c = c.loop-at.invariant.2

pub returns : goal.returns
unfolding SearchedBy
returns c = let w = c in
    row-searched _ _ _ _ w.requires.0 w.args.table.now w.args.first c.loop-at.at _ refl c.loop-at-test.false
    c.loop-at.invariant.0
