-- `replaying::same_form` meets its contract: the terms from the place reached on decide what all decide. Assumes nothing.
use Rattle.std.proofs.Common.{rules}
use mathlib.Core.List.{[]}
use mathlib.Core.Path.{◌≡◌, refl, sym, ap, ◌∙◌}
use Prim.Native.Nat.{◌-◌, ◌≤◌, ◌<◌}
use native.Mathlib.Omega.{arith}
use borrow.Author.Tests.{not-true, not-false}
use lib.ListN.{length, length-map, drop, get_or}
use lib.IntN.{ℤ, pos}
use Rattle.specification.specs.Logs.{same_terms, same_form}
use Rattle.integers.proofs.Machine.{back_is}
use Rattle.terms.specs.Abstraction.{term_of, form_of, Counted}
use Rattle.terms.proofs.Arrays.{no_term, all-at}
use Rattle.rows.specs.Rows.{term_by, RowValid, run_of, form_by}
use Rattle.rows.proofs.Runs.{run_length, run_at}
use Rattle.replaying.specs.Replaying.{same_term}
use Rattle.replaying.proofs.Replays.{kind-other, count_other, by-terms, form-length, form-at, pair-differs, pair_same, all_same}
use Rattle.replaying.proofs.same_form.Goals.{After-same_row, In-loop-j, Start}
use Rattle.replaying.proofs.same_form.Goals as goal

room : (c : Start) → c.args.f.count ≤ length c.args.f.terms
room c = let e : length c.args.f.terms ≡ 48 = search rules in omega (
  arith,
  e,
  c.requires.0.few,
)

-- the pair that is compared
pair : (c : After-same_row) → c.same_row.result
    ≡ same_term (term_of (get_or c.args.f.terms
    c.loop-j.j no_term)) (term_by (get_or c.args.rows.now c.loop-j.j [])
    (get_or c.args.coefs.now
    c.loop-j.j (pos 0)))
pair c =
    c.same_row.ensures
    ∙ ap (λ (z : ℤ). same_term (term_of (get_or c.args.f.terms
    c.loop-j.j no_term)) (term_by (get_or c.args.rows.now c.loop-j.j []) z))
    (back_is (record { sfits = c.same_row-arg-1.given }))

-- the row is there
inside : (c : In-loop-j) → c.loop-j.j < c.args.count
inside c = omega (arith, c.loop-j-test.true, c.if-n-count.false)

pub returns-then-f-kind : goal.returns-then-f-kind
returns-then-f-kind c = kind-other c.args.f _ _ c.if-f-kind.true

pub returns-then-n-count : goal.returns-then-n-count
returns-then-n-count c = let a = c in
    count_other a.args.f _ _ c.if-f-kind.false (λ e. c.if-n-count.true (sym (form-length a.args.f (room (goal.at.returns-then-n-count c).Start)) ∙ e
    ∙ run_length _ _ _ a.requires.1.room a.requires.1.beside))

pub loop-j-init : goal.loop-j-init
loop-j-init c = (omega arith, refl, by-terms c.args.f _ _ c.if-f-kind.false)

pub offset_bounds-f-j : goal.offset_bounds-f-j
offset_bounds-f-j c = omega (arith, c.requires.0.few)

pub bounds-f-j : goal.bounds-f-j
bounds-f-j c = omega (arith, c.requires.0.few)

pub offset_bounds-rows-j : goal.offset_bounds-rows-j
offset_bounds-rows-j c = omega (arith, c.requires.0.few)

pub bounds-rows-j : goal.bounds-rows-j
bounds-rows-j c = omega (arith, inside (goal.at.bounds-rows-j c).In-loop-j, c.requires.1.room)

pub offset_bounds-coefs-j : goal.offset_bounds-coefs-j
offset_bounds-coefs-j c = omega (arith, c.requires.0.few)

pub bounds-coefs-j : goal.bounds-coefs-j
bounds-coefs-j c = omega (arith, inside (goal.at.bounds-coefs-j c).In-loop-j, c.requires.1.beside)

pub same_row-requires : goal.same_row-requires
same_row-requires c = let a = c in (
  all-at Counted a.args.f.terms a.args.f.count c.loop-j.j no_term (room (goal.at.same_row-requires c).Start)
      c.loop-j-test.true a.requires.0.counted,
  all-at RowValid a.args.rows.now a.args.count c.loop-j.j [] a.requires.1.room
      (inside (goal.at.same_row-requires c).In-loop-j) a.requires.1.valid,
)

pub returns-then-not-same_row : goal.returns-then-not-same_row
returns-then-not-same_row c = let a = c in
    let v = c.loop-j in
    sym (v.invariant.2 ∙ pair-differs _ _ v.j _ _ (form-at a.args.f v.j (room (goal.at.returns-then-not-same_row c).Start) c.loop-j-test.true)
    (run_at _ _ _ a.requires.1.room a.requires.1.beside v.j (inside (goal.at.returns-then-not-same_row c).In-loop-j)) _ (pair (goal.at.returns-then-not-same_row c).After-same_row)
    c.if-not-same_row.true)

pub loop-j-preserved : goal.loop-j-preserved
loop-j-preserved c = let a = c in
    let v = c.loop-j in (
      omega arith,
      v.invariant.1,
      v.invariant.2 ∙ pair_same _ _ v.j _ _ (form-at a.args.f v.j (room (goal.at.loop-j-preserved c).Start) c.loop-j-test.true)
          (run_at _ _ _ a.requires.1.room a.requires.1.beside v.j (inside (goal.at.loop-j-preserved c).In-loop-j)) _ (pair (goal.at.loop-j-preserved c).After-same_row)
          c.if-not-same_row.false,
    )

pub returns : goal.returns
returns c = let a = c in
    let v = c.loop-j in
    sym (v.invariant.2 ∙ all_same _ _ v.j (omega (arith, form-length a.args.f (room (goal.at.returns c).Start), c.loop-j-test.false))
    (omega (
      arith,
      run_length a.args.rows.now a.args.coefs.now a.args.count a.requires.1.room a.requires.1.beside,
      c.loop-j-test.false,
      c.if-n-count.false,
    )))
