-- `shortening::rounds::take_rounds` meets its contract. The loop: the n steps so far lead from the first form to the one in the rows, each admissible and each
-- with fewer terms; the marks cover it, and its search has been made. Assumes nothing.
use mathlib.Core.Path.{refl, sym, ap, subst, ◌∙◌}
use mathlib.Core.Bool.{not}
use mathlib.Core.List.{List}
use Prim.Native.Nat.{ℕ, ◌+◌, ◌≤◌, ◌<◌}
use native.Mathlib.Omega.{arith}
use lib.IntN.{ℤ}
use lib.ListN.{length, set}
use Rattle.specification.specs.Terms as S
use Rattle.rows.specs.Rows.{run_of, form_by, FormRun}
use Rattle.rows.proofs.Runs.{run_length}
use Rattle.rows.proofs.RowForms.{run-copied, form-copied}
use Rattle.marking.specs.Marks.{Covering}
use Rattle.std.specs.Prelude.{Option}
use Rattle.searching.specs.declared.searching.Found.{Found}
use Rattle.searching.specs.Searching.{Shorter, SearchedBy}
use Rattle.shortening.specs.Derived.{Leads}
use Rattle.shortening.proofs.Derivations.{rounds_none, found_anywhere, found_is, shorter, round_room, round-covered, round_more, rounds_end}
use Rattle.shortening.proofs.rounds.take_rounds.Goals.{After-copy, After-mark_reached, In-Some}
use Rattle.shortening.proofs.rounds.take_rounds.Goals as goal

-- the first form
few : (kind held : ℕ) (rows : List (List ℕ)) (coefs : List ℤ) → FormRun kind held rows coefs → length (form_by kind held rows coefs).terms ≤ 48
few kind held rows coefs w = omega (arith, run_length rows coefs held w.run.room w.run.beside, w.few)

-- the step that was found
found : (c : In-Some) → Shorter c.args.table.now (form_by c.args.kind c.loop-found.count c.loop-found.rows c.loop-found.coefs) c.in-Some.r c.loop-found.to c.loop-found.tos
found c = let v = c.loop-found in
    shorter c.args.table.now _ (few _ _ _ _ c.requires.0) v.steps v.n _ v.invariant.0 v.to v.tos _ (found_is _ _ _ _ _ _ c.in-Some.is v.invariant.4)

room : (c : In-Some) → c.loop-found.n < 48
room c = let v = c.loop-found in
    round_room c.args.table.now _ (few _ _ _ _ c.requires.0) v.steps v.n _ v.invariant.0 v.to v.tos _ (found_is _ _ _ _ _ _ c.in-Some.is v.invariant.4)

-- it saves a term
fewer : (c : In-Some) → c.in-Some.r.count < c.loop-found.count
fewer c = let v = c.loop-found in
    omega (arith, (found c).fewer, run_length v.rows v.coefs v.count v.invariant.1.run.room v.invariant.1.run.beside)

-- the form that it reaches, copied
reached : (c : After-copy) → FormRun c.args.kind c.in-Some.r.count c.copy.new.rows c.copy.new.coefs
reached c = let v = c.loop-found in
    let g = shorter c.args.table.now _ (few _ _ _ _ c.requires.0) v.steps v.n _ v.invariant.0 v.to v.tos _ (found_is _ _ _ _ _ _ c.in-Some.is v.invariant.4) in
    let less : c.in-Some.r.count < v.count =
    omega (arith, g.fewer, run_length v.rows v.coefs v.count v.invariant.1.run.room v.invariant.1.run.beside) in
    form-copied _ _ _ _ _ c.copy.ensures _ (omega (arith, less, v.invariant.1.run.room)) (omega (arith, less, v.invariant.1.run.beside)) g.form

leads : (c : After-copy)
    → Leads c.args.table.now (form_by c.args.kind c.args.held c.args.rows.now c.args.coefs.now) (set c.loop-found.steps c.loop-found.n c.in-Some.r.step)
    (c.loop-found.n + 1)
    (form_by c.args.kind c.in-Some.r.count c.copy.new.rows
    c.copy.new.coefs)
leads c = let v = c.loop-found in
    subst (λ (l : List S.Term). Leads c.args.table.now (form_by c.args.kind c.args.held c.args.rows.now c.args.coefs.now) (set v.steps v.n c.in-Some.r.step) (v.n + 1)
    (record {
      kind = c.args.kind;
      terms = l;
    })) (sym (run-copied _ _ _ _ _ c.copy.ensures))
    (round_more c.args.table.now _ (few _ _ _ _ c.requires.0) v.steps v.n _ v.invariant.0 v.to v.tos _ (found_is _ _ _ _ _ _ c.in-Some.is v.invariant.4))

-- the marks carried over cover it
covered : (c : After-mark_reached)
    → Covering c.mark_reached.new.marks (run_of c.in-Some.r.count
    c.copy.new.rows c.copy.new.coefs)
covered c = let v = c.loop-found in
    round-covered c.args.table.now _ (few _ _ _ _ c.requires.0) v.steps v.n _ v.invariant.0 v.to v.tos _ (found_is _ _ _ _ _ _ c.in-Some.is v.invariant.4)
    v.invariant.1.in_shape v.marks _ v.invariant.3 c.mark_reached.ensures.covering _ _ (run-copied _ _ _ _ _ c.copy.ensures)

pub no_step-none-requires : goal.no_step-none-requires
no_step-none-requires c = tt

pub mark_rows-marks-requires : goal.mark_rows-marks-requires
mark_rows-marks-requires c = (c.requires.0.run, c.requires.0.light)

pub search-found-requires : goal.search-found-requires
search-found-requires c = let w = c in (
  w.requires.0,
  omega arith,
  c.mark_rows-marks.ensures.long,
  c.mark_rows-marks.ensures.covering,
  w.requires.1,
  w.requires.2,
)

pub loop-found-init : goal.loop-found-init
loop-found-init c = let w = c in (
  rounds_none _ _ _ _ refl refl,
  w.requires.0,
  c.mark_rows-marks.ensures.long,
  c.mark_rows-marks.ensures.covering,
  c.search-found.ensures,
  refl,
  refl,
  omega arith,
  omega arith,
)

pub offset_bounds-steps-n : goal.offset_bounds-steps-n
offset_bounds-steps-n c = omega (arith, room (goal.at.offset_bounds-steps-n c).In-Some)

pub bounds-steps-n : goal.bounds-steps-n
bounds-steps-n c = omega (arith, room (goal.at.bounds-steps-n c).In-Some, c.loop-found.invariant.0.places)

pub overflow_add-n : goal.overflow_add-n
overflow_add-n c = omega (arith, room (goal.at.overflow_add-n c).In-Some)

pub copy-requires : goal.copy-requires
copy-requires c = let v = c.loop-found in
    let g = (found (goal.at.copy-requires c).In-Some).form.run in (
      g.room,
      g.beside,
      omega (arith, fewer (goal.at.copy-requires c).In-Some, v.invariant.1.run.room),
      omega (
        arith,
        fewer (goal.at.copy-requires c).In-Some,
        v.invariant.1.run.beside,
      ),
    )

pub mark_reached-requires : goal.mark_reached-requires
mark_reached-requires c = (
  (found (goal.at.mark_reached-requires c).In-Some).step,
  c.loop-found.invariant.2,
)

pub search-found-requires-in-Some : goal.search-found-requires-in-Some
search-found-requires-in-Some c = let w = c in
    let v = c.loop-found in (
      reached (goal.at.search-found-requires-in-Some c).After-copy,
      (found (goal.at.search-found-requires-in-Some c).In-Some).behind,
      c.mark_reached.ensures.long,
      covered (goal.at.search-found-requires-in-Some c).After-mark_reached,
      omega (arith, w.requires.1, v.invariant.7),
      omega (arith, w.requires.2, v.invariant.8),
    )

pub mark_rows-marks-requires-then-is_none : goal.mark_rows-marks-requires-then-is_none
mark_rows-marks-requires-then-is_none c = (
  (reached (goal.at.mark_rows-marks-requires-then-is_none c).After-copy).run,
  (reached (goal.at.mark_rows-marks-requires-then-is_none c).After-copy
      ).light,
)

pub search-found-requires-then-is_none : goal.search-found-requires-then-is_none
search-found-requires-then-is_none c = let w = c in
    let v = c.loop-found in (
      reached (goal.at.search-found-requires-then-is_none c).After-copy,
      omega arith,
      c.mark_rows-marks-then-is_none.ensures.long,
      c.mark_rows-marks-then-is_none.ensures.covering,
      omega (
        arith,
        w.requires.1,
        v.invariant.7,
        c.to-in-Some-1.given,
        c.to-1.given,
      ),
      omega (
        arith,
        w.requires.2,
        v.invariant.8,
        c.tos-in-Some-1.given,
        c.tos-1.given,
      ),
    )

pub loop-found-smaller-then-is_none : goal.loop-found-smaller-then-is_none
loop-found-smaller-then-is_none c = fewer (goal.at.loop-found-smaller-then-is_none c).In-Some

pub loop-found-preserved-then-is_none : goal.loop-found-preserved-then-is_none
loop-found-preserved-then-is_none c = let v = c.loop-found in (
  leads (goal.at.loop-found-preserved-then-is_none c).After-copy,
  reached (goal.at.loop-found-preserved-then-is_none c).After-copy,
  c.mark_rows-marks-then-is_none.ensures.long,
  c.mark_rows-marks-then-is_none.ensures.covering,
  c.search-found-then-is_none.ensures,
  omega (
    arith,
    v.invariant.5,
    c.rows-1.given,
  ),
  omega (
    arith,
    v.invariant.6,
    c.coefs-1.given,
  ),
  omega (
    arith,
    v.invariant.7,
    c.to-in-Some-1.given,
    c.to-then-is_none-1.given,
  ),
  omega (
    arith,
    v.invariant.8,
    c.tos-in-Some-1.given,
    c.tos-then-is_none-1.given,
  ),
)

pub loop-found-smaller : goal.loop-found-smaller
loop-found-smaller c = fewer (goal.at.loop-found-smaller c).In-Some

pub loop-found-preserved : goal.loop-found-preserved
loop-found-preserved c = let v = c.loop-found in (
  leads (goal.at.loop-found-preserved c).After-copy,
  reached (goal.at.loop-found-preserved c).After-copy,
  c.mark_reached.ensures.long,
  covered (goal.at.loop-found-preserved c).After-mark_reached,
  found_anywhere c.args.table.now _ _ _ _ _ c.search-found-in-Some.ensures (c.is_none.ensures ∙ ap not c.if-is_none.false),
  omega (arith, v.invariant.5),
  omega (arith, v.invariant.6),
  omega (arith, v.invariant.7),
  omega (arith, v.invariant.8),
)

pub shape_of-rows : goal.shape_of-rows
shape_of-rows c = c.loop-found.invariant.5

pub shape_of-coefs : goal.shape_of-coefs
shape_of-coefs c = c.loop-found.invariant.6

pub shape_of-to : goal.shape_of-to
shape_of-to c = omega (arith, c.loop-found.invariant.7, c.to-1.given)

pub shape_of-tos : goal.shape_of-tos
shape_of-tos c = omega (arith, c.loop-found.invariant.8, c.tos-1.given)

pub returns : goal.returns
returns c = let v = c.loop-found in
    let w = c in
    record {
      leads = v.invariant.0;
      form = v.invariant.1;
      none = rounds_end w.args.table.now _ (few _ _ _ _ w.requires.0) v.steps v.n (form_by w.args.kind v.count v.rows v.coefs) v.invariant.0
          v.to v.tos (subst (λ (r : Option Found). SearchedBy 0 w.args.table.now (form_by w.args.kind v.count v.rows v.coefs) r v.to v.tos) c.in_default.is v.invariant.4);
    }
