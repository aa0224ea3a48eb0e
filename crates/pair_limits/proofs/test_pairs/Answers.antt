-- `pair_limits::test_pairs` meets its contract: the largest numbers of each side decide where they are within the limits, else the terms that stay. Assumes nothing.
use Rattle.std.proofs.Common.{rules}
use mathlib.Core.Path.{◌≡◌, sym, subst}
use Prim.Native.Nat.{ℕ, ◌*◌, ◌≤◌, ◌<◌}
use native.Mathlib.Nat.{mul-le-mul}
use borrow.Author.Tests.{not-true, not-false}
use lib.ListN.{length}
use Rattle.theory.specs.Elements.{All}
use Rattle.rows.specs.Rows.{run_of, form_by}
use Rattle.rows.proofs.Runs.{run_length}
use Rattle.pair_limits.proofs.Largest.{Limited, form-limited, most-small}
use Rattle.pair_limits.proofs.Fitting.{operands-paired, seven, quickly, eight, nine, all_fit}
use native.Mathlib.Omega.{arith}
use Rattle.pair_limits.proofs.test_pairs.Goals.{Start}
use Rattle.pair_limits.proofs.test_pairs.Goals as goal

-- as many pairs
pairs : (c : Start) → length (run_of c.args.n c.args.rows.now c.args.coefs.now) * length
    (run_of c.args.m c.args.right.now c.args.rights.now) ≡ c.args.n * c.args.m
pairs c =
    let a = c.requires.operands.left_form.run in let b = c.requires.operands.right_form.run in
    λ i. run_length c.args.rows.now c.args.coefs.now c.args.n a.room a.beside i * run_length c.args.right.now
    c.args.rights.now c.args.m b.room b.beside i

few : (c : Start) → c.args.n * c.args.m ≤ 48 → length (run_of c.args.n c.args.rows.now c.args.coefs.now) * length
    (run_of c.args.m c.args.right.now c.args.rights.now) ≤ 48
few c h = subst (λ (n : ℕ). n ≤ 48) (sym (pairs c)) h

limits-left : (c : Start) → All Limited (run_of c.args.n c.args.rows.now c.args.coefs.now)
limits-left c = form-limited (form_by c.requires.operands.left_kind c.args.n c.args.rows.now c.args.coefs.now) c.requires.operands.left_form.in_shape

limits-right : (c : Start) → All Limited (run_of c.args.m c.args.right.now c.args.rights.now)
limits-right c = form-limited (form_by c.requires.operands.right_kind c.args.m c.args.right.now c.args.rights.now) c.requires.operands.right_form.in_shape

pub overflow_mul-n : goal.overflow_mul-n
overflow_mul-n c = omega (arith, mul-le-mul c.requires.operands.left_form.few c.requires.operands.right_form.few)

pub returns-then-n-m-gt48 : goal.returns-then-n-m-gt48
returns-then-n-m-gt48 c = seven _ _ _ (subst (λ (n : ℕ). 48 < n) (sym (pairs (goal.at.returns-then-n-m-gt48 c).Start)) c.if-n-m-gt48.true)

pub most_of-a-requires : goal.most_of-a-requires
most_of-a-requires c = (c.requires.operands.left_form.run, c.requires.operands.left_form.light)

pub most_of-b-requires : goal.most_of-b-requires
most_of-b-requires c = (c.requires.operands.right_form.run, c.requires.operands.right_form.light)

pub letters_fit-letters-requires : goal.letters_fit-letters-requires
letters_fit-letters-requires c = (
  most-small _ _ (limits-left (goal.at.letters_fit-letters-requires c).Start) c.most_of-a.ensures,
  most-small _ _ (limits-right (goal.at.letters_fit-letters-requires c).Start)
      c.most_of-b.ensures,
)

pub coefs_fit-coefs_within-requires : goal.coefs_fit-coefs_within-requires
coefs_fit-coefs_within-requires c = (
  most-small _ _ (limits-left (goal.at.coefs_fit-coefs_within-requires c).Start) c.most_of-a.ensures,
  most-small _ _
      (limits-right (goal.at.coefs_fit-coefs_within-requires c).Start) c.most_of-b.ensures,
)

pub returns-then-coefs_within : goal.returns-then-coefs_within
returns-then-coefs_within c =
    let l = c in
    let m = c in
    let a = c in
    quickly _ _ _ (few (goal.at.returns-then-coefs_within c).Start m.if-n-m-gt48.false) (limits-left (goal.at.returns-then-coefs_within c).Start) (limits-right (goal.at.returns-then-coefs_within c).Start) _ _ m.most_of-a.ensures l.most_of-b.ensures _ _ l.letters_fit-letters.ensures
    c.coefs_fit-coefs_within.ensures c.if-letters.true c.if-coefs_within.true

pub fit_of_pairs-fit-requires : goal.fit_of_pairs-fit-requires
fit_of_pairs-fit-requires c =
    let o = c.requires.operands in (o.left_form.run, o.right_form.run, operands-paired _ _ _ _ _ _ _ _ o)

pub returns-then-not-fit : goal.returns-then-not-fit
returns-then-not-fit c =
    let e = c in
    eight _ _ _ (few (goal.at.returns-then-not-fit c).Start e.if-n-m-gt48.false) _ c.fit_of_pairs-fit.ensures (not-true _ c.if-not-fit.true)

pub returns-then-not-fit-2 : goal.returns-then-not-fit-2
returns-then-not-fit-2 c =
    let e = c in
    nine _ _ _ (few (goal.at.returns-then-not-fit-2 c).Start e.if-n-m-gt48.false) _ c.fit_of_pairs-fit.ensures (not-false _ c.if-not-fit.false) (not-true _ c.if-not-fit-2.true)

pub returns : goal.returns
returns c =
    let e = c in
    all_fit _ _ _ (few (goal.at.returns c).Start e.if-n-m-gt48.false) _ c.fit_of_pairs-fit.ensures (not-false _ c.if-not-fit.false) (not-false _ c.if-not-fit-2.false)
