use mathlib.Core.Path.{◌≡◌, ap, ◌∙◌}
use native.Mathlib.Omega.{arith}
use lib.Dec.{compare_is_eq}
use Rattle.theory.specs.Shape.Terms.{in_limit}
use Rattle.terms.specs.Abstraction.{term_of}
use Rattle.gathering.specs.Bringing.{is_like}
use Rattle.terms.proofs.Orders.{is_eq-is_equal}
use Rattle.integers.proofs.Machine.{back_is}
use Rattle.marks.proofs.Gains.{row-like, row-unlike}
use Rattle.marks.proofs.steps.row_gain.Goals.{After-is_eq}
use Rattle.marks.proofs.steps.row_gain.Goals as goal

pub times_row-u-requires : goal.times_row-u-requires
times_row-u-requires c = record { counts = (c.requires.counts.1, c.requires.counts.2); part = c.requires.part }

-- whether the term is like the product
like : (c : After-is_eq) → c.is_eq.result ≡ is_like (term_of c.args.t) (term_of c.times_row-u.result)
unfolding is_like
like c = c.is_eq.ensures ∙ is_eq-is_equal _ ∙ ap compare_is_eq c.compare.ensures

pub returns-then-is_eq : goal.returns-then-is_eq
unfolding term_of
returns-then-is_eq c =
    let w = c in
    let u = c.times_row-u in
    row-like _ _ u.result u.ensures.is _ (like (goal.at.returns-then-is_eq c).After-is_eq) c.if-is_eq.true
    (omega (arith, u.ensures.light, in_limit (term_of w.args.m) w.requires.counts.1.in_shape)) _ (back_is {z =
    u.result.coef} (record { sfits = c.struct_told-1.given.0.1 }))

pub returns : goal.returns
returns c =
    let u = c.times_row-u in
    row-unlike _ _ u.result u.ensures.is _ (like (goal.at.returns c).After-is_eq) c.if-is_eq.false
