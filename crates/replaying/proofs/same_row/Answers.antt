-- `replaying::same_row` meets its contract. Assumes nothing.
use Rattle.std.proofs.Common.{rules}
use mathlib.Core.Path.{◌≡◌, ◌∙◌}
use borrow.Author.Tests.{not-true, not-false}
use Rattle.specification.specs.Logs.{same_coef}
use Rattle.integers.proofs.Machine.{back_is}
use Rattle.replaying.proofs.Replays.{row_same, coef-other}
use Rattle.terms.proofs.Orders.{is_eq-is_equal}
use Rattle.replaying.proofs.same_row.Goals.{After-equal}
use Rattle.replaying.proofs.same_row.Goals as goal

-- both coefficients are read back as they were stored
coefs : (c : After-equal) → c.equal.result ≡ same_coef c.args.t.coef c.args.c
coefs c = c.equal.ensures ∙ (λ i. same_coef (back_is {z = c.args.t.coef} (record { sfits = c.type_inv.t.0.1 }) i)
    (back_is c.ranges.c i))

pub returns-then-not-equal : goal.returns-then-not-equal
returns-then-not-equal c = coef-other c.args.t _ _ _ (coefs (goal.at.returns-then-not-equal c).After-equal) c.if-not-equal.true

pub order_of-requires : goal.order_of-requires
order_of-requires c = (c.row_of-u.ensures.valid.places, c.requires.1.places)

pub returns : goal.returns
returns c = c.is_eq.ensures ∙ is_eq-is_equal _ ∙ row_same c.args.t
    _ _ _ _ _ (coefs (goal.at.returns c).After-equal) c.if-not-equal.false
    c.row_of-u.ensures.is (c.order_of.ensures _ _)
