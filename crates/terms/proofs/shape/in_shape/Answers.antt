use Rattle.std.proofs.Common.{rules}
use mathlib.Core.Path.{◌≡◌, refl, sym, ap, ◌∙◌}
use Rattle.integers.proofs.Machine.{back_is}
use Rattle.specification.specs.Terms.{is_zero, coef_within, vector_letters, scalar_letters, letters_fit}
use Rattle.terms.specs.Abstraction.{term_of}
use borrow.Author.Tests.{not-true, not-false}
use Rattle.terms.proofs.InShape.{shape_of}
use Rattle.terms.proofs.shape.in_shape.Goals.{After-is_zero, After-within}
use Rattle.terms.proofs.shape.in_shape.Goals as goal

-- the tests of the coefficient are of the coefficient itself
zero : (c : After-is_zero) → c.is_zero.result ≡ is_zero c.args.c
zero c = c.is_zero.ensures ∙ ap is_zero (back_is c.ranges.c)

small : (c : After-within) → c.within.result ≡ coef_within c.args.c
small c = c.within.ensures ∙ ap coef_within (back_is c.ranges.c)

pub returns-then-is_zero : goal.returns-then-is_zero
unfolding term_of
returns-then-is_zero c = sym (sym (shape_of (term_of (record { coef = c.args.c; factors = c.args.f.now; factor_count = c.args.n; part = c.args.p })) _ _ _ _ _ (zero (goal.at.returns-then-is_zero c).After-is_zero) refl refl refl refl) ∙ rw c.if-is_zero.true)

pub returns-then-not-within : goal.returns-then-not-within
unfolding term_of
returns-then-not-within c = sym (sym (shape_of (term_of (record { coef = c.args.c; factors = c.args.f.now; factor_count = c.args.n; part = c.args.p })) _ _ _ _ _ (zero (goal.at.returns-then-not-within c).After-is_zero) (small (goal.at.returns-then-not-within c).After-within) refl refl refl) ∙ rw (c.if-is_zero.false, c.if-not-within.true))

pub returns-then-not-factors_in_shape : goal.returns-then-not-factors_in_shape
unfolding term_of
returns-then-not-factors_in_shape c = sym (sym (shape_of (term_of (record { coef = c.args.c; factors = c.args.f.now; factor_count = c.args.n; part = c.args.p })) _ _ _ _ _ (zero (goal.at.returns-then-not-factors_in_shape c).After-is_zero) (small (goal.at.returns-then-not-factors_in_shape c).After-within) c.factors_in_shape.ensures refl refl) ∙ rw (c.if-is_zero.false, c.if-not-within.false, c.if-not-factors_in_shape.true))

pub returns-then-not-part_in_shape : goal.returns-then-not-part_in_shape
unfolding term_of
returns-then-not-part_in_shape c = sym (sym (shape_of (term_of (record { coef = c.args.c; factors = c.args.f.now; factor_count = c.args.n; part = c.args.p })) _ _ _ _ _ (zero (goal.at.returns-then-not-part_in_shape c).After-is_zero) (small (goal.at.returns-then-not-part_in_shape c).After-within) c.factors_in_shape.ensures c.part_in_shape.ensures refl) ∙ rw (c.if-is_zero.false, c.if-not-within.false, c.if-not-factors_in_shape.false, c.if-not-part_in_shape.true))

pub returns : goal.returns
unfolding term_of vector_letters scalar_letters letters_fit
returns c = sym (sym (shape_of (term_of (record { coef = c.args.c; factors = c.args.f.now; factor_count = c.args.n; part = c.args.p })) _ _ _ _ _ (zero (goal.at.returns c).After-is_zero) (small (goal.at.returns c).After-within) c.factors_in_shape.ensures c.part_in_shape.ensures c.letters_in_shape.ensures) ∙ rw (c.if-is_zero.false, c.if-not-within.false, c.if-not-factors_in_shape.false, c.if-not-part_in_shape.false))
