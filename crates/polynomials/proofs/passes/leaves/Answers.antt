-- `polynomials::passes::leaves` meets its contract: no summand is left of those passed but the one under way. Assumes nothing.
use mathlib.Core.Path.{refl, ap, sym, ◌∙◌}
use mathlib.Core.Bool.{not}
use mathlib.Core.List.{[]}
use native.Mathlib.Omega.{arith}
use Rattle.integers.proofs.Machine.{back_is}
use Rattle.polynomials.proofs.Turns.{none-some, first_small, pass-starts, turn_small, sum-asks, turn-like, turn_some, turn_zero, ends_some}
use Rattle.polynomials.proofs.passes.leaves.Goals as goal

pub returns-then-n-eq0 : goal.returns-then-n-eq0
returns-then-n-eq0 c = none-some _ _ _ _ c.if-n-eq0.true

pub substituted_at-first-requires : goal.substituted_at-first-requires
substituted_at-first-requires c = let w = c in (omega (arith, w.requires.0), w.requires.1.digit, w.requires.1.number, first_small _ _ _ _ w.requires.0 c.if-n-eq0.false w.requires.1)

pub loop-i-init : goal.loop-i-init
loop-i-init c =
    let w = c in (
      omega arith,
      pass-starts _ _ _ _ w.requires.0 c.if-n-eq0.false w.requires.1 _ _ c.substituted_at-first.ensures
          (back_is (record { sfits = c.struct_told-1.given.1.0.1 })),
    )

pub substituted_at-m-requires : goal.substituted_at-m-requires
substituted_at-m-requires c =
    let w = c in (
      omega (arith, w.requires.0),
      w.requires.1.digit,
      w.requires.1.number,
      turn_small _ _ _ _ c.requires.0 _ c.loop-i-test.true [] _ _ c.loop-i.invariant.1,
    )

pub add-coef-requires : goal.add-coef-requires
add-coef-requires c =
    sum-asks _ _ _ _ c.requires.0 _ c.loop-i-test.true
    [] _ _ c.loop-i.invariant.1 _ c.substituted_at-m.ensures _
    (back_is (record { sfits = c.struct_told-in-loop-i-1.given.1.0.1 }))

pub loop-i-preserved-then-m-key : goal.loop-i-preserved-then-m-key
loop-i-preserved-then-m-key c = (
  omega arith,
  turn-like _ _ _ _ c.requires.0 _
      c.loop-i-test.true [] _ _ c.loop-i.invariant.1 _
      c.substituted_at-m.ensures _ (back_is (record { sfits = c.struct_told-in-loop-i-1.given.1.0.1 })) _
      c.if-m-key.true (back_is (record { sfits = c.add-coef.type_inv }) ∙ c.add-coef.ensures),
)

pub is_zero-requires : goal.is_zero-requires
is_zero-requires c = tt

pub returns-then-not-is_zero : goal.returns-then-not-is_zero
returns-then-not-is_zero c =
    turn_some _ _ _ _ c.requires.0 _
    c.loop-i-test.true [] _ _ c.loop-i.invariant.1 _
    c.substituted_at-m.ensures _ (back_is (record { sfits = c.struct_told-in-loop-i-1.given.1.0.1 }))
    c.if-m-key.false (sym c.is_zero.ensures ∙ c.if-not-is_zero.true) refl

pub loop-i-preserved : goal.loop-i-preserved
loop-i-preserved c = (
  omega arith,
  turn_zero _ _ _ _ c.requires.0 _
      c.loop-i-test.true [] _ _ c.loop-i.invariant.1 _
      c.substituted_at-m.ensures _ (back_is (record { sfits = c.struct_told-in-loop-i-1.given.1.0.1 }))
      c.if-m-key.false (sym c.is_zero.ensures ∙ c.if-not-is_zero.false),
)

pub is_zero-requires-2 : goal.is_zero-requires-2
is_zero-requires-2 c = tt

pub returns : goal.returns
returns c =
    ap not c.is_zero-2.ensures
    ∙ ends_some _ _ _ _ c.requires.0 _ c.loop-i-test.false [] _ _ c.loop-i.invariant.1 refl
