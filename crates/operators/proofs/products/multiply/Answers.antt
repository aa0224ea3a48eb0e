-- `operators::products::multiply` meets its contract: the tests of the pairs, their terms gathered, and what is gathered closed. Assumes nothing.
use Rattle.std.proofs.Common.{rules}
use Rattle.refusal.proofs.Passing.{passed_up}
use Rattle.operators.proofs.Multiplying.{pairs_refused, pairs_fit, pairs-gathered, pairs-give}
use native.Mathlib.Omega.{arith}
use Rattle.operators.proofs.products.multiply.Goals as goal

pub test_pairs-requires : goal.test_pairs-requires
test_pairs-requires c = record { kind = _; operands = c.requires.0 }

pub returns-in_err-test_pairs : goal.returns-in_err-test_pairs
returns-in_err-test_pairs c = rw (passed_up _ _ c.from_residual.ensures.1) (pairs_refused _ _ _ _ _ _ _ _ _ c.in_err-test_pairs.ensures _ _)

pub bring_pairs-count-requires : goal.bring_pairs-count-requires
bring_pairs-count-requires c =
    let o = c.requires.0 in (
      o.left_form.run,
      o.right_form.run,
      pairs_fit _ _ _ _ _ _ _ _ _ c.in_ok-test_pairs.ensures o,
      omega arith,
      omega arith,
    )

pub close-requires : goal.close-requires
close-requires c =
    let p = c.requires in (
      pairs-gathered _ _ _ _ _ _ _ _ _ c.in_ok-test_pairs.ensures p.0 _ _ _ _ _ _ c.bring_pairs-count.ensures,
      p.1,
      p.2,
    )

pub returns : goal.returns
returns c =
    pairs-give _ _ _ _ _ _ _ _ _ c.in_ok-test_pairs.ensures c.requires.0 _ _ _ _ _ _ c.bring_pairs-count.ensures _ _ _ c.close.ensures
