-- `rows::form_of` meets its contract: the first terms are those of the first rows. Assumes nothing.
use Rattle.std.proofs.Common.{rules}
use mathlib.Core.List.{[]}
use mathlib.Core.Path.{◌≡◌, refl, ◌∙◌}
use Prim.Native.Nat.{◌-◌, ◌≤◌}
use native.Mathlib.Omega.{arith}
use lib.ListN.{length, length-set}
use Rattle.integers.proofs.Machine.{back_is}
use Rattle.terms.proofs.Arrays.{all-at}
use Rattle.rows.specs.Rows.{RowValid}
use Rattle.rows.proofs.RowForms.{Given, given_none, given_more, given_all}
use Rattle.rows.proofs.form_of.Goals as goal

pub loop-i-init : goal.loop-i-init
loop-i-init c = (omega arith, given_none _ _ _ _, refl)

pub term_of-u-requires : goal.term_of-u-requires
term_of-u-requires c = let a = c in all-at RowValid a.args.rows.now a.args.n
    c.loop-i.i [] a.requires.0.room c.loop-i-test.true a.requires.0.valid

pub loop-i-preserved : goal.loop-i-preserved
loop-i-preserved c = let a = c in let v = c.loop-i in (
  omega arith,
  given_more _ _ _ v.i v.ts _ _ a.requires.0 c.loop-i-test.true (omega (arith, v.invariant.2, a.requires.1)) v.invariant.1
      c.term_of-u.ensures (back_is (record { sfits = c.term_of-arg-1.given })),
  length-set v.ts v.i _ ∙ v.invariant.2,
)

pub returns : goal.returns
returns c = let a = c in let v = c.loop-i in let e : v.i ≡ a.args.n = omega arith in given_all _ _ _ _ v.i
    _ a.requires.0 a.requires.1 e v.invariant.1
