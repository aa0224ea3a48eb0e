-- `polynomials::passes::substitute` meets its contract: what is written stands in front, and what was not read yet is as it was. Assumes nothing.
use mathlib.Core.Path.{refl, ◌∙◌}
use native.Mathlib.Omega.{arith}
use Rattle.integers.proofs.Machine.{back_is}
use Rattle.polynomials.proofs.Turns.{write_none, write-starts, first_small, pass-starts, read_there, read_small, write-asks, write-like, place-there, write-apart, write-ends}
use Rattle.polynomials.proofs.passes.substitute.Goals as goal

pub returns-then-n-eq0 : goal.returns-then-n-eq0
returns-then-n-eq0 c = write_none _ _ _ _ c.if-n-eq0.true

pub substituted_at-first-requires : goal.substituted_at-first-requires
substituted_at-first-requires c = let w = c in (omega (arith, w.requires.0), w.requires.1.digit, w.requires.1.number, first_small _ _ _ _ w.requires.0 c.if-n-eq0.false w.requires.1)

pub loop-i-init : goal.loop-i-init
loop-i-init c =
    let w = c in (
      refl,
      write-starts _ _ _ _ _ _ c.if-n-eq0.false
          (pass-starts _ _ _ _ w.requires.0 c.if-n-eq0.false w.requires.1 _ _ c.substituted_at-first.ensures
          (back_is (record { sfits = c.struct_told-1.given.1.0.1 }))),
    )

pub substituted_at-m-requires : goal.substituted_at-m-requires
substituted_at-m-requires c =
    let w = c in (
      read_there _ _ _ _ _ c.requires.0 _ _ _ _ c.loop-i.invariant.1
          c.loop-i-test.true,
      w.requires.1.digit,
      w.requires.1.number,
      read_small _ _ _ _ _ c.requires.0 _ _ _ _ c.loop-i.invariant.1
          c.loop-i-test.true,
    )

pub add-coef-requires : goal.add-coef-requires
add-coef-requires c =
    write-asks _ _ _ _ _ c.requires.0 _ _ _ _
    c.loop-i.invariant.1 c.loop-i-test.true _
    c.substituted_at-m.ensures _ (back_is (record { sfits = c.struct_told-in-loop-i-1.given.1.0.1 }))

pub loop-i-preserved-then-m-key : goal.loop-i-preserved-then-m-key
loop-i-preserved-then-m-key c = (
  c.loop-i.invariant.0,
  write-like _ _ _ _ _ c.requires.0 _ _ _ _
      c.loop-i.invariant.1 c.loop-i-test.true _
      c.substituted_at-m.ensures _ (back_is (record { sfits = c.struct_told-in-loop-i-1.given.1.0.1 })) _
      c.if-m-key.true (back_is (record { sfits = c.add-coef.type_inv }) ∙ c.add-coef.ensures),
)

pub keep-j-requires : goal.keep-j-requires
keep-j-requires c =
    place-there _ _ _ _ _ c.requires.0 _ _ _ _
    c.loop-i.invariant.1 c.loop-i.invariant.1.some

pub loop-i-preserved : goal.loop-i-preserved
loop-i-preserved c = (
  c.keep-j.auto.work ∙ c.loop-i.invariant.0,
  write-apart _ _ _ _ _ c.requires.0 _
      _ _ _ c.loop-i.invariant.1
      c.loop-i-test.true _
      c.substituted_at-m.ensures _
      (back_is (record { sfits = c.struct_told-in-loop-i-1.given.1.0.1 })) _ _ c.if-m-key.false
      c.keep-j.ensures,
)

pub keep-requires : goal.keep-requires
keep-requires c =
    place-there _ _ _ _ _ c.requires.0 _ _ _ _ c.loop-i.invariant.1
    c.loop-i.invariant.1.some

pub shape_of-work : goal.shape_of-work
shape_of-work c = c.keep.auto.work ∙ c.loop-i.invariant.0

pub returns : goal.returns
returns c =
    write-ends _ _ _ _ _ c.requires.0 _ _ _ _
    c.loop-i.invariant.1 c.loop-i-test.false _ _ c.keep.ensures
