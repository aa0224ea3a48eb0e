-- `elimination::elimination::choose` meets its contract: the numbers chosen keep the value, and under all before them it is 0. Assumes nothing.
use mathlib.Core.Path.{refl, ◌∙◌}
use native.Mathlib.Omega.{arith}
use Rattle.elimination.proofs.Choices.{choose-starts, choose_on, choose-ends, choose-falls}
use Rattle.elimination.proofs.Choices.{letter-there, most-six, fits, number_small, byte-there}
use Rattle.elimination.proofs.elimination.choose.Goals as goal

pub least-d-requires : goal.least-d-requires
least-d-requires c = c.requires.0.there

pub loop-d-init : goal.loop-d-init
loop-d-init c =
    let asked = c.requires in
    (refl, asked.0.there, choose-starts _ _ _ _ _ asked.0 asked.1 c.least-d.ensures)

pub most-requires : goal.most-requires
most-requires c = letter-there _ _ _ _ _ _ c.loop-d.invariant.2 c.loop-d-test.true

pub first_number-v-requires : goal.first_number-v-requires
first_number-v-requires c = (
  c.loop-d.invariant.1,
  most-six _ _ _ _ _ _ c.loop-d.invariant.2 c.loop-d-test.true _ c.most.ensures,
  fits _ _ _ _ _ _ c.loop-d.invariant.2 c.loop-d-test.true _ c.most.ensures,
)

pub substitute-m-requires : goal.substitute-m-requires
substitute-m-requires c = (
  c.loop-d.invariant.1,
  fits _ _ _ _ _ _ c.loop-d.invariant.2 c.loop-d-test.true _
      c.most.ensures _ c.first_number-v.ensures.few,
)

pub overflow_cast-buffer : goal.overflow_cast-buffer
overflow_cast-buffer c =
    omega (
      arith,
      number_small _ _ _ _ _ _ c.loop-d.invariant.2
          c.loop-d-test.true _ c.most.ensures _
          c.first_number-v.ensures,
    )

pub bounds-buffer-x : goal.bounds-buffer-x
bounds-buffer-x c =
    byte-there _ _ _ _ _ _ c.loop-d.invariant.2
    c.loop-d-test.true _ c.most.ensures _
    c.first_number-v.ensures
    c.requires.0.room
    c.requires.0.letters

pub least-d-requires-in-loop-d : goal.least-d-requires-in-loop-d
least-d-requires-in-loop-d c =
    omega (
      arith,
      c.loop-d.invariant.1,
      c.substitute-m.ensures.few,
      c.substitute-m.ensures.count,
    )

pub loop-d-smaller : goal.loop-d-smaller
loop-d-smaller c =
    choose-falls _ _ _ _ _ _ c.loop-d.invariant.2
    c.loop-d-test.true _
    c.most.ensures _ c.first_number-v.ensures
    c.requires.0.room
    c.requires.0.letters _ _ _ _
    c.substitute-m.ensures refl _ c.least-d-in-loop-d.ensures

pub loop-d-preserved : goal.loop-d-preserved
loop-d-preserved c = (
  c.substitute-m.auto.work ∙ c.loop-d.invariant.0,
  omega (
    arith,
    c.loop-d.invariant.1,
    c.substitute-m.ensures.few,
    c.substitute-m.ensures.count,
  ),
  choose_on _ _ _ _ _ _ c.loop-d.invariant.2
      c.loop-d-test.true _
      c.most.ensures _ c.first_number-v.ensures
      c.requires.0.room
      c.requires.0.letters _ _ _ _ _
      c.substitute-m.ensures refl refl _ c.least-d-in-loop-d.ensures,
)

pub shape_of-work : goal.shape_of-work
shape_of-work c = c.loop-d.invariant.0

pub shape_of-buffer : goal.shape_of-buffer
shape_of-buffer c = c.loop-d.invariant.2.same

pub returns : goal.returns
returns c = choose-ends _ _ _ _ _ _ c.loop-d.invariant.2 c.loop-d-test.false
