-- `elimination::components::compare` meets its contract. Assumes nothing.
use mathlib.Core.Path.{◌∙◌}
use native.Mathlib.Omega.{arith}
use Rattle.elimination.proofs.Differences.{first_asks, second-asks, counts-few, sort-asks, substitute-asks, compared}
use Rattle.elimination.proofs.components.compare.Goals as goal

pub expand_form-m-requires : goal.expand_form-m-requires
expand_form-m-requires c = first_asks _ _ _ _ c.requires

pub expand_form-requires : goal.expand_form-requires
expand_form-requires c = second-asks _ _ _ _ c.requires _ _ c.expand_form-m.ensures

pub overflow_add-n : goal.overflow_add-n
overflow_add-n c =
    omega (
      arith,
      counts-few _ _ _ _ c.requires _ _
          c.expand_form-m.ensures _ _ c.expand_form.ensures,
    )

pub sort-requires : goal.sort-requires
sort-requires c =
    sort-asks _ _ _ _ c.requires _ _
    c.expand_form-m.ensures _ _ c.expand_form.ensures

pub substitute-requires : goal.substitute-requires
substitute-requires c =
    substitute-asks _ _ _ _ c.requires _ _
    c.expand_form-m.ensures _ _
    c.expand_form.ensures _ c.sort.ensures

pub shape_of-work : goal.shape_of-work
shape_of-work c =
    c.substitute.auto.work
    ∙ c.sort.auto.work
    ∙ c.expand_form.auto.work
    ∙ c.expand_form-m.auto.work

pub returns : goal.returns
returns c =
    compared _ _ _ _ c.requires _ _
    c.expand_form-m.ensures _ _
    c.expand_form.ensures _
    c.sort.ensures _ _ c.substitute.ensures
