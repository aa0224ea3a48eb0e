-- `evaluation::vectors::times` meets its contract. Assumes nothing.
use Rattle.evaluation.proofs.Arithmetic.{times-asks_x, times-asks-y, times-asks-z, times-gives, Fitting}
use Rattle.evaluation.proofs.vectors.times.Goals.{After-struct_told-1}
use Rattle.evaluation.proofs.vectors.times.Goals as goal

-- the components of the vector fit
fields : (c : After-struct_told-1) → Fitting c.args.a
fields c = (
  record { sfits = c.type_inv.a.0.1 },
  record { sfits = c.type_inv.a.1.0.1 },
  record { sfits = c.type_inv.a.1.1.0.1 },
)

pub mul-x-requires : goal.mul-x-requires
mul-x-requires c = let w = c in times-asks_x _ _ w.ranges.k (fields (goal.at.mul-x-requires c).After-struct_told-1) w.requires

pub mul-y-requires : goal.mul-y-requires
mul-y-requires c = let w = c in times-asks-y _ _ w.ranges.k (fields (goal.at.mul-y-requires c).After-struct_told-1) w.requires

pub mul-z-requires : goal.mul-z-requires
mul-z-requires c =
    let w = c in
    times-asks-z _ _ w.ranges.k (fields (goal.at.mul-z-requires c).After-struct_told-1) w.requires

pub returns : goal.returns
returns c =
    let w = c in
    times-gives _ _ w.ranges.k (fields (goal.at.returns c).After-struct_told-1) w.requires _ _ _ (record { sfits = c.mul-x.type_inv })
    (record { sfits = c.mul-y.type_inv }) (record { sfits = c.mul-z.type_inv }) c.mul-x.ensures
    c.mul-y.ensures c.mul-z.ensures
