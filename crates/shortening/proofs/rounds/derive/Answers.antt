-- `shortening::rounds::derive` meets its contract: the form is held in rows, the rounds are taken there, and what they reach is given back. Assumes nothing.
use native.Mathlib.Omega.{arith}
use Rattle.rows.proofs.RowForms.{held-run}
use Rattle.shortening.proofs.Derivations.{rounds-derived}
use Rattle.shortening.proofs.rounds.derive.Goals as goal

pub take_rounds-r-requires : goal.take_rounds-r-requires
take_rounds-r-requires c = (
  held-run _ _ _ c.requires
      c.hold.ensures,
  omega arith,
  omega arith,
)

pub form_of-last-requires : goal.form_of-last-requires
form_of-last-requires c = let w = c.take_rounds-r.ensures in (w.form.run, w.form.few)

pub returns : goal.returns
returns c = rounds-derived _ c.args.f _ _ _ _ _ _ c.requires c.hold.ensures c.take_rounds-r.ensures c.form_of-last.ensures
