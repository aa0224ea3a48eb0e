-- `exports::kalzunbi_open` meets its contract: what the call says is returned. Assumes nothing.
use mathlib.Core.Path.{◌∙◌}
use Rattle.integers.proofs.Machine.{back_is}
use Prim.Native.Nat.{ℕ}
use Rattle.specification.specs.Returns.{open_returned}
use Rattle.forms.proofs.Takers.{bytes_all}
use Rattle.exports.proofs.Returning.{handed_as}
use Rattle.exports.proofs.ReturnedOpenLogs.{open-fits}
use Rattle.exports.proofs.kalzunbi_open.Goals as goal

pub returned_of-requires : goal.returned_of-requires
returned_of-requires c =
    let s = c.args in
    λ n g. open-fits _ _ n g s.table.now s.form.now s.state.now (bytes_all s.form.now (λ (k : ℕ). (c.type_inv.form k).fits)) c.open.ensures

pub returns : goal.returns
unfolding open_returned
returns c = handed_as _ _ _ _ c.open.ensures (back_is (record { sfits = c.returned_of.type_inv }) ∙ c.returned_of.ensures)
