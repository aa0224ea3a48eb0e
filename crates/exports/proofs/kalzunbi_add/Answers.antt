-- `exports::kalzunbi_add` meets its contract: what the call says is returned. Assumes nothing.
use mathlib.Core.Path.{◌∙◌}
use Rattle.integers.proofs.Machine.{back_is}
use Prim.Native.Nat.{ℕ}
use Rattle.specification.specs.Returns.{add_returned}
use Rattle.forms.proofs.Takers.{bytes_all}
use Rattle.exports.proofs.Returning.{handed_as}
use Rattle.exports.proofs.ReturnedOpenLogs.{add-fits}
use Rattle.exports.proofs.kalzunbi_add.Goals as goal

pub returned_of-requires : goal.returned_of-requires
returned_of-requires c =
    let s = c.args in
    λ n g. add-fits _ _ n g s.state.now s.step.now s.next.now (bytes_all s.state.now (λ (k : ℕ). (c.type_inv.state k).fits)) c.add.ensures

pub returns : goal.returns
unfolding add_returned
returns c = handed_as _ _ _ _ c.add.ensures (back_is (record { sfits = c.returned_of.type_inv }) ∙ c.returned_of.ensures)
