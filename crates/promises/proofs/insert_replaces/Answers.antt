use Prim.Native.Nat.{ℕ}
use Rattle.forms.proofs.Takers.{bytes_all}
use Rattle.insertion.proofs.KeptValue.{insert-replaces}
use Rattle.promises.proofs.insert_replaces.Goals as goal

pub returns : goal.returns
returns c =
    let s = c in
    insert-replaces _ _ _ _ _ _ _
    (bytes_all s.args.form.now (λ (k : ℕ). (c.type_inv.form k).fits))
    (bytes_all s.args.inserted.now (λ (k : ℕ). (c.type_inv.inserted k).fits))
    c.insert.ensures
