use Prim.Native.Nat.{ℕ}
use Rattle.forms.proofs.Takers.{bytes_all}
use Rattle.checker.proofs.AcceptedLogs.{log-promise}
use Rattle.promises.proofs.check_promised.Goals as goal

pub returns : goal.returns
returns c =
    let w = c in
    log-promise w.args.table.now w.args.log.now _ c.check.ensures
    (bytes_all w.args.log.now (λ (k : ℕ). (c.type_inv.log k).fits))
