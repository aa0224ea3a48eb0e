-- `unpack_word::unpack_log` meets its contract. Assumes nothing.
use native.Mathlib.Omega.{arith}
use Rattle.telling.proofs.Pieces.{told_first}
use Rattle.unpack_word.proofs.Texts.{refused-told, log-told, names-many, names-long, log_tellable}
use Rattle.unpack_word.proofs.unpack_log.Goals as goal

pub shared_ref_as_front-tell_log : goal.shared_ref_as_front-tell_log
shared_ref_as_front-tell_log c = names-many _ _ _ c.in-Ok.ensures

pub tell_log-requires : goal.tell_log-requires
tell_log-requires c =
    let p = log_tellable _ _ _ c.in-Ok.ensures in (p.0, p.1, p.2, omega (arith, names-long _ _ _ c.in-Ok.ensures))

pub returns-in-Ok : goal.returns-in-Ok
returns-in-Ok c = log-told _ _ _ _ _ c.in-Ok.ensures (told_first c.tell_log.ensures)

pub returns-in-Err : goal.returns-in-Err
returns-in-Err c = refused-told _ _ _ _ _ c.in-Err.ensures _ c.number.ensures c.tell_refused.ensures
