-- `declarations::declare_at` meets its contract. Assumes nothing.
use Rattle.std.proofs.Common.{rules}
use Rattle.std.specs.Prelude.{Ok, Err}
use mathlib.Core.Path.{refl}
use Rattle.lines.proofs.Ends.{line_at}
use Rattle.declarations.proofs.Headers.{line_read, line_unread}
use Rattle.declarations.proofs.declare_at.Goals as goal

pub returns-in-Ok : goal.returns-in-Ok
returns-in-Ok c = line_read _ _ _ _ _ _ c.requires.0 (line_at c.args.s.now c.args.p _ c.line_end-end.ensures) c.in-Ok.ensures

pub returns-in-Err : goal.returns-in-Err
returns-in-Err c = line_unread _ _ _ _ _ _ (line_at c.args.s.now c.args.p _ c.line_end-end.ensures) c.in-Err.ensures
