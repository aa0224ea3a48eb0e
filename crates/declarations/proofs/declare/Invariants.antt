-- `declarations::declare` meets its contract. The loop's invariant: what is left to be read is the whole (`NamesFrom`). Assumes nothing.
use Rattle.declarations.specs.Names.{named_of}
use Rattle.specification.specs.Lines.{declared}
use mathlib.Core.Path.{◌≡◌, refl, ◌∙◌}
use Prim.Native.Nat.{◌-◌}
use lib.ListN.{length}
use native.Mathlib.Omega.{arith}
use Rattle.declarations.proofs.Turns.{NamesFrom, names-begin, names_refused, names_more, names-done}
use Rattle.declarations.proofs.declare.Given as goal

abbrev pub invariant-loop : goal.invariant-loop
invariant-loop l =
    NamesFrom l.line (declared l.line (named_of l.count l.initial.names l.initial.table)) l.names l.table (length l.line - l.counter) l.q
    × (length l.names ≡ length l.initial.names)
    × (length l.table ≡ length l.initial.table)
