-- `declarations::read_header` meets its contract. The loop's invariant: what is left to be read is the whole (`HeaderFrom`). Assumes nothing.
use borrow.Author.Tests.{not-true, not-false}
use mathlib.Core.Path.{◌≡◌, refl, ◌∙◌}
use Prim.Native.Nat.{◌-◌}
use lib.ListN.{length}
use native.Mathlib.Omega.{arith}
use Rattle.lines.proofs.Ends.{to_next}
use Rattle.declarations.proofs.Headers.{declares-inside, HeaderFrom, header-begins, header-done, header-stops, header_refused, header_more}
use Rattle.declarations.proofs.read_header.Given as goal

abbrev pub invariant-loop : goal.invariant-loop
invariant-loop l =
    HeaderFrom l.s l.names l.table (length l.s - l.counter) l.p l.n × (length l.names ≡ length l.initial.names) × (length l.table ≡ length l.initial.table)
