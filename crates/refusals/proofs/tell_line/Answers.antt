-- `refusals::tell_line` meets its contract. Assumes nothing.
use lib.ListN.{length}
use mathlib.Core.List.{List}
use mathlib.Core.Path.{subst, sym}
use Prim.Native.Nat.{ℕ, ◌≤◌}
use Rattle.specification.specs.Commands.{refusal_text}
use Rattle.telling.specs.Told.{Told}
use Rattle.telling.proofs.Pieces.{told_first}
use Rattle.lines.proofs.Ends.{line_at}
use Rattle.refusals.proofs.tell_line.Goals as goal

pub tell_refusal-requires : goal.tell_refusal-requires
tell_refusal-requires c =
    let a = c.args in
    subst (λ (l : List ℕ). a.column ≤ length l) (sym (line_at a.s.now a.p _ c.line_end-end.ensures)) c.requires.1

pub returns : goal.returns
returns c =
    let c2 = c in
    let c5 = c in
    let c8 = c in
    let a = c8.args in
    subst (λ (l : List ℕ). Told c2.tell_refusal.new.out c2.tell_refusal.result (refusal_text a.n a.p.number a.column l))
    (line_at a.s.now a.p _ c5.line_end-end.ensures) (told_first c2.tell_refusal.ensures)
