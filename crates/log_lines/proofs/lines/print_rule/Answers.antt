-- `log_lines::lines::print_rule` meets its contract: seven stores. Assumes nothing.
use mathlib.Core.Path.{refl}
use Prim.Native.Nat.{◌+◌}
use mathlib.Core.List.{[], ◌∷◌}
use native.Mathlib.Omega.{arith}
use native.Mathlib.Numerals.{towards_suc}
use lib.ListN.{length-set}
use Rattle.record_writing.proofs.Writes.{written_stores}
use Rattle.log_lines.proofs.Texts.{rule_is}
use Rattle.log_lines.proofs.lines.print_rule.Goals as goal

pub bounds-out-at-2 : goal.bounds-out-at-2
bounds-out-at-2 c = simp length-set (omega arith)

pub bounds-out-at-3 : goal.bounds-out-at-3
bounds-out-at-3 c = simp length-set (omega arith)

pub bounds-out-at-4 : goal.bounds-out-at-4
bounds-out-at-4 c = simp length-set (omega arith)

pub bounds-out-at-5 : goal.bounds-out-at-5
bounds-out-at-5 c = simp length-set (omega arith)

pub bounds-out-at-6 : goal.bounds-out-at-6
bounds-out-at-6 c = simp length-set (omega arith)

pub bounds-out-at-7 : goal.bounds-out-at-7
bounds-out-at-7 c = simp length-set (omega arith)

pub returns : goal.returns
returns c =
    let r = c.args.rule in
    let e = rule_is r c.requires.0 in
    written_stores _ _ _ _ (114 ∷ 117 ∷ 108 ∷ 101 ∷ 32 ∷ (48 + r) ∷ 58 ∷ []) _ e (rw e c.requires.1) refl (simp towards_suc)
