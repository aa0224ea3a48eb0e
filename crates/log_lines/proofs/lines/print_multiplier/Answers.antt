-- `log_lines::lines::print_multiplier` meets its contract: the mark, the term and a newline. Assumes nothing.
use mathlib.Core.Path.{◌≡◌, refl, ◌∙◌}
use mathlib.Core.List.{[], ◌∷◌}
use Prim.Native.Nat.{◌+◌, ◌<◌}
use native.Mathlib.Omega.{arith}
use native.Mathlib.Numerals.{towards_suc}
use lib.ListN.{length, set, length-set}
use Rattle.terms.specs.Abstraction.{term_of}
use Rattle.record_writing.specs.Written.{Written}
use Rattle.record_writing.proofs.Writes.{written_stores}
use Rattle.specification.specs.Printing.{print_multiplier}
use Rattle.log_lines.proofs.Texts.{multiplier_written}
use Rattle.log_lines.proofs.lines.print_multiplier.Goals.{After-print_single-end}
use Rattle.log_lines.proofs.lines.print_multiplier.Goals as goal

-- the call keeps the length
kept : (c : After-print_single-end) → length c.print_single-end.new.out ≡ length c.args.out.now
kept c = c.print_single-end.auto.out ∙ simp length-set

-- what stands behind it
written : (c : After-print_single-end) → let s = c in
    (c.print_single-end.result < length c.print_single-end.new.out)
    × Written s.args.out.now (set c.print_single-end.new.out c.print_single-end.result 10) s.args.at (c.print_single-end.result + 1)
    (print_multiplier s.args.names.now (term_of s.args.m))
written c =
    let s = c in
    multiplier_written s.args.names.now s.args.m s.requires.0.valid _ _ _ _ _ s.requires.1
    (written_stores _ _ _ _ (44 ∷ 32 ∷ 77 ∷ 32 ∷ 61 ∷ 32 ∷ []) _ refl (omega (arith, s.requires.1)) refl (simp towards_suc))
    c.print_single-end.ensures
    (kept c)

pub bounds-out-at-2 : goal.bounds-out-at-2
bounds-out-at-2 c = simp length-set (omega arith)

pub bounds-out-at-3 : goal.bounds-out-at-3
bounds-out-at-3 c = simp length-set (omega arith)

pub bounds-out-at-4 : goal.bounds-out-at-4
bounds-out-at-4 c = simp length-set (omega arith)

pub bounds-out-at-5 : goal.bounds-out-at-5
bounds-out-at-5 c = simp length-set (omega arith)

pub bounds-out-at-6 : goal.bounds-out-at-6
bounds-out-at-6 c = simp length-set (omega arith)

pub print_single-end-requires : goal.print_single-end-requires
print_single-end-requires c = (c.requires.0, simp length-set (omega (arith, c.requires.1)))

pub bounds-out-end : goal.bounds-out-end
bounds-out-end c = (written (goal.at.bounds-out-end c).After-print_single-end).0

pub overflow_add-result : goal.overflow_add-result
overflow_add-result c =
    let w = (goal.at.overflow_add-result c).After-print_single-end in omega (arith, (written w).0, kept w)

pub shape_of-out : goal.shape_of-out
shape_of-out c = simp length-set (kept (goal.at.shape_of-out c).After-print_single-end)

pub returns : goal.returns
returns c = (written (goal.at.returns c).After-print_single-end).1
