-- `log_lines::lines::print_letters` meets its contract: before each turn the letters from i on are left, with two bytes of room for each. Assumes nothing.
use Rattle.std.proofs.Common.{rules}
use mathlib.Core.Path.{◌≡◌, refl, ap, sym}
use mathlib.Core.List.{List, [], ◌∷◌}
use Prim.Native.Nat.{ℕ, ◌+◌, ◌≤◌, ◌<◌}
use native.Mathlib.Omega.{arith}
use native.Mathlib.Numerals.{towards_suc}
use lib.ListN.{length, length-set, get_or}
use Rattle.specification.specs.Printing.{name_of}
use Rattle.terms.proofs.Arrays.{all-at}
use Rattle.record_writing.proofs.Writes.{written_stores}
use Rattle.symbols.proofs.Progress.{begins, goes_on_lem, ended}
use Rattle.log_lines.proofs.Texts.{letter_next, letters-end}
use Rattle.log_lines.proofs.lines.print_letters.Goals.{Start}
use Rattle.log_lines.proofs.lines.print_letters.Goals as goal

-- there are six letters
places : (c : Start) → length c.args.letters ≡ 6
places c = search rules

-- so that those printed are among them
few : (c : Start) → c.args.n ≤ length c.args.letters
few c = omega (arith, places c, c.requires.0)

pub loop-i-init : goal.loop-i-init
loop-i-init c = (omega (arith, c.requires.2), begins _ _ _)

pub bounds-out-next : goal.bounds-out-next
bounds-out-next c = omega (arith, c.loop-i.invariant.0)

pub bounds-letters-i : goal.bounds-letters-i
bounds-letters-i c = omega (arith, c.requires.0)

pub letter-requires : goal.letter-requires
letter-requires c =
    all-at (λ (k : ℕ). k < length c.args.names.now) c.args.letters c.args.n _ 0 (few (goal.at.letter-requires c).Start) c.loop-i-test.true c.requires.1

pub overflow_add-out : goal.overflow_add-out
overflow_add-out c = omega (arith, c.loop-i.invariant.0, c.loop-i.invariant.1.kept)

pub bounds-out-next-in-loop-i : goal.bounds-out-next-in-loop-i
bounds-out-next-in-loop-i c = simp length-set (omega (arith, c.loop-i.invariant.0))

pub overflow_add-next : goal.overflow_add-next
overflow_add-next c = omega (arith, c.loop-i.invariant.0, c.loop-i.invariant.1.kept)

pub loop-i-preserved : goal.loop-i-preserved
loop-i-preserved c =
    let i = c.loop-i-test.true in
    let r : c.loop-i.next + 2 ≤ length c.loop-i.out = omega (arith, c.loop-i.invariant.0, i) in
    let two : List ℕ = 32 ∷ name_of c.args.names.now (get_or c.args.letters c.loop-i.i 0) ∷ [] in
    let e : two ≡ 32 ∷ c.letter.result ∷ [] = ap (λ (x : ℕ). 32 ∷ x ∷ []) (sym c.letter.ensures) in (
      simp length-set (omega (arith, c.loop-i.invariant.0, i)),
      goes_on_lem _ _ _ _ _ _ _ _ _ _ (letter_next _ _ _ _ (few (goal.at.loop-i-preserved c).Start) i) r c.loop-i.invariant.1
          (written_stores _ _ _ _ (32 ∷ c.letter.result ∷ []) two e r refl (simp towards_suc)),
    )

pub shape_of-out : goal.shape_of-out
shape_of-out c = c.loop-i.invariant.1.kept

pub returns : goal.returns
returns c = ended _ _ _ _ _ _ (letters-end _ _ _ _ (few (goal.at.returns c).Start) c.loop-i-test.false) c.loop-i.invariant.1
