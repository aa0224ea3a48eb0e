-- Shorten reads no more than it needs: as for the printer, 538 bytes settle the answer. Assumes nothing.
use mathlib.Core.Path.{◌≡◌, refl, subst}
use mathlib.Core.Bool.{Bool, true, false}
use mathlib.Core.List.{List, [], ◌∷◌}
use Prim.Native.Nat.{ℕ, ◌<◌}
use native.Mathlib.Omega.{arith}
use lib.Dec.{leb}
use lib.ListN.{length, get_or, take}
use Rattle.specification.specs.Results.{Result, refused, given}
use Rattle.printer_call.proofs.Enough.{taken_twice, enough_tested}
use Rattle.specification.specs.Printing.{input_table, lines_bytes, PrintedBy, LinesPrintedBy, LinesPrinted}

same_table : (s : List ℕ) → get_or s 0 0 < 256 → input_table (take 538 s) ≡ input_table s
same_table [] h = refl
same_table (b ∷ t) h = taken_twice b 537 t (omega arith)

-- what is printed for the first 538 bytes is printed for all of them
pub enough_read : (s before : List ℕ) (answer : Result ℕ) (after : List ℕ) → get_or s 0 0 < 256 → LinesPrinted (take 538 s) before answer after → LinesPrinted s before answer after
unfolding LinesPrinted
enough_read s before answer after h w = go (leb lines_bytes (length before)) answer w
  where
    go : (b : Bool) (answer : Result ℕ) → LinesPrintedBy b (take 538 s) before answer after → LinesPrintedBy b s before answer after
    go true (given m) w = unfold LinesPrintedBy in subst (λ (t : Type 0). t) (λ i. PrintedBy (enough_tested s h i) (same_table s h i) before after m) w
    go true (refused n) w = unfold LinesPrintedBy in w
    go false (given m) w = unfold LinesPrintedBy in w
    go false (refused n) w = unfold LinesPrintedBy in w
