-- The printer reads no more than it needs: one byte more than the longest input that is not refused for its length settles the answer. Assumes nothing.
use mathlib.Core.Path.{◌≡◌, refl, ap, sym, ◌∙◌}
use mathlib.Core.Logic.{◌⊎◌, inl, inr}
use mathlib.Core.List.{List, [], ◌∷◌}
use Prim.Native.Nat.{ℕ, zero, suc, ◌+◌, ◌≤◌, ◌<◌}
use native.Mathlib.Omega.{arith}
use borrow.Author.Tests.{lt-leb}
use lib.Dec.{leb}
use lib.ListN.{length, get_or, take, drop, length-drop}
use lib.Seq.{take_all, length-take-le}
use Rattle.specification.specs.Results.{refused, ◌>>◌}
use Rattle.specification.specs.Letters.{good_table, test_table}
use Rattle.specification.specs.Expressions.{read_expr}
use Rattle.specification.specs.Reduction.{reduced}
use Rattle.specification.specs.Printing.{print_tested, print_result, print_call}
use Rattle.algebra.specs.Conditions.{lt_or_le}
use Rattle.theory.specs.Tests.{and-false}
use Rattle.printer_call.specs.Lines.{table_reduced}
use Rattle.printer_call.proofs.Answers.{whole_tested}

-- the first of the first
pub taken_twice : (k n : ℕ) (l : List ℕ) → k ≤ n → take k (take n l) ≡ take k l
taken_twice zero n l h = refl
taken_twice (suc k) zero l h = absurd (omega arith)
taken_twice (suc k) (suc n) [] h = refl
taken_twice (suc k) (suc n) (x ∷ l) h = ap (λ (m : List ℕ). x ∷ m) (taken_twice k n l (omega arith))

-- a table of over 24 bytes is refused, whatever the expression
long-table : (table expr : List ℕ) → 24 < length table → table_reduced table expr ≡ refused 1
unfolding table_reduced test_table good_table
long-table table expr h = rw (lt-leb (length table) 24 h, and-false (leb 1 (length table)))

-- an expression of over 512 bytes is refused, whatever its bytes
long-expression : (table expr : List ℕ) → 512 < length expr → table_reduced table expr ≡ (test_table table >> refused 3)
unfolding table_reduced reduced read_expr
long-expression table expr h = rw (lt-leb (length expr) 512 h)

-- both long
long-input : (b : ℕ) (t : List ℕ) → b < 256 → 537 < length t → table_reduced (take b (take 537 t)) (drop b (take 537 t)) ≡ table_reduced (take b t) (drop b t)
long-input b t h l = go (lt_or_le 24 b)
  where
    same : take b (take 537 t) ≡ take b t
    same = taken_twice b 537 t (omega arith)

    go : (24 < b) ⊎ (b ≤ 24) → table_reduced (take b (take 537 t)) (drop b (take 537 t)) ≡ table_reduced (take b t) (drop b t)
    go (inl k) =
        let n : length (take b t) ≡ b = length-take-le b t (omega arith) in
        let m : 24 < length (take b t) = omega (arith, n) in
        ap (λ (x : List ℕ). table_reduced x (drop b (take 537 t))) same ∙ long-table (take b t) (drop b (take 537 t)) m ∙ sym (long-table (take b t) (drop b t) m)
    go (inr k) =
        let m : 512 < length (drop b (take 537 t)) = omega (arith, length-drop b (take 537 t), length-take-le 537 t (omega arith)) in
        let n : 512 < length (drop b t) = omega (arith, length-drop b t) in
        ap (λ (x : List ℕ). table_reduced x (drop b (take 537 t))) same ∙ long-expression (take b t) (drop b (take 537 t)) m ∙ sym (long-expression (take b t) (drop b t) n)

-- the first 538 bytes are tested as all of them are
pub enough_tested : (s : List ℕ) → get_or s 0 0 < 256 → print_tested (take 538 s) ≡ print_tested s
enough_tested [] h = refl
enough_tested (b ∷ t) h = go (lt_or_le 537 (length t))
  where
    go : (537 < length t) ⊎ (length t ≤ 537) → print_tested (b ∷ take 537 t) ≡ print_tested (b ∷ t)
    go (inl l) =
        let n : b + 1 ≤ length (b ∷ take 537 t) = omega (arith, length-take-le 537 t (omega arith)) in
        let m : b + 1 ≤ length (b ∷ t) = omega arith in
        whole_tested (b ∷ take 537 t) n ∙ (λ i. table_reduced (take b (take 537 t)) (drop (next b i) (b ∷ take 537 t))) ∙ long-input b t h l
        ∙ sym (whole_tested (b ∷ t) m ∙ (λ i. table_reduced (take b t) (drop (next b i) (b ∷ t))))
      where
        next : (b : ℕ) → b + 1 ≡ suc b
        next b = omega arith
    go (inr l) = ap (λ (x : List ℕ). print_tested (b ∷ x)) (take_all 537 t l)

-- what the printer prints for the first 538 bytes is what it prints for all of them
pub enough_read : (s : List ℕ) → get_or s 0 0 < 256 → print_call (take 538 s) ≡ print_call s
unfolding print_call
enough_read s h = ap print_result (enough_tested s h)
