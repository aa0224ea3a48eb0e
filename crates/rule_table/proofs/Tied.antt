-- The table is the five rules: its rows at a rule's letters are the terms of the rule, by one test computed for all letters. Assumes nothing.
use mathlib.Core.Path.{◌≡◌, refl, ap, sym, ◌∙◌}
use mathlib.Core.List.{List, [], ◌∷◌, ◌++◌}
use Prim.Native.Nat.{ℕ, zero, suc, ◌+◌, ◌<◌, ◌≤◌}
use native.Mathlib.Nat as N
use native.Mathlib.Numerals.{add-one}
use native.Mathlib.Omega.{arith}
use lib.Dec.{T}
use lib.ListN.{length, get_or, take, drop}
use lib.Seq.{get_or-take, get_or-drop}
use Rattle.specification.specs.Rules.{rule1, rule2, rule3, rule4, bracket, rule5, sides, rule_letters, is_rule}
use Rattle.specification.specs.Terms as S
use Rattle.theory.specs.Elements.{All}
use Rattle.theory.proofs.Rules.Table.{by-rule, rule_terms}
use Rattle.rule_table.specs.Table.{rule_rows, letter, letter_at, factor_letters, factor_at, part_at, row_sign, row_term, row_terms, first_row, row_count, RowsOf}

-- six letters
by-letters : (P : List ℕ → Type 0) → ((a b c d e f : ℕ) → P (a ∷ b ∷ c ∷ d ∷ e ∷ f ∷ [])) → (l : List ℕ) → length l ≡ 6 → P l
by-letters P h (a ∷ b ∷ c ∷ d ∷ e ∷ f ∷ []) n = h a b c d e f
by-letters P h [] n = absurd (omega arith)
by-letters P h (a ∷ []) n = absurd (omega arith)
by-letters P h (a ∷ b ∷ []) n = absurd (omega arith)
by-letters P h (a ∷ b ∷ c ∷ []) n = absurd (omega arith)
by-letters P h (a ∷ b ∷ c ∷ d ∷ []) n = absurd (omega arith)
by-letters P h (a ∷ b ∷ c ∷ d ∷ e ∷ []) n = absurd (omega arith)
by-letters P h (a ∷ b ∷ c ∷ d ∷ e ∷ f ∷ g ∷ l) n = absurd (omega arith)

-- the test
rows_are_lem : (r : ℕ) → T (is_rule r) → (a b c d e f : ℕ)
    → row_terms (a ∷ b ∷ c ∷ d ∷ e ∷ f ∷ []) (first_row r) (row_count r) ≡ rule_terms r (take (rule_letters r) (a ∷ b ∷ c ∷ d ∷ e ∷ f ∷ []))
unfolding rule_rows letter letter_at factor_letters factor_at part_at row_sign row_term row_terms first_row row_count rule_terms sides rule1 rule2 rule3 rule4 bracket rule5 rule_letters
rows_are_lem =
    by-rule (λ (r : ℕ). (a b c d e f : ℕ) → row_terms (a ∷ b ∷ c ∷ d ∷ e ∷ f ∷ []) (first_row r) (row_count r) ≡ rule_terms r (take (rule_letters r) (a ∷ b ∷ c ∷ d ∷ e ∷ f ∷ [])))
    (λ a b c d e f. refl) (λ a b c d e f. refl) (λ a b c d e f. refl) (λ a b c d e f. refl) (λ a b c d e f. refl)

-- the rows of a rule at its letters are its terms
pub tied : (r : ℕ) → T (is_rule r) → (l : List ℕ) → length l ≡ 6 → row_terms l (first_row r) (row_count r) ≡ rule_terms r (take (rule_letters r) l)
tied r h = by-letters (λ (l : List ℕ). row_terms l (first_row r) (row_count r) ≡ rule_terms r (take (rule_letters r) l)) (rows_are_lem r h)

-- a rule's rows are in the table, and at most seven
pub rows_inside : (r : ℕ) → T (is_rule r) → (first_row r + row_count r ≤ 23) × (row_count r ≤ 7)
unfolding first_row row_count
rows_inside =
    by-rule (λ (r : ℕ). (first_row r + row_count r ≤ 23) × (row_count r ≤ 7)) (omega arith, omega arith) (omega arith, omega arith) (omega arith, omega arith)
    (omega arith, omega arith) (omega arith, omega arith)

-- in numbers
pub rows_few : (r n : ℕ) → T (is_rule r) → n ≡ row_count r → n ≤ 7
rows_few r n h e = omega (arith, (rows_inside r h).1, e)

-- one row after the other
pub row_next : (l : List ℕ) (k n i : ℕ) → i < n → take (i + 1) (row_terms l k n) ≡ take i (row_terms l k n) ++ row_term l (get_or rule_rows (k + i) 0) ∷ []
unfolding row_terms
row_next l k zero i h = absurd (omega arith)
row_next l k (suc n) zero h = rw (N.add-zero k)
row_next l k (suc n) (suc i) h =
    let e : k + 1 + i ≡ k + suc i = omega arith in
    ap (λ (m : ℕ). take m (row_terms l k (suc n))) (add-one (suc i))
    ∙ ap (λ (ts : List S.Term). row_term l (get_or rule_rows k 0) ∷ ts) (ap (λ (m : ℕ). take m (row_terms l (k + 1) n)) (sym (add-one i)) ∙ row_next l (k + 1) n i (omega arith))
    ∙ ap (λ (m : ℕ). take (suc i) (row_terms l k (suc n)) ++ row_term l (get_or rule_rows m 0) ∷ []) e

-- all of them
pub row_all : (l : List ℕ) (k n : ℕ) → take n (row_terms l k n) ≡ row_terms l k n
unfolding row_terms
row_all l k zero = refl
row_all l k (suc n) = ap (λ (ts : List S.Term). row_term l (get_or rule_rows k 0) ∷ ts) (row_all l (k + 1) n)

-- what holds of all holds of one
pub row_at : (P : S.Term → Type 0) (l : List ℕ) (k n i : ℕ) → i < n → All P (row_terms l k n) → P (row_term l (get_or rule_rows (k + i) 0))
unfolding row_terms
row_at P l k zero i h a = absurd (omega arith)
row_at P l k (suc n) zero h a = rw (N.add-zero k) a.0
row_at P l k (suc n) (suc i) h a = let e : k + 1 + i ≡ k + suc i = omega arith in rw (← e) (row_at P l (k + 1) n i (omega arith) a.1)

-- the last rule
pub fifth_rule : (r : ℕ) → T (is_rule r) → (r ≡ 1 → ⊥) → (r ≡ 2 → ⊥) → (r ≡ 3 → ⊥) → (r ≡ 4 → ⊥) → r ≡ 5
fifth_rule =
    by-rule (λ (r : ℕ). (r ≡ 1 → ⊥) → (r ≡ 2 → ⊥) → (r ≡ 3 → ⊥) → (r ≡ 4 → ⊥) → r ≡ 5)
    (λ a b c d. absurd (a refl)) (λ a b c d. absurd (b refl)) (λ a b c d. absurd (c refl)) (λ a b c d. absurd (d refl)) (λ a b c d. refl)

-- one of the rows that are given
pub row_given : (r : ℕ) (rows : List ℕ) (i : ℕ) → RowsOf r rows → i < row_count r → get_or rows i 0 ≡ get_or rule_rows (first_row r + i) 0
row_given r rows i w h =
    sym (get_or-take (row_count r) rows i 0 h) ∙ ap (λ (l : List ℕ). get_or l i 0) w.is
    ∙ get_or-take (row_count r) (drop (first_row r) rule_rows) i 0 h ∙ get_or-drop (first_row r) rule_rows i 0
