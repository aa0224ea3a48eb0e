-- Forms that differ: the assignment handed over is small; it and the values under it in words. Assumes nothing.
use mathlib.Core.Path.{◌≡◌, sym, ◌∙◌, ap}
use mathlib.Core.Bool.{Bool, true, false, not}
use mathlib.Core.List.{List}
use Prim.Native.Nat.{ℕ, ◌+◌, ◌-◌, ◌*◌, ◌≤◌, ◌<◌}
use native.Mathlib.Omega.{arith}
use borrow.Author.Tests.{le-leb}
use lib.Dec.{T, ltb, ltb→lt, nltb→le}
use lib.ListN.{length, get_or}
use lib.Seq.{get_or-drop}
use Rattle.specification.specs.Lists.{all}
use Rattle.specification.specs.Words.{bytes}
use Rattle.specification.specs.Evaluation.{six_or_less, assignment, value}
use Rattle.specification.specs.Terms.{Form}
use Rattle.specification.specs.Decision as D
use Rattle.specification.specs.Commands.{value_text, assignment_text, decision_text}
use Rattle.theory.specs.Tests.{is_true}
use Rattle.theory.specs.Elements.{at_all, T_all}
use Rattle.theory.specs.Values.Assignments.{small}
use Rattle.telling.specs.Told.{Told, Tells}
use Rattle.telling.proofs.Pieces.{tells-then, told_first}

-- ════ how large

module _ (table : List ℕ) (f g : Form) (before buffer : List ℕ) (w : D.Differs table f g before buffer) where
  -- bytes behind the letters are as they were
  behind : (i : ℕ) → 3 * length table ≤ i → get_or buffer i 0 ≡ get_or before i 0
  behind i h =
      let n = 3 * length table in
      let e : n + (i - n) ≡ i = omega arith in
      ap (λ (k : ℕ). get_or buffer k 0) (sym e) ∙ sym (get_or-drop n buffer (i - n) 0) ∙ ap (λ (l : List ℕ). get_or l (i - n) 0) w.rest_stands
      ∙ get_or-drop n before (i - n) 0 ∙ ap (λ (k : ℕ). get_or before k 0) e

  -- every byte is from −6 to 6, where they were 0
  pub buffer-small : length table ≤ 24 → length before ≡ 72 → ((i : ℕ) → i < 72 → get_or before i 0 ≡ 0) → all six_or_less buffer ≡ true
  unfolding six_or_less
  buffer-small few long none =
      is_true (all six_or_less buffer)
      (T_all six_or_less buffer (at_all (λ (b : ℕ). T (six_or_less b)) buffer 0 (λ i h. six i (at_most i (omega (arith, w.same_length))))))
    where
      at_most : (i : ℕ) → i < 72 → get_or buffer i 0 ≤ 6
      at_most i h = go (ltb i (3 * length table)) (ltb→lt i (3 * length table)) (nltb→le i (3 * length table))
        where
          go : (b : Bool) → (T b → i < 3 * length table) → (T (not b) → 3 * length table ≤ i) → get_or buffer i 0 ≤ 6
          go true p q = small table buffer (omega (arith, w.same_length)) w.in_range i (p tt)
          go false p q = omega (arith, behind i (q tt), none i h)

      six : (i : ℕ) → get_or buffer i 0 ≤ 6 → T (six_or_less (get_or buffer i 0))
      six i h = rw (le-leb (get_or buffer i 0) 6 h) tt

-- ════ in words

-- the pieces of a difference, one behind the other
pub difference-told : {l₀ l₁ l₂ l₃ l₄ l₅ l₆ out : List ℕ} {a b c d e h end : ℕ} (names table : List ℕ) (f g : Form) (s : List ℕ)
    → Tells l₀ l₁ 0 a (bytes "differs\n") → Tells l₁ l₂ a b (assignment_text names table s)
    → Tells l₂ l₃ b c (bytes "\nleft = ") → Tells l₃ l₄ c d (value_text f.kind (value (assignment s) f))
    → Tells l₄ l₅ d e (bytes "\nright = ") → Tells l₅ l₆ e h (value_text g.kind (value (assignment s) g))
    → Tells l₆ out h end (bytes "\n") → Told out end (decision_text names table f g s D.differs)
unfolding decision_text
difference-told names table f g s word assigned left first right second newline =
    told_first (tells-then (tells-then (tells-then (tells-then (tells-then (tells-then word assigned) left) first) right) second) newline)
