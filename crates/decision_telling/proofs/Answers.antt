-- The decision's answer in words. Assumes nothing.
use mathlib.Core.Path.{◌≡◌, refl, sym, ◌∙◌, subst}
use mathlib.Core.Bool.{Bool, true, false, true≢false}
use mathlib.Core.List.{List, []}
use Prim.Native.Nat.{ℕ, ◌≤◌, ◌<◌}
use native.Mathlib.Omega.{arith}
use lib.ListN.{length, get_or}
use Rattle.specification.specs.Results.{given}
use Rattle.specification.specs.Lists.{all}
use Rattle.specification.specs.Terms as S
use Rattle.specification.specs.Evaluation.{six_or_less}
use Rattle.specification.specs.Decision as D
use Rattle.specification.specs.Decision.{buffer_bytes, work_bytes, DecidedBy}
use Rattle.specification.specs.Commands.{decision_text, DecisionTold}
use Rattle.theory.specs.Shape.Letters.{good_short}
use Rattle.theory.specs.Text.Names.{names_count}
use Rattle.terms.specs.declared.types.Form.{Form}
use Rattle.decision.specs.Settling.{Decidable}
use Rattle.telling.specs.Told.{Told, AnswerTold}
use Rattle.decision_telling.specs.Comparisons.{is_differs, Comparable}
use Rattle.decision_telling.proofs.Differences.{buffer-small}

-- ════ before

-- two forms that can be compared can be decided in memory of the least size
pub decidable : (names table : List ℕ) (f g : Form) (buffer work : List ℕ) → Comparable names table f g → length buffer ≡ buffer_bytes → length work ≡ work_bytes
    → Decidable table f g buffer work
decidable names table f g buffer work h lb lw = record {
  letters = good_short table h.good.table_good;
  room = omega (arith, lb);
  work_room = omega (arith, lw);
  valid_first = h.valid_first;
  valid_second = h.valid_second;
  tested_first = h.tested_first;
  tested_second = h.tested_second;
  kinds = h.kinds;
}

-- there are as many names as letters, and not too many
pub names-few : (names table : List ℕ) (f g : Form) → Comparable names table f g → (length names ≤ length table) × (length names ≤ 24)
names-few names table f g h =
    let n = names_count names table h.good.names_good in
    (omega (arith, n), omega (arith, n, good_short table h.good.table_good))

-- ════ behind

-- an answer is one of two, where the forms passed every test
says : (table : List ℕ) (f g : S.Form) (before work buffer work' : List ℕ) (a : D.Decision) (b : Bool) → b ≡ is_differs a
    → DecidedBy (given (f, g)) table before work a buffer work' → (b ≡ true → a ≡ D.differs) × (b ≡ false → a ≡ D.holds)
unfolding DecidedBy is_differs
says table f g before work buffer work' D.holds b e w = (λ t. absurd (true≢false (sym t ∙ e)), λ _. refl)
says table f g before work buffer work' D.differs b e w = (λ _. refl, λ t. absurd (true≢false (sym e ∙ t)))
says table f g before work buffer work' (D.undecided n) b e w = absurd w

-- what is decided does not speak of the work bytes
no-work : (table : List ℕ) (f g : S.Form) (before work buffer work' : List ℕ) (a : D.Decision) → DecidedBy (given (f, g)) table before work a buffer work'
    → DecidedBy (given (f, g)) table before [] a buffer []
unfolding DecidedBy
no-work table f g before work buffer work' D.holds w = w
no-work table f g before work buffer work' D.differs w = w
no-work table f g before work buffer work' (D.undecided n) w = absurd w

module _ (names table : List ℕ) (f g : S.Form) (before work buffer work' : List ℕ) (a : D.Decision) (b : Bool) (e : b ≡ is_differs a)
    (w : DecidedBy (given (f, g)) table before work a buffer work') where
  -- any answer in its words
  answered : (out : List ℕ) (at : ℕ) → Told out at (decision_text names table f g buffer a) → AnswerTold (DecisionTold names table f g) out at
  answered out at t = record {
    text = decision_text names table f g buffer a;
    right = record { answer = a; before = before; buffer = buffer; decided = no-work table f g before work buffer work' a w; is = refl };
    told = t;
  }

  -- the forms differ
  module _ (y : b ≡ true) where
    is_differs_lem : a ≡ D.differs
    is_differs_lem = (says table f g before work buffer work' a b e w).0 y

    pub assignment-small : length table ≤ 24 → length before ≡ 72 → ((i : ℕ) → i < 72 → get_or before i 0 ≡ 0) → all six_or_less buffer ≡ true
    unfolding DecidedBy
    assignment-small =
        buffer-small table f g before buffer (subst (λ (a : D.Decision). DecidedBy (given (f, g)) table before work a buffer work') is_differs_lem w)

    pub told-differs : (out : List ℕ) (at : ℕ) → Told out at (decision_text names table f g buffer D.differs) → AnswerTold (DecisionTold names table f g) out at
    told-differs out at t = answered out at (subst (λ (a : D.Decision). Told out at (decision_text names table f g buffer a)) (sym is_differs_lem) t)

  -- they are equal
  pub told-holds : b ≡ false → (out : List ℕ) (at : ℕ) → Told out at (decision_text names table f g buffer D.holds)
      → AnswerTold (DecisionTold names table f g) out at
  told-holds n out at t =
      answered out at
      (subst (λ (a : D.Decision). Told out at (decision_text names table f g buffer a)) (sym ((says table f g before work buffer work' a b e w).1 n)) t)
