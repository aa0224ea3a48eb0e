-- The value call from its tests, in their order. Assumes nothing.
use mathlib.Core.Path.{◌≡◌, sym}
use mathlib.Core.Bool.{true, false, ◌&&◌}
use mathlib.Core.List.{List}
use Prim.Native.Nat.{ℕ, ◌*◌, ◌≤◌}
use lib.Dec.{eqb}
use lib.ListN.{length}
use Rattle.specification.specs.Lists.{all, each}
use Rattle.specification.specs.Letters.{test_table}
use Rattle.specification.specs.Records.{take_form}
use Rattle.specification.specs.Evaluation.{six_or_less, rest_is_zero, good_assignment, assignment, value, value_call}
use Rattle.theory.specs.Tests.{is_true, holds, and_split}
use Rattle.theory.specs.Shape.Letters.{table_good_lem, good_short}
use Rattle.std.specs.Prelude.{Ok, Err}
use Rattle.refusal.specs.declared.Refusal.{Refusal}
use Rattle.refusal.specs.declared.Refusal.TheVariants.{WrongAssignment}
use Rattle.refusal.specs.Tests.{answer_of, test_of}
use Rattle.terms.specs.declared.types.Form.{Form}
use Rattle.terms.specs.Abstraction.{form_of}
use Rattle.evaluation.specs.declared.vectors.Vector.{Vector}
use Rattle.evaluation.specs.Vectors.{vec_of}
use Rattle.evaluation.specs.Answers.{valued_of}

-- a good assignment is of numbers from −6 to 6
pub good_small : (table s : List ℕ) → good_assignment table s ≡ true → all six_or_less s ≡ true
unfolding good_assignment
good_small table s e =
    let p = eqb (length s) (3 * length table) in
    let q = all six_or_less s in
    let r = each (length table) (rest_is_zero table s) in
    is_true q (and_split p q (and_split (p && q) r (holds (p && q && r) e)).0).1

module _ (table form s : List ℕ) where
  -- 1 ends the call
  pub table_refused : (e : Refusal) → test_of (Err e) ≡ test_table table → valued_of (Err e) ≡ value_call table form s
  unfolding value_call
  table_refused e h = rw (← h)

  module _ (u : Unit {0}) (h : test_of (Ok u) ≡ test_table table) where
    pub table_short : length table ≤ 24
    table_short = good_short table (table_good_lem table (sym h))

    -- 11, 5 and 6 do
    pub form_refused : (e : Refusal) → answer_of form_of (Err e) ≡ take_form table form → valued_of (Err e) ≡ value_call table form s
    unfolding value_call
    form_refused e w = rw (← h, ← w)

    module _ (f : Form) (w : answer_of form_of (Ok f) ≡ take_form table form) where
      -- 12 does
      pub assignment_refused : good_assignment table s ≡ false → valued_of (Err WrongAssignment) ≡ value_call table form s
      unfolding value_call
      assignment_refused g = rw (← h, ← w, g)

      -- or the value is given
      pub value_given : good_assignment table s ≡ true → (v : Vector) → vec_of v ≡ value (assignment s) (form_of f) → valued_of (Ok v) ≡ value_call table form s
      unfolding value_call
      value_given g v p = rw (← h, ← w, g, p)
