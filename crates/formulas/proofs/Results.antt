-- What working gave on the way, operator by operator. Assumes nothing.
use mathlib.Core.Path.{◌≡◌, refl, sym, ◌∙◌, ap}
use mathlib.Core.Bool.{Bool, true, false}
use mathlib.Core.List.{List, map}
use Prim.Native.Nat.{ℕ}
use borrow.Author.Tests.{eq-eqb, ne_eqb}
use lib.IntN.{ℤ, neg_ℤ}
use lib.ListN.{length, take}
use Rattle.specification.specs.Results.{Result}
use Rattle.specification.specs.Terms.{Form}
use Rattle.specification.specs.Reduction.{negate_form, sum_forms, times_forms, dot_forms, wedge_forms}
use Rattle.specification.specs.Text.{Placed, refused_at, placed, ◌>>=◌, at_column}
use Rattle.theory.specs.Text.OnTheWay.{Way, join_at, operates, turned_form, fronted}
use Rattle.std.specs.Prelude.{Ok, Err}
use Rattle.std.specs.Prelude as Std
use Rattle.refusal.specs.declared.Refusal.{Refusal}
use Rattle.refusal.specs.Numbers.{number_of}
use Rattle.texts.specs.declared.Unread.{Unread}
use Rattle.rows.specs.declared.Worked.{Worked}
use Rattle.rows.specs.Rows.{form_by, FormRun, RowsGive}
use Rattle.std.proofs.lemmas.Result.{IfOk-at_ok}
use Rattle.std.proofs.Common.{rules}
use Rattle.rows.proofs.RowForms.{rows_as}
use Rattle.sums.proofs.Sums.{form-negated, negated-run}
use Rattle.formulas.specs.declared.joining.Reading.{Reading}
use Rattle.formulas.specs.Readings.{worked_at, Read, WayGives, Joined, Fronted}

-- ════ the operator of a level

module _ (level b : ℕ) (f g : Form) (w : Std.Result Worked Refusal) (rows : List (List ℕ)) (coefs : List ℤ) where
  pub operates-wedge : level ≡ 1 → RowsGive (wedge_forms f g) w rows coefs → RowsGive (operates level b f g) w rows coefs
  unfolding operates
  operates-wedge e = rows_as _ _ w rows coefs (ap (λ (l : ℕ). operates l b f g) (sym e))

  pub operates-dot : level ≡ 2 → RowsGive (dot_forms f g) w rows coefs → RowsGive (operates level b f g) w rows coefs
  unfolding operates
  operates-dot e = rows_as _ _ w rows coefs (ap (λ (l : ℕ). operates l b f g) (sym e))

  pub operates-times : level ≡ 3 → RowsGive (times_forms f g) w rows coefs → RowsGive (operates level b f g) w rows coefs
  unfolding operates
  operates-times e = rows_as _ _ w rows coefs (ap (λ (l : ℕ). operates l b f g) (sym e))

  module _ (one : level ≡ 1 → ⊥) (two : level ≡ 2 → ⊥) (three : level ≡ 3 → ⊥) where
    pub operates-minus : b ≡ 45 → RowsGive (sum_forms f (negate_form g)) w rows coefs → RowsGive (operates level b f g) w rows coefs
    unfolding operates
    operates-minus e h = rw (ne_eqb level 1 one, ne_eqb level 2 two, ne_eqb level 3 three, eq-eqb b 45 e) h

    pub operates-plus : (b ≡ 45 → ⊥) → RowsGive (sum_forms f g) w rows coefs → RowsGive (operates level b f g) w rows coefs
    unfolding operates
    operates-plus n h = rw (ne_eqb level 1 one, ne_eqb level 2 two, ne_eqb level 3 three, ne_eqb b 45 n) h

-- ════ what working gave

-- what an operator gives at a column
pub worked-as : (x : Result Form) (w : Std.Result Worked Refusal) (column : ℕ) (rows : List (List ℕ)) (coefs : List ℤ) → RowsGive x w rows coefs
    → worked_at w column rows coefs ≡ at_column column x
worked-as x w column rows coefs h = ap (at_column column) h.is

-- ════ what was read

-- something is read
pub gives_read : (x : Way) (v : Placed Form) (next : ℕ) (r : Reading) (rows : List (List ℕ)) (coefs : List ℤ) → x ≡ placed (v, next)
    → worked_at r.work r.column rows coefs ≡ v → r.next ≡ next → Read r rows coefs → WayGives x (Ok r) rows coefs
gives_read x v next r rows coefs e p q h = record { is = e ∙ (λ i. placed (sym p i, sym q i)); read = h }

-- reading refuses
pub gives_refused : (x : Way) (e : Unread) (rows : List (List ℕ)) (coefs : List ℤ) → x ≡ refused_at (number_of e.why) e.column → WayGives x (Err e) rows coefs
gives_refused x e rows coefs h = record { is = h; read = tt }

-- what reading refuses, it refuses whatever comes behind
pub then_refused : (x : Way) (e : Unread) (rows : List (List ℕ)) (coefs : List ℤ) → WayGives x (Err e) rows coefs → (k : Placed Form × ℕ → Way)
    → (rows' : List (List ℕ)) (coefs' : List ℤ) → WayGives (x >>= k) (Err e) rows' coefs'
then_refused x e rows coefs h k rows' coefs' = gives_refused (x >>= k) e rows' coefs' (ap (λ (y : Way). y >>= k) h.is)

-- what was read is handed on
pub then_read : (x : Way) (r : Reading) (rows : List (List ℕ)) (coefs : List ℤ) → WayGives x (Ok r) rows coefs → (k : Placed Form × ℕ → Way)
    → (x >>= k) ≡ k (worked_at r.work r.column rows coefs, r.next)
then_read x r rows coefs h k = ap (λ (y : Way). y >>= k) h.is

-- an answer in other words
pub gives_as : (x y : Way) (r : Std.Result Reading Unread) (rows : List (List ℕ)) (coefs : List ℤ) → x ≡ y → WayGives y r rows coefs → WayGives x r rows coefs
gives_as x y r rows coefs e h = record { is = e ∙ h.is; read = h.read }

-- ════ two operands

module _ (level b : ℕ) (x y : Reading) (rows : List (List ℕ)) (coefs : List ℤ) (right : List (List ℕ)) (rights : List ℤ) (rows' : List (List ℕ)) (coefs' : List ℤ) where
  -- the left one is refused
  pub left_refused : (e : Refusal) → x.work ≡ Err e
      → Joined level b x rows coefs y right rights (record { column = x.column; next = y.next; work = x.work }) rows' coefs'
  unfolding join_at at_column
  left_refused e h = record { is = rw h refl; next = refl; read = record { form = rw h tt } }

  -- the right one is
  pub right_refused : (v : Worked) (e : Refusal) → x.work ≡ Ok v → y.work ≡ Err e → Joined level b x rows coefs y right rights y rows' coefs'
  unfolding join_at at_column
  right_refused v e g h = record { is = rw (g, h) refl; next = refl; read = record { form = rw h tt } }

  -- both have forms
  pub both-worked : (v u : Worked) (w : Std.Result Worked Refusal) → x.work ≡ Ok v → y.work ≡ Ok u
      → RowsGive (operates level b (form_by v.kind v.count rows coefs) (form_by u.kind u.count right rights)) w rows' coefs'
      → Joined level b x rows coefs y right rights (record { column = x.next; next = y.next; work = w }) rows' coefs'
  unfolding join_at at_column
  both-worked v u w e f h = record { is = rw (e, f) (worked-as _ w x.next rows' coefs' h); next = refl; read = record { form = h.form } }

-- ════ a minus in front

module _ (level b : ℕ) (a : Reading) (rows : List (List ℕ)) (coefs : List ℤ) (h : Read a rows coefs) where
  -- no sum
  pub front-level : (level ≡ 4 → ⊥) → Fronted level b a rows coefs coefs
  unfolding fronted
  front-level n = record { is = rw (ne_eqb level 4 n); read = h }

  -- no minus
  pub front-byte : level ≡ 4 → (b ≡ 45 → ⊥) → Fronted level b a rows coefs coefs
  unfolding fronted
  front-byte e n = record { is = rw (eq-eqb level 4 e, ne_eqb b 45 n); read = h }

  turned : level ≡ 4 → b ≡ 45 → (v : Placed Form) → fronted level b v ≡ turned_form v
  unfolding fronted
  turned e m v = rw (eq-eqb level 4 e, eq-eqb b 45 m)

  -- a refusal
  pub front_refused : (why : Refusal) → level ≡ 4 → b ≡ 45 → a.work ≡ Err why → Fronted level b a rows coefs coefs
  unfolding turned_form at_column
  front_refused why e m n = record { is = rw n refl ∙ sym (turned e m _); read = h }

  -- the signs turned
  pub front-turned : (w : Worked) (coefs' : List ℤ) → level ≡ 4 → b ≡ 45 → a.work ≡ Ok w → take w.count coefs' ≡ map neg_ℤ (take w.count coefs)
      → length coefs' ≡ length coefs → Fronted level b a rows coefs coefs'
  unfolding turned_form at_column
  front-turned w coefs' e m z n same =
      let run = IfOk-at_ok (λ x. FormRun x.kind x.count rows coefs) z h.form in
      record {
        is = rw z (ap placed (form-negated w.kind w.count rows coefs coefs' n)) ∙ sym (turned e m _);
        read = record { form = rw z (negated-run w.kind w.count rows coefs coefs' n run (rw same run.run.beside)) };
      }
