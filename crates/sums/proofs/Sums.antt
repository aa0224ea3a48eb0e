-- Sums in rows: a form's rows brought in among another's, what is gathered closed, signs turned. Assumes nothing.
use mathlib.Core.Path.{◌≡◌, refl, ap, sym, subst, ◌∙◌}
use mathlib.Core.List.{List, [], ◌∷◌, ◌++◌, map}
use Prim.Native.Nat.{ℕ, zero, suc, ◌+◌, ◌*◌, ◌≤◌, ◌<◌}
use native.Mathlib.Numerals.{add-one}
use native.Mathlib.Omega.{arith}
use borrow.Author.Tests.{eq-eqb, ne_eqb}
use lib.IntN.{ℤ, pos, neg_ℤ, nat_abs}
use lib.ListN.{length, take, drop, get_or, set}
use Rattle.algebra.specs.Integers as R
use Rattle.specification.specs.Terms.{tidy, gather, within, negated}
use Rattle.specification.specs.Terms as S
use Rattle.specification.specs.Reduction.{sum_forms, negate_form}
use Rattle.theory.specs.Elements.{All, all_append}
use Rattle.theory.specs.Order.{monomial}
use Rattle.theory.specs.Gathering.Gathered.{gather-onto}
use Rattle.theory.specs.Shape.Terms.{Fits}
use Rattle.theory.specs.Shape.Forms.{FormInShape, form-fits, form-gathered}
use Rattle.theory.proofs.Reduction.Operators.{negate-in_shape}
use Rattle.terms.proofs.Arrays.{all-at}
use Rattle.std.specs.Prelude.{Err}
use Rattle.std.specs.Prelude as Std
use Rattle.refusal.specs.declared.Refusal.{Refusal}
use Rattle.refusal.specs.declared.Refusal.TheVariants.{WrongKind}
use Rattle.rows.specs.declared.Worked.{Worked}
use Rattle.rows.specs.Rows.{RowValid, term_by, terms_by, run_of, Light, form_by, FormRun, RowsGive, Copied}
use Rattle.gathering.specs.Bringing.{coef_bound, BroughtIn}
use Rattle.rows.proofs.RowForms.{light_more, rows_refused, rows_as, run-copied}
use Rattle.rows.specs.Rows.{SomeForm}
use Rattle.sums.specs.Results.{Brought, GatheredRows}
use Rattle.rows.proofs.Runs.{run_holds}
use Rattle.sums.proofs.Bringing.{run_taken, run_all, brought_row, brought_both, brought_as}

-- ════ a form's rows brought in

module _ (m : ℕ) (right : List (List ℕ)) (rights : List ℤ) (f : SomeForm m right rights) (j : ℕ) (h : j < m) where
  pub row-valid : RowValid (get_or right j [])
  row-valid = all-at RowValid right m j [] f.form.run.room h f.form.run.valid

  row-light : nat_abs (get_or rights j (pos 0)) ≤ 2147483647
  unfolding Light
  row-light = all-at (λ (z : ℤ). nat_abs z ≤ 2147483647) rights m j (pos 0) f.form.run.beside h f.form.light

  pub row-bound : (z : ℤ) → z ≡ get_or rights j (pos 0) → nat_abs z ≤ coef_bound
  row-bound z e = omega (arith, ap nat_abs e, row-light)

  row-tidy : tidy (term_by (get_or right j []) (get_or rights j (pos 0))) ≡ term_by (get_or right j []) (get_or rights j (pos 0))
  row-tidy =
      run_holds right rights m f.form.run.room f.form.run.beside (λ (t : S.Term). tidy t ≡ t) j h
      (form-gathered (form_by f.kind m right rights) f.form.in_shape).tidied

  module _ (n : ℕ) (rows₀ : List (List ℕ)) (coefs₀ : List ℤ) (count : ℕ) (rows : List (List ℕ)) (coefs : List ℤ)
      (w : Brought j n rows₀ coefs₀ (take j (run_of m right rights)) count rows coefs) where
    -- no coefficient is too large for the next
    pub rows-light : Light 2147483647 n coefs₀ → Light coef_bound count coefs
    rows-light l = light_more (2147483647 + j * 2147483647) coef_bound count coefs (omega (arith, f.form.few)) (w.light 2147483647 l)

    -- one row more
    pub rows_more : (z : ℤ) (s : ℕ) (rows' : List (List ℕ)) (coefs' : List ℤ) → z ≡ get_or rights j (pos 0)
        → BroughtIn count rows coefs (get_or right j []) z s rows' coefs'
        → Brought (j + 1) n rows₀ coefs₀ (take (j + 1) (run_of m right rights)) s rows' coefs'
    rows_more z s rows' coefs' e b =
        let r = get_or right j [] in
        let c = get_or rights j (pos 0) in
        brought_as n rows₀ coefs₀ (j + 1) (j + 1) _ _ s rows' coefs' (omega arith)
        (sym (run_taken m right rights f.form.run.room f.form.run.beside j h))
        (brought_both n rows₀ coefs₀ j 1 (take j (run_of m right rights)) (term_by r c ∷ []) count s rows coefs rows' coefs' w
        (brought_row count rows coefs r c s rows' coefs' row-tidy row-light (subst (λ (y : ℤ). BroughtIn count rows coefs r y s rows' coefs') e b)))

-- all of them
pub rows_all : (m : ℕ) (right : List (List ℕ)) (rights : List ℤ) (f : SomeForm m right rights) (j n : ℕ) (rows₀ : List (List ℕ)) (coefs₀ : List ℤ) (s : ℕ)
    (rows : List (List ℕ)) (coefs : List ℤ)
    → j ≤ m → m ≤ j → Brought j n rows₀ coefs₀ (take j (run_of m right rights)) s rows coefs → Brought m n rows₀ coefs₀ (run_of m right rights) s rows coefs
rows_all m right rights f j n rows₀ coefs₀ s rows coefs g h w =
    brought_as n rows₀ coefs₀ j m (take j (run_of m right rights)) (run_of m right rights) s rows coefs g
    (run_all m right rights f.form.run.room f.form.run.beside j h) w

-- ════ the sum

-- unlike kinds
pub sum-six : (f g : S.Form) (rows : List (List ℕ)) (coefs : List ℤ) → (f.kind ≡ g.kind → ⊥) → RowsGive (sum_forms f g) (Err WrongKind) rows coefs
unfolding sum_forms
sum-six f g rows coefs h = rows_refused (sum_forms f g) WrongKind rows coefs (rw (ne_eqb f.kind g.kind h))

-- one kind
module _ (kind n : ℕ) (rows : List (List ℕ)) (coefs : List ℤ) (m : ℕ) (right : List (List ℕ)) (rights : List ℤ) (v : FormRun kind n rows coefs)
    (u : FormRun kind m right rights) where
  module _ (r : ℕ) (rows' : List (List ℕ)) (coefs' : List ℤ) (b : Brought m n rows coefs (run_of m right rights) r rows' coefs') where
    gathered : run_of r rows' coefs' ≡ gather (run_of n rows coefs ++ run_of m right rights)
    gathered = b.is ∙ gather-onto (run_of n rows coefs) (run_of m right rights) (form-gathered (form_by kind n rows coefs) v.in_shape)

    -- what was brought together can be closed
    pub sum-gathered : GatheredRows kind r rows' coefs'
    sum-gathered = record {
      run = b.run;
      small = v.in_shape.kind;
      terms = run_of n rows coefs ++ run_of m right rights;
      is = gathered;
      fit = all_append (λ (t : S.Term). Fits kind (monomial t)) (run_of n rows coefs) (run_of m right rights) (form-fits (form_by kind n rows coefs) v.in_shape)
          (form-fits (form_by kind m right rights) u.in_shape);
    }

    -- and gives the sum
    pub sum_gives : (w : Std.Result Worked Refusal) (rows'' : List (List ℕ)) (coefs'' : List ℤ) → RowsGive (within kind (run_of r rows' coefs')) w rows'' coefs''
        → RowsGive (sum_forms (form_by kind n rows coefs) (form_by kind m right rights)) w rows'' coefs''
    unfolding sum_forms
    sum_gives w rows'' coefs'' = rows_as (within kind (run_of r rows' coefs')) _ w rows'' coefs'' (ap (within kind) gathered ∙ rw (eq-eqb kind kind refl))

  -- apart
  pub sum-apart : (more : List (List ℕ)) (beside : List ℤ) (w : Std.Result Worked Refusal) (rows'' : List (List ℕ)) (coefs'' : List ℤ) → Copied n rows coefs more beside
      → RowsGive (sum_forms (form_by kind n more beside) (form_by kind m right rights)) w rows'' coefs''
      → RowsGive (sum_forms (form_by kind n rows coefs) (form_by kind m right rights)) w rows'' coefs''
  sum-apart more beside w rows'' coefs'' q =
      rows_as _ _ w rows'' coefs'' (ap (λ (l : List S.Term). sum_forms (record { kind = kind; terms = l }) (form_by kind m right rights))
      (run-copied n rows coefs more beside q))

-- in the words of two kinds
pub kinds_as : (kind other n : ℕ) (rows : List (List ℕ)) (coefs : List ℤ) → kind ≡ other → FormRun other n rows coefs → FormRun kind n rows coefs
kinds_as kind other n rows coefs e = subst (λ (k : ℕ). FormRun k n rows coefs) (sym e)

pub sum_as : (f : S.Form) (kind other : ℕ) (ts : List S.Term) (w : Std.Result Worked Refusal) (rows : List (List ℕ)) (coefs : List ℤ) → kind ≡ other
    → RowsGive (sum_forms f (record { kind = kind; terms = ts })) w rows coefs → RowsGive (sum_forms f (record { kind = other; terms = ts })) w rows coefs
sum_as f kind other ts w rows coefs e = rows_as _ _ w rows coefs (ap (λ (k : ℕ). sum_forms f (record { kind = k; terms = ts })) e)

-- ════ signs turned

-- the first i numbers turned
abbrev pub turned : ℕ → List ℤ → List ℤ
turned i l = map neg_ℤ (take i l) ++ drop i l

pub turned_at_lem : (l : List ℤ) (i : ℕ) → i < length l → get_or (turned i l) i (pos 0) ≡ get_or l i (pos 0)
turned_at_lem [] i h = absurd (omega arith)
turned_at_lem (x ∷ l) zero h = refl
turned_at_lem (x ∷ l) (suc i) h = turned_at_lem l i (omega arith)

pub turned_more : (l k : List ℤ) (i : ℕ) (z : ℤ) → k ≡ turned i l → i < length l → z ≡ neg_ℤ (get_or l i (pos 0)) → set k i z ≡ turned (i + 1) l
turned_more l k i z q h e = (λ j. set (q j) i (e j)) ∙ rw add-one (go l i h)
  where
    go : (l : List ℤ) (i : ℕ) → i < length l → set (turned i l) i (neg_ℤ (get_or l i (pos 0))) ≡ turned (suc i) l
    go [] i h = absurd (omega arith)
    go (x ∷ l) zero h = refl
    go (x ∷ l) (suc i) h = ap (λ (k : List ℤ). neg_ℤ x ∷ k) (go l i (omega arith))

pub turned_all : (l k : List ℤ) (n i : ℕ) → k ≡ turned i l → i ≡ n → n ≤ length l → take n k ≡ map neg_ℤ (take n l)
turned_all l k n i q e h = (λ j. take n ((q ∙ ap (λ (m : ℕ). turned m l) e) j)) ∙ go l n h
  where
    go : (l : List ℤ) (n : ℕ) → n ≤ length l → take n (turned n l) ≡ map neg_ℤ (take n l)
    go l zero h = refl
    go [] (suc n) h = absurd (omega arith)
    go (x ∷ l) (suc n) h = ap (λ (k : List ℤ). neg_ℤ x ∷ k) (go l n (omega arith))

terms-turned : (rs : List (List ℕ)) (cs : List ℤ) → terms_by rs (map neg_ℤ cs) ≡ map negated (terms_by rs cs)
unfolding terms_by term_by
terms-turned [] cs = refl
terms-turned (r ∷ rs) [] = refl
terms-turned (r ∷ rs) (c ∷ cs) = ap (λ (l : List S.Term). negated (term_by r c) ∷ l) (terms-turned rs cs)

light-turned : (b : ℕ) (cs : List ℤ) → All (λ (z : ℤ). nat_abs z ≤ b) cs → All (λ (z : ℤ). nat_abs z ≤ b) (map neg_ℤ cs)
light-turned b [] a = tt
light-turned b (c ∷ cs) a = (subst (λ (k : ℕ). k ≤ b) (sym (R.nat_abs-neg c)) a.0, light-turned b cs a.1)

-- a form whose signs were turned is its negation
module _ (kind n : ℕ) (rows : List (List ℕ)) (coefs coefs' : List ℤ) (e : take n coefs' ≡ map neg_ℤ (take n coefs)) where
  run-negated : run_of n rows coefs' ≡ map negated (run_of n rows coefs)
  unfolding run_of
  run-negated = ap (terms_by (take n rows)) e ∙ terms-turned (take n rows) (take n coefs)

  pub form-negated : form_by kind n rows coefs' ≡ negate_form (form_by kind n rows coefs)
  unfolding negate_form
  form-negated = ap (λ (l : List S.Term). record { kind = kind; terms = l }) run-negated

  pub negated-run : FormRun kind n rows coefs → n ≤ length coefs' → FormRun kind n rows coefs'
  unfolding Light
  negated-run v h =
      let s : FormInShape (form_by kind n rows coefs') = subst FormInShape (sym form-negated) (negate-in_shape (form_by kind n rows coefs) v.in_shape) in
      record {
        run = record { room = v.run.room; beside = h; valid = v.run.valid; ascending = (form-gathered (form_by kind n rows coefs') s).ascending };
        light = subst (All (λ (z : ℤ). nat_abs z ≤ 2147483647)) (sym e) (light-turned 2147483647 (take n coefs) v.light);
        few = v.few;
        in_shape = s;
      }
