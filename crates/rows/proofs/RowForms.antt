-- Bounds on coefficients, a form's terms held, copied and given back. Assumes nothing.
use mathlib.Core.Path.{◌≡◌, refl, ap, sym, subst, ◌∙◌}
use mathlib.Core.List.{List, [], ◌∷◌, ◌++◌, map}
use Prim.Native.Nat.{ℕ, ◌+◌, ◌<◌, ◌≤◌}
use native.Mathlib.Omega.{arith}
use native.Mathlib.Numerals.{add-one}
use lib.Dec.{T}
use lib.IntN.{ℤ, pos, nat_abs}
use lib.ListN.{length, take, get_or, set}
use lib.Seq.{length-take-le, take-suc, take-add, take_all}
use Rattle.specification.specs.Results.{Result, given, refused}
use Rattle.specification.specs.Terms.{term_in_shape}
use Rattle.specification.specs.Terms as S
use Rattle.theory.specs.Elements.{All, all_append, all_implies, all_T}
use Rattle.theory.specs.Gathering.Coefficients.{Ascending}
use Rattle.theory.specs.Shape.Forms.{FormInShape, form-gathered}
use Rattle.theory.specs.Shape.Terms.{in_limit}
use Rattle.terms.specs.declared.types.Term.{Term}
use Rattle.terms.specs.declared.types.Form.{Form}
use Rattle.std.specs.Prelude.{Ok, Err}
use Rattle.std.specs.Prelude as Std
use Rattle.refusal.specs.declared.Refusal.{Refusal}
use Rattle.refusal.specs.Numbers.{number_of}
use Rattle.terms.specs.Valid.{Gives}
use Rattle.terms.specs.Abstraction.{term_of, form_of, Counted}
use Rattle.terms.specs.Valid.{FormValid}
use Rattle.terms.proofs.Arrays.{no_term, all-at, stored-behind, mapped-behind}
use Rattle.rows.specs.Rows.{term_by, RowValid, RowOf, terms_by, run_of, Run, Light, form_by, HeldIn, Copied, FormOfRun, OutcomeOf, FormRun, RowsGive}
use Rattle.rows.specs.declared.Worked.{Worked}
use Rattle.rows.proofs.Runs.{terms-append, run_length, run_at}

-- a larger bound holds too
pub light_more : (b d n : ℕ) (cs : List ℤ) → b ≤ d → Light b n cs → Light d n cs
unfolding Light
light_more b d n cs h = all_implies (λ (z : ℤ). nat_abs z ≤ b) (λ (z : ℤ). nat_abs z ≤ d) (λ z g. omega arith) (take n cs)

-- one coefficient more
pub light_next : (coefs : List ℤ) (b i : ℕ) → i < length coefs → Light b i coefs → nat_abs (get_or coefs i (pos 0)) ≤ b → Light b (i + 1) coefs
unfolding Light
light_next coefs b i h l g =
    subst (All (λ (z : ℤ). nat_abs z ≤ b)) (sym (ap (λ (k : ℕ). take k coefs) (add-one i) ∙ take-suc coefs i (pos 0) h))
    (all_append (λ (z : ℤ). nat_abs z ≤ b) (take i coefs) (get_or coefs i (pos 0) ∷ []) l (g, tt))

-- each of them
pub light-at : (coefs : List ℤ) (b n i : ℕ) → n ≤ length coefs → i < n → Light b n coefs → nat_abs (get_or coefs i (pos 0)) ≤ b
unfolding Light
light-at coefs b n i h g l = all-at (λ (z : ℤ). nat_abs z ≤ b) coefs n i (pos 0) h g l

-- ════ a form's terms held

-- after i terms
pub record Filled (ts : List Term) (i : ℕ) (rows : List (List ℕ)) (coefs : List ℤ) : Type 0 where
  pub is : run_of i rows coefs ≡ map term_of (take i ts)
  pub valid : All RowValid (take i rows)

pub filled_none : (ts : List Term) (rows : List (List ℕ)) (coefs : List ℤ) → Filled ts 0 rows coefs
unfolding run_of terms_by
filled_none ts rows coefs = record { is = refl; valid = tt }

taken_one : {A : Type 0} (l : List A) (i : ℕ) (d : A) → i < length l → take (i + 1) l ≡ take i l ++ get_or l i d ∷ []
taken_one l i d h = rw add-one (take-suc l i d h)

pub filled_more : (ts : List Term) (i : ℕ) (rows : List (List ℕ)) (coefs : List ℤ) (r : List ℕ) (z : ℤ) → i < length ts → i < length rows → i < length coefs
    → Filled ts i rows coefs → RowOf (get_or ts i no_term) r → z ≡ (get_or ts i no_term).coef → Filled ts (i + 1) (set rows i r) (set coefs i z)
unfolding run_of terms_by
filled_more ts i rows coefs r z ht hr hc w q e = record {
  is = (λ j. terms_by (stored-behind rows i r hr j) (stored-behind coefs i z hc j))
      ∙ terms-append (take i rows) (r ∷ []) (take i coefs) (z ∷ []) (length-take-le i rows (omega arith) ∙ sym (length-take-le i coefs (omega arith)))
      ∙ (λ j. w.is j ++ (ap (term_by r) e ∙ q.is) j ∷ [])
      ∙ sym (ap (map term_of) (taken_one ts i no_term ht) ∙ mapped-behind term_of (take i ts) (get_or ts i no_term));
  valid = subst (All RowValid) (sym (stored-behind rows i r hr)) (all_append RowValid (take i rows) (r ∷ []) w.valid (q.valid, tt));
}

-- the coefficients are those of the terms
light-by : (b : ℕ) (rs : List (List ℕ)) (cs : List ℤ) → length rs ≡ length cs → All (λ (t : S.Term). nat_abs t.coef ≤ b) (terms_by rs cs)
    → All (λ (z : ℤ). nat_abs z ≤ b) cs
unfolding terms_by term_by
light-by b [] [] h a = tt
light-by b [] (c ∷ cs) h a = absurd (omega arith)
light-by b (r ∷ rs) [] h a = absurd (omega arith)
light-by b (r ∷ rs) (c ∷ cs) h a = (a.0, light-by b rs cs (omega arith) a.1)

pub filled_all : (f : Form) (rows : List (List ℕ)) (coefs : List ℤ) (i : ℕ) → FormValid f → f.count ≤ length rows → f.count ≤ length coefs → i ≡ f.count
    → Filled f.terms i rows coefs → HeldIn f rows coefs
unfolding form_of run_of Light
filled_all f rows coefs i v hr hc e w =
    let u = subst (λ (n : ℕ). Filled f.terms n rows coefs) e w in
    let s : All (λ (t : S.Term). nat_abs t.coef ≤ 2147483647) (terms_by (take f.count rows) (take f.count coefs)) =
    subst (All (λ (t : S.Term). nat_abs t.coef ≤ 2147483647)) (sym u.is)
    (all_implies (λ (t : S.Term). T (term_in_shape t)) (λ (t : S.Term). nat_abs t.coef ≤ 2147483647) in_limit (form_of f).terms
    (all_T term_in_shape (form_of f).terms v.in_shape.terms)) in
    record {
      is = u.is;
      run = record { room = hr; beside = hc; valid = u.valid; ascending = subst Ascending (sym u.is) (form-gathered (form_of f) v.in_shape).ascending };
      light = light-by 2147483647 (take f.count rows) (take f.count coefs) (length-take-le f.count rows hr
          ∙ sym (length-take-le f.count coefs hc)) s;
    }

-- ════ rows copied

pub copied_none : (from : List (List ℕ)) (froms : List ℤ) (rows : List (List ℕ)) (coefs : List ℤ) → Copied 0 from froms rows coefs
copied_none from froms rows coefs = record { rows_are = refl; coefs_are = refl }

one_copied : {A : Type 0} (l k : List A) (i : ℕ) (d x : A) → i < length l → i < length k → x ≡ get_or l i d → take i k ≡ take i l → take (i + 1)
    (set k i x) ≡ take (i + 1) l
one_copied l k i d x h g e w =
    let t : take (i + 1) l ≡ take i l ++ get_or l i d ∷ [] = taken_one l i d h in
    stored-behind k i x g ∙ (λ j. w j ++ e j ∷ []) ∙ sym t

pub copied_more : (i : ℕ) (from : List (List ℕ)) (froms : List ℤ) (rows : List (List ℕ)) (coefs : List ℤ) (z : ℤ) → i < length from → i < length froms
    → i < length rows → i < length coefs
    → z ≡ get_or froms i (pos 0) → Copied i from froms rows coefs → Copied (i + 1) from froms (set rows i (get_or from i [])) (set coefs i z)
copied_more i from froms rows coefs z hf hg hr hc e w = record {
  rows_are = one_copied from rows i [] (get_or from i []) hf hr refl w.rows_are;
  coefs_are = one_copied froms coefs i (pos 0) z hg hc e w.coefs_are;
}

pub copied_all : (n i : ℕ) (from : List (List ℕ)) (froms : List ℤ) (rows : List (List ℕ)) (coefs : List ℤ) → i ≡ n → Copied i from froms rows coefs
    → Copied n from froms rows coefs
copied_all n i from froms rows coefs e w = subst (λ (k : ℕ). Copied k from froms rows coefs) e w

-- what stands in the first n rows is what stood there
module _ (n : ℕ) (from : List (List ℕ)) (froms : List ℤ) (rows : List (List ℕ)) (coefs : List ℤ) (w : Copied n from froms rows coefs) where
  pub run-copied : run_of n rows coefs ≡ run_of n from froms
  unfolding run_of
  run-copied = λ j. terms_by (w.rows_are j) (w.coefs_are j)

  pub form-copied : (kind : ℕ) → n ≤ length rows → n ≤ length coefs → FormRun kind n from froms → FormRun kind n rows coefs
  unfolding Light
  form-copied kind hr hc v = record {
    run = record {
      room = hr;
      beside = hc;
      valid = subst (All RowValid) (sym w.rows_are) v.run.valid;
      ascending = subst Ascending (sym run-copied) v.run.ascending;
    };
    light = subst (All (λ (z : ℤ). nat_abs z ≤ 2147483647)) (sym w.coefs_are) v.light;
    few = v.few;
    in_shape = subst (λ (l : List S.Term). FormInShape (record { kind = kind; terms = l })) (sym run-copied) v.in_shape;
  }

-- ════ a form's terms given back

-- after i rows
pub record Given (n : ℕ) (rows : List (List ℕ)) (coefs : List ℤ) (i : ℕ) (ts : List Term) : Type 0 where
  pub is : map term_of (take i ts) ≡ take i (run_of n rows coefs)
  pub counted : All Counted (take i ts)

pub given_none : (n : ℕ) (rows : List (List ℕ)) (coefs : List ℤ) (ts : List Term) → Given n rows coefs 0 ts
given_none n rows coefs ts = record { is = refl; counted = tt }

pub given_more : (n : ℕ) (rows : List (List ℕ)) (coefs : List ℤ) (i : ℕ) (ts : List Term) (u : Term) (z : ℤ) → Run n rows coefs → i < n → i < length ts
    → Given n rows coefs i ts
    → (term_of u ≡ term_by (get_or rows i []) z) × Counted u → z ≡ get_or coefs i (pos 0) → Given n rows coefs (i + 1) (set ts i u)
given_more n rows coefs i ts u z v h k w q e = record {
  is = ap (map term_of) (stored-behind ts i u k) ∙ mapped-behind term_of (take i ts) u
      ∙ (λ j. w.is j ++ (q.0 ∙ ap (term_by (get_or rows i [])) e) j ∷ [])
      ∙ sym (take-add i 1 (run_of n rows coefs) ∙ ap (λ (l : List S.Term). take i (run_of n rows coefs) ++ take 1 l) (run_at rows coefs n v.room
      v.beside i h));
  counted = subst (All Counted) (sym (stored-behind ts i u k)) (all_append Counted (take i ts) (u ∷ []) w.counted (q.1, tt));
}

pub given_all : (kind n : ℕ) (rows : List (List ℕ)) (coefs : List ℤ) (i : ℕ) (ts : List Term) → Run n rows coefs → n ≤ 48 → i ≡ n → Given n rows coefs i ts
    → FormOfRun kind n rows coefs (record { kind = kind; count = n; terms = ts })
unfolding form_of
given_all kind n rows coefs i ts v h e w =
    let u = subst (λ (m : ℕ). Given n rows coefs m ts) e w in
    record {
      is = ap (λ (l : List S.Term). record { kind = kind; terms = l }) (u.is ∙ take_all n (run_of n rows coefs) (omega (
        arith,
        run_length rows coefs n v.room v.beside,
      )));
      count_is = refl;
      few = h;
      counted = u.counted;
    }

-- ════ what working gave

-- a refusal, whatever stands in the rows
pub rows_refused : (x : Result S.Form) (e : Refusal) (rows : List (List ℕ)) (coefs : List ℤ) → x ≡ refused (number_of e) → RowsGive x (Err e) rows coefs
rows_refused x e rows coefs p = record { is = sym p; form = tt }

-- a form in rows
pub rows_given : (x : Result S.Form) (w : Worked) (rows : List (List ℕ)) (coefs : List ℤ) → x ≡ given (form_by w.kind w.count rows coefs)
    → FormRun w.kind w.count rows coefs → RowsGive x (Ok w) rows coefs
rows_given x w rows coefs p f = record { is = sym p; form = f }

-- the same in other words
pub rows_as : (x y : Result S.Form) (r : Std.Result Worked Refusal) (rows : List (List ℕ)) (coefs : List ℤ) → x ≡ y → RowsGive x r rows coefs → RowsGive y r rows coefs
rows_as x y r rows coefs e g = record { is = g.is ∙ e; form = g.form }

-- ════ as a form by value

-- refused
pub outcome_refused : (x : Result S.Form) (e : Refusal) (rows : List (List ℕ)) (coefs : List ℤ) → RowsGive x (Err e) rows coefs → Gives x (Err e)
outcome_refused x e rows coefs g = record { is = g.is; valid = tt }

-- a form in rows is valid as one by value
pub form-valid : (kind n : ℕ) (rows : List (List ℕ)) (coefs : List ℤ) (f : Form) → FormRun kind n rows coefs → FormOfRun kind n rows coefs f → FormValid f
form-valid kind n rows coefs f v w = record { few = w.few; counted = w.counted; in_shape = subst FormInShape (sym w.is) v.in_shape }

-- or given
pub outcome_given : (x : Result S.Form) (w : Worked) (rows : List (List ℕ)) (coefs : List ℤ) (f : Form) → RowsGive x (Ok w) rows coefs
    → FormOfRun w.kind w.count rows coefs f → Gives x (Ok f)
outcome_given x w rows coefs f g q = record { is = ap given q.is ∙ g.is; valid = form-valid w.kind w.count rows coefs f g.form q }

-- either
module _ (w : Std.Result Worked Refusal) (rows : List (List ℕ)) (coefs : List ℤ) where
  as_found : (x : Result S.Form) (v : Std.Result Worked Refusal) → w ≡ v → RowsGive x w rows coefs → RowsGive x v rows coefs
  as_found x v e g = subst (λ (v : Std.Result Worked Refusal). RowsGive x v rows coefs) e g

  pub refusal_handed : (e : Refusal) → w ≡ Err e → OutcomeOf w rows coefs (Err e)
  refusal_handed e q = record { is = λ x g. outcome_refused x e rows coefs (as_found x (Err e) q g) }

  pub form_handed : (v : Worked) → w ≡ Ok v → (f : Form) → FormOfRun v.kind v.count rows coefs f → OutcomeOf w rows coefs (Ok f)
  form_handed v q f o = record { is = λ x g. outcome_given x v rows coefs f (as_found x (Ok v) q g) o }

-- ════ a form by value in rows

-- the form that they stand for
pub held_is : (f : Form) (rows : List (List ℕ)) (coefs : List ℤ) → HeldIn f rows coefs → form_by f.kind f.count rows coefs ≡ form_of f
unfolding form_of
held_is f rows coefs h = ap (λ (ts : List S.Term). record { kind = f.kind; terms = ts }) h.is

-- in shape
pub held-run : (f : Form) (rows : List (List ℕ)) (coefs : List ℤ) → FormValid f → HeldIn f rows coefs → FormRun f.kind f.count rows coefs
held-run f rows coefs v h = record { run = h.run; light = h.light; few = v.few; in_shape = subst FormInShape (sym (held_is f rows coefs h)) v.in_shape }
