-- One operand after the other: what is left of a chain of products, or of sums, after each of them. Assumes nothing.
use mathlib.Core.Path.{◌≡◌, refl, ap, sym, subst, ◌∙◌}
use mathlib.Core.List.{List, [], ◌∷◌, map}
use Prim.Native.Nat.{ℕ, ◌+◌, ◌-◌, ◌≤◌, ◌<◌}
use native.Mathlib.Omega.{arith}
use lib.Dec.{T}
use lib.IntN.{ℤ}
use lib.ListN.{length, get_or, take, drop}
use Rattle.specification.specs.Results.{Result, refused, given, ◌>>=◌}
use Rattle.specification.specs.Terms.{factor_in_shape}
use Rattle.specification.specs.Terms as S
use Rattle.specification.specs.Reduction.{times_forms, sum_forms, work_with}
use Rattle.specification.specs.Insertion.{factor_tree, term_tree}
use Rattle.theory.specs.Elements.{All}
use Rattle.theory.specs.Shape.Terms.{term-opens, factors-in_shape}
use Rattle.theory.specs.Reduction.Standing.{times_each, plus_each}
use Rattle.terms.specs.declared.types.Term.{Term}
use Rattle.terms.specs.Numbers.{letters_of}
use Rattle.terms.specs.Abstraction.{term_of}
use Rattle.terms.specs.Valid.{TermValid}
use Rattle.terms.proofs.Arrays.{all-at, rest_at, nothing_left_lem, map-drop}
use Rattle.std.specs.Prelude.{Ok, Err}
use Rattle.refusal.specs.declared.Refusal.{Refusal}
use Rattle.rows.specs.declared.Worked.{Worked}
use Rattle.rows.specs.Rows.{form_by, FormRun, RowsGive}
use Rattle.rows.proofs.RowForms.{rows_as}
use Rattle.replacing.specs.Replacing.{times_factor, plus_term}
use Rattle.replacing.proofs.Multiplied.{stands_so, refused_on}

-- ════ a chain

-- `chain x bs` is the operator with each of `bs` in turn
module _ {A : Type 0} (chain : S.Form → List A → Result S.Form) (op : S.Form → A → Result S.Form) (none : (x : S.Form) → chain x [] ≡ given x)
    (first : (x : S.Form) (a : A) (bs : List A) → chain x (a ∷ bs) ≡ (op x a >>= λ y. chain y bs)) where
  -- so many are left, and what stands in the rows is the form so far
  pub record Left (total : Result S.Form) (bs : List A) (w : Worked) (rows : List (List ℕ)) (coefs : List ℤ) : Type 0 where
    pub form : FormRun w.kind w.count rows coefs
    pub is : total ≡ chain (form_by w.kind w.count rows coefs) bs

  -- the same that are left
  pub left_as : (total : Result S.Form) (cs bs : List A) (w : Worked) (rows : List (List ℕ)) (coefs : List ℤ) → cs ≡ bs → Left total cs w rows coefs
      → Left total bs w rows coefs
  left_as total cs bs w rows coefs e = subst (λ (l : List A). Left total l w rows coefs) e

  module _ (total : Result S.Form) (a : A) (bs : List A) (x : Worked) (rows : List (List ℕ)) (coefs : List ℤ) (l : Left total (a ∷ bs) x rows coefs)
      (rows' : List (List ℕ)) (coefs' : List ℤ) where
    so_far : total ≡ (op (form_by x.kind x.count rows coefs) a >>= λ y. chain y bs)
    so_far = l.is ∙ first (form_by x.kind x.count rows coefs) a bs

    -- one is refused, and with it the whole
    pub turn_refused : (e : Refusal) → RowsGive (op (form_by x.kind x.count rows coefs) a) (Err e) rows' coefs' → RowsGive total (Err e) rows' coefs'
    turn_refused e g = rows_as _ total (Err e) rows' coefs' (sym so_far) (refused_on (λ y. chain y bs) _ rows' coefs' e g rows' coefs')

    -- one is taken
    pub turn_taken : (w : Worked) → RowsGive (op (form_by x.kind x.count rows coefs) a) (Ok w) rows' coefs' → Left total bs w rows' coefs'
    turn_taken w g = record { form = g.form; is = so_far ∙ ap (λ (r : Result S.Form). r >>= λ y. chain y bs) (sym g.is) }

  -- none is left
  pub turns-done : (total : Result S.Form) (bs : List A) (w : Worked) (rows : List (List ℕ)) (coefs : List ℤ) → bs ≡ [] → Left total bs w rows coefs
      → RowsGive total (Ok w) rows coefs
  turns-done total bs w rows coefs e l =
      rows_as _ total (Ok w) rows coefs (sym (l.is ∙ ap (chain (form_by w.kind w.count rows coefs)) e ∙ none (form_by w.kind w.count rows coefs)))
      (stands_so w rows coefs l.form)

-- two results, one behind the other
behind-another : (r : Result S.Form) (j k : S.Form → Result S.Form) → (r >>= λ y. (j y >>= k)) ≡ ((r >>= j) >>= k)
behind-another (refused n) j k = refl
behind-another (given f) j k = refl

module _ (leaf : (n kind : ℕ) → S.Form) where
  -- products are a chain
  pub times_none : (x : S.Form) → times_each leaf x [] ≡ given x
  unfolding times_each
  times_none x = refl

  pub times_first : (x : S.Form) (f : List ℕ) (fs : List (List ℕ)) → times_each leaf x (f ∷ fs) ≡ (times_factor leaf x f >>= λ y. times_each leaf y fs)
  unfolding times_each
  times_first x f fs = behind-another (work_with leaf (factor_tree f)) (times_forms x) (λ y. times_each leaf y fs)

  -- sums are a chain
  pub plus_none : (x : S.Form) → plus_each leaf x [] ≡ given x
  unfolding plus_each
  plus_none x = refl

  pub plus_first : (x : S.Form) (t : S.Term) (ts : List S.Term) → plus_each leaf x (t ∷ ts) ≡ (plus_term leaf x t >>= λ y. plus_each leaf y ts)
  unfolding plus_each
  plus_first x t ts = behind-another (work_with leaf (term_tree t)) (sum_forms x) (λ y. plus_each leaf y ts)

-- ════ the factors of a term, by how many are left

-- the factors of the first n from the i-th on
abbrev pub factors_from : (f : List ℕ) (n i : ℕ) → List (List ℕ)
factors_from f n i = drop i (map letters_of (take n f))

-- one of them is the first
pub factor_next : (f : List ℕ) (n i : ℕ) → n ≤ length f → i < n → factors_from f n i ≡ letters_of (get_or f i 0) ∷ factors_from f n (i + 1)
factor_next f n i h p =
    sym (map-drop letters_of i (take n f)) ∙ ap (map letters_of) (rest_at f n i 0 h p)
    ∙ ap (λ (l : List (List ℕ)). letters_of (get_or f i 0) ∷ l) (map-drop letters_of (i + 1) (take n f))

-- none is left
pub factors_none : (f : List ℕ) (n i : ℕ) → n ≤ length f → n ≤ i → factors_from f n i ≡ []
factors_none f n i h e = sym (map-drop letters_of i (take n f)) ∙ ap (map letters_of) (nothing_left_lem f n i h e)

-- each factor of a valid term is in shape
pub factor_at_lem : (t : Term) (i : ℕ) → TermValid t → t.factor_count ≤ length t.factors → i < t.factor_count
    → (get_or t.factors i 0 < 16843008) × T (factor_in_shape (letters_of (get_or t.factors i 0)))
unfolding term_of
factor_at_lem t i v h g = (
  all-at (λ (k : ℕ). k < 16843008) t.factors t.factor_count i 0 h g v.counted.small,
  all-at (λ (k : ℕ). T (factor_in_shape (letters_of k))) t.factors t.factor_count i 0 h g
      (unmapped (take t.factor_count t.factors) (factors-in_shape (term_of t) (term-opens (term_of t) v.in_shape))),
)
  where
    unmapped : (ks : List ℕ) → All (λ (f : List ℕ). T (factor_in_shape f)) (map letters_of ks) → All (λ (k : ℕ). T (factor_in_shape (letters_of k))) ks
    unmapped [] a = tt
    unmapped (k ∷ ks) a = (a.0, unmapped ks a.1)
