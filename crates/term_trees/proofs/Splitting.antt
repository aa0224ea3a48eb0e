-- A term as it is, or its front times what is left of it. Assumes nothing.
use mathlib.Core.Path.{◌≡◌, refl, ap, sym, subst, ◌∙◌}
use mathlib.Core.Bool.{false}
use mathlib.Core.List.{List, [], ◌∷◌, map}
use Prim.Native.Nat.{ℕ, zero, suc, ◌≤◌, ◌<◌}
use native.Mathlib.Omega.{arith}
use borrow.Author.Tests.{eq-eqb, ne_eqb}
use lib.Dec.{T}
use lib.IntN.{ℤ}
use lib.ListN.{length, take, drop, length-map}
use lib.Seq.{take-take, length-take-le}
use Rattle.specification.specs.Results.{given, ◌>>=◌}
use Rattle.specification.specs.Letters.{scalar}
use Rattle.specification.specs.Terms.{term_kind, term_in_shape}
use Rattle.specification.specs.Terms as S
use Rattle.specification.specs.Reduction.{work_with}
use Rattle.specification.specs.Insertion.{term_tree, leaf_with}
use Rattle.theory.specs.Elements.{All}
use Rattle.theory.specs.Shape.Terms.{kind_of_part}
use Rattle.theory.specs.Shape.Forms.{FormInShape}
use Rattle.theory.specs.Reduction.Standing.{has_letter, leading_of, one_term, front_of, times_each, times_part_with, leading_at-most, front-in_shape, term_in_shape_lem, term-worked, term-stands}
use Rattle.terms.specs.declared.types.Part.TheVariants.{Nothing}
use Rattle.terms.specs.declared.types.Term.{Term}
use Rattle.terms.specs.Numbers.{letters_of}
use Rattle.terms.specs.Abstraction.{part_of, term_of, Counted}
use Rattle.leaves.specs.Leaves.{TermAs}
use Rattle.std.specs.Prelude.{Ok, Err}
use Rattle.std.specs.Prelude as Std
use Rattle.refusal.specs.declared.Refusal.{Refusal}
use Rattle.rows.specs.declared.Worked.{Worked}
use Rattle.rows.specs.Rows.{form_by, RowsGive}
use Rattle.rows.proofs.RowForms.{rows_as}
use Rattle.replacing.proofs.Factors.{given_is}
use Rattle.replacing.proofs.Multiplied.{refused_on, given_on}

-- ════ the front

map-take : {A B : Type 0} (f : A → B) (i : ℕ) (l : List A) → map f (take i l) ≡ take i (map f l)
map-take f zero l = refl
map-take f (suc i) [] = refl
map-take f (suc i) (x ∷ l) = ap (◌∷◌ (f x)) (map-take f i l)

all_take : {A : Type 0} (P : A → Type 0) (i : ℕ) (l : List A) → All P l → All P (take i l)
all_take P zero l h = tt
all_take P (suc i) [] h = tt
all_take P (suc i) (x ∷ l) h = (h.0, all_take P i l h.1)

-- the first k factors of a term, with its coefficient
pub front_as : (t : Term) (k : ℕ) (z : ℤ) → Counted t → k ≤ t.factor_count → z ≡ t.coef
    → TermAs (front_of k (term_of t)) (record { coef = z; factors = t.factors; factor_count = k; part = Nothing })
unfolding front_of term_of part_of
front_as t k z c h e = record {
  is = λ i. record {
    coef = e i;
    factors = (ap (map letters_of) (sym (take-take k t.factor_count t.factors h)) ∙ map-take letters_of k (take t.factor_count t.factors)) i;
    part = [];
  };
  counted = record {
    few = omega (arith, c.few);
    small = subst (All (λ (k : ℕ). k < 16843008)) (take-take k t.factor_count t.factors h)
        (all_take (λ (k : ℕ). k < 16843008) k (take t.factor_count t.factors) c.small);
  };
}

-- so many factors lead at most as there are
pub leading-within : (letter : ℕ) (t : Term) (k : ℕ) → t.factor_count ≤ length t.factors → k ≡ leading_of letter (term_of t).factors → k ≤ t.factor_count
unfolding term_of
leading-within letter t k h e =
    omega (arith, e, leading_at-most letter (term_of t).factors, length-map (take t.factor_count t.factors) letters_of, length-take-le t.factor_count t.factors h)

-- the form of the front
pub front-form : (t f : Term) (k : ℕ) → T (term_in_shape (term_of t)) → TermAs (front_of k (term_of t)) f → FormInShape (record { kind = 0; terms = term_of f ∷ [] })
front-form t f k s m = subst (λ (u : S.Term). FormInShape (one_term scalar u)) (sym m.is) (front-in_shape k (term_of t) s)

-- and alone in its rows
pub front_is : (t f : Term) (k : ℕ) → TermAs (front_of k (term_of t)) f → (w : Worked) (rows : List (List ℕ)) (coefs : List ℤ)
    → RowsGive (given (record { kind = 0; terms = term_of f ∷ [] })) (Ok w) rows coefs → form_by w.kind w.count rows coefs ≡ one_term scalar (front_of k (term_of t))
front_is t f k m w rows coefs g = given_is _ w rows coefs g ∙ ap (one_term scalar) m.is

-- ════ the term

-- what its leading factors leave of a term
module _ (letter : ℕ) (inserted : S.Form) (t : S.Term) (k : ℕ) (shape : T (term_in_shape t)) (leads : k ≡ leading_of letter t.factors) (f : S.Form)
    (is_front : f ≡ one_term scalar (front_of k t)) where
  parts_as : work_with (leaf_with letter inserted) (term_tree t)
      ≡ (times_each (leaf_with letter inserted) f (drop k t.factors) >>= λ x. times_part_with (leaf_with letter inserted) x t.part)
  parts_as =
      term-worked letter inserted t shape
      ∙ ap (λ (j : ℕ). times_each (leaf_with letter inserted) (one_term scalar (front_of j t)) (drop j t.factors) >>= λ x. times_part_with (leaf_with letter inserted) x t.part)
      (sym leads)
      ∙ ap (λ (g : S.Form). times_each (leaf_with letter inserted) g (drop k t.factors) >>= λ x. times_part_with (leaf_with letter inserted) x t.part) (sym is_front)

  module _ (rows : List (List ℕ)) (coefs : List ℤ) where
    -- a factor was refused
    pub parts_refused : (e : Refusal) → RowsGive (times_each (leaf_with letter inserted) f (drop k t.factors)) (Err e) rows coefs
        → RowsGive (work_with (leaf_with letter inserted) (term_tree t)) (Err e) rows coefs
    parts_refused e g = rows_as _ _ (Err e) rows coefs (sym parts_as) (refused_on (λ x. times_part_with (leaf_with letter inserted) x t.part) _ rows coefs e g rows coefs)

    -- the vector part decides
    pub parts_given : (y : Worked) → RowsGive (times_each (leaf_with letter inserted) f (drop k t.factors)) (Ok y) rows coefs
        → (w : Std.Result Worked Refusal) (rows' : List (List ℕ)) (coefs' : List ℤ)
        → RowsGive (times_part_with (leaf_with letter inserted) (form_by y.kind y.count rows coefs) t.part) w rows' coefs'
        → RowsGive (work_with (leaf_with letter inserted) (term_tree t)) w rows' coefs'
    parts_given y g w rows' coefs' h =
        rows_as _ _ w rows' coefs' (sym parts_as) (given_on (λ x. times_part_with (leaf_with letter inserted) x t.part) _ rows coefs y g w rows' coefs' h)

-- ════ a term as it is

-- no letters are the scalar kind
pub kind_none : (p : List ℕ) (n : ℕ) → n ≡ length p → n ≡ 0 → 0 ≡ kind_of_part p
kind_none p n e z = rw (eq-eqb (length p) 0 (sym e ∙ z))

pub kind_some : (p : List ℕ) (n : ℕ) → n ≡ length p → (n ≡ 0 → ⊥) → 1 ≡ kind_of_part p
kind_some p n e h = rw (ne_eqb (length p) 0 (λ z. h (e ∙ z)))

module _ (t : Term) (kind : ℕ) (is_kind : kind ≡ kind_of_part (part_of t.part)) (shape : T (term_in_shape (term_of t))) where
  -- the form of a term alone
  pub term-form : FormInShape (record { kind = kind; terms = term_of t ∷ [] })
  unfolding term_kind term_of
  term-form = subst (λ (k : ℕ). FormInShape (one_term k (term_of t))) (sym is_kind) (term_in_shape_lem (term_of t) shape)

  -- without the letter it stands
  pub term-as_is : (letter : ℕ) (inserted : S.Form) (k : ℕ) (w : Std.Result Worked Refusal) (rows : List (List ℕ)) (coefs : List ℤ) → t.factor_count ≤ length t.factors
      → k ≡ leading_of letter (term_of t).factors → k ≡ t.factor_count → has_letter letter (part_of t.part) ≡ false
      → RowsGive (given (record { kind = kind; terms = term_of t ∷ [] })) w rows coefs
      → RowsGive (work_with (leaf_with letter inserted) (term_tree (term_of t))) w rows coefs
  unfolding term_kind term_of
  term-as_is letter inserted k w rows coefs h e n p =
      let all : length (term_of t).factors ≡ t.factor_count =
      length-map (take t.factor_count t.factors) letters_of ∙ length-take-le t.factor_count t.factors h in
      rows_as _ _ w rows coefs
      (sym (term-stands letter inserted (term_of t) shape (sym e ∙ n ∙ sym all) p ∙ ap (λ (k : ℕ). given (one_term k (term_of t))) (sym is_kind)))
