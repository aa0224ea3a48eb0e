-- Reduction keeps the value (P2): an expression that is taken has, under every assignment of integers, the value of its form, which is in shape, with letters of the table. Assumes nothing.
use Rattle.std.specs.Prelude.{◌≡◌, refl, Bool, true, false, List, [], ◌∷◌, ℕ, zero, suc, ◌≤◌, ℤ, pos, ◌+ℤ◌, ◌*ℤ◌, T, eqb}
use Rattle.std.proofs.Math.Path.{sym, subst}
use Rattle.std.proofs.Common.{◌∙◌, arith}
use Rattle.std.proofs.Math.IntN.{negsuc}
use Rattle.std.proofs.Math.IntN as I
use Rattle.algebra.specs.Integers as R
use Rattle.algebra.specs.Integers.{NonZero, pos-nonzero, negsuc-nonzero}
use Rattle.specification.specs.Results.{given, when◌then◌else◌}
use Rattle.specification.specs.Lists.{all, ascend}
use Rattle.specification.specs.Values.{Vec, scalar_value, ◌•◌}
use Rattle.specification.specs.Letters.{scalar, vector, good_table}
use Rattle.specification.specs.Terms.{Term, Form, plus, term_kind, is_zero, keep, insert, coef_within}
use Rattle.specification.specs.Terms.{vector_letters_of, scalar_letters_of, vector_letters, scalar_letters, letters_fit, factor_in_shape, part_in_shape, term_in_shape}
use Rattle.specification.specs.Records.{part_fits, test_terms}
use Rattle.specification.specs.Expressions.{Expr, Letter, Constant, Sum, Difference, Negation, Times, Dot, Wedge, Triple, read_expr}
use Rattle.specification.specs.Reduction.{letter_form, constant_form, work_with, work, reduced}
use Rattle.specification.specs.Evaluation.{factors_value, part_value, term_value, terms_value, value, expr_kind, expr_value}
use Rattle.theory.specs.Tests.{given_same, required, bound}
use Rattle.theory.specs.Elements.{T_all}
use Rattle.theory.specs.Shape.Terms.{term-closes}
use Rattle.theory.specs.Shape.Forms.{FormInShape}
use Rattle.theory.specs.Shape.Bare.{shapes}
use Rattle.theory.specs.Shape.Letters.{Known, AllKnown, known_terms}
use Rattle.theory.specs.Values.Vectors.{by-components, -v-is}
use Rattle.theory.specs.Values.Expressions.{scalar_e, A, letters, terms_e, same_vectors, expanding}
use Rattle.theory.proofs.Values.Terms.{insert_value}
use Rattle.theory.specs.Reduction.Letters.{Leaves, leaves_imply, LetterIn, LettersIn, letters_in}
use Rattle.theory.proofs.Reduction.Products.{Denotes}
use Rattle.theory.proofs.Reduction.Operators.{denotes_as, sum_denotes, negate_denotes, times_denotes, dot_denotes, wedge_denotes, triple_denotes}

-- ════ leaves

-- a letter alone is a form in shape
pub letter_form_lem : (n kind : ℕ) → FormInShape (letter_form n kind)
unfolding letter_form all ascend is_zero coef_within vector_letters_of scalar_letters_of vector_letters scalar_letters letters_fit factor_in_shape part_in_shape term_in_shape part_fits term_kind
letter_form_lem n kind = go (eqb kind scalar)
  where
    go : (b : Bool) → FormInShape (when b then record { kind = scalar; terms = plus ((n ∷ []) ∷ []) [] ∷ [] } else record { kind = vector; terms = plus [] (n ∷ []) ∷ [] })
    go true = record { kind = omega arith; count = omega arith; terms = tt; parts = tt; ascending = tt }
    go false = record { kind = omega arith; count = omega arith; terms = tt; parts = tt; ascending = tt }

-- a letter of the table denotes its value
pub letter_denotes : (table : List ℕ) (n kind : ℕ) → Known table kind n → kind ≤ 1 → Denotes table (letter_form n kind) kind (λ σ. expr_value σ (Letter n kind))
unfolding letter_form expr_value value expanding
letter_denotes table n zero known h = record {
  kind_is = refl;
  in_shape = letter_form_lem n zero;
  known = (record { factors = ((known, tt), tt); part = tt }, tt);
  value_is = λ σ. same_vectors (terms_e (plus ((0 ∷ []) ∷ []) [] ∷ [])) (scalar_e A.x) (letters (σ n ∷ [])) (refl, refl, refl);
}
letter_denotes table n (suc zero) known h = record {
  kind_is = refl;
  in_shape = letter_form_lem n (suc zero);
  known = (record { factors = tt; part = (known, tt) }, tt);
  value_is = λ σ. same_vectors (terms_e (plus [] (0 ∷ []) ∷ [])) A (letters (σ n ∷ [])) (refl, refl, refl);
}
letter_denotes table n (suc (suc kind)) known h = absurd (omega arith)

-- a number as a term
abbrev pub alone : ℤ → Term
alone k = record { coef = k; factors = []; part = [] }

-- a constant that is not 0 is a term in shape
constant-in_shape : (k : ℤ) → NonZero k → T (coef_within k) → T (term_in_shape (alone k))
unfolding shapes
constant-in_shape k h w = term-closes (alone k) (record {
  nonzero = h;
  within = w;
  in_order = record { part = tt; each = tt; order = tt };
  fits = record { lengths = tt; part = omega arith; vectors = omega arith; scalars = omega arith; kind_is = refl };
})

constant_value : (σ : ℕ → Vec) (k : ℤ) → terms_value σ (keep (alone k) []) ≡ scalar_value k
unfolding insert terms_value term_value factors_value part_value
constant_value σ k =
    insert_value σ (alone k) [] ∙ by-components first other other
  where
    first : ◌≡◌ {A = ℤ} ((k *ℤ pos 1) *ℤ pos 1 +ℤ pos 0) k
    first = simp (I.+ℤ_idr, R.*ℤ-1)

    other : ◌≡◌ {A = ℤ} ((k *ℤ pos 1) *ℤ pos 0 +ℤ pos 0) (pos 0)
    other = simp (I.+ℤ_idr, I.*ℤ-zero)

-- so it is a form in shape
one_constant : (k : ℤ) → NonZero k → T (coef_within k) → FormInShape (record { kind = scalar; terms = alone k ∷ [] })
unfolding all ascend part_fits shapes
one_constant k h w =
    record { kind = omega arith; count = omega arith; terms = T_all term_in_shape (alone k ∷ []) (constant-in_shape k h w, tt); parts = tt; ascending = tt }

-- a constant within is a form in shape, the empty one where it is 0
pub constant_form_lem : (k : ℤ) → T (coef_within k) → FormInShape (record { kind = scalar; terms = keep (alone k) [] })
unfolding keep is_zero all ascend
constant_form_lem (pos zero) w = record { kind = omega arith; count = omega arith; terms = tt; parts = tt; ascending = tt }
constant_form_lem (pos (suc n)) w = one_constant (pos (suc n)) (pos-nonzero n) w
constant_form_lem (negsuc n) w = one_constant (negsuc n) (negsuc-nonzero n) w

constant_known : (table : List ℕ) (k : ℤ) → AllKnown table (keep (alone k) [])
unfolding keep is_zero
constant_known table (pos zero) = tt
constant_known table (pos (suc n)) = (record { factors = tt; part = tt }, tt)
constant_known table (negsuc n) = (record { factors = tt; part = tt }, tt)

constant_denotes : (table : List ℕ) (k : ℤ) (f : Form) → constant_form k ≡ given f → Denotes table f scalar (λ σ. scalar_value k)
unfolding constant_form value
constant_denotes table k f e =
    let w = required (coef_within k) 9 _ f e in
    subst (λ (x : Form). Denotes table x scalar (λ σ. scalar_value k)) (given_same w.1) (record {
      kind_is = refl;
      in_shape = constant_form_lem k w.0;
      known = constant_known table k;
      value_is = λ σ. constant_value σ k;
    })

-- ════ trees

-- `leaf` gives the form of a letter, and ρ the assignment under which a letter's value is that form's
module _ (table : List ℕ) (leaf : (n kind : ℕ) → Form) (ρ : (ℕ → Vec) → ℕ → Vec) where
  -- the form of a letter denotes the letter's value
  abbrev pub LeafDenotes : (n kind : ℕ) → Type 0
  LeafDenotes n kind = Denotes table (leaf n kind) kind (λ σ. expr_value (ρ σ) (Letter n kind))

  -- where the forms of its letters denote their values, a worked expression denotes its value
  pub work_with_denotes : (e : Expr) → Leaves LeafDenotes e → (f : Form) → work_with leaf e ≡ given f → Denotes table f (expr_kind e) (λ σ. expr_value (ρ σ) e)
  unfolding work_with expr_kind expr_value
  work_with_denotes (Letter n kind) l f h =
      subst (λ (x : Form). Denotes table x kind (λ σ. expr_value (ρ σ) (Letter n kind))) (given_same h) l
  work_with_denotes (Constant k) l f h = constant_denotes table k f h
  work_with_denotes (Sum e g) l f h =
      let x = bound (work_with leaf e) _ f h in
      let y = bound (work_with leaf g) _ f x.2 in
      sum_denotes (work_with_denotes e l.0 x.0 x.1) (work_with_denotes g l.1 y.0 y.1) f y.2
  work_with_denotes (Difference e g) l f h =
      let x = bound (work_with leaf e) _ f h in
      let y = bound (work_with leaf g) _ f x.2 in
      denotes_as (sum_denotes (work_with_denotes e l.0 x.0 x.1) (negate_denotes (work_with_denotes g l.1 y.0 y.1)) f y.2)
      (λ σ. sym (-v-is (expr_value (ρ σ) e) (expr_value (ρ σ) g)))
  work_with_denotes (Negation e) l f h =
      let x = bound (work_with leaf e) _ f h in
      subst (λ (r : Form). Denotes table r (expr_kind e) (λ σ. negsuc 0 • expr_value (ρ σ) e)) (given_same x.2)
      (negate_denotes (work_with_denotes e l x.0 x.1))
  work_with_denotes (Times e g) l f h =
      let x = bound (work_with leaf e) _ f h in
      let y = bound (work_with leaf g) _ f x.2 in
      times_denotes (work_with_denotes e l.0 x.0 x.1) (work_with_denotes g l.1 y.0 y.1) f y.2
  work_with_denotes (Dot e g) l f h =
      let x = bound (work_with leaf e) _ f h in
      let y = bound (work_with leaf g) _ f x.2 in
      dot_denotes (work_with_denotes e l.0 x.0 x.1) (work_with_denotes g l.1 y.0 y.1) f y.2
  work_with_denotes (Wedge e g) l f h =
      let x = bound (work_with leaf e) _ f h in
      let y = bound (work_with leaf g) _ f x.2 in
      wedge_denotes (work_with_denotes e l.0 x.0 x.1) (work_with_denotes g l.1 y.0 y.1) f y.2
  work_with_denotes (Triple e g k) l f h =
      let x = bound (work_with leaf e) _ f h in
      let y = bound (work_with leaf g) _ f x.2 in
      let z = bound (work_with leaf k) _ f y.2 in
      triple_denotes (work_with_denotes e l.0 x.0 x.1) (work_with_denotes g l.1 y.0 y.1) (work_with_denotes k l.2 z.0 z.1) f z.2

-- a worked expression denotes its value
pub work_denotes : (table : List ℕ) (e : Expr) → LettersIn table e → (f : Form) → work e ≡ given f → Denotes table f (expr_kind e) (λ σ. expr_value σ e)
work_denotes table e l =
    work_with_denotes table letter_form (λ σ. σ) e
    (leaves_imply (LetterIn table) (LeafDenotes table letter_form (λ σ. σ)) (λ n kind h. letter_denotes table n kind h.0 h.1) e l)

-- ════ the theorem

-- what reduction gives: the form of a tree that was read, with its value under every assignment, in shape, its letters in the table
pub record ReducedTo (table expr : List ℕ) (f : Form) : Type 0 where
  pub tree : Expr
  pub read : read_expr table expr ≡ given tree
  pub same_value : (σ : ℕ → Vec) → value σ f ≡ expr_value σ tree
  pub in_shape : FormInShape f
  pub letters_tested : test_terms table f.terms ≡ given tt

-- P2: an expression that is taken has, under every assignment of integers, the value of its form; the form is in shape and its letters are in the table
pub reduction_keeps_value : (table expr : List ℕ) (f : Form) → T (good_table table) → reduced table expr ≡ given f → ReducedTo table expr f
unfolding reduced
reduction_keeps_value table expr f good e =
    let w = bound (read_expr table expr) work f e in
    let d = work_denotes table w.0 (letters_in table good expr w.0 w.1) f w.2 in
    record {
      tree = w.0;
      read = w.1;
      same_value = d.value_is;
      in_shape = d.in_shape;
      letters_tested = known_terms table f.terms d.known;
    }
