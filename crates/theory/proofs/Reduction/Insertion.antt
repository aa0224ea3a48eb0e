-- Insertion replaces (K1): the tree of a form has the form's value, kind and letters; worked with a form for one of its letters, it has the old form's value
-- where the letter has the inserted form's. Assumes nothing.
use Rattle.std.specs.Prelude.{◌≡◌, Bool, ℤ, pos, ◌*ℤ◌, length}
use Rattle.std.proofs.Math.Path.{refl, sym, ap, subst}
use Rattle.std.proofs.Common.{◌∙◌, arith, eqb-true, ne_eqb}
use Rattle.std.proofs.Math.Bool.{true, false}
use mathlib.Core.List.{List, [], ◌∷◌}
use Prim.Native.Nat.{ℕ, zero, suc}
use Rattle.std.proofs.Math.IntN as I
use Rattle.std.proofs.Math.Dec.{eqb}
use Rattle.algebra.specs.Integers as R
use Rattle.specification.specs.Results.{given, when◌then◌else◌}
use Rattle.specification.specs.Values.{Vec, scalar_value, ◌+v◌, ◌•◌, wedge}
use Rattle.specification.specs.Letters.{scalar, vector, kind_of, test_letter}
use Rattle.specification.specs.Terms.{Term, Form}
use Rattle.specification.specs.Records.{test_terms}
use Rattle.specification.specs.Expressions.{Expr, Letter, Constant, Sum, Times, Wedge}
use Rattle.specification.specs.Reduction.{letter_form}
use Rattle.specification.specs.Evaluation.{factor_value, factors_value, part_value, term_value, terms_value, value, expr_kind, expr_value}
use Rattle.specification.specs.Insertion.{factor_tree, times_factors, times_part, term_tree, plus_terms, leaf_with, insert_terms, insert_form, replaced}
use Rattle.theory.specs.Tests.{given_same}
use Rattle.theory.specs.Elements.{All}
use Rattle.theory.specs.Order.{monomial}
use Rattle.theory.specs.Shape.Terms.{kind_of_part}
use Rattle.theory.specs.Shape.Forms.{FormInShape, form-fits}
use Rattle.theory.specs.Shape.Letters.{Known, known_is, FactorKnown, MonomialKnown, AllKnown, terms_known, known_terms}
use Rattle.theory.specs.Values.Vectors.{by-components, +v_assoc, +v_zero}
use Rattle.theory.specs.Reduction.Letters.{LetterIn, LettersIn, leaves_imply}
use Rattle.theory.proofs.Reduction.Products.{Denotes}
use Rattle.theory.proofs.Reduction.Work.{letter_denotes, LeafDenotes, work_with_denotes}

-- ════ the tree of a form: its kind

factor_tree-kind : (f : List ℕ) → expr_kind (factor_tree f) ≡ scalar
unfolding factor_tree expr_kind
factor_tree-kind [] = refl
factor_tree-kind (a ∷ []) = refl
factor_tree-kind (a ∷ b ∷ []) = refl
factor_tree-kind (a ∷ b ∷ c ∷ f) = refl

-- a scalar times a tree has the tree's kind
times-kind : (e f : Expr) → expr_kind e ≡ scalar → expr_kind (Times e f) ≡ expr_kind f
unfolding expr_kind
times-kind e f h = ap (λ (k : ℕ). when eqb k scalar then expr_kind f else k) h

times_factors-kind : (e : Expr) (fs : List (List ℕ)) → expr_kind e ≡ scalar → expr_kind (times_factors e fs) ≡ scalar
unfolding times_factors
times_factors-kind e [] h = h
times_factors-kind e (f ∷ fs) h = times_factors-kind (Times e (factor_tree f)) fs (times-kind e (factor_tree f) h ∙ factor_tree-kind f)

times_part-kind : (e : Expr) (p : List ℕ) → expr_kind e ≡ scalar → expr_kind (times_part e p) ≡ kind_of_part p
unfolding times_part expr_kind
times_part-kind e [] h = h
times_part-kind e (a ∷ []) h = times-kind e (Letter a vector) h
times_part-kind e (a ∷ b ∷ p) h =
    times-kind e (Wedge (Letter a vector) (Letter b vector)) h
    ∙ ap (λ (t : Bool). when t then scalar else vector) (sym (ne_eqb (length (a ∷ b ∷ p)) 0 (λ z. omega arith)))

-- coefficient and factors make a scalar
scalar-kind : (t : Term) → expr_kind (times_factors (Constant t.coef) t.factors) ≡ scalar
unfolding expr_kind
scalar-kind t = times_factors-kind (Constant t.coef) t.factors refl

plus_terms-kind : (e : Expr) (ts : List Term) → expr_kind (plus_terms e ts) ≡ expr_kind e
unfolding plus_terms expr_kind
plus_terms-kind e [] = refl
plus_terms-kind e (t ∷ ts) = plus_terms-kind (Sum e (term_tree t)) ts

-- the tree of a form in shape has the form's kind
pub form-tree-kind : (kind : ℕ) (t : Term) (ts : List Term) → FormInShape (record { kind = kind; terms = t ∷ ts }) → expr_kind (plus_terms (term_tree t) ts) ≡ kind
unfolding term_tree
form-tree-kind kind t ts s =
    plus_terms-kind (term_tree t) ts ∙ times_part-kind _ t.part (scalar-kind t) ∙ (form-fits (record { kind = kind; terms = t ∷ ts }) s).0.kind_is

-- ════ its value

times-scalars : (k l : ℤ) → k • scalar_value l ≡ scalar_value (k *ℤ l)
times-scalars k l = by-components refl (I.*ℤ-zero k) (I.*ℤ-zero k)

module _ (σ : ℕ → Vec) where
  factor_tree_value : (f : List ℕ) → expr_value σ (factor_tree f) ≡ scalar_value (factor_value σ f)
  unfolding factor_tree expr_value factor_value
  factor_tree_value [] = refl
  factor_tree_value (a ∷ []) = refl
  factor_tree_value (a ∷ b ∷ []) = refl
  factor_tree_value (a ∷ b ∷ c ∷ f) = refl

  -- a scalar times a tree
  times-tree_value : (e f : Expr) → expr_kind e ≡ scalar → expr_value σ (Times e f) ≡ (expr_value σ e).x • expr_value σ f
  unfolding expr_value
  times-tree_value e f h = ap (λ (k : ℕ). when eqb k scalar then (expr_value σ e).x • expr_value σ f else (expr_value σ f).x • expr_value σ e) h

  times_factors_value : (e : Expr) (fs : List (List ℕ)) (k : ℤ) → expr_kind e ≡ scalar → expr_value σ e ≡ scalar_value k
      → expr_value σ (times_factors e fs) ≡ scalar_value (k *ℤ factors_value σ fs)
  unfolding times_factors factors_value
  times_factors_value e [] k h v = v ∙ ap scalar_value (sym (R.*ℤ-1 k))
  times_factors_value e (f ∷ fs) k h v =
      times_factors_value (Times e (factor_tree f)) fs (k *ℤ factor_value σ f) (times-kind e (factor_tree f) h ∙ factor_tree-kind f)
      (times-tree_value e (factor_tree f) h ∙ (λ i. (v i).x • factor_tree_value f i) ∙ times-scalars k (factor_value σ f))
      ∙ ap scalar_value (R.*ℤ_assoc k (factor_value σ f) (factors_value σ fs))

  times_part_value : (e : Expr) (p : List ℕ) (k : ℤ) → expr_kind e ≡ scalar → expr_value σ e ≡ scalar_value k → expr_value σ (times_part e p) ≡ k • part_value σ p
  unfolding times_part expr_value part_value
  times_part_value e [] k h v = v ∙ ap scalar_value (sym (R.*ℤ-1 k)) ∙ sym (times-scalars k (pos 1))
  times_part_value e (a ∷ []) k h v = times-tree_value e (Letter a vector) h ∙ ap (λ (u : Vec). u.x • σ a) v
  times_part_value e (a ∷ b ∷ p) k h v = times-tree_value e (Wedge (Letter a vector) (Letter b vector)) h ∙ ap (λ (u : Vec). u.x • wedge (σ a) (σ b)) v

  -- the tree of a term has the term's value
  pub term_tree_value : (t : Term) → expr_value σ (term_tree t) ≡ term_value σ t
  unfolding term_tree term_value expr_kind expr_value
  term_tree_value t =
      times_part_value _ t.part (t.coef *ℤ factors_value σ t.factors) (scalar-kind t)
      (times_factors_value (Constant t.coef) t.factors t.coef refl refl)

  plus_terms_value : (e : Expr) (ts : List Term) → expr_value σ (plus_terms e ts) ≡ expr_value σ e +v terms_value σ ts
  unfolding plus_terms expr_value terms_value
  plus_terms_value e [] = sym (+v_zero (expr_value σ e))
  plus_terms_value e (t ∷ ts) =
      plus_terms_value (Sum e (term_tree t)) ts
      ∙ ap (λ (v : Vec). (expr_value σ e +v v) +v terms_value σ ts) (term_tree_value t)
      ∙ +v_assoc (expr_value σ e) (term_value σ t) (terms_value σ ts)

  -- the tree of a form has the form's value
  pub form-tree_value : (t : Term) (ts : List Term) → expr_value σ (plus_terms (term_tree t) ts) ≡ terms_value σ (t ∷ ts)
  unfolding terms_value
  form-tree_value t ts = plus_terms_value (term_tree t) ts ∙ ap (λ (v : Vec). v +v terms_value σ ts) (term_tree_value t)

-- ════ its letters

module _ (table : List ℕ) where
  factor_tree-letters : (f : List ℕ) → FactorKnown table f → LettersIn table (factor_tree f)
  unfolding factor_tree
  factor_tree-letters [] h = tt
  factor_tree-letters (a ∷ []) h = (h.0, omega arith)
  factor_tree-letters (a ∷ b ∷ []) h = ((h.0, omega arith), (h.1.0, omega arith))
  factor_tree-letters (a ∷ b ∷ c ∷ f) h =
      let k : All (Known table vector) (a ∷ b ∷ c ∷ f) =
      subst (λ (one : Bool). All (Known table (when one then scalar else vector)) (a ∷ b ∷ c ∷ f)) (ne_eqb (length (a ∷ b ∷ c ∷ f)) 1 (λ z. omega arith)) h in
      ((k.0, omega arith), (k.1.0, omega arith), (k.1.1.0, omega arith))

  times_factors-letters : (e : Expr) (fs : List (List ℕ)) → LettersIn table e → All (FactorKnown table) fs → LettersIn table (times_factors e fs)
  unfolding times_factors
  times_factors-letters e [] l h = l
  times_factors-letters e (f ∷ fs) l h = times_factors-letters (Times e (factor_tree f)) fs (l, factor_tree-letters f h.0) h.1

  times_part-letters : (e : Expr) (p : List ℕ) → LettersIn table e → All (Known table vector) p → LettersIn table (times_part e p)
  unfolding times_part
  times_part-letters e [] l h = l
  times_part-letters e (a ∷ []) l h = (l, (h.0, omega arith))
  times_part-letters e (a ∷ b ∷ p) l h = (l, ((h.0, omega arith), (h.1.0, omega arith)))

  term_tree-letters : (t : Term) → MonomialKnown table (monomial t) → LettersIn table (term_tree t)
  unfolding term_tree
  term_tree-letters t h = times_part-letters _ t.part (times_factors-letters (Constant t.coef) t.factors tt h.factors) h.part

  plus_terms-letters : (e : Expr) (ts : List Term) → LettersIn table e → AllKnown table ts → LettersIn table (plus_terms e ts)
  unfolding plus_terms
  plus_terms-letters e [] l h = l
  plus_terms-letters e (t ∷ ts) l h = plus_terms-letters (Sum e (term_tree t)) ts (l, term_tree-letters t h.0) h.1

  -- the letters of the tree of a form are in the table, where the form's are
  pub form-tree-letters : (t : Term) (ts : List Term) → AllKnown table (t ∷ ts) → LettersIn table (plus_terms (term_tree t) ts)
  form-tree-letters t ts h = plus_terms-letters (term_tree t) ts (term_tree-letters t h.0) h.1

-- ════ the letter replaced

-- a vector form in shape, its letters in the table, for a vector letter of the table
module _ (table : List ℕ) (letter : ℕ) (inserted : Form) (is_vector : Known table vector letter)
    (vector_form : inserted.kind ≡ vector) (shape : FormInShape inserted) (known : AllKnown table inserted.terms) where
  -- the assignment under which the letter has the inserted form's value
  abbrev pub replacing : (ℕ → Vec) → ℕ → Vec
  replacing σ = replaced σ letter (value σ inserted)

  -- the inserted form denotes the letter's value, and every other letter has its own
  pub leaf_with_denotes : (n kind : ℕ) → LetterIn table n kind → LeafDenotes table (leaf_with letter inserted) replacing n kind
  unfolding leaf_with replaced expr_value
  leaf_with_denotes n zero l = go (eqb n letter) refl
    where
      go : (b : Bool) → eqb n letter ≡ b → Denotes table (letter_form n scalar) scalar (λ σ. scalar_value (when b then value σ inserted else σ n).x)
      go true e =
          let same : kind_of table n ≡ kind_of table letter = ap (kind_of table) (eqb-true n letter e) in
          absurd (omega (arith, same, (known_is table scalar n l.0).1, (known_is table vector letter is_vector).1))
      go false e = letter_denotes table n scalar l.0 l.1
  leaf_with_denotes n (suc zero) l = go (eqb n letter)
    where
      go : (b : Bool) → Denotes table (when b then inserted else letter_form n vector) vector (λ σ. when b then value σ inserted else σ n)
      go true = record { kind_is = vector_form; in_shape = shape; known = known; value_is = λ σ. refl }
      go false = letter_denotes table n vector l.0 l.1
  leaf_with_denotes n (suc (suc kind)) l = absurd (omega (arith, l.1))

  -- a form with another for one of its letters denotes the old form's value where the letter has the other's
  insert_denotes : (kind : ℕ) (ts : List Term) (new : Form) → FormInShape (record { kind = kind; terms = ts }) → AllKnown table ts
      → insert_terms (leaf_with letter inserted) kind ts ≡ given new → Denotes table new kind (λ σ. terms_value (replacing σ) ts)
  unfolding insert_terms value terms_value
  insert_denotes kind [] new s k e =
      subst (λ (f : Form). Denotes table f kind (λ σ. scalar_value (pos 0))) (given_same e)
      (record { kind_is = refl; in_shape = s; known = tt; value_is = λ σ. refl })
  insert_denotes kind (t ∷ ts) new s k e =
      let tree = plus_terms (term_tree t) ts in
      let d = work_with_denotes table (leaf_with letter inserted) replacing tree
      (leaves_imply (LetterIn table) (LeafDenotes table (leaf_with letter inserted) replacing) leaf_with_denotes tree (form-tree-letters table t ts k)) new e in
      record {
        kind_is = d.kind_is ∙ form-tree-kind kind t ts s;
        in_shape = d.in_shape;
        known = d.known;
        value_is = λ σ. d.value_is σ ∙ form-tree_value (replacing σ) t ts;
      }

-- ════ the theorem

-- what insertion gives: the old form's value where the letter has the inserted form's value, under every assignment; a form of the old one's kind, in shape,
-- its letters in the table
pub record InsertedInto (table : List ℕ) (letter : ℕ) (inserted form new : Form) : Type 0 where
  pub same_value : (σ : ℕ → Vec) → value σ new ≡ value (replaced σ letter (value σ inserted)) form
  pub same_kind : new.kind ≡ form.kind
  pub in_shape : FormInShape new
  pub letters_tested : test_terms table new.terms ≡ given tt

-- K1: a vector form put in for a vector letter of a form: "Its value is the old form's where that letter has the inserted form's value"
pub insertion_replaces : (table : List ℕ) (letter : ℕ) (inserted form new : Form) → FormInShape form → FormInShape inserted
    → test_terms table form.terms ≡ given tt → test_terms table inserted.terms ≡ given tt → test_letter table vector letter ≡ given tt
    → inserted.kind ≡ vector → insert_form letter inserted form ≡ given new → InsertedInto table letter inserted form new
unfolding insert_form value
insertion_replaces table letter inserted form new s t hs ht hl k e =
    let d = insert_denotes table letter inserted hl k t (terms_known table inserted.terms ht) form.kind form.terms new s
    (terms_known table form.terms hs) e in
    record { same_value = d.value_is; same_kind = d.kind_is; in_shape = d.in_shape; letters_tested = known_terms table new.terms d.known }
