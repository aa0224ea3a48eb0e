-- K4 against what was: with the tests of all pairs, made before it was seen whether one vanishes. What was not refused 8 or 9 is answered alike, so every
-- expression and every insertion that was taken is taken with the same form. Assumes nothing.
use Rattle.std.specs.Prelude.{◌≡◌, refl, ◌⊎◌, Bool, true, false, ◌&&◌, ◌||◌, ℕ, ◌*◌, T, leb}
use Rattle.std.proofs.Common.{sym, ◌∙◌, ap, inl, inr}
use Rattle.std.proofs.Math.Path.{subst}
use mathlib.Core.List.{List, [], ◌∷◌, flat_map}
use Rattle.std.proofs.Math.Dec.{eqb}
use Rattle.std.proofs.Math.ListN.{length}
use Rattle.specification.specs.Lists.{all}
use Rattle.specification.specs.Letters.{scalar, vector}
use Rattle.specification.specs.Results.{Result, refused, given, ◌>>=◌, ◌>>◌, require, when◌then◌else◌}
use Rattle.specification.specs.Terms.{Term, Form, gather, letters_fit, term_within, within}
use Rattle.specification.specs.Expressions.{Expr, Letter, Constant, Sum, Difference, Negation, Times, Dot, Wedge, Triple, read_expr}
use Rattle.specification.specs.Reduction.{times_parts, dot_parts, wedge_parts, pair_terms, pairs_of, product_terms, product, times_forms, dot_forms, wedge_forms, triple_forms}
use Rattle.specification.specs.Reduction.{negate_form, sum_forms, letter_form, constant_form, work_with, reduced}
use Rattle.specification.specs.Insertion.{term_tree, plus_terms, leaf_with, insert_terms, insert_form, take_insertion, with_inserted}
use Rattle.theory.specs.Tests.{refused≢given, passes}
use Rattle.theory.specs.Gathering.Staying.{gather-staying}
use Rattle.theory.proofs.Reduction.Products.{terms_that_stay}
use Rattle.theory.specs.Reduction.Pairs.{pair_letters_fit, pair_coef_fits, MakesModest, times-modest, dot-modest, wedge-modest, letters-stay, coefs-stay}

-- ════ the definition before K4

-- "A pair's letters and coefficient are tested before it is seen whether it vanishes"
product_before : (kind : ℕ) (parts : List ℕ → List ℕ → List Term) (f g : Form) → Result Form
product_before kind parts f g = do
  require (leb (length f.terms * length g.terms) 48) 7
  require (all pair_letters_fit (pairs_of f.terms g.terms)) 8
  require (all pair_coef_fits (pairs_of f.terms g.terms)) 9
  within kind (gather (flat_map (pair_terms parts) (pairs_of f.terms g.terms)))

times_before : Form → Form → Result Form
times_before f g = do
  require (eqb f.kind scalar || eqb g.kind scalar) 6
  product_before (when eqb f.kind scalar then g.kind else f.kind) times_parts f g

dot_before : Form → Form → Result Form
dot_before f g = do
  require (eqb f.kind vector && eqb g.kind vector) 6
  product_before scalar dot_parts f g

wedge_before : Form → Form → Result Form
wedge_before f g = do
  require (eqb f.kind vector && eqb g.kind vector) 6
  product_before vector wedge_parts f g

triple_before : Form → Form → Form → Result Form
triple_before f g h = do
  require (eqb f.kind vector && eqb g.kind vector && eqb h.kind vector) 6
  fg ← wedge_before f g
  dot_before fg h

-- a tree worked with these
pub work_before : (leaf : (n kind : ℕ) → Form) → Expr → Result Form
work_before leaf (Letter n kind) = given (leaf n kind)
work_before leaf (Constant k) = constant_form k
work_before leaf (Sum e f) = do
  x ← work_before leaf e
  y ← work_before leaf f
  sum_forms x y
work_before leaf (Difference e f) = do
  x ← work_before leaf e
  y ← work_before leaf f
  sum_forms x (negate_form y)
work_before leaf (Negation e) = do
  x ← work_before leaf e
  given (negate_form x)
work_before leaf (Times e f) = do
  x ← work_before leaf e
  y ← work_before leaf f
  times_before x y
work_before leaf (Dot e f) = do
  x ← work_before leaf e
  y ← work_before leaf f
  dot_before x y
work_before leaf (Wedge e f) = do
  x ← work_before leaf e
  y ← work_before leaf f
  wedge_before x y
work_before leaf (Triple e f g) = do
  x ← work_before leaf e
  y ← work_before leaf f
  z ← work_before leaf g
  triple_before x y z

-- reduction
pub reduced_before : (table expr : List ℕ) → Result Form
reduced_before table expr = do
  tree ← read_expr table expr
  work_before letter_form tree

-- and insertion
insert_before : (leaf : (n kind : ℕ) → Form) (kind : ℕ) (terms : List Term) → Result Form
insert_before leaf kind [] = given (record { kind = kind; terms = [] })
insert_before leaf kind (t ∷ ts) = work_before leaf (plus_terms (term_tree t) ts)

pub inserted_before : (table form : List ℕ) (letter : ℕ) (inserted : List ℕ) → Result Form
inserted_before table form letter inserted = do
  (f, g) ← take_insertion table form letter inserted
  insert_before (leaf_with letter g) f.kind f.terms

-- ════ what moved

module _ {A : Type 0} where
  -- the answer is the same, or it was 8 or 9
  abbrev pub Unless8or9 : (before after : Result A) → Type 0
  Unless8or9 before after = (before ≡ after) ⊎ ((before ≡ refused 8) ⊎ (before ≡ refused 9))

  same : {x : Result A} → Unless8or9 x x
  same = inl refl

  -- so what was given is given
  given_alike : {x y : Result A} {a : A} → Unless8or9 x y → x ≡ given a → y ≡ given a
  given_alike (inl e) g = sym e ∙ g
  given_alike (inr (inl e)) g = absurd (refused≢given (sym e ∙ g))
  given_alike (inr (inr e)) g = absurd (refused≢given (sym e ∙ g))

  -- a test in front
  behind_test : (b : Bool) (n : ℕ) {x y : Result A} → Unless8or9 x y → Unless8or9 (require b n >> x) (require b n >> y)
  behind_test true n h = h
  behind_test false n h = same

-- one after the other
in-turn : {A B : Type 0} (x y : Result A) (k l : A → Result B) → Unless8or9 x y → ((a : A) → Unless8or9 (k a) (l a)) → Unless8or9 (x >>= k) (y >>= l)
in-turn x y k l (inl e) h = subst (λ (z : Result _). Unless8or9 (x >>= k) (z >>= l)) e (go x)
  where
    go : (x : Result _) → Unless8or9 (x >>= k) (x >>= l)
    go (refused n) = same
    go (given a) = h a
in-turn x y k l (inr (inl e)) h = inr (inl (ap (λ (z : Result _). z >>= k) e))
in-turn x y k l (inr (inr e)) h = inr (inr (ap (λ (z : Result _). z >>= k) e))

-- three tests, of which the second and the third refuse less
fewer_refused : (a b b' c c' : Bool) (r : Result Form) → (T b → T b') → (T c → T c')
    → Unless8or9 (require a 7 >> (require b 8 >> (require c 9 >> r))) (require a 7 >> (require b' 8 >> (require c' 9 >> r)))
fewer_refused false b b' c c' r f g = same
fewer_refused true false b' c c' r f g = inr (inl refl)
fewer_refused true true b' false c' r f g = inr (inr refl)
fewer_refused true true b' true c' r f g = inl (sym (passes b' 8 (require c' 9 >> r) (f tt) ∙ passes c' 9 r (g tt)))

module _ (f g : Form) where
  product-moved : (kind : ℕ) (parts : List ℕ → List ℕ → List Term) → MakesModest parts → Unless8or9 (product_before kind parts f g) (product kind parts f g)
  unfolding product_before product product_terms
  product-moved kind parts modest =
      let ps : List (Term × Term) = pairs_of f.terms g.terms in
      let ts : List Term = product_terms parts f.terms g.terms in
      subst (λ (us : List Term). Unless8or9 (require (leb (length f.terms * length g.terms) 48) 7 >> (require (all pair_letters_fit ps) 8
      >> (require (all pair_coef_fits ps) 9 >> within kind us))) (product kind parts f g))
      (ap gather (terms_that_stay parts f.terms g.terms) ∙ gather-staying (flat_map (pair_terms parts) ps))
      (fewer_refused (leb (length f.terms * length g.terms) 48) (all pair_letters_fit ps) (all letters_fit ts) (all pair_coef_fits ps) (all term_within ts)
      (within kind (gather ts)) (letters-stay parts modest ps) (coefs-stay parts modest ps))

  times-moved : Unless8or9 (times_before f g) (times_forms f g)
  unfolding times_before times_forms
  times-moved =
      behind_test (eqb f.kind scalar || eqb g.kind scalar) 6 (product-moved (when eqb f.kind scalar then g.kind else f.kind) times_parts times-modest)

  dot-moved : Unless8or9 (dot_before f g) (dot_forms f g)
  unfolding dot_before dot_forms
  dot-moved = behind_test (eqb f.kind vector && eqb g.kind vector) 6 (product-moved scalar dot_parts dot-modest)

  wedge-moved : Unless8or9 (wedge_before f g) (wedge_forms f g)
  unfolding wedge_before wedge_forms
  wedge-moved = behind_test (eqb f.kind vector && eqb g.kind vector) 6 (product-moved vector wedge_parts wedge-modest)

triple-moved : (f g h : Form) → Unless8or9 (triple_before f g h) (triple_forms f g h)
unfolding triple_before triple_forms
triple-moved f g h =
    behind_test (eqb f.kind vector && eqb g.kind vector && eqb h.kind vector) 6
    (in-turn (wedge_before f g) (wedge_forms f g) (λ x. dot_before x h) (λ x. dot_forms x h) (wedge-moved f g) (λ x. dot-moved x h))

-- an operator with two operands
two_in-turn : (x x' y y' : Result Form) (op op' : Form → Form → Result Form) → Unless8or9 x x' → Unless8or9 y y' → ((f g : Form) → Unless8or9 (op f g) (op' f g))
    → Unless8or9 (x >>= λ f. y >>= λ g. op f g) (x' >>= λ f. y' >>= λ g. op' f g)
two_in-turn x x' y y' op op' h k o =
    in-turn x x' (λ f. y >>= λ g. op f g) (λ f. y' >>= λ g. op' f g) h (λ f. in-turn y y' (op f) (op' f) k (o f))

-- ════ the theorems

-- every tree, whatever the forms of its letters
pub work-moved : (leaf : (n kind : ℕ) → Form) (e : Expr) → Unless8or9 (work_before leaf e) (work_with leaf e)
unfolding work_before work_with
work-moved leaf (Letter n kind) = same
work-moved leaf (Constant k) = same
work-moved leaf (Sum e f) =
    two_in-turn (work_before leaf e) (work_with leaf e) (work_before leaf f) (work_with leaf f) sum_forms sum_forms (work-moved leaf e) (work-moved leaf f) (λ x y. same)
work-moved leaf (Difference e f) =
    two_in-turn (work_before leaf e) (work_with leaf e) (work_before leaf f) (work_with leaf f) (λ x y. sum_forms x (negate_form y)) (λ x y. sum_forms x (negate_form y))
    (work-moved leaf e) (work-moved leaf f) (λ x y. same)
work-moved leaf (Negation e) =
    in-turn (work_before leaf e) (work_with leaf e) (λ x. given (negate_form x)) (λ x. given (negate_form x)) (work-moved leaf e) (λ x. same)
work-moved leaf (Times e f) =
    two_in-turn (work_before leaf e) (work_with leaf e) (work_before leaf f) (work_with leaf f) times_before times_forms (work-moved leaf e) (work-moved leaf f) times-moved
work-moved leaf (Dot e f) =
    two_in-turn (work_before leaf e) (work_with leaf e) (work_before leaf f) (work_with leaf f) dot_before dot_forms (work-moved leaf e) (work-moved leaf f) dot-moved
work-moved leaf (Wedge e f) =
    two_in-turn (work_before leaf e) (work_with leaf e) (work_before leaf f) (work_with leaf f) wedge_before wedge_forms (work-moved leaf e) (work-moved leaf f) wedge-moved
work-moved leaf (Triple e f g) =
    in-turn (work_before leaf e) (work_with leaf e) (λ x. work_before leaf f >>= λ y. work_before leaf g >>= λ z. triple_before x y z)
    (λ x. work_with leaf f >>= λ y. work_with leaf g >>= λ z. triple_forms x y z) (work-moved leaf e)
    (λ x. two_in-turn (work_before leaf f) (work_with leaf f) (work_before leaf g) (work_with leaf g) (triple_before x) (triple_forms x) (work-moved leaf f) (work-moved leaf g)
    (triple-moved x))

-- reduction: what was not refused 8 or 9 is answered alike
pub reduction_moved : (table expr : List ℕ) → Unless8or9 (reduced_before table expr) (reduced table expr)
unfolding reduced_before reduced
reduction_moved table expr =
    in-turn (read_expr table expr) (read_expr table expr) (work_before letter_form) (work_with letter_form) same (work-moved letter_form)

-- and insertion
pub insertion_moved : (table form : List ℕ) (letter : ℕ) (inserted : List ℕ) → Unless8or9 (inserted_before table form letter inserted) (with_inserted table form letter inserted)
unfolding inserted_before with_inserted insert_form
insertion_moved table form letter inserted =
    in-turn (take_insertion table form letter inserted) (take_insertion table form letter inserted)
    (λ p. insert_before (leaf_with letter p.1) p.0.kind p.0.terms) (λ p. insert_terms (leaf_with letter p.1) p.0.kind p.0.terms) same
    (λ p. terms-moved (leaf_with letter p.1) p.0.kind p.0.terms)
  where
    terms-moved : (leaf : (n kind : ℕ) → Form) (kind : ℕ) (ts : List Term) → Unless8or9 (insert_before leaf kind ts) (insert_terms leaf kind ts)
    terms-moved leaf kind [] = unfold insert_before insert_terms in same
    terms-moved leaf kind (t ∷ ts) = unfold insert_before insert_terms in work-moved leaf (plus_terms (term_tree t) ts)

-- so every expression that was taken is taken with the same form
pub taken_as_before : (table expr : List ℕ) (f : Form) → reduced_before table expr ≡ given f → reduced table expr ≡ given f
taken_as_before table expr f = given_alike (reduction_moved table expr)

-- and every insertion
pub inserted-as_before : (table form : List ℕ) (letter : ℕ) (inserted : List ℕ) (f : Form) → inserted_before table form letter inserted ≡ given f
    → with_inserted table form letter inserted ≡ given f
inserted-as_before table form letter inserted f = given_alike (insertion_moved table form letter inserted)
