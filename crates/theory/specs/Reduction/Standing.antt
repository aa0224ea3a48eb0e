-- Insertion step by step: what of a form's tree stands as it is, and the rest worked factor by factor, part and term. Assumes nothing.
use Rattle.std.specs.Prelude.{◌≡◌, Bool, true, not, ◌&&◌, ◌||◌, ℕ, zero, suc, ◌≤◌, ℤ, pos, negsuc, ◌*ℤ◌, ltb, leb, eqb, length, take, drop}
use Rattle.std.proofs.Math.Path.{refl, ap, subst}
use Rattle.std.proofs.Common.{sym, ◌∙◌, arith, take-append-drop}
use Rattle.std.proofs.Math.Bool.{false}
use mathlib.Core.List.{List, [], ◌∷◌, ◌++◌, flat_map, append-nil, append_assoc}
use Rattle.std.proofs.Math.Dec.{T, eqb_refl}
use Rattle.std.proofs.Math.Seq.{take-length, drop-length}
use Rattle.algebra.specs.Integers as R
use Rattle.algebra.specs.Integers.{NonZero}
use Rattle.specification.specs.Results.{Result, refused, given, ◌>>=◌, ◌>>◌, require, when◌then◌else◌}
use Rattle.specification.specs.Lists.{all, select, ascend}
use Rattle.specification.specs.Letters.{scalar, vector}
use Rattle.specification.specs.Terms.{Term, Form, plus, term_kind, times_term, is_zero, vanishes, staying, keep, gather, coef_within, within}
use Rattle.specification.specs.Terms.{vector_letters_of, scalar_letters_of, vector_letters, scalar_letters, letters_fit, term_within, factor_in_shape, part_in_shape, term_in_shape}
use Rattle.specification.specs.Records.{part_fits}
use Rattle.specification.specs.Expressions.{Expr, Constant, Sum, Times}
use Rattle.specification.specs.Reduction.{times_parts, dot_parts, wedge_parts, joined_scalars, pair_terms, pairs_of, pair_staying, product_terms, product}
use Rattle.specification.specs.Reduction.{sum_forms, times_forms, dot_forms, wedge_forms, triple_forms, letter_form, constant_form, work_with}
use Rattle.specification.specs.Insertion.{factor_tree, times_factors, times_part, term_tree, plus_terms, leaf_with}
use Rattle.theory.specs.Tests.{is_true, and_split, passes}
use Rattle.theory.specs.Elements.{All, all_split, T_all}
use Rattle.theory.specs.Order.{letters-laws}
use Rattle.theory.specs.Sorting as O
use Rattle.theory.specs.Gathering.Tidy.{FactorInOrder, in_order-sign}
use Rattle.theory.specs.Gathering.Gathered.{gather-again}
use Rattle.theory.specs.Shape.Terms.{kind_of_part, OneToThree, term-opens, letters-close, term-closes, factors-in_shape, part_in_shape_lem, vectors-append, scalars-append}
use Rattle.theory.specs.Shape.Forms.{FormInShape, form-gathered, form-within}
use Rattle.theory.specs.Shape.Bare.{shapes}

-- ════ without the letter

-- whether a letter is among letters
unfoldable pub has_letter : (letter : ℕ) (letters : List ℕ) → Bool
has_letter letter [] = false
has_letter letter (n ∷ ns) = eqb n letter || has_letter letter ns

-- whether a vector letter is in a factor: a scalar letter is none
unfoldable pub factor_has : (letter : ℕ) (factor : List ℕ) → Bool
factor_has letter f = when eqb (length f) 1 then false else has_letter letter f

-- how many leading factors are without it
unfoldable pub leading_of : (letter : ℕ) (factors : List (List ℕ)) → ℕ
leading_of letter [] = 0
leading_of letter (f ∷ fs) = when factor_has letter f then 0 else suc (leading_of letter fs)

-- ════ step by step

-- a form times factors, one after the other
unfoldable pub times_each : (leaf : (n kind : ℕ) → Form) (x : Form) (factors : List (List ℕ)) → Result Form
times_each leaf x [] = given x
times_each leaf x (f ∷ fs) = do
  y ← work_with leaf (factor_tree f)
  z ← times_forms x y
  times_each leaf z fs

-- the form of a vector part
unfoldable pub part_with : (leaf : (n kind : ℕ) → Form) (part : List ℕ) → Result Form
part_with leaf [] = given (record { kind = scalar; terms = [] })
part_with leaf (a ∷ []) = given (leaf a vector)
part_with leaf (a ∷ b ∷ p) = wedge_forms (leaf a vector) (leaf b vector)

-- a form times a vector part, where there is one
unfoldable pub times_part_with : (leaf : (n kind : ℕ) → Form) (x : Form) (part : List ℕ) → Result Form
times_part_with leaf x [] = given x
times_part_with leaf x (a ∷ p) = do
  y ← part_with leaf (a ∷ p)
  times_forms x y

-- a form plus terms, one after the other
unfoldable pub plus_each : (leaf : (n kind : ℕ) → Form) (x : Form) (terms : List Term) → Result Form
plus_each leaf x [] = given x
plus_each leaf x (t ∷ ts) = do
  y ← work_with leaf (term_tree t)
  z ← sum_forms x y
  plus_each leaf z ts

-- ════ a tree worked is worked step by step

module _ {A B C D : Type 0} where
  -- two results, what is made of them, and what comes behind
  two_bound : (r : Result A) (s : Result B) (f : A → B → Result C) (g : C → Result D)
      → (r >>= (λ x. s >>= λ y. f x y) >>= g) ≡ (r >>= λ x. s >>= λ y. f x y >>= g)
  two_bound (refused m) s f g = refl
  two_bound (given x) (refused n) f g = refl
  two_bound (given x) (given y) f g = refl

-- nothing behind
bound_given : {A : Type 0} (r : Result A) → r ≡ (r >>= λ x. given x)
bound_given (refused n) = refl
bound_given (given x) = refl

-- factors one behind the other
pub times_factors-append : (e : Expr) (fs gs : List (List ℕ)) → times_factors e (fs ++ gs) ≡ times_factors (times_factors e fs) gs
unfolding times_factors
times_factors-append e [] gs = refl
times_factors-append e (f ∷ fs) gs = times_factors-append (Times e (factor_tree f)) fs gs

-- so the leading ones may be worked first
pub times_factors-split : (e : Expr) (k : ℕ) (fs : List (List ℕ)) → times_factors e fs ≡ times_factors (times_factors e (take k fs)) (drop k fs)
times_factors-split e k fs = ap (times_factors e) (sym (take-append-drop k fs)) ∙ times_factors-append e (take k fs) (drop k fs)

module _ (leaf : (n kind : ℕ) → Form) where
  -- whatever the tree is worked into
  times-worked : (e : Expr) (fs : List (List ℕ)) → work_with leaf (times_factors e fs) ≡ (work_with leaf e >>= λ x. times_each leaf x fs)
  unfolding times_factors times_each work_with
  times-worked e [] = bound_given (work_with leaf e)
  times-worked e (f ∷ fs) =
      times-worked (Times e (factor_tree f)) fs
      ∙ two_bound (work_with leaf e) (work_with leaf (factor_tree f)) times_forms (λ z. times_each leaf z fs)

  -- a tree that is worked into a form, times factors
  pub factors-worked : (e : Expr) (x : Form) (fs : List (List ℕ)) → work_with leaf e ≡ given x → work_with leaf (times_factors e fs) ≡ times_each leaf x fs
  factors-worked e x fs h = times-worked e fs ∙ ap (λ (r : Result Form). r >>= λ y. times_each leaf y fs) h

  -- a tree times a vector part
  pub part-worked : (e : Expr) (p : List ℕ) → work_with leaf (times_part e p) ≡ (work_with leaf e >>= λ x. times_part_with leaf x p)
  unfolding times_part times_part_with part_with work_with
  part-worked e [] = bound_given (work_with leaf e)
  part-worked e (a ∷ []) = refl
  part-worked e (a ∷ b ∷ p) = refl

  -- a tree plus terms
  pub terms-worked : (e : Expr) (ts : List Term) → work_with leaf (plus_terms e ts) ≡ (work_with leaf e >>= λ x. plus_each leaf x ts)
  unfolding plus_terms plus_each work_with
  terms-worked e [] = bound_given (work_with leaf e)
  terms-worked e (t ∷ ts) =
      terms-worked (Sum e (term_tree t)) ts
      ∙ two_bound (work_with leaf e) (work_with leaf (term_tree t)) sum_forms (λ z. plus_each leaf z ts)

-- ════ one term

-- a form of one term
abbrev pub one_term : (kind : ℕ) → Term → Form
one_term kind t = record { kind = kind; terms = t ∷ [] }

-- a coefficient times factors
abbrev pub scalar_term : ℤ → List (List ℕ) → Term
scalar_term c fs = record { coef = c; factors = fs; part = [] }

-- a term in shape is a form in shape
pub term_in_shape_lem : (t : Term) → T (term_in_shape t) → FormInShape (one_term (term_kind t) t)
unfolding ascend part_fits term_kind
term_in_shape_lem t h = record {
  kind = small (eqb (length t.part) 0);
  count = omega arith;
  terms = T_all term_in_shape (t ∷ []) (h, tt);
  parts = T_all (part_fits (term_kind t)) (t ∷ []) (eqb_refl (term_kind t), tt);
  ascending = tt;
}
  where
    small : (b : Bool) → (when b then scalar else vector) ≤ 1
    small true = omega arith
    small false = omega arith

-- it is what is gathered of it
term_within_lem : (t : Term) → T (term_in_shape t) → within (term_kind t) (gather (t ∷ [])) ≡ given (one_term (term_kind t) t)
term_within_lem t h =
    let f = one_term (term_kind t) t in
    let s = term_in_shape_lem t h in
    ap (within (term_kind t)) (gather-again (t ∷ []) (form-gathered f s)) ∙ form-within f s

-- a term in shape stays
stays_in-shape : (t : Term) → T (term_in_shape t) → staying (t ∷ []) ≡ t ∷ []
unfolding staying select vanishes is_zero
stays_in-shape t h = ap (λ (z : ℤ). when not (is_zero z) then t ∷ [] else []) (in_order-sign t (term-opens t h).in_order)

-- two terms whose pair makes one term in shape: the product is that term
one_product : (parts : List ℕ → List ℕ → List Term) (left right : ℕ) (t u v : Term) → pair_terms parts (t, u) ≡ v ∷ [] → T (term_in_shape v)
    → product (term_kind v) parts (one_term left t) (one_term right u) ≡ given (one_term (term_kind v) v)
unfolding product product_terms pair_staying pairs_of flat_map term_within
one_product parts left right t u v makes shape =
    let s = term-opens v shape in
    (λ i. tested (ap staying makes i ++ []))
    ∙ (λ i. tested (stays_in-shape v shape i ++ []))
    ∙ passes (all letters_fit (v ∷ [])) 8 _ (T_all letters_fit (v ∷ []) (letters-close v s.fits.vectors s.fits.scalars, tt))
    ∙ passes (all term_within (v ∷ [])) 9 _ (T_all term_within (v ∷ []) (s.within, tt))
    ∙ term_within_lem v shape
  where
    tested : List Term → Result Form
    tested ts = require (all letters_fit ts) 8 >> (require (all term_within ts) 9 >> within (term_kind v) (gather ts))

-- a scalar term times a term with the coefficient 1
pub times_one : (c : ℤ) (fs gs : List (List ℕ)) (p : List ℕ) → T (term_in_shape (record { coef = c; factors = fs ++ gs; part = p }))
    → times_forms (one_term scalar (scalar_term c fs)) (one_term (kind_of_part p) (plus gs p))
    ≡ given (one_term (kind_of_part p) (record { coef = c; factors = fs ++ gs; part = p }))
unfolding times_forms times_parts pair_terms times_term joined_scalars vector_letters scalar_letters term_kind
times_one c fs gs p h =
    one_product times_parts scalar (kind_of_part p) (scalar_term c fs) (plus gs p) (record { coef = c; factors = fs ++ gs; part = p })
    (λ i. record { coef = unit i; factors = append-nil (fs ++ gs) i; part = p } ∷ []) h
  where
    unit : (c *ℤ pos 1) *ℤ pos 1 ≡ c
    unit = R.*ℤ-1 (c *ℤ pos 1) ∙ R.*ℤ-1 c

-- ════ a factor or a part without the letter stands

-- a factor in shape is a term in shape
one_factor : (f : List ℕ) → T (factor_in_shape f) → T (term_in_shape (plus (f ∷ []) []))
unfolding factor_in_shape all ascend is_zero coef_within vector_letters_of scalar_letters_of vector_letters scalar_letters letters_fit part_in_shape term_in_shape
one_factor [] h = absurd h
one_factor (a ∷ []) h = tt
one_factor (a ∷ b ∷ []) h = rw (is_true (leb a b) h) tt
one_factor (a ∷ b ∷ c ∷ []) h = rw (is_true (ltb a b && ltb b c) h) tt
one_factor (a ∷ b ∷ c ∷ d ∷ f) h = absurd h

-- so it is a form in shape
pub one_factor_in_shape : (f : List ℕ) → T (factor_in_shape f) → FormInShape (one_term scalar (plus (f ∷ []) []))
unfolding term_kind
one_factor_in_shape f h = term_in_shape_lem (plus (f ∷ []) []) (one_factor f h)

-- a part in shape is a term in shape
one_part : (p : List ℕ) → T (part_in_shape p) → T (term_in_shape (plus [] p))
unfolding all ascend is_zero coef_within vector_letters_of scalar_letters_of vector_letters scalar_letters letters_fit part_in_shape term_in_shape
one_part [] h = tt
one_part (a ∷ []) h = tt
one_part (a ∷ b ∷ []) h = rw (is_true (ltb a b) h) tt
one_part (a ∷ b ∷ c ∷ p) h = absurd h

pub dot-stands : (a b : ℕ) → T (leb a b)
    → dot_forms (letter_form a vector) (letter_form b vector) ≡ given (one_term scalar (plus ((a ∷ b ∷ []) ∷ []) []))
unfolding letter_form dot_forms dot_parts pair_terms times_term joined_scalars shapes factor_in_shape
dot-stands a b h =
    one_product dot_parts vector vector (plus [] (a ∷ [])) (plus [] (b ∷ [])) (plus ((a ∷ b ∷ []) ∷ []) []) refl (one_factor (a ∷ b ∷ []) h)

pub wedge-stands : (a b : ℕ) → T (ltb a b)
    → wedge_forms (letter_form a vector) (letter_form b vector) ≡ given (one_term vector (plus [] (a ∷ b ∷ [])))
unfolding letter_form wedge_forms wedge_parts pair_terms times_term joined_scalars shapes part_in_shape
wedge-stands a b h =
    one_product wedge_parts vector vector (plus [] (a ∷ [])) (plus [] (b ∷ [])) (plus [] (a ∷ b ∷ [])) refl (one_part (a ∷ b ∷ []) h)

pub triple-stands : (a b c : ℕ) → T (ltb a b && ltb b c)
    → triple_forms (letter_form a vector) (letter_form b vector) (letter_form c vector)
    ≡ given (one_term scalar (plus ((a ∷ b ∷ c ∷ []) ∷ []) []))
unfolding letter_form triple_forms dot_forms dot_parts pair_terms times_term joined_scalars shapes factor_in_shape
triple-stands a b c h =
    ap (λ (r : Result Form). r >>= λ x. dot_forms x (letter_form c vector)) (wedge-stands a b (and_split (ltb a b) (ltb b c) h).0)
    ∙ one_product dot_parts vector vector (plus [] (a ∷ b ∷ [])) (plus [] (c ∷ [])) (plus ((a ∷ b ∷ c ∷ []) ∷ []) []) refl
    (one_factor (a ∷ b ∷ c ∷ []) h)

letter-alone : (n : ℕ) → letter_form n vector ≡ one_term vector (plus [] (n ∷ []))
unfolding letter_form
letter-alone n = refl

or-false : (a b : Bool) → (a || b) ≡ false → (a ≡ false) × (b ≡ false)
or-false true b e = let z : ◌≡◌ {A = ℕ} 0 1 = cc in absurd (omega arith)
or-false false b e = (refl, e)

module _ (letter : ℕ) (inserted : Form) where
  -- another letter is itself
  leaf-stands : (n : ℕ) → eqb n letter ≡ false → leaf_with letter inserted n vector ≡ letter_form n vector
  unfolding leaf_with
  leaf-stands n e = ap (λ (b : Bool). when b then inserted else letter_form n vector) e

  -- a scalar letter is itself
  scalar-stands : (n : ℕ) → ◌≡◌ {A = Result Form} (given (leaf_with letter inserted n scalar)) (given (one_term scalar (plus ((n ∷ []) ∷ []) [])))
  unfolding leaf_with letter_form
  scalar-stands n = refl

  -- a factor without the letter is itself
  pub factor-stands : (f : List ℕ) → T (factor_in_shape f) → factor_has letter f ≡ false
      → work_with (leaf_with letter inserted) (factor_tree f) ≡ given (one_term scalar (plus (f ∷ []) []))
  unfolding factor_in_shape factor_has has_letter factor_tree work_with
  factor-stands [] h e = absurd h
  factor-stands (a ∷ []) h e = scalar-stands a
  factor-stands (a ∷ b ∷ []) h e =
      let w = or-false (eqb a letter) (has_letter letter (b ∷ [])) e in
      let v = or-false (eqb b letter) false w.1 in
      (λ i. dot_forms (leaf-stands a w.0 i) (leaf-stands b v.0 i)) ∙ dot-stands a b h
  factor-stands (a ∷ b ∷ c ∷ []) h e =
      let w = or-false (eqb a letter) (has_letter letter (b ∷ c ∷ [])) e in
      let v = or-false (eqb b letter) (has_letter letter (c ∷ [])) w.1 in
      let u = or-false (eqb c letter) false v.1 in
      (λ i. triple_forms (leaf-stands a w.0 i) (leaf-stands b v.0 i) (leaf-stands c u.0 i)) ∙ triple-stands a b c h
  factor-stands (a ∷ b ∷ c ∷ d ∷ f) h e = absurd h

  -- a vector part without the letter is itself
  pub part-stands : (a : ℕ) (p : List ℕ) → T (part_in_shape (a ∷ p)) → has_letter letter (a ∷ p) ≡ false
      → part_with (leaf_with letter inserted) (a ∷ p) ≡ given (one_term (kind_of_part (a ∷ p)) (plus [] (a ∷ p)))
  unfolding has_letter part_with part_in_shape
  part-stands a [] h e = ap given (leaf-stands a (or-false (eqb a letter) false e).0 ∙ letter-alone a)
  part-stands a (b ∷ []) h e =
      let w = or-false (eqb a letter) (has_letter letter (b ∷ [])) e in
      let v = or-false (eqb b letter) false w.1 in
      (λ i. wedge_forms (leaf-stands a w.0 i) (leaf-stands b v.0 i)) ∙ wedge-stands a b h
  part-stands a (b ∷ c ∷ p) h e = absurd h

-- ════ the front of a term stands

-- the coefficient of a term and its first factors
unfoldable pub front_of : (k : ℕ) (t : Term) → Term
front_of k t = scalar_term t.coef (take k t.factors)

-- there are no more leading factors than factors
pub leading_at-most : (letter : ℕ) (fs : List (List ℕ)) → leading_of letter fs ≤ length fs
unfolding leading_of
leading_at-most letter [] = omega arith
leading_at-most letter (f ∷ fs) = go (factor_has letter f) (leading_at-most letter fs)
  where
    go : (b : Bool) → leading_of letter fs ≤ length fs → (when b then 0 else suc (leading_of letter fs)) ≤ suc (length fs)
    go true h = omega arith
    go false h = omega arith

-- no factor has the letter
abbrev Without : (letter : ℕ) → List (List ℕ) → Type 0
Without letter fs = All (λ (f : List ℕ). factor_has letter f ≡ false) fs

-- the leading ones are without it
leading-without : (letter : ℕ) (fs : List (List ℕ)) → Without letter (take (leading_of letter fs) fs)
unfolding leading_of
leading-without letter [] = tt
leading-without letter (f ∷ fs) = go (factor_has letter f) refl (leading-without letter fs)
  where
    go : (b : Bool) → factor_has letter f ≡ b → Without letter (take (leading_of letter fs) fs)
        → Without letter (take (when b then 0 else suc (leading_of letter fs)) (f ∷ fs))
    go true e h = tt
    go false e h = (e, h)

-- what ascends ascends in front
ascend-front : (fs gs : List (List ℕ)) → O.Asc letters-laws (fs ++ gs) → O.Asc letters-laws fs
ascend-front [] gs a = tt
ascend-front (f ∷ []) gs a = (tt, tt)
ascend-front (f ∷ h ∷ fs) gs a = (a.0, ascend-front (h ∷ fs) gs a.1)

-- a term in shape without its last factors and its part
pub front-closes : (c : ℤ) (fs gs : List (List ℕ)) (p : List ℕ) → T (term_in_shape (record { coef = c; factors = fs ++ gs; part = p }))
    → T (term_in_shape (scalar_term c fs))
front-closes c fs gs p h =
    let s = term-opens (record { coef = c; factors = fs ++ gs; part = p }) h in
    term-closes (scalar_term c fs) (record {
      nonzero = s.nonzero;
      within = s.within;
      in_order = record {
        part = tt;
        each = (all_split FactorInOrder fs gs s.in_order.each).0;
        order = ascend-front fs gs s.in_order.order;
      };
      fits = record {
        lengths = (all_split OneToThree fs gs s.fits.lengths).0;
        part = omega arith;
        vectors = omega (arith, vectors-append fs gs, s.fits.vectors);
        scalars = omega (arith, scalars-append fs gs, s.fits.scalars);
        kind_is = refl;
      };
    })

-- the front of a term in shape
front-shape : (k : ℕ) (t : Term) → T (term_in_shape t) → T (term_in_shape (front_of k t))
unfolding front_of
front-shape k t h =
    front-closes t.coef (take k t.factors) (drop k t.factors) t.part
    (subst (λ (fs : List (List ℕ)). T (term_in_shape (record { coef = t.coef; factors = fs; part = t.part }))) (sym (take-append-drop k t.factors)) h)

-- so it is a form in shape
pub front-in_shape : (k : ℕ) (t : Term) → T (term_in_shape t) → FormInShape (one_term scalar (front_of k t))
unfolding front_of term_kind
front-in_shape k t h = term_in_shape_lem (front_of k t) (front-shape k t h)

-- a constant that is not 0 is itself
pub constant-stands : (c : ℤ) → NonZero c → T (coef_within c) → constant_form c ≡ given (one_term scalar (scalar_term c []))
unfolding constant_form keep is_zero
constant-stands (pos zero) h w = absurd (h refl)
constant-stands (pos (suc n)) h w = passes (coef_within (pos (suc n))) 9 _ w
constant-stands (negsuc n) h w = passes (coef_within (negsuc n)) 9 _ w

module _ (letter : ℕ) (inserted : Form) where
  -- behind those that are done already
  each_stands : (c : ℤ) (done fs : List (List ℕ)) → T (term_in_shape (scalar_term c (done ++ fs))) → Without letter fs
      → times_each (leaf_with letter inserted) (one_term scalar (scalar_term c done)) fs ≡ given (one_term scalar (scalar_term c (done ++ fs)))
  unfolding times_each
  each_stands c done [] h w = ap (λ (fs : List (List ℕ)). given (one_term scalar (scalar_term c fs))) (sym (append-nil done))
  each_stands c done (f ∷ fs) h w =
      let leaf = leaf_with letter inserted in
      let joined : (done ++ (f ∷ [])) ++ fs ≡ done ++ (f ∷ fs) = append_assoc done (f ∷ []) fs in
      let h' = subst (λ (gs : List (List ℕ)). T (term_in_shape (scalar_term c gs))) (sym joined) h in
      let t = scalar_term c (done ++ (f ∷ fs)) in
      let in_shape = (all_split (λ (f : List ℕ). T (factor_in_shape f)) done (f ∷ fs) (factors-in_shape t (term-opens t h))).1.0 in
      let x = one_term scalar (scalar_term c done) in
      ap (λ (r : Result Form). r >>= λ y. times_forms x y >>= λ z. times_each leaf z fs) (factor-stands letter inserted f in_shape w.0)
      ∙ ap (λ (r : Result Form). r >>= λ z. times_each leaf z fs) (times_one c done (f ∷ []) [] (front-closes c (done ++ (f ∷ [])) fs [] h'))
      ∙ each_stands c (done ++ (f ∷ [])) fs h' w.1
      ∙ ap (λ (gs : List (List ℕ)). given (one_term scalar (scalar_term c gs))) joined

  -- coefficient and leading factors are themselves
  pub front-stands : (t : Term) → T (term_in_shape t)
      → work_with (leaf_with letter inserted) (times_factors (Constant t.coef) (take (leading_of letter t.factors) t.factors))
      ≡ given (one_term scalar (front_of (leading_of letter t.factors) t))
  unfolding front_of work_with
  front-stands t h =
      let k = leading_of letter t.factors in
      let s = term-opens t h in
      factors-worked (leaf_with letter inserted) (Constant t.coef) (one_term scalar (scalar_term t.coef [])) (take k t.factors)
      (constant-stands t.coef s.nonzero s.within)
      ∙ each_stands t.coef [] (take k t.factors) (front-shape k t h) (leading-without letter t.factors)

  -- ════ a term

  -- a term is worked from its front on
  pub term-worked : (t : Term) → T (term_in_shape t)
      → work_with (leaf_with letter inserted) (term_tree t)
      ≡ (times_each (leaf_with letter inserted) (one_term scalar (front_of (leading_of letter t.factors) t)) (drop (leading_of letter t.factors) t.factors)
      >>= λ x. times_part_with (leaf_with letter inserted) x t.part)
  unfolding term_tree
  term-worked t h =
      let leaf = leaf_with letter inserted in
      let k = leading_of letter t.factors in
      let e = Constant t.coef in
      part-worked leaf (times_factors e t.factors) t.part
      ∙ ap (λ (r : Result Form). r >>= λ x. times_part_with leaf x t.part)
      (ap (work_with leaf) (times_factors-split e k t.factors)
      ∙ factors-worked leaf (times_factors e (take k t.factors)) (one_term scalar (front_of k t)) (drop k t.factors) (front-stands t h))

  -- a scalar term times a part without the letter is the term with the part
  times_part-stands : (c : ℤ) (fs : List (List ℕ)) (p : List ℕ) → T (term_in_shape (record { coef = c; factors = fs; part = p })) → has_letter letter p ≡ false
      → times_part_with (leaf_with letter inserted) (one_term scalar (scalar_term c fs)) p
      ≡ given (one_term (kind_of_part p) (record { coef = c; factors = fs; part = p }))
  unfolding times_part_with
  times_part-stands c fs [] h e = refl
  times_part-stands c fs (a ∷ p) h e =
      let t : Term = record { coef = c; factors = fs; part = a ∷ p } in
      ap (λ (r : Result Form). r >>= λ y. times_forms (one_term scalar (scalar_term c fs)) y) (part-stands letter inserted a p (part_in_shape_lem t (term-opens t h)) e)
      ∙ times_one c fs [] (a ∷ p)
      (subst (λ (gs : List (List ℕ)). T (term_in_shape (record { coef = c; factors = gs; part = a ∷ p }))) (sym (append-nil fs)) h)
      ∙ ap (λ (gs : List (List ℕ)). given (one_term (kind_of_part (a ∷ p)) (record { coef = c; factors = gs; part = a ∷ p }))) (append-nil fs)

  -- a term without the letter is itself
  pub term-stands : (t : Term) → T (term_in_shape t) → leading_of letter t.factors ≡ length t.factors → has_letter letter t.part ≡ false
      → work_with (leaf_with letter inserted) (term_tree t) ≡ given (one_term (term_kind t) t)
  unfolding front_of times_each term_kind
  term-stands t h k e =
      let leaf = leaf_with letter inserted in
      let worked : (front rest : List (List ℕ)) → Result Form =
      λ front rest. times_each leaf (one_term scalar (scalar_term t.coef front)) rest >>= λ x. times_part_with leaf x t.part in
      term-worked t h
      ∙ ap (λ (n : ℕ). worked (take n t.factors) (drop n t.factors)) k
      ∙ (λ i. worked (take-length t.factors i) (drop-length t.factors i))
      ∙ times_part-stands t.coef t.factors t.part h e
