-- The operators on forms: what is given has the sum, the negation, the product, the dot, the wedge or the triple of the values. Assumes nothing.
use Rattle.std.specs.Prelude.{◌≡◌, Bool, ◌&&◌, ◌||◌, List, [], ◌∷◌, ◌++◌, map, ℕ, ◌+◌, ◌≤◌, ℤ, pos, negsuc, neg_ℤ, ◌+ℤ◌, ◌*ℤ◌, leb, length}
use Rattle.std.proofs.Math.Path.{refl, sym}
use Rattle.std.proofs.Common.{◌∙◌, ap, subst, append-nil, arith, length-append}
use Rattle.std.proofs.Math.Bool.{true, false}
use Rattle.std.proofs.Math.IntN as I
use Rattle.std.proofs.Math.Dec.{T, eqb, eqb→eq}
use Rattle.std.proofs.lemmas.List.{length-map}
use Rattle.algebra.specs.Integers as R
use Rattle.algebra.proofs.Normaliser.{var, ◌⊗◌, ◌⊕◌, normalising}
use Rattle.specification.specs.Results.{given, when◌then◌else◌}
use Rattle.specification.specs.Values.{Vec, scalar_value, ◌+v◌, ◌•◌, dot, wedge, triple}
use Rattle.specification.specs.Letters.{scalar, vector}
use Rattle.specification.specs.Terms.{Term, Form, term_kind, negated, coef_within, term_in_shape}
use Rattle.specification.specs.Records.{part_fits}
use Rattle.specification.specs.Reduction.{times_parts, dot_parts, wedge_parts, product, negate_form, sum_forms, times_forms, dot_forms, wedge_forms, triple_forms}
use Rattle.specification.specs.Evaluation.{factors_value, part_value, term_value, terms_value, value}
use Rattle.theory.specs.Tests.{and_split, required, bound}
use Rattle.theory.specs.Elements.{All, all_append, all_map, all_T, T_all}
use Rattle.theory.specs.Order.{monomial}
use Rattle.theory.specs.Shape.Terms.{no_part, Fits, TermShape, term-opens, term-closes}
use Rattle.theory.specs.Gathering.Coefficients.{Ascending}
use Rattle.theory.specs.Shape.Forms.{FormInShape, AllFit, form-fits, form-gathered, terms-ascend}
use Rattle.theory.specs.Shape.Bare.{Bare, all_bare, shapes}
use Rattle.theory.specs.Shape.Letters.{Known, MonomialKnown, AllKnown}
use Rattle.theory.specs.Values.Vectors.{by-components, +v_zero, •-•, +-•, •-+}
use Rattle.theory.specs.Values.Expressions.{◌+e◌, ◌•e◌, scalar_e, dot_e, wedge_e, A, B, C, D, letters, terms_e, same_numbers, same_vectors, expanding}
use Rattle.theory.proofs.Values.Terms.{append_value, negated-values}
use Rattle.theory.proofs.Reduction.Products.{Denotes, Bilinear, PartOf, Follows, within_denotes, product_denotes}

-- ════ the operations are bilinear

-- the left or the right operand is the scalar
abbrev pub times_left : Vec → Vec → Vec
times_left a b = a.x • b

abbrev pub times_right : Vec → Vec → Vec
times_right a b = b.x • a

-- the dot as a vector with 0 in the last two
abbrev pub dot_op : Vec → Vec → Vec
dot_op a b = scalar_value (dot a b)

times_left_bilinear : Bilinear times_left
times_left_bilinear = record {
  sum_left = λ a b c. +-• a.x b.x c;
  sum_right = λ a b c. •-+ a.x b c;
  scaled = λ k l a b. •-• (k *ℤ a.x) l b ∙ ap (λ (m : ℤ). m • b) (regroup k l a.x) ∙ sym (•-• (k *ℤ l) a.x b);
}
  where
    regroup : (k l m : ℤ) → (k *ℤ m) *ℤ l ≡ (k *ℤ l) *ℤ m
    regroup k l m = R.*ℤ_assoc k m l ∙ ap (λ (n : ℤ). k *ℤ n) (I.*ℤ_comm m l) ∙ sym (R.*ℤ_assoc k l m)

times_right_bilinear : Bilinear times_right
times_right_bilinear = record {
  sum_left = λ a b c. •-+ c.x a b;
  sum_right = λ a b c. +-• b.x c.x a;
  scaled = λ k l a b. times_left_bilinear.scaled l k b a ∙ ap (λ (m : ℤ). m • times_right a b) (I.*ℤ_comm l k);
}

dot-sum_left : (a b c : Vec) → dot (a +v b) c ≡ dot a c +ℤ dot b c
unfolding normalising
dot-sum_left a b c =
    same_numbers (dot_e (A +e B) C) (dot_e A C ⊕ dot_e B C) (letters (a ∷ b ∷ c ∷ [])) refl

dot-sum_right : (a b c : Vec) → dot a (b +v c) ≡ dot a b +ℤ dot a c
unfolding normalising
dot-sum_right a b c =
    same_numbers (dot_e A (B +e C)) (dot_e A B ⊕ dot_e A C) (letters (a ∷ b ∷ c ∷ [])) refl

-- two numbers as the first letter
abbrev two_numbers : ℤ → ℤ → Vec
two_numbers k l = record { x = k; y = l; z = pos 0 }

dot-scaled : (k l : ℤ) (a b : Vec) → dot (k • a) (l • b) ≡ (k *ℤ l) *ℤ dot a b
unfolding normalising
dot-scaled k l a b =
    same_numbers (dot_e (var 0 •e B) (var 1 •e C)) ((var 0 ⊗ var 1) ⊗ dot_e B C) (letters (two_numbers k l ∷ a ∷ b ∷ [])) refl

dot_bilinear : Bilinear dot_op
dot_bilinear = record {
  sum_left = λ a b c. ap scalar_value (dot-sum_left a b c);
  sum_right = λ a b c. ap scalar_value (dot-sum_right a b c);
  scaled = λ k l a b. by-components (dot-scaled k l a b) (sym (I.*ℤ-zero (k *ℤ l))) (sym (I.*ℤ-zero (k *ℤ l)));
}

wedge_bilinear : Bilinear wedge
unfolding normalising
wedge_bilinear = record {
  sum_left = λ a b c. same_vectors (wedge_e (A +e B) C) (wedge_e A C +e wedge_e B C) (letters (a ∷ b ∷ c ∷ [])) (refl, refl, refl);
  sum_right = λ a b c. same_vectors (wedge_e A (B +e C)) (wedge_e A B +e wedge_e A C) (letters (a ∷ b ∷ c ∷ [])) (refl, refl, refl);
  scaled = λ k l a b. same_vectors (wedge_e (var 0 •e B) (var 1 •e C)) ((var 0 ⊗ var 1) •e wedge_e B C) (letters (two_numbers k l ∷ a ∷ b ∷ [])) (refl, refl, refl);
}

-- ════ vector parts by cases

vector-part : (P : List ℕ → Type 0) → ((a : ℕ) → P (a ∷ [])) → ((a b : ℕ) → P (a ∷ b ∷ [])) → (p : List ℕ) → PartOf vector p → P p
vector-part P one two [] h = absurd (omega (arith, h.kind_is))
vector-part P one two (a ∷ []) h = one a
vector-part P one two (a ∷ b ∷ []) h = two a b
vector-part P one two (a ∷ b ∷ c ∷ p) h = absurd (omega (arith, h.short))

-- two vector parts, each a letter or a wedge
two_parts : (P : List ℕ → List ℕ → Type 0) → ((a b : ℕ) → P (a ∷ []) (b ∷ [])) → ((a b c : ℕ) → P (a ∷ []) (b ∷ c ∷ []))
    → ((a b c : ℕ) → P (a ∷ b ∷ []) (c ∷ [])) → ((a b c d : ℕ) → P (a ∷ b ∷ []) (c ∷ d ∷ []))
    → (p q : List ℕ) → PartOf vector p → PartOf vector q → P p q
two_parts P ll lw wl ww p q h k =
    vector-part (λ (p : List ℕ). P p q) (λ a. vector-part (P (a ∷ [])) (ll a) (lw a) q k) (λ a b. vector-part (P (a ∷ b ∷ [])) (wl a b) (ww a b) q k) p h

-- ════ the dot of vector parts

dot_parts_value : (σ : ℕ → Vec) (p q : List ℕ) → PartOf vector p → PartOf vector q → terms_value σ (dot_parts p q) ≡ dot_op (part_value σ p) (part_value σ q)
unfolding dot_parts expanding
dot_parts_value σ = two_parts (λ p q. terms_value σ (dot_parts p q) ≡ dot_op (part_value σ p) (part_value σ q))
    (λ a b. same_vectors (terms_e (dot_parts (0 ∷ []) (1 ∷ []))) (scalar_e (dot_e A B)) (letters (σ a ∷ σ b ∷ [])) (refl, refl, refl))
    (λ a b c. same_vectors (terms_e (dot_parts (0 ∷ []) (1 ∷ 2 ∷ []))) (scalar_e (dot_e A (wedge_e B C))) (letters (σ a ∷ σ b ∷ σ c ∷ [])) (refl, refl, refl))
    (λ a b c. same_vectors (terms_e (dot_parts (0 ∷ 1 ∷ []) (2 ∷ []))) (scalar_e (dot_e (wedge_e A B) C)) (letters (σ a ∷ σ b ∷ σ c ∷ [])) (refl, refl, refl))
    (λ a b c d. same_vectors (terms_e (dot_parts (0 ∷ 1 ∷ []) (2 ∷ 3 ∷ []))) (scalar_e (dot_e (wedge_e A B) (wedge_e C D)))
    (letters (σ a ∷ σ b ∷ σ c ∷ σ d ∷ [])) (refl, refl, refl))

dot_parts_bare : (p q : List ℕ) → PartOf vector p → PartOf vector q → All (Bare scalar (length p + length q)) (dot_parts p q)
unfolding dot_parts shapes
dot_parts_bare = two_parts (λ p q. All (Bare scalar (length p + length q)) (dot_parts p q))
    (λ a b. all_bare scalar 2 (dot_parts (a ∷ []) (b ∷ [])) tt)
    (λ a b c. all_bare scalar 3 (dot_parts (a ∷ []) (b ∷ c ∷ [])) tt)
    (λ a b c. all_bare scalar 3 (dot_parts (a ∷ b ∷ []) (c ∷ [])) tt)
    (λ a b c d. all_bare scalar 4 (dot_parts (a ∷ b ∷ []) (c ∷ d ∷ [])) tt)

module _ (table : List ℕ) where
  -- two vector parts with known letters make terms with known letters
  abbrev Keeps : (List ℕ → List ℕ → List Term) → List ℕ → List ℕ → Type 0
  Keeps parts p q = All (Known table vector) p → All (Known table vector) q → AllKnown table (parts p q)

  dot_parts_known : (p q : List ℕ) → PartOf vector p → PartOf vector q → Keeps dot_parts p q
  unfolding dot_parts
  dot_parts_known = two_parts (Keeps dot_parts)
      (λ a b h k. (record { factors = ((h.0, (k.0, tt)), tt); part = tt }, tt))
      (λ a b c h k. (record { factors = ((h.0, (k.0, (k.1.0, tt))), tt); part = tt }, tt))
      (λ a b c h k. (record { factors = ((h.0, (h.1.0, (k.0, tt))), tt); part = tt }, tt))
      (λ a b c d h k. (
        record { factors = ((h.0, (k.0, tt)), ((h.1.0, (k.1.0, tt)), tt)); part = tt },
        (record { factors = ((h.0, (k.1.0, tt)), ((h.1.0, (k.0, tt)), tt)); part = tt }, tt),
      ))

  wedge_parts_known : (p q : List ℕ) → PartOf vector p → PartOf vector q → Keeps wedge_parts p q
  unfolding wedge_parts
  wedge_parts_known = two_parts (Keeps wedge_parts)
      (λ a b h k. (record { factors = tt; part = (h.0, (k.0, tt)) }, tt))
      (λ a b c h k. (
        record { factors = ((h.0, (k.1.0, tt)), tt); part = (k.0, tt) },
        (record { factors = ((h.0, (k.0, tt)), tt); part = (k.1.0, tt) }, tt),
      ))
      (λ a b c h k. (
        record { factors = ((h.0, (k.0, tt)), tt); part = (h.1.0, tt) },
        (record { factors = ((h.1.0, (k.0, tt)), tt); part = (h.0, tt) }, tt),
      ))
      (λ a b c d h k. (
        record { factors = ((h.0, (h.1.0, (k.1.0, tt))), tt); part = (k.0, tt) },
        (record { factors = ((h.0, (h.1.0, (k.0, tt))), tt); part = (k.1.0, tt) }, tt),
      ))

  times_parts_known : (p q : List ℕ) → Keeps times_parts p q
  unfolding times_parts
  times_parts_known p q h k = (record { factors = tt; part = all_append (Known table vector) p q h k }, tt)

-- ════ the wedge of vector parts

wedge_parts_value : (σ : ℕ → Vec) (p q : List ℕ) → PartOf vector p → PartOf vector q → terms_value σ (wedge_parts p q) ≡ wedge (part_value σ p) (part_value σ q)
unfolding wedge_parts expanding
wedge_parts_value σ = two_parts (λ p q. terms_value σ (wedge_parts p q) ≡ wedge (part_value σ p) (part_value σ q))
    (λ a b. same_vectors (terms_e (wedge_parts (0 ∷ []) (1 ∷ []))) (wedge_e A B) (letters (σ a ∷ σ b ∷ [])) (refl, refl, refl))
    (λ a b c. same_vectors (terms_e (wedge_parts (0 ∷ []) (1 ∷ 2 ∷ []))) (wedge_e A (wedge_e B C)) (letters (σ a ∷ σ b ∷ σ c ∷ [])) (refl, refl, refl))
    (λ a b c. same_vectors (terms_e (wedge_parts (0 ∷ 1 ∷ []) (2 ∷ []))) (wedge_e (wedge_e A B) C) (letters (σ a ∷ σ b ∷ σ c ∷ [])) (refl, refl, refl))
    (λ a b c d. same_vectors (terms_e (wedge_parts (0 ∷ 1 ∷ []) (2 ∷ 3 ∷ []))) (wedge_e (wedge_e A B) (wedge_e C D))
    (letters (σ a ∷ σ b ∷ σ c ∷ σ d ∷ [])) (refl, refl, refl))

wedge_parts_bare : (p q : List ℕ) → PartOf vector p → PartOf vector q → All (Bare vector (length p + length q)) (wedge_parts p q)
unfolding wedge_parts shapes
wedge_parts_bare = two_parts (λ p q. All (Bare vector (length p + length q)) (wedge_parts p q))
    (λ a b. all_bare vector 2 (wedge_parts (a ∷ []) (b ∷ [])) tt)
    (λ a b c. all_bare vector 3 (wedge_parts (a ∷ []) (b ∷ c ∷ [])) tt)
    (λ a b c. all_bare vector 3 (wedge_parts (a ∷ b ∷ []) (c ∷ [])) tt)
    (λ a b c d. all_bare vector 4 (wedge_parts (a ∷ b ∷ []) (c ∷ d ∷ [])) tt)

-- ════ a scalar times a part

-- the two parts together, one of which is nothing, as a term
together_value : (σ : ℕ → Vec) (p q r : List ℕ) → p ++ q ≡ r → terms_value σ (times_parts p q) ≡ pos 1 • part_value σ r
unfolding times_parts terms_value term_value factors_value
together_value σ p q r e = +v_zero (pos 1 • part_value σ (p ++ q)) ∙ ap (λ (l : List ℕ). pos 1 • part_value σ l) e

together_bare : (kind : ℕ) (p q r : List ℕ) → p ++ q ≡ r → PartOf kind r → All (Bare kind (length p + length q)) (times_parts p q)
unfolding times_parts shapes
together_bare kind p q r e h =
    let k : PartOf kind (p ++ q) = subst (PartOf kind) (sym e) h in
    (record { lengths = tt; part = k.short; vectors = omega (arith, length-append p q); scalars = refl; kind_is = k.kind_is }, tt)

-- one part is nothing
first_alone : (p q : List ℕ) → PartOf scalar q → p ++ q ≡ p
first_alone p q h = ap (λ (l : List ℕ). p ++ l) (no_part q h.kind_is) ∙ append-nil p

second-alone : (p q : List ℕ) → PartOf scalar p → p ++ q ≡ q
second-alone p q h = ap (λ (l : List ℕ). l ++ q) (no_part p h.kind_is)

-- what a scalar and a part make
pub times_left-follows : (kind : ℕ) → Follows times_left times_parts scalar kind kind
unfolding part_value
times_left-follows kind = record {
  parts_value = λ σ p q h k. together_value σ p q q (second-alone p q h) ∙ ap (λ (l : List ℕ). (part_value σ l).x • part_value σ q) (sym (no_part p h.kind_is));
  parts_bare = λ p q h k. together_bare kind p q q (second-alone p q h) k;
  parts_known = λ table p q h k. times_parts_known table p q;
}

-- what a part and a scalar make
pub times_right-follows : (kind : ℕ) → Follows times_right times_parts kind scalar kind
unfolding part_value
times_right-follows kind = record {
  parts_value = λ σ p q h k. together_value σ p q p (first_alone p q k) ∙ ap (λ (l : List ℕ). (part_value σ l).x • part_value σ p) (sym (no_part q k.kind_is));
  parts_bare = λ p q h k. together_bare kind p q p (first_alone p q k) h;
  parts_known = λ table p q h k. times_parts_known table p q;
}

-- what two vector parts make in a dot
pub dot-follows : Follows dot_op dot_parts vector vector scalar
dot-follows = record { parts_value = dot_parts_value; parts_bare = dot_parts_bare; parts_known = dot_parts_known }

-- what two vector parts make in a wedge
pub wedge-follows : Follows wedge wedge_parts vector vector vector
wedge-follows = record { parts_value = wedge_parts_value; parts_bare = wedge_parts_bare; parts_known = wedge_parts_known }

-- ════ the operators

-- a form's terms fit its kind, by any of its names
fits_as : {table : List ℕ} {f : Form} {kind : ℕ} {v : (ℕ → Vec) → Vec} → Denotes table f kind v → AllFit kind f.terms
fits_as {f = f} d = subst (λ (k : ℕ). AllFit k f.terms) d.kind_is (form-fits f d.in_shape)

-- a kind is scalar or vector
small : {table : List ℕ} {f : Form} {kind : ℕ} {v : (ℕ → Vec) → Vec} → Denotes table f kind v → kind ≤ 1
small d = subst (λ (k : ℕ). k ≤ 1) d.kind_is d.in_shape.kind

-- the value may be written another way
pub denotes_as : {table : List ℕ} {f : Form} {kind : ℕ} {v w : (ℕ → Vec) → Vec} → Denotes table f kind v → ((σ : ℕ → Vec) → v σ ≡ w σ) → Denotes table f kind w
denotes_as d e = record { kind_is = d.kind_is; in_shape = d.in_shape; known = d.known; value_is = λ σ. d.value_is σ ∙ e σ }

module _ {table : List ℕ} {f g : Form} {kf kg : ℕ} {v w : (ℕ → Vec) → Vec} (df : Denotes table f kf v) (dg : Denotes table g kg w) (r : Form) where
  -- both operands are vectors
  vectors : T (eqb f.kind vector && eqb g.kind vector) → (kf ≡ vector) × (kg ≡ vector)
  vectors t =
      let k = and_split (eqb f.kind vector) (eqb g.kind vector) t in
      (sym df.kind_is ∙ eqb→eq f.kind vector k.0, sym dg.kind_is ∙ eqb→eq g.kind vector k.1)

  -- a product by an operation that its parts follow
  by_product : (op : Vec → Vec → Vec) (parts : List ℕ → List ℕ → List Term) (kind : ℕ) → kind ≤ 1 → Bilinear op → Follows op parts kf kg kind → product kind parts f g ≡ given r
      → Denotes table r kind (λ σ. op (v σ) (w σ))
  by_product op parts kind k L P e =
      denotes_as (product_denotes op L parts kf kg kind P table f g r k (fits_as df) (fits_as dg) df.known dg.known e)
      (λ σ i. op (df.value_is σ i) (dg.value_is σ i))

  -- the sum
  pub sum_denotes : sum_forms f g ≡ given r → Denotes table r kf (λ σ. v σ +v w σ)
  unfolding sum_forms value
  sum_denotes e =
      let t = required (eqb f.kind g.kind) 6 _ r e in
      let same : kg ≡ f.kind = sym dg.kind_is ∙ sym (eqb→eq f.kind g.kind t.0) in
      let d = within_denotes table f.kind (f.terms ++ g.terms) r df.in_shape.kind
      (all_append (λ (t : Term). Fits f.kind (monomial t)) f.terms g.terms (form-fits f df.in_shape) (subst (λ (k : ℕ). AllFit k g.terms) same (fits_as dg)))
      (all_append (λ (t : Term). MonomialKnown table (monomial t)) f.terms g.terms df.known dg.known) t.1 in
      record {
        kind_is = d.kind_is ∙ df.kind_is;
        in_shape = d.in_shape;
        known = d.known;
        value_is = λ σ. d.value_is σ ∙ append_value σ f.terms g.terms ∙ (λ i. df.value_is σ i +v dg.value_is σ i);
      }

  -- the product of which at least one operand is a scalar
  pub times_denotes : times_forms f g ≡ given r
      → Denotes table r (when eqb kf scalar then kg else kf) (λ σ. when eqb kf scalar then (v σ).x • w σ else (w σ).x • v σ)
  unfolding times_forms
  times_denotes e =
      let t = required (eqb f.kind scalar || eqb g.kind scalar) 6 _ r e in
      go (eqb kf scalar) refl
      (subst (λ (k : ℕ). T (eqb k scalar || eqb g.kind scalar)) df.kind_is t.0)
      ((λ i. product (when eqb (sym df.kind_is i) scalar then sym dg.kind_is i else sym df.kind_is i) times_parts f g) ∙ t.1)
    where
      go : (b : Bool) → eqb kf scalar ≡ b → T (b || eqb g.kind scalar) → product (when b then kg else kf) times_parts f g ≡ given r
          → Denotes table r (when b then kg else kf) (λ σ. when b then (v σ).x • w σ else (w σ).x • v σ)
      go true is t e =
          by_product times_left times_parts kg (small dg) times_left_bilinear
          (subst (λ (k : ℕ). Follows times_left times_parts k kg kg) (sym (eqb→eq kf scalar (subst T (sym is) tt))) (times_left-follows kg)) e
      go false is t e =
          by_product times_right times_parts kf (small df) times_right_bilinear
          (subst (λ (k : ℕ). Follows times_right times_parts kf k kf) (sym (sym dg.kind_is ∙ eqb→eq g.kind scalar t)) (times_right-follows kf)) e

  -- the dot
  pub dot_denotes : dot_forms f g ≡ given r → Denotes table r scalar (λ σ. scalar_value (dot (v σ) (w σ)))
  unfolding dot_forms
  dot_denotes e =
      let t = required (eqb f.kind vector && eqb g.kind vector) 6 _ r e in
      let k = vectors t.0 in
      by_product dot_op dot_parts scalar (omega arith) dot_bilinear
      (subst (λ (m : ℕ). Follows dot_op dot_parts m kg scalar) (sym k.0) (subst (λ (n : ℕ). Follows dot_op dot_parts vector n scalar) (sym k.1)
      dot-follows)) t.1

  -- the wedge
  pub wedge_denotes : wedge_forms f g ≡ given r → Denotes table r vector (λ σ. wedge (v σ) (w σ))
  unfolding wedge_forms
  wedge_denotes e =
      let t = required (eqb f.kind vector && eqb g.kind vector) 6 _ r e in
      let k = vectors t.0 in
      by_product wedge wedge_parts vector (omega arith) wedge_bilinear
      (subst (λ (m : ℕ). Follows wedge wedge_parts m kg vector) (sym k.0) (subst (λ (n : ℕ). Follows wedge wedge_parts vector n vector) (sym k.1)
      wedge-follows)) t.1

-- the triple
pub triple_denotes : {table : List ℕ} {f g h : Form} {kf kg kh : ℕ} {u v w : (ℕ → Vec) → Vec}
    → Denotes table f kf u → Denotes table g kg v → Denotes table h kh w → (r : Form) → triple_forms f g h ≡ given r
    → Denotes table r scalar (λ σ. scalar_value (triple (u σ) (v σ) (w σ)))
unfolding triple_forms
triple_denotes {f = f} {g = g} {h = h} df dg dh r e =
    let t = required (eqb f.kind vector && eqb g.kind vector && eqb h.kind vector) 6 _ r e in
    let fg = bound (wedge_forms f g) _ r t.1 in
    dot_denotes (wedge_denotes df dg fg.0 fg.1) dh r fg.2

-- ════ negation

negated-shape : (t : Term) → T (term_in_shape t) → T (term_in_shape (negated t))
unfolding coef_within
negated-shape t h =
    let s : TermShape t = term-opens t h in
    term-closes (negated t) (record {
      nonzero = λ e. s.nonzero (sym (I.neg_ℤ-neg_ℤ t.coef) ∙ ap neg_ℤ e);
      within = subst (λ (n : ℕ). T (leb n 2147483647)) (sym (R.nat_abs-neg t.coef)) s.within;
      in_order = s.in_order;
      fits = s.fits;
    })

negated-ascending : (ts : List Term) → Ascending ts → Ascending (map negated ts)
negated-ascending [] a = tt
negated-ascending (t ∷ []) a = (tt, tt)
negated-ascending (t ∷ u ∷ ts) a = (a.0, negated-ascending (u ∷ ts) a.1)

-- the negation of a form in shape
pub negate-in_shape : (f : Form) → FormInShape f → FormInShape (negate_form f)
unfolding negate_form part_fits term_kind
negate-in_shape f s = record {
  kind = s.kind;
  count = subst (λ (n : ℕ). n ≤ 48) (sym (length-map f.terms negated)) s.count;
  terms = T_all term_in_shape (map negated f.terms)
      (all_map (λ (t : Term). T (term_in_shape t)) (λ (t : Term). T (term_in_shape t)) negated negated-shape f.terms (all_T term_in_shape f.terms s.terms));
  parts = T_all (part_fits f.kind) (map negated f.terms)
      (all_map (λ (t : Term). T (part_fits f.kind t)) (λ (t : Term). T (part_fits f.kind t)) negated (λ t h. h) f.terms (all_T (part_fits f.kind) f.terms s.parts));
  ascending = terms-ascend (map negated f.terms) (negated-ascending f.terms (form-gathered f s).ascending);
}

-- the negation
pub negate_denotes : {table : List ℕ} {f : Form} {kind : ℕ} {v : (ℕ → Vec) → Vec} → Denotes table f kind v → Denotes table (negate_form f) kind (λ σ. negsuc 0 • v σ)
unfolding negate_form value
negate_denotes {table} {f} d = record {
  kind_is = d.kind_is;
  in_shape = negate-in_shape f d.in_shape;
  known = all_map (λ (t : Term). MonomialKnown table (monomial t)) (λ (t : Term). MonomialKnown table (monomial t)) negated (λ t h. h) f.terms d.known;
  value_is = λ σ. negated-values σ f.terms ∙ ap (λ (a : Vec). negsuc 0 • a) (d.value_is σ);
}
