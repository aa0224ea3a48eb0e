-- A term in shape: what the test says, part by part. It is tidy, and tidying keeps what the limits look at. Assumes nothing.
use Rattle.std.specs.Prelude.{◌≡◌, ◌⊎◌, Bool, not, ◌&&◌, T, eqb, leb, ltb, length, ℤ, pos, negsuc, nat_abs}
use Rattle.std.proofs.Math.Path.{refl, sym}
use Rattle.std.proofs.Common.{◌∙◌, ap, subst, inl, inr, arith, leb→le, le→leb, ltb→lt, lt→ltb, eqb→eq}
use Rattle.std.proofs.Math.Bool.{true, false}
use mathlib.Core.List.{List, [], ◌∷◌, ◌++◌, map}
use Prim.Native.Nat.{ℕ, zero, suc, ◌+◌, ◌<◌, ◌≤◌, Ordering}
use Rattle.std.proofs.Math.Nat as N
use Rattle.algebra.specs.Integers.{NonZero, pos-nonzero, negsuc-nonzero}
use Rattle.specification.specs.Results.{when◌then◌else◌}
use Rattle.specification.specs.Lists.{is_not_more, all, ascend, order, put_into, sorted}
use Rattle.specification.specs.Letters.{scalar, vector}
use Rattle.specification.specs.Terms.{Term, compare_letters, tidy, is_zero, coef_within, vector_letters_of, scalar_letters_of}
use Rattle.specification.specs.Terms.{vector_letters, scalar_letters, letters_fit, factor_in_shape, part_in_shape, factor_not_after, term_in_shape}
use Rattle.theory.specs.Tests.{and_both, and_split, not-zero}
use Rattle.theory.specs.Elements.{All, all_implies, both_all, all_T, T_all}
use Rattle.theory.specs.Order.{View, vlt, veq, vgt, Monomial, monomial, LtLetters, letters-laws}
use Rattle.theory.specs.Sorting as O
use Rattle.theory.specs.Signs.{Strict}
use Rattle.theory.specs.Gathering.Tidy.{FactorInOrder, InOrder, in_order-tidy}

-- ════ the order of factors

not_after : {f g : List ℕ} {o : Ordering} → View LtLetters f g o → T (is_not_more o) → O.Le letters-laws f g
not_after (vlt h) t = inl h
not_after (veq h) t = inr h
not_after (vgt h) t = absurd t

is_not-after : {f g : List ℕ} {o : Ordering} → View LtLetters f g o → O.Le letters-laws f g → T (is_not_more o)
is_not-after (vlt h) e = tt
is_not-after (veq h) e = tt
is_not-after {f} {g} (vgt h) (inl e) = letters-laws.irr f (letters-laws.trans f g f e h)
is_not-after {f} (vgt h) (inr e) = letters-laws.irr f (subst (λ (w : List ℕ). LtLetters w f) (sym e) h)

ascend-factors : (fs : List (List ℕ)) → T (ascend factor_not_after fs) → O.Asc letters-laws fs
unfolding ascend
ascend-factors [] t = tt
ascend-factors (f ∷ []) t = (tt, tt)
ascend-factors (f ∷ g ∷ fs) t =
    let w = and_split (factor_not_after f g) (ascend factor_not_after (g ∷ fs)) t in (not_after (letters-laws.view f g) w.0, ascend-factors (g ∷ fs) w.1)

factors-ascend : (fs : List (List ℕ)) → O.Asc letters-laws fs → T (ascend factor_not_after fs)
unfolding ascend
factors-ascend [] a = tt
factors-ascend (f ∷ []) a = tt
factors-ascend (f ∷ g ∷ fs) a = and_both (factor_not_after f g) (ascend factor_not_after (g ∷ fs)) (is_not-after (letters-laws.view f g) a.0) (factors-ascend (g ∷ fs) a.1)

nonzero-coef : (c : ℤ) → T (not (is_zero c)) → NonZero c
unfolding is_zero
nonzero-coef (pos zero) t = absurd t
nonzero-coef (pos (suc n)) t = pos-nonzero n
nonzero-coef (negsuc n) t = negsuc-nonzero n

coef-nonzero : (c : ℤ) → NonZero c → T (not (is_zero c))
coef-nonzero c h = subst (λ (b : Bool). T (not b)) (sym (not-zero c h)) tt

-- ════ factors and parts

le_cases : (a b : ℕ) → a ≤ b → (a < b) ⊎ (a ≡ b)
le_cases a b h = go (N.eq-or-lt_of_le h)
  where
    go : (a ≡ b) ⊎ (a < b) → (a < b) ⊎ (a ≡ b)
    go (inl e) = inr e
    go (inr l) = inl l

le_of : (a b : ℕ) → (a < b) ⊎ (a ≡ b) → a ≤ b
le_of a b (inl h) = omega arith
le_of a b (inr h) = omega arith

-- one, two or three letters
abbrev pub OneToThree : List ℕ → Type 0
OneToThree f = (1 ≤ length f) × (length f ≤ 3)

factor-opens : (f : List ℕ) → T (factor_in_shape f) → FactorInOrder f × OneToThree f
unfolding factor_in_shape
factor-opens [] t = absurd t
factor-opens (a ∷ []) t = (record { ascend = (tt, tt); strict = λ e. absurd (omega (arith, e)) }, (omega arith, omega arith))
factor-opens (a ∷ b ∷ []) t = (record { ascend = (le_cases a b (leb→le a b t), (tt, tt)); strict = λ e. absurd (omega (arith, e)) }, (omega arith, omega arith))
factor-opens (a ∷ b ∷ c ∷ []) t =
    let w = and_split (ltb a b) (ltb b c) t in (
      record {
        ascend = (inl (ltb→lt a b w.0), (inl (ltb→lt b c w.1), (tt, tt)));
        strict = λ e. (ltb→lt a b w.0, (ltb→lt b c w.1, (tt, tt)));
      },
      (omega arith, omega arith),
    )
factor-opens (a ∷ b ∷ c ∷ d ∷ f) t = absurd t

factor-closes : (f : List ℕ) → FactorInOrder f → OneToThree f → T (factor_in_shape f)
unfolding factor_in_shape
factor-closes [] s n = absurd (omega (arith, n.0))
factor-closes (a ∷ []) s n = tt
factor-closes (a ∷ b ∷ []) s n = le→leb a b (le_of a b s.ascend.0)
factor-closes (a ∷ b ∷ c ∷ []) s n =
    let w : Strict (a ∷ b ∷ c ∷ []) = s.strict refl in and_both (ltb a b) (ltb b c) (lt→ltb a b w.0) (lt→ltb b c w.1.0)
factor-closes (a ∷ b ∷ c ∷ d ∷ f) s n = absurd (omega (arith, n.1))

part-opens : (p : List ℕ) → T (part_in_shape p) → Strict p × (length p ≤ 2)
unfolding part_in_shape
part-opens [] t = (tt, omega arith)
part-opens (a ∷ []) t = ((tt, tt), omega arith)
part-opens (a ∷ b ∷ []) t = ((ltb→lt a b t, (tt, tt)), omega arith)
part-opens (a ∷ b ∷ c ∷ p) t = absurd t

part-closes : (p : List ℕ) → Strict p → length p ≤ 2 → T (part_in_shape p)
unfolding part_in_shape
part-closes [] s n = tt
part-closes (a ∷ []) s n = tt
part-closes (a ∷ b ∷ []) s n = lt→ltb a b s.0
part-closes (a ∷ b ∷ c ∷ p) s n = absurd (omega (arith, n))

-- ════ terms

-- the kind that a vector part gives
abbrev pub kind_of_part : List ℕ → ℕ
kind_of_part p = when eqb (length p) 0 then scalar else vector

-- a part of the scalar kind is nothing
pub no_part : (p : List ℕ) → kind_of_part p ≡ scalar → p ≡ []
no_part [] h = refl
no_part (a ∷ p) h = go (eqb (length (a ∷ p)) 0) (eqb→eq (length (a ∷ p)) 0) h
  where
    go : (b : Bool) → (T b → length (a ∷ p) ≡ 0) → (when b then scalar else vector) ≡ scalar → a ∷ p ≡ []
    go true e h = absurd (omega (arith, e tt))
    go false e h = absurd (omega arith)

-- a monomial of a kind, within the limits of a term
pub record Fits (kind : ℕ) (m : Monomial) : Type 0 where
  pub lengths : All OneToThree m.1
  pub part : length m.0 ≤ 2
  pub vectors : vector_letters_of m.1 + length m.0 ≤ 6
  pub scalars : scalar_letters_of m.1 ≤ 2
  pub kind_is : kind_of_part m.0 ≡ kind

-- a term of a kind, however many letters it has
pub record Formed (kind : ℕ) (t : Term) : Type 0 where
  pub lengths : All OneToThree t.factors
  pub part : length t.part ≤ 2
  pub kind_is : kind_of_part t.part ≡ kind

-- so is one within the limits
pub fits-formed : (kind : ℕ) (t : Term) → Fits kind (monomial t) → Formed kind t
fits-formed kind t h = record { lengths = h.lengths; part = h.part; kind_is = h.kind_is }

-- what the test of a term's shape says
pub record TermShape (t : Term) : Type 0 where
  pub nonzero : NonZero t.coef
  pub within : T (coef_within t.coef)
  pub in_order : InOrder (monomial t)
  pub fits : Fits (kind_of_part t.part) (monomial t)

-- what the test of its letters says
pub letters-open : (t : Term) → T (letters_fit t) → (vector_letters_of t.factors + length t.part ≤ 6) × (scalar_letters_of t.factors ≤ 2)
unfolding letters_fit vector_letters scalar_letters
letters-open t h =
    let w = and_split (leb (vector_letters t) 6) (leb (scalar_letters t) 2) h in (leb→le (vector_letters t) 6 w.0, leb→le (scalar_letters t) 2 w.1)

-- and what makes it hold
pub letters-close : (t : Term) → vector_letters_of t.factors + length t.part ≤ 6 → scalar_letters_of t.factors ≤ 2 → T (letters_fit t)
unfolding letters_fit vector_letters scalar_letters
letters-close t v s = and_both (leb (vector_letters t) 6) (leb (scalar_letters t) 2) (le→leb (vector_letters t) 6 v) (le→leb (scalar_letters t) 2 s)

-- with it a term of a kind is within the limits
pub formed-fits : (kind : ℕ) (t : Term) → Formed kind t → T (letters_fit t) → Fits kind (monomial t)
formed-fits kind t h l =
    let w = letters-open t l in record { lengths = h.lengths; part = h.part; vectors = w.0; scalars = w.1; kind_is = h.kind_is }

-- six tests, as a term's shape has them
six-both : (a b c d e f : Bool) → T a → T b → T c → T d → T e → T f → T (a && b && c && d && e && f)
six-both a b c d e f ta tb tc td te tf =
    and_both (a && b && c && d && e) f (and_both (a && b && c && d) e (and_both (a && b && c) d (and_both (a && b) c (and_both a b ta tb) tc) td) te) tf

six-split : (a b c d e f : Bool) → T (a && b && c && d && e && f) → T a × T b × T c × T d × T e × T f
six-split a b c d e f t =
    let w₅ = and_split (a && b && c && d && e) f t in
    let w₄ = and_split (a && b && c && d) e w₅.0 in
    let w₃ = and_split (a && b && c) d w₄.0 in
    let w₂ = and_split (a && b) c w₃.0 in
    let w₁ = and_split a b w₂.0 in
    (w₁.0, w₁.1, w₂.1, w₃.1, w₄.1, w₅.1)

-- what the test says
pub term-opens : (t : Term) → T (term_in_shape t) → TermShape t
unfolding term_in_shape
term-opens t h =
    let w = six-split (not (is_zero t.coef)) (coef_within t.coef) (all factor_in_shape t.factors) (ascend factor_not_after t.factors) (part_in_shape t.part) (letters_fit t) h in
    let fs = all_T factor_in_shape t.factors w.2 in
    let p = part-opens t.part w.4 in
    record {
      nonzero = nonzero-coef t.coef w.0;
      within = w.1;
      in_order = record {
        part = p.0;
        each = all_implies (λ (f : List ℕ). T (factor_in_shape f)) FactorInOrder (λ f h. (factor-opens f h).0) t.factors fs;
        order = ascend-factors t.factors w.3;
      };
      fits = record {
        lengths = all_implies (λ (f : List ℕ). T (factor_in_shape f)) OneToThree (λ f h. (factor-opens f h).1) t.factors fs;
        part = p.1;
        vectors = (letters-open t w.5).0;
        scalars = (letters-open t w.5).1;
        kind_is = refl;
      };
    }

-- so each factor passes the test of its shape
pub factors-in_shape : (t : Term) → TermShape t → All (λ (f : List ℕ). T (factor_in_shape f)) t.factors
factors-in_shape t s =
    all_implies (λ (f : List ℕ). FactorInOrder f × OneToThree f) (λ (f : List ℕ). T (factor_in_shape f)) (λ f w. factor-closes f w.0 w.1) t.factors
    (both_all FactorInOrder OneToThree t.factors s.in_order.each s.fits.lengths)

-- and so does the part
pub part_in_shape_lem : (t : Term) → TermShape t → T (part_in_shape t.part)
part_in_shape_lem t s = part-closes t.part s.in_order.part s.fits.part

-- what makes the test hold
pub term-closes : (t : Term) → TermShape t → T (term_in_shape t)
unfolding term_in_shape
term-closes t s =
    six-both (not (is_zero t.coef)) (coef_within t.coef) (all factor_in_shape t.factors) (ascend factor_not_after t.factors) (part_in_shape t.part) (letters_fit t)
    (coef-nonzero t.coef s.nonzero)
    s.within
    (T_all factor_in_shape t.factors (factors-in_shape t s))
    (factors-ascend t.factors s.in_order.order)
    (part_in_shape_lem t s)
    (letters-close t s.fits.vectors s.fits.scalars)

-- a term in shape has a coefficient within the limit
pub in_limit : (t : Term) → T (term_in_shape t) → nat_abs t.coef ≤ 2147483647
unfolding coef_within
in_limit t h = leb→le (nat_abs t.coef) 2147483647 (term-opens t h).within

-- a term in shape is tidy
pub in_shape-tidy : (t : Term) → T (term_in_shape t) → tidy t ≡ t
in_shape-tidy t h = in_order-tidy t (term-opens t h).in_order

-- ════ what tidying keeps

-- a number that adds up over factors
module _ (S : List (List ℕ) → ℕ) (g : List ℕ → ℕ) (nil : S [] ≡ 0) (cons : (f : List ℕ) (l : List (List ℕ)) → S (f ∷ l) ≡ g f + S l) (same : (f : List ℕ) → g (sorted order f) ≡ g f) where
  sum-put : (f : List ℕ) (l : List (List ℕ)) → S (put_into compare_letters f l) ≡ g f + S l
  unfolding put_into
  sum-put f [] = cons f []
  sum-put f (h ∷ l) = go (is_not_more (compare_letters f h)) (sum-put f l)
    where
      go : (b : Bool) → S (put_into compare_letters f l) ≡ g f + S l → S (when b then f ∷ h ∷ l else h ∷ put_into compare_letters f l) ≡ g f + S (h ∷ l)
      go true ih = cons f (h ∷ l)
      go false ih = omega (arith, ih, cons h (put_into compare_letters f l), cons h l)

  sum-sorted : (l : List (List ℕ)) → S (sorted compare_letters (map (sorted order) l)) ≡ S l
  unfolding sorted
  sum-sorted [] = refl
  sum-sorted (f ∷ l) = sum-put (sorted order f) (sorted compare_letters (map (sorted order) l)) ∙ (λ i. same f i + sum-sorted l i) ∙ sym (cons f l)

  sum-append : (k l : List (List ℕ)) → S (k ++ l) ≡ S k + S l
  sum-append [] l = omega (arith, nil)
  sum-append (f ∷ k) l = omega (arith, cons f (k ++ l), cons f k, sum-append k l)

length_same : (f : List ℕ) → length (sorted order f) ≡ length f
length_same f = O.length-sorted order f

vectors-tidy : (l : List (List ℕ)) → vector_letters_of (sorted compare_letters (map (sorted order) l)) ≡ vector_letters_of l
unfolding vector_letters_of
vectors-tidy = sum-sorted vector_letters_of (λ f. when eqb (length f) 1 then 0 else length f) refl (λ f l. refl) (λ f. ap (λ (n : ℕ). when eqb n 1 then 0 else n) (length_same f))

scalars-tidy : (l : List (List ℕ)) → scalar_letters_of (sorted compare_letters (map (sorted order) l)) ≡ scalar_letters_of l
unfolding scalar_letters_of
scalars-tidy = sum-sorted scalar_letters_of (λ f. when eqb (length f) 1 then 1 else 0) refl (λ f l. refl) (λ f. ap (λ (n : ℕ). when eqb n 1 then 1 else 0) (length_same f))

-- vector letters of joined factors
pub vectors-append : (k l : List (List ℕ)) → vector_letters_of (k ++ l) ≡ vector_letters_of k + vector_letters_of l
unfolding vector_letters_of
vectors-append = sum-append vector_letters_of (λ f. when eqb (length f) 1 then 0 else length f) refl (λ f l. refl) (λ f. ap (λ (n : ℕ). when eqb n 1 then 0 else n) (length_same f))

-- scalar letters of joined factors
pub scalars-append : (k l : List (List ℕ)) → scalar_letters_of (k ++ l) ≡ scalar_letters_of k + scalar_letters_of l
unfolding scalar_letters_of
scalars-append = sum-append scalar_letters_of (λ f. when eqb (length f) 1 then 1 else 0) refl (λ f l. refl) (λ f. ap (λ (n : ℕ). when eqb n 1 then 1 else 0) (length_same f))

lengths-each : (l : List (List ℕ)) → All OneToThree l → All OneToThree (map (sorted order) l)
lengths-each [] a = tt
lengths-each (f ∷ l) a = ((omega (arith, length_same f, a.0.0), omega (arith, length_same f, a.0.1)), lengths-each l a.1)

-- tidying keeps the kind and the limits
pub tidy-fits : (kind : ℕ) (t : Term) → Fits kind (monomial t) → Fits kind (monomial (tidy t))
unfolding tidy
tidy-fits kind t s = record {
  lengths = O.all_sorted compare_letters OneToThree (map (sorted order) t.factors) (lengths-each t.factors s.lengths);
  part = omega (arith, length_same t.part, s.part);
  vectors = omega (arith, vectors-tidy t.factors, length_same t.part, s.vectors);
  scalars = omega (arith, scalars-tidy t.factors, s.scalars);
  kind_is = ap (λ (n : ℕ). when eqb n 0 then scalar else vector) (length_same t.part) ∙ s.kind_is;
}
