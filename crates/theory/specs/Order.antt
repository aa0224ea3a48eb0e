-- The orders of the definitions (letters, lists of letters, lists of factors, terms) are strict and total: of two, one is less, or they are equal. Assumes nothing.
use Rattle.std.specs.Prelude.{◌≡◌, ◌⊎◌, Bool, true, false, not, T, ltb, eqb, length}
use Rattle.std.proofs.Math.Path.{refl}
use Rattle.std.proofs.Common.{sym, ◌∙◌, ap, subst, arith, ltb→lt, nltb→le, eqb→eq}
use Rattle.std.proofs.Math.Logic.{inl, inr}
use mathlib.Core.List.{List, [], ◌∷◌}
use Prim.Native.Nat.{ℕ, ◌<◌, ◌≤◌, Ordering}
use Rattle.std.proofs.Math.Nat as N
use Rattle.std.proofs.Math.Dec.{compare_is_eq, eqb_refl}
use Rattle.specification.specs.Results.{when◌then◌else◌}
use Rattle.specification.specs.Lists.{then_by, order, first_difference, compare_lists}
use Rattle.specification.specs.Terms.{Term, compare_letters, compare_factors, compare_terms}

-- what a comparison says
pub data View {A : Type 0} (Lt : A → A → Type 0) (x y : A) : Ordering → Type 0 where
  vlt : Lt x y → View Lt x y Ordering.lt
  veq : x ≡ y → View Lt x y Ordering.eq
  vgt : Lt y x → View Lt x y Ordering.gt

-- a comparison that decides a strict total order
pub record Laws {A : Type 0} (cmp : A → A → Ordering) (Lt : A → A → Type 0) : Type 0 where
  pub view : (x y : A) → View Lt x y (cmp x y)
  pub trans : (x y z : A) → Lt x y → Lt y z → Lt x z
  pub irr : (x : A) → Lt x x → ⊥

-- what a comparison says of two says the same of two others that are ordered alike
view-map : {A B : Type 0} {LtA : A → A → Type 0} {LtB : B → B → Type 0} {a b : A} {x y : B} {o : Ordering}
    → (LtA a b → LtB x y) → (a ≡ b → x ≡ y) → (LtA b a → LtB y x) → View LtA a b o → View LtB x y o
view-map l e g (vlt h) = vlt (l h)
view-map l e g (veq h) = veq (e h)
view-map l e g (vgt h) = vgt (g h)

-- a first comparison, and where it finds no difference a second
view_then : {A B : Type 0} {LtA : A → A → Type 0} {LtB : B → B → Type 0} {a b : A} {x y : B} {o r : Ordering}
    → (LtA a b → LtB x y) → (a ≡ b → View LtB x y r) → (LtA b a → LtB y x) → View LtA a b o → View LtB x y (then_by o r)
view_then l e g (vlt h) = vlt (l h)
view_then l e g (veq h) = e h
view_then l e g (vgt h) = vgt (g h)

-- ════ numbers

-- less, as a relation to hand on
abbrev pub LtN : ℕ → ℕ → Type 0
LtN x y = x < y

view-nat : (x y : ℕ) → View LtN x y (order x y)
unfolding order
view-nat x y = go (ltb x y) (ltb→lt x y) (nltb→le x y) (eqb x y) (eqb→eq x y) (λ e. subst (λ (z : ℕ). T (eqb x z)) e (eqb_refl x))
  where
    go : (b : Bool) → (T b → x < y) → (T (not b) → y ≤ x) → (c : Bool) → (T c → x ≡ y) → (x ≡ y → T c)
        → View LtN x y (when b then Ordering.lt else when c then Ordering.eq else Ordering.gt)
    go true l g c e n = vlt (l tt)
    go false l g true e n = veq (e tt)
    go false l g false e n = vgt (more (g tt) n)
      where
        more : y ≤ x → (x ≡ y → ⊥) → y < x
        more h k = pick (N.eq-or-lt_of_le h)
          where
            pick : (y ≡ x) ⊎ (y < x) → y < x
            pick (inl p) = absurd (k (sym p))
            pick (inr p) = p

-- the order of numbers
pub nat-laws : Laws order LtN
nat-laws = record { view = view-nat; trans = λ x y z h g. omega arith; irr = λ x h. N.lt_irrefl x h }

-- ════ lists

module _ {A : Type 0} (Lt : A → A → Type 0) where
  -- less at the first difference; a shorter start is less
  abbrev pub Lex : List A → List A → Type 0
  Lex [] [] = ⊥
  Lex [] (y ∷ l) = Unit {0}
  Lex (x ∷ k) [] = ⊥
  Lex (x ∷ k) (y ∷ l) = Lt x y ⊎ ((x ≡ y) × Lex k l)

  -- shorter, or of the same length and less at the first difference
  abbrev pub LtList : List A → List A → Type 0
  LtList k l = (length k < length l) ⊎ ((length k ≡ length l) × Lex k l)

module _ {A : Type 0} {cmp : A → A → Ordering} {Lt : A → A → Type 0} (L : Laws cmp Lt) where
  lex-view : (k l : List A) → View (Lex Lt) k l (first_difference cmp k l)
  unfolding first_difference
  lex-view [] [] = veq refl
  lex-view [] (y ∷ l) = vlt tt
  lex-view (x ∷ k) [] = vgt tt
  lex-view (x ∷ k) (y ∷ l) =
      let rest = lex-view k l in
      view_then inl (λ e. view-map (λ h. inr (e, h)) (λ h i. e i ∷ h i) (λ h. inr (sym e, h)) rest) inl (L.view x y)

  lex-trans : (k l m : List A) → Lex Lt k l → Lex Lt l m → Lex Lt k m
  lex-trans [] [] m h g = absurd h
  lex-trans [] (y ∷ l) [] h g = g
  lex-trans [] (y ∷ l) (z ∷ m) h g = tt
  lex-trans (x ∷ k) [] m h g = absurd h
  lex-trans (x ∷ k) (y ∷ l) [] h g = g
  lex-trans (x ∷ k) (y ∷ l) (z ∷ m) (inl h) (inl g) = inl (L.trans x y z h g)
  lex-trans (x ∷ k) (y ∷ l) (z ∷ m) (inl h) (inr g) = inl (subst (λ (w : A). Lt x w) g.0 h)
  lex-trans (x ∷ k) (y ∷ l) (z ∷ m) (inr h) (inl g) = inl (subst (λ (w : A). Lt w z) (sym h.0) g)
  lex-trans (x ∷ k) (y ∷ l) (z ∷ m) (inr h) (inr g) = inr (h.0 ∙ g.0, lex-trans k l m h.1 g.1)

  lex-irr : (k : List A) → Lex Lt k k → ⊥
  lex-irr [] h = h
  lex-irr (x ∷ k) (inl h) = L.irr x h
  lex-irr (x ∷ k) (inr h) = lex-irr k h.1

  list-view : (k l : List A) → View (LtList Lt) k l (compare_lists cmp k l)
  unfolding compare_lists
  list-view k l =
      let rest = lex-view k l in
      view_then inl (λ e. view-map (λ h. inr (e, h)) (λ h. h) (λ h. inr (sym e, h)) rest) inl (view-nat (length k) (length l))

  list-trans : (k l m : List A) → LtList Lt k l → LtList Lt l m → LtList Lt k m
  list-trans k l m (inl h) (inl g) = inl (omega arith)
  list-trans k l m (inl h) (inr g) = inl (omega arith)
  list-trans k l m (inr h) (inl g) = inl (omega arith)
  list-trans k l m (inr h) (inr g) = inr (h.0 ∙ g.0, lex-trans k l m h.1 g.1)

  list-irr : (k : List A) → LtList Lt k k → ⊥
  list-irr k (inl h) = N.lt_irrefl (length k) h
  list-irr k (inr h) = lex-irr k h.1

  -- the order of lists, from that of their elements
  pub list-laws : Laws (compare_lists cmp) (LtList Lt)
  list-laws = record { view = list-view; trans = list-trans; irr = list-irr }

-- ════ terms: by vector part, then by factor list

-- a term without its coefficient: the vector part, the factors
abbrev pub Monomial : Type 0
Monomial = List ℕ × List (List ℕ)

-- the monomial of a term
abbrev pub monomial : Term → Monomial
monomial t = (t.part, t.factors)

-- letters by length, then at the first difference
abbrev pub LtLetters : List ℕ → List ℕ → Type 0
LtLetters = LtList LtN

-- factors by length, then at the first difference
abbrev pub LtFactors : List (List ℕ) → List (List ℕ) → Type 0
LtFactors = LtList LtLetters

-- by vector part, then by factors
abbrev pub LtMonomial : Monomial → Monomial → Type 0
LtMonomial m n = LtLetters m.0 n.0 ⊎ ((m.0 ≡ n.0) × LtFactors m.1 n.1)

-- the comparison of terms, which sees no coefficient
abbrev pub compare_monomials : Monomial → Monomial → Ordering
compare_monomials m n = then_by (compare_letters m.0 n.0) (compare_factors m.1 n.1)

pub compare_terms-monomial : (t u : Term) → compare_terms t u ≡ compare_monomials (monomial t) (monomial u)
unfolding compare_terms
compare_terms-monomial t u = refl

pub letters-laws : Laws compare_letters LtLetters
letters-laws = list-laws nat-laws

pub factors-laws : Laws compare_factors LtFactors
factors-laws = list-laws letters-laws

monomial-view : (p q : Monomial) → View LtMonomial p q (compare_monomials p q)
monomial-view p q =
    let rest = factors-laws.view p.1 q.1 in
    view_then inl (λ e. view-map (λ h. inr (e, h)) (λ h i. (e i, h i)) (λ h. inr (sym e, h)) rest) inl (letters-laws.view p.0 q.0)

monomial-trans : (p q r : Monomial) → LtMonomial p q → LtMonomial q r → LtMonomial p r
monomial-trans p q r (inl h) (inl g) = inl (letters-laws.trans p.0 q.0 r.0 h g)
monomial-trans p q r (inl h) (inr g) = inl (subst (λ (w : List ℕ). LtLetters p.0 w) g.0 h)
monomial-trans p q r (inr h) (inl g) = inl (subst (λ (w : List ℕ). LtLetters w r.0) (sym h.0) g)
monomial-trans p q r (inr h) (inr g) = inr (h.0 ∙ g.0, factors-laws.trans p.1 q.1 r.1 h.1 g.1)

monomial-irr : (p : Monomial) → LtMonomial p p → ⊥
monomial-irr p (inl h) = letters-laws.irr p.0 h
monomial-irr p (inr h) = factors-laws.irr p.1 h.1

pub monomial-laws : Laws compare_monomials LtMonomial
monomial-laws = record { view = monomial-view; trans = monomial-trans; irr = monomial-irr }

-- terms compare as less, equal, greater by their monomials: equal exactly where part and factors are
pub term-view : (t u : Term) → View LtMonomial (monomial t) (monomial u) (compare_terms t u)
term-view t u = subst (View LtMonomial (monomial t) (monomial u)) (sym (compare_terms-monomial t u)) (monomial-view (monomial t) (monomial u))

-- ════ what a comparison finds

module _ {A : Type 0} {cmp : A → A → Ordering} {Lt : A → A → Type 0} (L : Laws cmp Lt) where
  less_from : {x y : A} {o : Ordering} → View Lt x y o → Lt x y → o ≡ Ordering.lt
  less_from (vlt h) l = refl
  less_from {x} (veq h) l = absurd (L.irr x (subst (λ (w : A). Lt x w) (sym h) l))
  less_from {x} {y} (vgt h) l = absurd (L.irr x (L.trans x y x l h))

  equal_from : {x y : A} {o : Ordering} → View Lt x y o → x ≡ y → o ≡ Ordering.eq
  equal_from {x} (vlt h) e = absurd (L.irr x (subst (λ (w : A). Lt x w) (sym e) h))
  equal_from (veq h) e = refl
  equal_from {x} (vgt h) e = absurd (L.irr x (subst (λ (w : A). Lt w x) (sym e) h))

  more_from : {x y : A} {o : Ordering} → View Lt x y o → Lt y x → o ≡ Ordering.gt
  more_from {x} {y} (vlt h) l = absurd (L.irr x (L.trans x y x h l))
  more_from {x} (veq h) l = absurd (L.irr x (subst (λ (w : A). Lt w x) (sym h) l))
  more_from (vgt h) l = refl

  -- it finds what is less, what is equal and what is more
  pub compares-less : (x y : A) → Lt x y → cmp x y ≡ Ordering.lt
  compares-less x y h = less_from (L.view x y) h

  pub compares-equal : (x y : A) → x ≡ y → cmp x y ≡ Ordering.eq
  compares-equal x y e = equal_from (L.view x y) e

  pub compares_more : (x y : A) → Lt y x → cmp x y ≡ Ordering.gt
  compares_more x y h = more_from (L.view x y) h

  found-equal : {x y : A} {o : Ordering} → View Lt x y o → o ≡ Ordering.eq → x ≡ y
  found-equal (vlt h) e = absurd (subst (λ (o : Ordering). T (not (compare_is_eq o))) e tt)
  found-equal (veq h) e = h
  found-equal (vgt h) e = absurd (subst (λ (o : Ordering). T (not (compare_is_eq o))) e tt)

  -- what it finds equal is equal
  pub compared-equal : (x y : A) → cmp x y ≡ Ordering.eq → x ≡ y
  compared-equal x y e = found-equal (L.view x y) e

-- terms compare as equal exactly where part and factors are equal
pub compare_terms_eq : (t u : Term) → compare_terms t u ≡ Ordering.eq → (t.part ≡ u.part) × (t.factors ≡ u.factors)
compare_terms_eq t u e =
    let m : monomial t ≡ monomial u = compared-equal monomial-laws (monomial t) (monomial u) (sym (compare_terms-monomial t u) ∙ e) in
    (ap (λ (n : Monomial). n.0) m, ap (λ (n : Monomial). n.1) m)

-- and the other way round
pub eq_compare_terms : (t u : Term) → t.part ≡ u.part → t.factors ≡ u.factors → compare_terms t u ≡ Ordering.eq
eq_compare_terms t u p f = compare_terms-monomial t u ∙ compares-equal monomial-laws (monomial t) (monomial u) (λ i. (p i, f i))
