-- Terms and forms: their order, putting a term in the order of forms, gathering, limits. Assumes nothing.
--
-- A factor is a list of letters: one for a scalar letter, two for a dot, three for a triple.
-- A vector part is a list of letters: none for nothing, one for a letter, two for a wedge.
use Rattle.std.specs.Prelude.{Bool, true, false, not, ◌&&◌, List, [], ◌∷◌, ◌++◌, map, ℤ, pos, negsuc, neg_ℤ, nat_abs, ◌+ℤ◌, ◌*ℤ◌, length, ltb, leb, eqb}
use Prim.Native.Nat.{ℕ, zero, suc, ◌+◌, Ordering}
use Rattle.specification.specs.Lists.{then_by, by_order, order, is_less, is_not_more, all, select, ascend, compare_lists, sorted}
use Rattle.specification.specs.Results.{Result, given, ◌>>◌, require, when◌then◌else◌}
use Rattle.specification.specs.Letters.{scalar, vector}

-- a coefficient, scalar factors, and a vector part
pub record Term : Type 0 where
  pub coef : ℤ
  pub factors : List (List ℕ)
  pub part : List ℕ

-- a kind (0 scalar, 1 vector) and terms
pub record Form : Type 0 where
  pub kind : ℕ
  pub terms : List Term

-- a dot as a factor
abbrev pub dot_of : ℕ → ℕ → List ℕ
dot_of a b = a ∷ b ∷ []

-- a triple as a factor
abbrev pub triple_of : ℕ → ℕ → ℕ → List ℕ
triple_of a b c = a ∷ b ∷ c ∷ []

-- a wedge as a vector part
abbrev pub wedge_of : ℕ → ℕ → List ℕ
wedge_of a b = a ∷ b ∷ []

-- the kind of a term: vector where it has a vector part
unfoldable pub term_kind : Term → ℕ
term_kind t = when eqb (length t.part) 0 then scalar else vector

-- ════ the order

-- letters by their numbers
abbrev pub compare_letters : List ℕ → List ℕ → Ordering
compare_letters = compare_lists order

-- factor lists by their number of factors first, then at the first factor that differs
abbrev pub compare_factors : List (List ℕ) → List (List ℕ) → Ordering
compare_factors = compare_lists compare_letters

-- "Terms compare by vector part, then by factor list"
unfoldable pub compare_terms : Term → Term → Ordering
compare_terms t u = then_by (compare_letters t.part u.part) (compare_factors t.factors u.factors)

-- ════ a term put in the order of forms

-- two letters of a triple or a wedge: an exchange turns the sign, equal letters make the term vanish
unfoldable pub pair_sign : ℕ → ℕ → ℤ
pair_sign a b = by_order (order a b) (pos 1) (pos 0) (negsuc 0)

-- a letter against those behind it
unfoldable pub sign_before : ℕ → List ℕ → ℤ
sign_before a [] = pos 1
sign_before a (b ∷ bs) = pair_sign a b *ℤ sign_before a bs

-- the sign that the exchanges leave when the letters are put in ascending order; 0 where two are equal
unfoldable pub exchange_sign : List ℕ → ℤ
exchange_sign [] = pos 1
exchange_sign (a ∷ bs) = sign_before a bs *ℤ exchange_sign bs

-- exchanges count in a triple, not in a dot
unfoldable pub factor_sign : List ℕ → ℤ
factor_sign f = when eqb (length f) 3 then exchange_sign f else pos 1

-- the signs of all factors
unfoldable pub factors_sign : List (List ℕ) → ℤ
factors_sign [] = pos 1
factors_sign (f ∷ fs) = factor_sign f *ℤ factors_sign fs

-- the sign that all exchanges in a term leave; 0 where two letters of a triple or a wedge are equal
abbrev pub term_sign : Term → ℤ
term_sign t = factors_sign t.factors *ℤ exchange_sign t.part

-- letters ascend inside each factor and the part, factors ascend, equal ones kept; a vanishing term gets the coefficient 0
unfoldable pub tidy : Term → Term
tidy t = record {
  coef = t.coef *ℤ term_sign t;
  factors = sorted compare_letters (map (sorted order) t.factors);
  part = sorted order t.part;
}

-- the number 0
unfoldable pub is_zero : ℤ → Bool
is_zero (pos zero) = true
is_zero (pos (suc n)) = false
is_zero (negsuc n) = false

-- "equal letters there make the term vanish"
unfoldable pub vanishes : Term → Bool
vanishes t = is_zero (term_sign t)

-- the terms that do not vanish
unfoldable pub staying : List Term → List Term
staying ts = select (λ t. not (vanishes t)) ts

-- the same term with another coefficient
abbrev pub with_coef : ℤ → Term → Term
with_coef k t = record { coef = k; factors = t.factors; part = t.part }

-- a product with 1 as its coefficient
abbrev pub plus : List (List ℕ) → List ℕ → Term
plus factors part = record { coef = pos 1; factors = factors; part = part }

-- a product with −1 as its coefficient
abbrev pub minus : List (List ℕ) → List ℕ → Term
minus factors part = record { coef = negsuc 0; factors = factors; part = part }

-- a product of two terms, at most one with a vector part: it "joins the factors, multiplies the coefficients and keeps the vector part"
unfoldable pub times_term : Term → Term → Term
times_term t u = record { coef = t.coef *ℤ u.coef; factors = t.factors ++ u.factors; part = t.part ++ u.part }

-- the sign turned
abbrev pub negated : Term → Term
negated t = with_coef (neg_ℤ t.coef) t

-- ════ gathering

-- a term in front of a list, unless its coefficient is 0: "zeros dropped"
unfoldable pub keep : Term → List Term → List Term
keep t ts = when is_zero t.coef then ts else t ∷ ts

-- a tidy term put into a strictly ascending list; "like terms are added, zeros dropped"
unfoldable pub insert : Term → List Term → List Term
insert t [] = keep t []
insert t (u ∷ us) =
    let behind = u ∷ insert t us in
    by_order (compare_terms t u) (keep t (u ∷ us)) (keep (with_coef (t.coef +ℤ u.coef) u) us) behind

-- the terms, each put in the order of forms, put one after the other into a list gathered before
unfoldable pub gather_into : (done terms : List Term) → List Term
gather_into done [] = done
gather_into done (t ∷ ts) = gather_into (insert (tidy t) done) ts

-- like terms added, zeros dropped, strictly ascending
unfoldable pub gather : List Term → List Term
gather ts = gather_into [] ts

-- ════ limits

-- "within ±2147483647"
unfoldable pub coef_within : ℤ → Bool
coef_within k = leb (nat_abs k) 2147483647

-- the coefficient of a term is within
unfoldable pub term_within : Term → Bool
term_within t = coef_within t.coef

-- the vector letters of factors, repeats counted
unfoldable pub vector_letters_of : List (List ℕ) → ℕ
vector_letters_of [] = 0
vector_letters_of (f ∷ fs) = (when eqb (length f) 1 then 0 else length f) + vector_letters_of fs

-- the scalar letters of factors, repeats counted
unfoldable pub scalar_letters_of : List (List ℕ) → ℕ
scalar_letters_of [] = 0
scalar_letters_of (f ∷ fs) = (when eqb (length f) 1 then 1 else 0) + scalar_letters_of fs

-- the vector letters of a term
unfoldable pub vector_letters : Term → ℕ
vector_letters t = vector_letters_of t.factors + length t.part

-- the scalar letters of a term
unfoldable pub scalar_letters : Term → ℕ
scalar_letters t = scalar_letters_of t.factors

-- "at most 6 vector letters and 2 scalar letters"
unfoldable pub letters_fit : Term → Bool
letters_fit t = leb (vector_letters t) 6 && leb (scalar_letters t) 2

-- 9: a gathered coefficient beyond; 10: more than 48 terms; else the form
unfoldable pub within : (kind : ℕ) (terms : List Term) → Result Form
within kind ts = do
  require (all term_within ts) 9
  require (leb (length ts) 48) 10
  given (record { kind = kind; terms = ts })

-- ════ the one shape of a term

-- a scalar letter, a dot whose letters ascend or are equal, a triple whose letters ascend strictly
unfoldable pub factor_in_shape : List ℕ → Bool
factor_in_shape [] = false
factor_in_shape (a ∷ []) = true
factor_in_shape (a ∷ b ∷ []) = leb a b
factor_in_shape (a ∷ b ∷ c ∷ []) = ltb a b && ltb b c
factor_in_shape (a ∷ b ∷ c ∷ d ∷ fs) = false

-- nothing, one letter, or a wedge whose letters ascend strictly
unfoldable pub part_in_shape : List ℕ → Bool
part_in_shape [] = true
part_in_shape (a ∷ []) = true
part_in_shape (a ∷ b ∷ []) = ltb a b
part_in_shape (a ∷ b ∷ c ∷ fs) = false

-- "factors ascend in that order, equal ones kept"
abbrev pub factor_not_after : List ℕ → List ℕ → Bool
factor_not_after f g = is_not_more (compare_letters f g)

-- "strictly ascending"
abbrev pub term_before : Term → Term → Bool
term_before t u = is_less (compare_terms t u)

-- a coefficient not 0 and within, order inside, order of factors, and letters within the limits
unfoldable pub term_in_shape : Term → Bool
term_in_shape t =
    not (is_zero t.coef) && coef_within t.coef
    && all factor_in_shape t.factors && ascend factor_not_after t.factors && part_in_shape t.part
    && letters_fit t
