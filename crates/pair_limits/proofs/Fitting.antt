-- The tests of a product: by the largest numbers of each side, or pair by pair, of the terms that stay. Assumes nothing.
use mathlib.Core.Path.{◌≡◌, refl, ap, sym, subst, ◌∙◌}
use mathlib.Core.Logic.{inl, inr}
use mathlib.Core.Bool.{Bool, true, false, ◌&&◌}
use mathlib.Core.List.{List, [], ◌∷◌, ◌++◌, map, flat_map, append-nil}
use Prim.Native.Nat.{ℕ, suc, ◌+◌, ◌*◌, ◌≤◌, ◌<◌}
use native.Mathlib.Omega.{arith}
use borrow.Author.Tests.{le-leb, lt-leb}
use lib.Dec.{T, leb}
use lib.IntN.{ℤ, pos}
use lib.ListN.{length, drop, get_or, drop_of_length-le}
use Rattle.specification.specs.Lists.{all}
use Rattle.specification.specs.Letters.{scalar, vector}
use Rattle.specification.specs.Values.{Vec, wedge}
use Rattle.specification.specs.Terms.{exchange_sign, staying, times_term, letters_fit, term_within, term_in_shape}
use Rattle.specification.specs.Terms as S
use Rattle.specification.specs.Reduction.{times_parts, dot_parts, wedge_parts, joined_scalars, pairs_of, pair_staying, product_terms}
use Rattle.theory.specs.Tests.{is_true, holds, and-true, and_same}
use Rattle.theory.specs.Elements.{All, all_implies, both_all, all_T, flat_map-append}
use Rattle.theory.specs.Order.{monomial}
use Rattle.theory.specs.Signs.{strict-sign}
use Rattle.theory.specs.Gathering.Tidy.{in_order-signs}
use Rattle.theory.specs.Shape.Terms.{Fits, no_part, term-opens}
use Rattle.theory.specs.Shape.Forms.{FormInShape, form-fits}
use Rattle.theory.specs.Shape.Bare.{Bare}
use Rattle.theory.proofs.Reduction.Products.{PartOf, Follows}
use Rattle.theory.proofs.Reduction.Operators.{times_left, times_right, dot_op, times_left-follows, times_right-follows, dot-follows, wedge-follows}
use Rattle.theory.specs.Reduction.Pairs.{pair_letters_fit, pair_coef_fits, MakesModest, times-modest, dot-modest, wedge-modest, letters-stay, coefs-stay}
use Rattle.theory.specs.Reduction.Pairs.{letters-alike, coefs-alike, stays_by-parts}
use Rattle.terms.specs.declared.types.Term.{Term}
use Rattle.terms.specs.Abstraction.{term_of, Counted}
use Rattle.rows.specs.Rows.{term_by, run_of, Run, form_by}
use Rattle.rows.proofs.Runs.{run_holds}
use Rattle.std.specs.Prelude.{Ok, Err}
use Rattle.refusal.specs.declared.Refusal.TheVariants.{ManyPairs, ManyLetters, LargeCoefficient}
use Rattle.refusal.specs.Tests.{test_of}
use Rattle.pairing.specs.declared.parts.Operation.{Operation}
use Rattle.pairing.specs.declared.parts.Operation.TheVariants.{Times, Dot, Wedge}
use Rattle.pairing.specs.Parts.{parts_of, Together, is_some}
use Rattle.pair_limits.specs.declared.Most.{Most}
use Rattle.pair_limits.specs.declared.Fit.{Fit}
use Rattle.pair_limits.specs.Limits.{Kinds, Operands, Paired, row_terms, test_pairs, FitOf, MostOf}
use Rattle.pair_limits.proofs.Largest.{Limited, limited, all_join, letters-found, coefs-found}

-- ════ by the operation

-- what two vector parts make has their letters, or fewer
modest_of : (op : Operation) → MakesModest (parts_of op)
unfolding parts_of
modest_of Times = times-modest
modest_of Dot = dot-modest
modest_of Wedge = wedge-modest

-- it follows an operation on values
pub kinds-follow : (op : Operation) (kind a b : ℕ) → Kinds op kind a b → (f : Vec → Vec → Vec) × Follows f (parts_of op) a b kind
unfolding Kinds parts_of
kinds-follow Times kind a b (inl k) = (
  times_left,
  subst (λ (m : ℕ). Follows times_left times_parts m b kind) (sym k.0) (subst (λ (n : ℕ). Follows times_left times_parts scalar n kind) (sym k.1)
      (times_left-follows kind)),
)
kinds-follow Times kind a b (inr k) = (
  times_right,
  subst (λ (m : ℕ). Follows times_right times_parts a m kind) (sym k.0) (subst (λ (n : ℕ). Follows times_right times_parts n scalar kind) (sym k.1)
      (times_right-follows kind)),
)
kinds-follow Dot kind a b k = (
  dot_op,
  subst (λ (m : ℕ). Follows dot_op dot_parts m b kind) (sym k.0) (subst (λ (n : ℕ). Follows dot_op dot_parts vector n kind) (sym k.1)
      (subst (λ (l : ℕ). Follows dot_op dot_parts vector vector l) (sym k.2) dot-follows)),
)
kinds-follow Wedge kind a b k = (
  wedge,
  subst (λ (m : ℕ). Follows wedge wedge_parts m b kind) (sym k.0) (subst (λ (n : ℕ). Follows wedge wedge_parts vector n kind) (sym k.1)
      (subst (λ (l : ℕ). Follows wedge wedge_parts vector vector l) (sym k.2) wedge-follows)),
)

-- ════ a pair

-- where all elements pass alike, and there is one, they pass where it does
all_alike : (f : S.Term → Bool) (b : Bool) (xs : List S.Term) → All (λ (x : S.Term). f x ≡ b) xs → (xs ≡ [] → ⊥) → all f xs ≡ b
unfolding all
all_alike f b [] h n = absurd (n refl)
all_alike f b (x ∷ []) h n = and-true (f x) ∙ h.0
all_alike f b (x ∷ y ∷ xs) h n = (λ i. h.0 i && all_alike f b (y ∷ xs) h.1 (λ e. more e) i) ∙ and_same b
  where
    more : y ∷ xs ≡ [] → ⊥
    more e = let l : suc _ ≡ 0 = ap length e in omega (arith, l)

module _ (op : Operation) (t u : S.Term) (p : Paired op t u) where
  left-part : PartOf p.left_kind t.part
  left-part = record { short = p.left_fits.part; kind_is = p.left_fits.kind_is }

  right-part : PartOf p.right_kind u.part
  right-part = record { short = p.right_fits.part; kind_is = p.right_fits.kind_is }

  -- the vector parts make bare terms
  bare_made : All (Bare p.kind (length t.part + length u.part)) (parts_of op t.part u.part)
  bare_made = (kinds-follow op p.kind p.left_kind p.right_kind p.kinds).1.parts_bare t.part u.part left-part right-part

  -- in a product by a scalar one of them is nothing, and the other in order
  pub paired-together : Together op t.part u.part
  unfolding Kinds Together
  paired-together = go op p.kinds
    where
      ordered-left : u.part ≡ [] → exchange_sign (t.part ++ u.part) ≡ pos 1
      ordered-left e = ap (λ (q : List ℕ). exchange_sign (t.part ++ q)) e ∙ ap exchange_sign (append-nil t.part) ∙ strict-sign t.part (term-opens t p.left_shape).in_order.part

      ordered-right : t.part ≡ [] → exchange_sign (t.part ++ u.part) ≡ pos 1
      ordered-right e = ap (λ (q : List ℕ). exchange_sign (q ++ u.part)) e ∙ strict-sign u.part (term-opens u p.right_shape).in_order.part

      go : (op : Operation) → Kinds op p.kind p.left_kind p.right_kind → Together op t.part u.part
      go Times (inl k) = let e = no_part t.part (p.left_fits.kind_is ∙ k.0) in (inl e, ordered-right e)
      go Times (inr k) = let e = no_part u.part (p.right_fits.kind_is ∙ k.0) in (inr e, ordered-left e)
      go Dot k = tt
      go Wedge k = tt

  -- which terms stay, the vector parts decide
  pub paired-staying : pair_staying (parts_of op) (t, u) ≡ map (times_term (joined_scalars t u)) (staying (parts_of op t.part u.part))
  paired-staying =
      stays_by-parts (parts_of op) t u (in_order-signs t.factors (term-opens t p.left_shape).in_order.each)
      (in_order-signs u.factors (term-opens u p.right_shape).in_order.each)

  -- where one stays, the tests of the terms that stay are those of the pair
  pub paired-letters : (pair_staying (parts_of op) (t, u) ≡ [] → ⊥) → all letters_fit (pair_staying (parts_of op) (t, u)) ≡ pair_letters_fit (t, u)
  paired-letters = all_alike letters_fit (pair_letters_fit (t, u)) (pair_staying (parts_of op) (t, u)) (letters-alike (parts_of op) (modest_of op) p.kind t u bare_made)

  pub paired-coefs : (pair_staying (parts_of op) (t, u) ≡ [] → ⊥) → all term_within (pair_staying (parts_of op) (t, u)) ≡ pair_coef_fits (t, u)
  paired-coefs = all_alike term_within (pair_coef_fits (t, u)) (pair_staying (parts_of op) (t, u)) (coefs-alike (parts_of op) (modest_of op) p.kind t u bare_made)

  paired-limits : All Limited (t ∷ []) × All Limited (u ∷ [])
  paired-limits = ((limited t p.left_shape, tt), (limited u p.right_shape, tt))

  -- none does
  pub none_stays : (r : Bool) → r ≡ is_some (staying (parts_of op t.part u.part)) → r ≡ false → pair_staying (parts_of op) (t, u) ≡ []
  unfolding is_some
  none_stays r e h = paired-staying ∙ go (staying (parts_of op t.part u.part)) (sym e ∙ h)
    where
      go : (xs : List S.Term) → is_some xs ≡ false → map (times_term (joined_scalars t u)) xs ≡ []
      go [] h = refl
      go (x ∷ xs) h = absurd (subst T h tt)

  -- at least one does
  pub some_stays : (r : Bool) → r ≡ is_some (staying (parts_of op t.part u.part)) → r ≡ true → pair_staying (parts_of op) (t, u) ≡ [] → ⊥
  unfolding is_some
  some_stays r e h n = go (staying (parts_of op t.part u.part)) (sym e ∙ h) (sym paired-staying ∙ n)
    where
      go : (xs : List S.Term) → is_some xs ≡ true → map (times_term (joined_scalars t u)) xs ≡ [] → ⊥
      go [] h n = subst T (sym h) tt
      go (x ∷ xs) h n = let l : suc _ ≡ 0 = ap length n in omega (arith, l)

-- ════ the operands

-- a term of a form in shape, and of its kind
abbrev Stands : ℕ → S.Term → Type 0
Stands kind t = T (term_in_shape t) × Fits kind (monomial t)

form-stands : (f : S.Form) → FormInShape f → All (Stands f.kind) f.terms
form-stands f s = both_all (λ (t : S.Term). T (term_in_shape t)) (λ (t : S.Term). Fits f.kind (monomial t)) f.terms (all_T term_in_shape f.terms s.terms) (form-fits f s)

-- each term of the one with each of the other
pub operands-paired : (op : Operation) (kind n : ℕ) (rows : List (List ℕ)) (coefs : List ℤ) (m : ℕ) (right : List (List ℕ)) (rights : List ℤ)
    → Operands op kind n rows coefs m right rights → All (λ (t : S.Term). All (Paired op t) (run_of m right rights)) (run_of n rows coefs)
operands-paired op kind n rows coefs m right rights o =
    all_implies (Stands o.left_kind) (λ (t : S.Term). All (Paired op t) (run_of m right rights))
    (λ t h. all_implies (Stands o.right_kind) (Paired op t)
    (λ u k. record {
      kind = kind;
      left_kind = o.left_kind;
      right_kind = o.right_kind;
      kinds = o.kinds;
      left_shape = h.0;
      right_shape = k.0;
      left_fits = h.1;
      right_fits = k.1;
    }) (run_of m right rights) (form-stands (form_by o.right_kind m right rights) o.right_form.in_shape))
    (run_of n rows coefs) (form-stands (form_by o.left_kind n rows coefs) o.left_form.in_shape)

-- what holds of all terms of a run, of the term of a row
pub at_row : (P : S.Term → Type 0) (n : ℕ) (rows : List (List ℕ)) (coefs : List ℤ) → Run n rows coefs → (i : ℕ) → i < n → (t : Term) (z : ℤ)
    → (term_of t ≡ term_by (get_or rows i []) z) × Counted t → z ≡ get_or coefs i (pos 0) → All P (run_of n rows coefs) → P (term_of t)
at_row P n rows coefs v i h t z q e a = subst P (sym (q.0 ∙ ap (term_by (get_or rows i [])) e)) (run_holds rows coefs n v.room v.beside P i h a)

-- ════ pair by pair

-- two tests, the second made only where the first holds
pub and-where-true : (a b : Bool) → a ≡ true → b ≡ (a && b)
and-where-true a b e = sym (ap (λ (x : Bool). x && b) e)

-- and where it does not
pub and-where-false : (a b : Bool) → a ≡ false → a ≡ (a && b)
and-where-false a b e = e ∙ sym (ap (λ (x : Bool). x && b) e)

-- no term
pub fit_none : FitOf [] (record { letters = true; coefs = true })
unfolding all
fit_none = record { letters = refl; coefs = refl }

-- no term of a pair
pub fit-empty : (ts : List S.Term) → ts ≡ [] → FitOf ts (record { letters = true; coefs = true })
fit-empty ts e = subst (λ (l : List S.Term). FitOf l (record { letters = true; coefs = true })) (sym e) fit_none

-- the terms of two lists
pub fit-joined : (xs ys : List S.Term) (a b r : Fit) → FitOf xs a → FitOf ys b → (r.letters ≡ (a.letters && b.letters)) × (r.coefs ≡ (a.coefs && b.coefs)) → FitOf (xs ++ ys) r
fit-joined xs ys a b r f g e = record {
  letters = e.0 ∙ (λ i. f.letters i && g.letters i) ∙ sym (all_join letters_fit xs ys);
  coefs = e.1 ∙ (λ i. f.coefs i && g.coefs i) ∙ sym (all_join term_within xs ys);
}

-- the terms of a pair of which one stays, by what its two terms have
module _ (op : Operation) (t u : S.Term) (p : Paired op t u) (s : pair_staying (parts_of op) (t, u) ≡ [] → ⊥) (a b : Most) (ma : MostOf (t ∷ []) a) (mb : MostOf (u ∷ []) b) where
  pub fit_found : (r : Fit) → r.letters ≡ (leb (a.vectors + b.vectors) 6 && leb (a.scalars + b.scalars) 2) → r.coefs ≡ leb (a.size * b.size) 2147483647
      → FitOf (pair_staying (parts_of op) (t, u)) r
  unfolding pairs_of flat_map all
  fit_found r e g =
      let l = paired-limits op t u p in
      record {
        letters = e ∙ sym (letters-found (t ∷ []) (u ∷ []) l.0 l.1 a b ma mb) ∙ and-true (pair_letters_fit (t, u)) ∙ sym (paired-letters op t u p s);
        coefs = g ∙ sym (coefs-found (t ∷ []) (u ∷ []) l.0 l.1 a b ma mb) ∙ and-true (pair_coef_fits (t, u)) ∙ sym (paired-coefs op t u p s);
      }

-- one left term: its pairs with the right terms from a place on
module _ (op : Operation) (t : S.Term) where
  pub row-none : (us : List S.Term) (n : ℕ) → length us ≤ n → FitOf (row_terms op t (drop n us)) (record { letters = true; coefs = true })
  unfolding row_terms flat_map
  row-none us n h = subst (λ (l : List S.Term). FitOf (row_terms op t l) (record { letters = true; coefs = true })) (sym (drop_of_length-le us h)) fit_none

  pub row_more : (us rest : List S.Term) (u : S.Term) (a b r : Fit) → us ≡ u ∷ rest → FitOf (pair_staying (parts_of op) (t, u)) a → FitOf (row_terms op t rest) b
      → (r.letters ≡ (a.letters && b.letters)) × (r.coefs ≡ (a.coefs && b.coefs)) → FitOf (row_terms op t us) r
  unfolding row_terms flat_map
  row_more us rest u a b r e f g h =
      subst (λ (l : List S.Term). FitOf (row_terms op t l) r) (sym e) (fit-joined (pair_staying (parts_of op) (t, u)) (row_terms op t rest) a b r f g h)

-- all left terms from a place on
module _ (op : Operation) (us : List S.Term) where
  pub pairs_none : (ts : List S.Term) (n : ℕ) → length ts ≤ n → FitOf (product_terms (parts_of op) (drop n ts) us) (record { letters = true; coefs = true })
  unfolding product_terms pairs_of flat_map
  pairs_none ts n h = subst (λ (l : List S.Term). FitOf (product_terms (parts_of op) l us) (record { letters = true; coefs = true })) (sym (drop_of_length-le ts h)) fit_none

  pub pairs_more : (ts rest : List S.Term) (t : S.Term) (a b r : Fit) → ts ≡ t ∷ rest → FitOf (row_terms op t us) a → FitOf (product_terms (parts_of op) rest us) b
      → (r.letters ≡ (a.letters && b.letters)) × (r.coefs ≡ (a.coefs && b.coefs)) → FitOf (product_terms (parts_of op) ts us) r
  unfolding row_terms product_terms pairs_of flat_map
  pairs_more ts rest t a b r e f g h =
      subst (λ (l : List S.Term). FitOf (product_terms (parts_of op) l us) r) (sym e)
      (subst (λ (l : List S.Term). FitOf l r) (sym (flat_map-append (pair_staying (parts_of op)) (map (λ u. (t, u)) us) (pairs_of rest us)))
      (fit-joined (row_terms op t us) (product_terms (parts_of op) rest us) a b r f g h))

-- ════ the tests

module _ (op : Operation) (ts us : List S.Term) where
  -- 7: too many pairs
  pub seven : 48 < length ts * length us → test_of (Err ManyPairs) ≡ test_pairs op ts us
  unfolding test_pairs
  seven n = rw (lt-leb _ 48 n)

  module _ (n : length ts * length us ≤ 48) where
    -- the most letters and the largest coefficients are within: nothing is refused
    pub quickly : (h : All Limited ts) (k : All Limited us) (a b : Most) → MostOf ts a → MostOf us b → (l c : Bool)
        → l ≡ (leb (a.vectors + b.vectors) 6 && leb (a.scalars + b.scalars) 2) → c ≡ leb (a.size * b.size) 2147483647
        → l ≡ true → c ≡ true → test_of (Ok tt) ≡ test_pairs op ts us
    unfolding test_pairs product_terms
    quickly h k a b ma mb l c e g p q =
        rw (
          le-leb _ 48 n,
          is_true (all letters_fit (product_terms (parts_of op) ts us))
              (letters-stay (parts_of op) (modest_of op) (pairs_of ts us) (holds (all pair_letters_fit (pairs_of ts us)) (letters-found ts us h k a b ma mb ∙ sym e ∙ p))),
          is_true (all term_within (product_terms (parts_of op) ts us))
              (coefs-stay (parts_of op) (modest_of op) (pairs_of ts us) (holds (all pair_coef_fits (pairs_of ts us)) (coefs-found ts us h k a b ma mb ∙ sym g ∙ q))),
        )

    module _ (r : Fit) (f : FitOf (product_terms (parts_of op) ts us) r) where
      -- 8: a term that stays with too many letters
      pub eight : r.letters ≡ false → test_of (Err ManyLetters) ≡ test_pairs op ts us
      unfolding test_pairs
      eight p = rw (le-leb _ 48 n, sym f.letters ∙ p)

      -- 9: its coefficient beyond
      pub nine : r.letters ≡ true → r.coefs ≡ false → test_of (Err LargeCoefficient) ≡ test_pairs op ts us
      unfolding test_pairs
      nine p q = rw (le-leb _ 48 n, sym f.letters ∙ p, sym f.coefs ∙ q)

      -- nothing is refused
      pub all_fit : r.letters ≡ true → r.coefs ≡ true → test_of (Ok tt) ≡ test_pairs op ts us
      unfolding test_pairs
      all_fit p q = rw (le-leb _ 48 n, sym f.letters ∙ p, sym f.coefs ∙ q)
