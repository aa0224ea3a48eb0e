-- Products in rows: the tests of the pairs, their terms brought in, what is gathered closed, and the kinds. Assumes nothing.
use mathlib.Core.Path.{◌≡◌, refl, ap, sym, subst, ◌∙◌}
use mathlib.Core.Logic.{◌⊎◌, inl, inr}
use mathlib.Core.Bool.{Bool, true, false, ◌&&◌}
use mathlib.Core.List.{List, [], ◌∷◌, ◌++◌, map, flat_map, append-nil}
use Prim.Native.Nat.{ℕ, zero, suc, ◌+◌, ◌*◌, ◌≤◌, ◌<◌}
use native.Mathlib.Nat as N
use native.Mathlib.Numerals.{add-one}
use native.Mathlib.Omega.{arith}
use borrow.Author.Tests.{eq-eqb, ne_eqb}
use lib.Dec.{T, leb, leb→le, eqb}
use lib.IntN.{ℤ, pos}
use lib.ListN.{length, take, get_or}
use Rattle.specification.specs.Lists.{all}
use Rattle.specification.specs.Letters.{scalar, vector}
use Rattle.specification.specs.Results.{Result, Test, given, ◌>>=◌, ◌>>◌, require}
use Rattle.specification.specs.Terms.{gather, letters_fit, term_within, within}
use Rattle.specification.specs.Terms as S
use Rattle.specification.specs.Reduction.{wedge_parts, pairs_of, pair_staying, product_terms}
use Rattle.specification.specs.Reduction.{product, times_forms, dot_forms, wedge_forms, triple_forms}
use Rattle.theory.specs.Tests.{and-false, required, passed}
use Rattle.theory.specs.Elements.{All, all_split, all_T, T_all, flat_map-append}
use Rattle.theory.specs.Shape.Forms.{AllFit, form-fits}
use Rattle.theory.proofs.Reduction.Products.{product_fits}
use Rattle.terms.specs.declared.types.Term.{Term}
use Rattle.terms.specs.Abstraction.{term_of, Counted}
use Rattle.terms.proofs.Arrays.{mapped-behind}
use Rattle.refusal.specs.Tests.{test_of}
use Rattle.std.specs.Prelude.{Ok, Err}
use Rattle.std.specs.Prelude as Std
use Rattle.refusal.specs.declared.Refusal.{Refusal}
use Rattle.refusal.specs.declared.Refusal.TheVariants.{WrongKind}
use Rattle.rows.specs.declared.Worked.{Worked}
use Rattle.rows.specs.Rows.{term_by, terms_by, run_of, Run, Light, form_by, RowsGive}
use Rattle.rows.proofs.Runs.{run_length, run_holds}
use Rattle.rows.proofs.RowForms.{light_more, rows_refused, rows_as}
use Rattle.pairing.specs.declared.parts.Few.{Few}
use Rattle.pairing.specs.declared.parts.Operation.{Operation}
use Rattle.pairing.specs.declared.parts.Operation.TheVariants.{Times, Dot, Wedge}
use Rattle.pairing.specs.Parts.{parts_of, list_of}
use Rattle.pair_limits.specs.Limits.{Kinds, Operands, Paired, row_terms, test_pairs}
use Rattle.pair_limits.proofs.Fitting.{kinds-follow, operands-paired}
use Rattle.gathering.specs.Bringing.{TermBroughtIn}
use Rattle.sums.specs.Results.{Brought, GatheredRows}
use Rattle.operators.specs.Products.{PairFits, Pair, PairMade, pairs_bound, few_bound, PairsFit}
use Rattle.sums.proofs.Bringing.{run_taken, run_all, brought_none, brought_term, brought_both, brought_as}

-- ════ at most two terms brought in

-- the first i of two terms
abbrev pub few_taken : Few → ℕ → List S.Term
few_taken few i = map term_of (take i (few.first ∷ few.second ∷ []))

few_next : (few : Few) (i : ℕ) (t : Term) → i < 2 → (i ≡ 0 → t ≡ few.first) → ((i ≡ 0 → ⊥) → t ≡ few.second)
    → few_taken few i ++ term_of t ∷ [] ≡ few_taken few (i + 1)
few_next few zero t h a b = ap (λ (x : Term). term_of x ∷ []) (a refl)
few_next few (suc zero) t h a b = ap (λ (x : Term). term_of few.first ∷ term_of x ∷ []) (b (λ e. absurd (omega (arith, e))))
few_next few (suc (suc i)) t h a b = absurd (omega arith)

module _ (n : ℕ) (rows : List (List ℕ)) (coefs : List ℤ) (few : Few) (i r : ℕ) (rows' : List (List ℕ)) (coefs' : List ℤ)
    (b : Brought i n rows coefs (few_taken few i) r rows' coefs') where
  -- one more of them
  pub few_more : (t : Term) (s : ℕ) (rows'' : List (List ℕ)) (coefs'' : List ℤ) → i < 2 → (i ≡ 0 → t ≡ few.first) → ((i ≡ 0 → ⊥) → t ≡ few.second)
      → TermBroughtIn r rows' coefs' t s rows'' coefs'' → Brought (i + 1) n rows coefs (few_taken few (i + 1)) s rows'' coefs''
  few_more t s rows'' coefs'' h f g d =
      brought_as n rows coefs (i + 1) (i + 1) (few_taken few i ++ term_of t ∷ []) (few_taken few (i + 1)) s rows'' coefs'' (omega arith) (few_next few i t h f g)
      (brought_both n rows coefs i 1 (few_taken few i) (term_of t ∷ []) r s rows' coefs' rows'' coefs'' b (brought_term r rows' coefs' t s rows'' coefs'' d))

  -- all of them
  pub few_all : i ≡ few.count → i ≤ 2 → Brought 2 n rows coefs (list_of few) r rows' coefs'
  unfolding list_of
  few_all e h = brought_as n rows coefs i 2 (few_taken few i) (list_of few) r rows' coefs' h (ap (few_taken few) e) b

-- ════ the pairs of one left term

flat_map-behind : {A B : Type 0} (f : A → List B) (xs : List A) (y : A) → flat_map f (xs ++ y ∷ []) ≡ flat_map f xs ++ f y
unfolding flat_map
flat_map-behind f xs y = flat_map-append f xs (y ∷ []) ∙ ap (λ (l : List _). flat_map f xs ++ l) (append-nil (f y))

row-behind : (op : Operation) (t : S.Term) (us : List S.Term) (u : S.Term) → row_terms op t (us ++ u ∷ []) ≡ row_terms op t us ++ pair_staying (parts_of op) (t, u)
unfolding row_terms
row-behind op t us u =
    ap (flat_map (pair_staying (parts_of op))) (mapped-behind (λ (u : S.Term). (t, u)) us u) ∙ flat_map-behind (pair_staying (parts_of op)) (map (λ u. (t, u)) us) (t, u)

-- none yet
pub row-none : (op : Operation) (t : S.Term) (n : ℕ) (rows : List (List ℕ)) (coefs : List ℤ) → Run n rows coefs
    → Brought (2 * 0) n rows coefs (row_terms op t []) n rows coefs
unfolding row_terms flat_map
row-none op t n rows coefs v = brought_none n rows coefs v

module _ (op : Operation) (t : Term) (m : ℕ) (right : List (List ℕ)) (rights : List ℤ) (v : Run m right rights) (j : ℕ) (h : j < m) (u : Term) (z : ℤ)
    (q : (term_of u ≡ term_by (get_or right j []) z) × Counted u) (e : z ≡ get_or rights j (pos 0)) where
  right_is : term_of u ≡ term_by (get_or right j []) (get_or rights j (pos 0))
  right_is = q.0 ∙ ap (term_by (get_or right j [])) e

  -- the pair at a place passed the tests
  pub pair_fits : Counted t → All (PairFits op (term_of t)) (run_of m right rights) → Pair op t u
  pair_fits k a =
      record {
        left = k;
        right = q.1;
        fits = subst (PairFits op (term_of t)) (sym right_is)
            (run_holds right rights m v.room v.beside (PairFits op (term_of t)) j h a);
      }

  -- its terms brought in
  pub row_more : (n : ℕ) (rows₀ : List (List ℕ)) (coefs₀ : List ℤ) (count : ℕ) (rows : List (List ℕ)) (coefs : List ℤ) (few : Few) (s : ℕ)
      (rows' : List (List ℕ)) (coefs' : List ℤ)
      → PairMade op t u few → Brought (2 * j) n rows₀ coefs₀ (row_terms op (term_of t) (take j (run_of m right rights))) count rows coefs
      → Brought 2 count rows coefs (list_of few) s rows' coefs'
      → Brought (2 * (j + 1)) n rows₀ coefs₀ (row_terms op (term_of t) (take (j + 1) (run_of m right rights))) s rows' coefs'
  row_more n rows₀ coefs₀ count rows coefs few s rows' coefs' p w b =
      let x = term_by (get_or right j []) (get_or rights j (pos 0)) in
      let us = take j (run_of m right rights) in
      let l : row_terms op (term_of t) us ++ list_of few ≡ row_terms op (term_of t) (take (j + 1) (run_of m right rights)) =
      ap (λ (l : List S.Term). row_terms op (term_of t) us ++ l) (p.is ∙ ap (λ (x : S.Term). pair_staying (parts_of op) (term_of t, x)) right_is)
      ∙ sym (ap (row_terms op (term_of t)) (run_taken m right rights v.room v.beside j h) ∙ row-behind op (term_of t) us x) in
      brought_as n rows₀ coefs₀ (2 * j + 2) (2 * (j + 1)) (row_terms op (term_of t) us ++ list_of few)
      (row_terms op (term_of t) (take (j + 1) (run_of m right rights))) s rows' coefs' (omega arith) l
      (brought_both n rows₀ coefs₀ (2 * j) 2 (row_terms op (term_of t) us) (list_of few) count s rows coefs rows' coefs' w b)

-- no coefficient is too large for the next
pub row-light : (j m n : ℕ) (rows₀ : List (List ℕ)) (coefs₀ : List ℤ) (ts : List S.Term) (count : ℕ) (rows : List (List ℕ)) (coefs : List ℤ) → j < m → m ≤ 48
    → Light pairs_bound n coefs₀
    → Brought (2 * j) n rows₀ coefs₀ ts count rows coefs → Light few_bound count coefs
row-light j m n rows₀ coefs₀ ts count rows coefs h k l w =
    light_more (pairs_bound + 2 * j * 2147483647) few_bound count coefs (omega arith) (w.light pairs_bound l)

-- all of them
pub row_all : (op : Operation) (t : S.Term) (m : ℕ) (right : List (List ℕ)) (rights : List ℤ) → Run m right rights
    → (j n : ℕ) (rows₀ : List (List ℕ)) (coefs₀ : List ℤ) (s : ℕ) (rows : List (List ℕ)) (coefs : List ℤ)
    → j ≤ m → m ≤ j → Brought (2 * j) n rows₀ coefs₀ (row_terms op t (take j (run_of m right rights))) s rows coefs
    → Brought (2 * m) n rows₀ coefs₀ (row_terms op t (run_of m right rights)) s rows coefs
row_all op t m right rights v j n rows₀ coefs₀ s rows coefs g h w =
    brought_as n rows₀ coefs₀ (2 * j) (2 * m) _ _ s rows coefs (omega arith) (ap (row_terms op t) (run_all m right rights v.room v.beside j h)) w

-- ════ all pairs

pairs-behind : (op : Operation) (ts : List S.Term) (t : S.Term) (us : List S.Term)
    → product_terms (parts_of op) (ts ++ t ∷ []) us ≡ product_terms (parts_of op) ts us ++ row_terms op t us
unfolding product_terms pairs_of row_terms
pairs-behind op ts t us =
    ap (flat_map (pair_staying (parts_of op))) (flat_map-behind (λ (t : S.Term). map (λ u. (t, u)) us) ts t)
    ∙ flat_map-append (pair_staying (parts_of op)) (pairs_of ts us) (map (λ u. (t, u)) us)

-- none yet
pub pairs_none : (op : Operation) (m : ℕ) (us : List S.Term) (more : List (List ℕ)) (beside : List ℤ)
    → Brought (2 * (0 * m)) 0 more beside (product_terms (parts_of op) [] us) 0 more beside
unfolding product_terms pairs_of flat_map run_of terms_by
pairs_none op m us more beside =
    brought_as 0 more beside 0 (2 * (0 * m)) [] [] 0 more beside (omega arith) refl
    (brought_none 0 more beside (record { room = omega arith; beside = omega arith; valid = tt; ascending = tt }))

-- so many pairs so far, and those of one more left term
pub pairs-so_far : (i n m : ℕ) → i < n → n * m ≤ 48 → i * m + m ≤ 48
pairs-so_far i n m h k =
    let e : (i + 1) * m ≡ i * m + m = ap (λ (n : ℕ). n * m) (add-one i) ∙ N.suc-mul i m in
    let g : i + 1 ≤ n = omega arith in
    omega (arith, e, N.mul-le-mul g (N.le_refl m))

-- no coefficient is too large for the next left term
pub pairs-light : (i m : ℕ) (more₀ : List (List ℕ)) (beside₀ : List ℤ) (ts : List S.Term) (count : ℕ) (more : List (List ℕ)) (beside : List ℤ) → i * m ≤ 48
    → Brought (2 * (i * m)) 0 more₀ beside₀ ts count more beside → Light pairs_bound count beside
unfolding Light
pairs-light i m more₀ beside₀ ts count more beside h w = light_more (0 + 2 * (i * m) * 2147483647) pairs_bound count beside (omega arith) (w.light 0 tt)

module _ (op : Operation) (n : ℕ) (rows : List (List ℕ)) (coefs : List ℤ) (v : Run n rows coefs) (m : ℕ) (us : List S.Term) (i : ℕ) (h : i < n) (t : Term)
    (z : ℤ)
    (q : (term_of t ≡ term_by (get_or rows i []) z) × Counted t) (e : z ≡ get_or coefs i (pos 0)) where
  left_is : term_of t ≡ term_by (get_or rows i []) (get_or coefs i (pos 0))
  left_is = q.0 ∙ ap (term_by (get_or rows i [])) e

  -- the pairs of a left term passed the tests
  pub left-fits : PairsFit op n (run_of n rows coefs) m us → All (PairFits op (term_of t)) us
  left-fits p =
      subst (λ (x : S.Term). All (PairFits op x) us) (sym left_is)
      (run_holds rows coefs n v.room v.beside (λ (x : S.Term). All (PairFits op x) us) i h p.fits)

  -- their terms brought in
  pub pairs_more : (more₀ : List (List ℕ)) (beside₀ : List ℤ) (count : ℕ) (more : List (List ℕ)) (beside : List ℤ) (s : ℕ) (more' : List (List ℕ))
      (beside' : List ℤ)
      → Brought (2 * (i * m)) 0 more₀ beside₀ (product_terms (parts_of op) (take i (run_of n rows coefs)) us) count more beside
      → Brought (2 * m) count more beside (row_terms op (term_of t) us) s more' beside'
      → Brought (2 * ((i + 1) * m)) 0 more₀ beside₀ (product_terms (parts_of op) (take (i + 1) (run_of n rows coefs)) us) s more' beside'
  pairs_more more₀ beside₀ count more beside s more' beside' w b =
      let k : (i + 1) * m ≡ i * m + m = ap (λ (n : ℕ). n * m) (add-one i) ∙ N.suc-mul i m in
      let ts = take i (run_of n rows coefs) in
      let l : product_terms (parts_of op) ts us ++ row_terms op (term_of t) us ≡ product_terms (parts_of op) (take (i + 1) (run_of n rows coefs)) us =
      ap (λ (x : S.Term). product_terms (parts_of op) ts us ++ row_terms op x us) left_is
      ∙ sym (ap (λ (l : List S.Term). product_terms (parts_of op) l us) (run_taken n rows coefs v.room v.beside i h)
      ∙ pairs-behind op ts (term_by (get_or rows i []) (get_or coefs i (pos 0))) us) in
      brought_as 0 more₀ beside₀ (2 * (i * m) + 2 * m) (2 * ((i + 1) * m)) (product_terms (parts_of op) ts us ++ row_terms op (term_of t) us)
      (product_terms (parts_of op) (take (i + 1) (run_of n rows coefs)) us) s more' beside'
      (omega (arith, k)) l
      (brought_both 0 more₀ beside₀ (2 * (i * m)) (2 * m) (product_terms (parts_of op) ts us) (row_terms op (term_of t) us) count s more beside more' beside' w b)

-- all of them
pub pairs_all : (op : Operation) (n : ℕ) (rows : List (List ℕ)) (coefs : List ℤ) → Run n rows coefs
    → (m : ℕ) (us : List S.Term) (i : ℕ) (more₀ : List (List ℕ)) (beside₀ : List ℤ) (s : ℕ) (more : List (List ℕ)) (beside : List ℤ)
    → i ≤ n → n ≤ i → Brought (2 * (i * m)) 0 more₀ beside₀ (product_terms (parts_of op) (take i (run_of n rows coefs)) us) s more beside
    → Brought (2 * (n * m)) 0 more₀ beside₀ (product_terms (parts_of op) (run_of n rows coefs) us) s more beside
pairs_all op n rows coefs v m us i more₀ beside₀ s more beside g h w =
    let e : i ≡ n = omega arith in
    let k : 2 * (i * m) ≤ 2 * (n * m) = N.mul-le-mul (N.le_refl 2) (N.mul-le-mul g (N.le_refl m)) in
    brought_as 0 more₀ beside₀ (2 * (i * m)) (2 * (n * m)) _ _ s more beside k
    (ap (λ (l : List S.Term). product_terms (parts_of op) l us) (run_all n rows coefs v.room v.beside i h)) w

-- ════ the tests of the pairs

-- they come first
product_tested : (op : Operation) (kind : ℕ) (f g : S.Form)
    → product kind (parts_of op) f g ≡ (test_pairs op f.terms g.terms >> within kind (gather (product_terms (parts_of op) f.terms g.terms)))
unfolding product test_pairs
product_tested op kind f g =
    three (leb (length f.terms * length g.terms) 48) (all letters_fit (product_terms (parts_of op) f.terms g.terms))
    (all term_within (product_terms (parts_of op) f.terms g.terms))
    (within kind (gather (product_terms (parts_of op) f.terms g.terms)))
  where
    three : (a b c : Bool) (r : Result S.Form) → (require a 7 >> (require b 8 >> (require c 9 >> r))) ≡ ((require a 7 >> (require b 8 >> require c 9)) >> r)
    three false b c r = refl
    three true false c r = refl
    three true true false r = refl
    three true true true r = refl

-- what holds of the terms of all pairs that stay, pair by pair
by-pair : (op : Operation) (P : S.Term → Type 0) (ts us : List S.Term) → All P (product_terms (parts_of op) ts us)
    → All (λ (t : S.Term). All (λ (u : S.Term). All P (pair_staying (parts_of op) (t, u))) us) ts
unfolding row_terms product_terms pairs_of flat_map
by-pair op P [] us a = tt
by-pair op P (t ∷ ts) us a =
    let w = all_split P (row_terms op t us) (product_terms (parts_of op) ts us) (subst (All P) (flat_map-append (pair_staying (parts_of op)) (map (λ u. (t, u)) us) (pairs_of ts us)) a) in
    (by_right us w.0, by-pair op P ts us w.1)
  where
    by_right : (us : List S.Term) → All P (row_terms op t us) → All (λ (u : S.Term). All P (pair_staying (parts_of op) (t, u))) us
    by_right [] a = tt
    by_right (u ∷ us) a = let w = all_split P (pair_staying (parts_of op) (t, u)) (row_terms op t us) a in (w.0, by_right us w.1)

-- three facts of each pair
each_fits : (op : Operation) (ts us : List S.Term) → All (λ (t : S.Term). All (Paired op t) us) ts
    → All (λ (t : S.Term). All (λ (u : S.Term). All (λ (x : S.Term). T (letters_fit x)) (pair_staying (parts_of op) (t, u))) us) ts
    → All (λ (t : S.Term). All (λ (u : S.Term). All (λ (x : S.Term). T (term_within x)) (pair_staying (parts_of op) (t, u))) us) ts
    → All (λ (t : S.Term). All (PairFits op t) us) ts
each_fits op [] us a b c = tt
each_fits op (t ∷ ts) us a b c = (one us a.0 b.0 c.0, each_fits op ts us a.1 b.1 c.1)
  where
    one : (us : List S.Term) → All (Paired op t) us → All (λ (u : S.Term). All (λ (x : S.Term). T (letters_fit x)) (pair_staying (parts_of op) (t, u))) us
        → All (λ (u : S.Term). All (λ (x : S.Term). T (term_within x)) (pair_staying (parts_of op) (t, u))) us
        → All (PairFits op t) us
    one [] a b c = tt
    one (u ∷ us) a b c = (
      record {
        paired = a.0;
        letters = T_all letters_fit (pair_staying (parts_of op) (t, u)) b.0;
        coef = T_all term_within (pair_staying (parts_of op) (t, u)) c.0;
      },
      one us a.1 b.1 c.1,
    )

-- the products are of the kind
products-fit : (op : Operation) (kind a b : ℕ) (ts us : List S.Term) → Kinds op kind a b → AllFit a ts → AllFit b us → T (all letters_fit (product_terms (parts_of op) ts us))
    → AllFit kind (product_terms (parts_of op) ts us)
products-fit op kind a b ts us k f g l = let w = kinds-follow op kind a b k in product_fits w.0 (parts_of op) a b kind w.1 ts us f g l

kind-small : (op : Operation) (kind a b : ℕ) → Kinds op kind a b → a ≤ 1 → b ≤ 1 → kind ≤ 1
unfolding Kinds
kind-small Times kind a b (inl k) f g = omega (arith, k.1)
kind-small Times kind a b (inr k) f g = omega (arith, k.1)
kind-small Dot kind a b k f g = omega (arith, k.2)
kind-small Wedge kind a b k f g = omega (arith, k.2)

-- ════ the product

module _ (op : Operation) (kind n : ℕ) (rows : List (List ℕ)) (coefs : List ℤ) (m : ℕ) (right : List (List ℕ)) (rights : List ℤ) where
  -- a pair is refused
  pub pairs_refused : (t : Refusal) → test_of (Err t) ≡ test_pairs op (run_of n rows coefs) (run_of m right rights) → (rows' : List (List ℕ)) (coefs' : List ℤ)
      → (a b : ℕ) → RowsGive (product kind (parts_of op) (form_by a n rows coefs) (form_by b m right rights)) (Err t) rows' coefs'
  pairs_refused t e rows' coefs' a b =
      rows_refused (product kind (parts_of op) (form_by a n rows coefs) (form_by b m right rights)) t rows' coefs'
      (product_tested op kind (form_by a n rows coefs) (form_by b m right rights)
      ∙ ap (λ (x : Test). x >> within kind (gather (product_terms (parts_of op) (run_of n rows coefs) (run_of m right rights)))) (sym e))

  module _ (u : Unit {0}) (e : test_of (Ok u) ≡ test_pairs op (run_of n rows coefs) (run_of m right rights)) where
    -- the terms that stay
    abbrev stayed : List S.Term
    stayed = product_terms (parts_of op) (run_of n rows coefs) (run_of m right rights)

    all_passed : test_pairs op (run_of n rows coefs) (run_of m right rights) ≡ given tt
    all_passed = sym e

    few_pairs : T (leb (length (run_of n rows coefs) * length (run_of m right rights)) 48)
    unfolding test_pairs
    few_pairs = (required (leb (length (run_of n rows coefs) * length (run_of m right rights)) 48) 7
        (require (all letters_fit stayed) 8 >> require (all term_within stayed) 9) tt all_passed).0

    few-letters : T (all letters_fit stayed) × T (all term_within stayed)
    unfolding test_pairs
    few-letters =
        let a = required (leb (length (run_of n rows coefs) * length (run_of m right rights)) 48) 7
        (require (all letters_fit stayed) 8 >> require (all term_within stayed) 9) tt all_passed in
        let b = required (all letters_fit stayed) 8 (require (all term_within stayed) 9) tt a.1 in
        (b.0, passed (all term_within stayed) 9 b.1)

    module _ (o : Operands op kind n rows coefs m right rights) where
      left-all_fit : AllFit o.left_kind (run_of n rows coefs)
      left-all_fit = form-fits (form_by o.left_kind n rows coefs) o.left_form.in_shape

      right-all_fit : AllFit o.right_kind (run_of m right rights)
      right-all_fit = form-fits (form_by o.right_kind m right rights) o.right_form.in_shape

      -- nothing is refused
      pub pairs_fit : PairsFit op n (run_of n rows coefs) m (run_of m right rights)
      pairs_fit = record {
        few =
            subst (λ (k : ℕ). k ≤ 48) (λ i. run_length rows coefs n o.left_form.run.room o.left_form.run.beside i * run_length right rights m
            o.right_form.run.room o.right_form.run.beside i)
            (leb→le (length (run_of n rows coefs) * length (run_of m right rights)) 48 few_pairs);
        right = o.right_form.few;
        fits = each_fits op (run_of n rows coefs) (run_of m right rights) (operands-paired op kind n rows coefs m right rights o)
            (by-pair op (λ (x : S.Term). T (letters_fit x)) (run_of n rows coefs) (run_of m right rights) (all_T letters_fit stayed few-letters.0))
            (by-pair op (λ (x : S.Term). T (term_within x)) (run_of n rows coefs) (run_of m right rights) (all_T term_within stayed few-letters.1));
      }

      module _ (k : ℕ) (more₀ : List (List ℕ)) (beside₀ : List ℤ) (r : ℕ) (more : List (List ℕ)) (beside : List ℤ)
          (b : Brought k 0 more₀ beside₀ (product_terms (parts_of op) (run_of n rows coefs) (run_of m right rights)) r more beside) where
        brought_is : run_of r more beside ≡ gather (product_terms (parts_of op) (run_of n rows coefs) (run_of m right rights))
        unfolding gather run_of terms_by
        brought_is = b.is

        -- what was gathered can be closed
        pub pairs-gathered : GatheredRows kind r more beside
        pairs-gathered = record {
          run = b.run;
          small = kind-small op kind o.left_kind o.right_kind o.kinds o.left_form.in_shape.kind o.right_form.in_shape.kind;
          terms = product_terms (parts_of op) (run_of n rows coefs) (run_of m right rights);
          is = brought_is;
          fit = products-fit op kind o.left_kind o.right_kind (run_of n rows coefs) (run_of m right rights) o.kinds left-all_fit right-all_fit
              few-letters.0;
        }

        -- and gives the product
        pub pairs-give : (w : Std.Result Worked Refusal) (rows' : List (List ℕ)) (coefs' : List ℤ) → RowsGive (within kind (run_of r more beside)) w rows' coefs'
            → (a b : ℕ) → RowsGive (product kind (parts_of op) (form_by a n rows coefs) (form_by b m right rights)) w rows' coefs'
        pairs-give w rows' coefs' g a d =
            rows_as (within kind (run_of r more beside)) (product kind (parts_of op) (form_by a n rows coefs) (form_by d m right rights)) w rows' coefs'
            (ap (within kind) brought_is ∙ sym (product_tested op kind (form_by a n rows coefs) (form_by d m right rights)
            ∙ ap (λ (x : Test). x >> within kind (gather (product_terms (parts_of op) (run_of n rows coefs) (run_of m right rights)))) all_passed)) g

-- ════ the kinds

module _ (f g : S.Form) (w : Std.Result Worked Refusal) (rows : List (List ℕ)) (coefs : List ℤ) where
  -- a scalar times anything
  pub times_left_lem : f.kind ≡ 0 → RowsGive (product g.kind (parts_of Times) f g) w rows coefs → RowsGive (times_forms f g) w rows coefs
  unfolding times_forms parts_of
  times_left_lem e = rows_as _ _ w rows coefs (rw (eq-eqb f.kind 0 e))

  -- anything times a scalar
  pub times_right_lem : (f.kind ≡ 0 → ⊥) → g.kind ≡ 0 → RowsGive (product f.kind (parts_of Times) f g) w rows coefs → RowsGive (times_forms f g) w rows coefs
  unfolding times_forms parts_of
  times_right_lem h e = rows_as _ _ w rows coefs (rw (ne_eqb f.kind 0 h, eq-eqb g.kind 0 e))

  -- two vectors
  pub dot-vectors : f.kind ≡ 1 → g.kind ≡ 1 → RowsGive (product scalar (parts_of Dot) f g) w rows coefs → RowsGive (dot_forms f g) w rows coefs
  unfolding dot_forms parts_of
  dot-vectors e h = rows_as _ _ w rows coefs (rw (eq-eqb f.kind 1 e, eq-eqb g.kind 1 h))

  pub wedge-vectors : f.kind ≡ 1 → g.kind ≡ 1 → RowsGive (product vector (parts_of Wedge) f g) w rows coefs → RowsGive (wedge_forms f g) w rows coefs
  unfolding wedge_forms parts_of
  wedge-vectors e h = rows_as _ _ w rows coefs (rw (eq-eqb f.kind 1 e, eq-eqb g.kind 1 h))

-- kinds that do not fit
module _ (f g : S.Form) (rows : List (List ℕ)) (coefs : List ℤ) where
  -- neither is a scalar
  pub times-six : (f.kind ≡ 0 → ⊥) → (g.kind ≡ 0 → ⊥) → RowsGive (times_forms f g) (Err WrongKind) rows coefs
  unfolding times_forms
  times-six h k = rows_refused (times_forms f g) WrongKind rows coefs (rw (ne_eqb f.kind 0 h, ne_eqb g.kind 0 k))

  -- one of them is none
  no-vectors : (f.kind ≡ 1 → ⊥) ⊎ (g.kind ≡ 1 → ⊥) → (eqb f.kind 1 && eqb g.kind 1) ≡ false
  no-vectors (inl h) = rw (ne_eqb f.kind 1 h)
  no-vectors (inr h) = rw (ne_eqb g.kind 1 h) (and-false (eqb f.kind 1))

  pub dot-six : (f.kind ≡ 1 → ⊥) ⊎ (g.kind ≡ 1 → ⊥) → RowsGive (dot_forms f g) (Err WrongKind) rows coefs
  unfolding dot_forms
  dot-six h = rows_refused (dot_forms f g) WrongKind rows coefs (rw (no-vectors h))

  pub wedge-six : (f.kind ≡ 1 → ⊥) ⊎ (g.kind ≡ 1 → ⊥) → RowsGive (wedge_forms f g) (Err WrongKind) rows coefs
  unfolding wedge_forms
  wedge-six h = rows_refused (wedge_forms f g) WrongKind rows coefs (rw (no-vectors h))

-- ════ the triple

module _ (f g h : S.Form) where
  -- the third is no vector
  pub triple-six : (rows : List (List ℕ)) (coefs : List ℤ) → (h.kind ≡ 1 → ⊥) → RowsGive (triple_forms f g h) (Err WrongKind) rows coefs
  unfolding triple_forms
  triple-six rows coefs n =
      rows_refused (triple_forms f g h) WrongKind rows coefs (rw (ne_eqb h.kind 1 n, and-false (eqb f.kind 1 && eqb g.kind 1)))

  -- with a third vector it is a wedge and a dot
  triple_is : h.kind ≡ 1 → triple_forms f g h ≡ (wedge_forms f g >>= λ fg. dot_forms fg h)
  unfolding triple_forms wedge_forms
  triple_is e = rw (eq-eqb h.kind 1 e) (again (eqb f.kind 1 && eqb g.kind 1) (product vector wedge_parts f g) (λ fg. dot_forms fg h))
    where
      again : (b : Bool) (x : Result S.Form) (k : S.Form → Result S.Form) → (require (b && true) 6 >> ((require b 6 >> x) >>= k)) ≡ ((require b 6 >> x) >>= k)
      again true x k = refl
      again false x k = refl

  module _ (rows : List (List ℕ)) (coefs : List ℤ) (e : h.kind ≡ 1) where
    -- the wedge is refused
    pub triple_refused : (w : Refusal) → RowsGive (wedge_forms f g) (Err w) rows coefs → (rows' : List (List ℕ)) (coefs' : List ℤ) → RowsGive (triple_forms f g h) (Err w) rows' coefs'
    triple_refused w x rows' coefs' =
        rows_refused (triple_forms f g h) w rows' coefs' (triple_is e ∙ ap (λ (r : Result S.Form). r >>= λ fg. dot_forms fg h) (sym x.is))

    -- the dot follows
    pub triple-dot : (w : Worked) → RowsGive (wedge_forms f g) (Ok w) rows coefs → (r : Std.Result Worked Refusal) (rows' : List (List ℕ)) (coefs' : List ℤ)
        → RowsGive (dot_forms (form_by w.kind w.count rows coefs) h) r rows' coefs'
        → RowsGive (triple_forms f g h) r rows' coefs'
    triple-dot w x r rows' coefs' =
        rows_as (dot_forms (form_by w.kind w.count rows coefs) h) (triple_forms f g h) r rows' coefs'
        (sym (triple_is e ∙ ap (λ (r : Result S.Form). r >>= λ fg. dot_forms fg h) (sym x.is)))
