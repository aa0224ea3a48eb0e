-- The tree of a printed term is worked to the term: each partial product of a term in shape is in shape. Assumes nothing.
use Rattle.std.specs.Prelude.{◌≡◌, refl, Bool, true, false, not, ℕ, pos}
use Rattle.std.proofs.Common.{sym, ◌∙◌}
use Rattle.std.proofs.Math.Path.{ap, subst}
use mathlib.Core.List.{List, [], ◌∷◌, ◌++◌, append_assoc, append-nil}
use Rattle.std.proofs.Math.Dec.{T}
use Rattle.specification.specs.Results.{given}
use Rattle.specification.specs.Letters.{scalar, vector, kind_of}
use Rattle.specification.specs.Terms.{Term, Form, plus, factor_in_shape, part_in_shape, term_in_shape}
use Rattle.specification.specs.Expressions.{Expr, Constant, Times}
use Rattle.specification.specs.Reduction.{dot_forms, wedge_forms, triple_forms, letter_form, work_with, work}
use Rattle.theory.specs.Elements.{All, all_split}
use Rattle.theory.specs.Shape.Terms.{kind_of_part, term-opens, factors-in_shape, part_in_shape_lem}
use Rattle.theory.specs.Shape.Letters.{Known, known_is, FactorKnown}
use Rattle.theory.specs.Reduction.Standing.{one_term, times_one, dot-stands, wedge-stands, triple-stands, constant-stands, front-closes}
use Rattle.theory.specs.Text.Products.{letter_expr, factor_expr, part_expr, with_part, chain, unsized}

-- a product with this coefficient
abbrev pub sized : ℕ → List (List ℕ) → List ℕ → Term
sized n fs p = record { coef = pos n; factors = fs; part = p }

-- a scalar term times a term with the coefficient 1
times-works : (e f : Expr) (n : ℕ) (fs gs : List (List ℕ)) (p : List ℕ) → work e ≡ given (one_term scalar (sized n fs []))
    → work f ≡ given (one_term (kind_of_part p) (plus gs p)) → T (term_in_shape (sized n (fs ++ gs) p))
    → work (Times e f) ≡ given (one_term (kind_of_part p) (sized n (fs ++ gs) p))
unfolding work_with
times-works e f n fs gs p a b h = rw (a, b) (times_one (pos n) fs gs p h)

-- ════ the items

module _ (table : List ℕ) where
  -- a letter of the table is worked with its kind
  known_works : (kind a : ℕ) → Known table kind a → letter_form a (kind_of table a) ≡ letter_form a kind
  known_works kind a h = ap (letter_form a) (known_is table kind a h).1

  -- the tree of a factor is worked to the factor
  pub factor-works : (f : List ℕ) → T (factor_in_shape f) → FactorKnown table f → work (factor_expr table f) ≡ given (one_term scalar (plus (f ∷ []) []))
  unfolding factor_expr work_with factor_in_shape letter_form
  factor-works [] h k = absurd h
  factor-works (a ∷ []) h k = ap given (known_works scalar a k.0)
  factor-works (a ∷ b ∷ []) h k = (λ i. dot_forms (known_works vector a k.0 i) (known_works vector b k.1.0 i)) ∙ dot-stands a b h
  factor-works (a ∷ b ∷ c ∷ []) h k =
      (λ i. triple_forms (known_works vector a k.0 i) (known_works vector b k.1.0 i) (known_works vector c k.1.1.0 i)) ∙ triple-stands a b c h
  factor-works (a ∷ b ∷ c ∷ d ∷ f) h k = absurd h

  -- the tree of a vector part is worked to the part
  pub part-works : (a : ℕ) (p : List ℕ) → T (part_in_shape (a ∷ p)) → All (Known table vector) (a ∷ p)
      → work (part_expr table (a ∷ p)) ≡ given (one_term (kind_of_part (a ∷ p)) (plus [] (a ∷ p)))
  unfolding part_expr work_with part_in_shape letter_form
  part-works a [] h k = ap given (known_works vector a k.0)
  part-works a (b ∷ []) h k = (λ i. wedge_forms (known_works vector a k.0 i) (known_works vector b k.1.0 i)) ∙ wedge-stands a b h
  part-works a (b ∷ c ∷ p) h k = absurd h

-- a constant that is not 0 and within the limit
pub constant-works : (n : ℕ) → T (term_in_shape (sized n [] [])) → work (Constant (pos n)) ≡ given (one_term scalar (sized n [] []))
unfolding work_with
constant-works n h = let s = term-opens (sized n [] []) h in constant-stands (pos n) s.nonzero s.within

-- ════ partial products

-- no factor and no vector part
unfoldable pub is_none : List (List ℕ) → List ℕ → Bool
is_none [] [] = true
is_none [] (a ∷ p) = false
is_none (f ∷ fs) p = false

module _ (table : List ℕ) where
  -- times the vector part
  part-chain : (e : Expr) (n : ℕ) (gs : List (List ℕ)) (p : List ℕ) → work e ≡ given (one_term scalar (sized n gs [])) → T (term_in_shape (sized n gs p))
      → All (Known table vector) p → work (with_part table e p) ≡ given (one_term (kind_of_part p) (sized n gs p))
  unfolding with_part
  part-chain e n gs [] w h k = w
  part-chain e n gs (a ∷ p) w h k =
      let t = sized n gs (a ∷ p) in
      subst (λ (fs : List (List ℕ)). work (Times e (part_expr table (a ∷ p))) ≡ given (one_term (kind_of_part (a ∷ p)) (sized n fs (a ∷ p)))) (append-nil gs)
      (times-works e (part_expr table (a ∷ p)) n gs [] (a ∷ p) w (part-works table a p (part_in_shape_lem t (term-opens t h)) k)
      (subst (λ (fs : List (List ℕ)). T (term_in_shape (sized n fs (a ∷ p)))) (sym (append-nil gs)) h))

  -- a tree that is worked to some factors, times the others and the vector part
  pub chain-works : (e : Expr) (n : ℕ) (gs fs : List (List ℕ)) (p : List ℕ) → work e ≡ given (one_term scalar (sized n gs []))
      → T (term_in_shape (sized n (gs ++ fs) p)) → All (FactorKnown table) fs → All (Known table vector) p
      → work (chain table e fs p) ≡ given (one_term (kind_of_part p) (sized n (gs ++ fs) p))
  unfolding chain
  chain-works e n gs [] p w h k v =
      subst (λ (l : List (List ℕ)). work (with_part table e p) ≡ given (one_term (kind_of_part p) (sized n l p))) (sym (append-nil gs))
      (part-chain e n gs p w (subst (λ (l : List (List ℕ)). T (term_in_shape (sized n l p))) (append-nil gs) h) v)
  chain-works e n gs (f ∷ fs) p w h k v =
      let j : (gs ++ f ∷ []) ++ fs ≡ gs ++ f ∷ fs = append_assoc gs (f ∷ []) fs in
      let h₁ : T (term_in_shape (sized n ((gs ++ f ∷ []) ++ fs) p)) = subst (λ (l : List (List ℕ)). T (term_in_shape (sized n l p))) (sym j) h in
      let t = sized n (gs ++ f ∷ fs) p in
      let in_shape = (all_split (λ (f : List ℕ). T (factor_in_shape f)) gs (f ∷ fs) (factors-in_shape t (term-opens t h))).1.0 in
      let one : work (Times e (factor_expr table f)) ≡ given (one_term scalar (sized n (gs ++ f ∷ []) [])) =
      times-works e (factor_expr table f) n gs (f ∷ []) [] w (factor-works table f in_shape k.0) (front-closes (pos n) (gs ++ f ∷ []) fs p h₁) in
      subst (λ (l : List (List ℕ)). work (chain table (Times e (factor_expr table f)) fs p) ≡ given (one_term (kind_of_part p) (sized n l p))) j
      (chain-works (Times e (factor_expr table f)) n (gs ++ f ∷ []) fs p one h₁ k.1 v)

  -- with its coefficient
  pub sized-works : (n : ℕ) (fs : List (List ℕ)) (p : List ℕ) → T (term_in_shape (sized n fs p)) → All (FactorKnown table) fs → All (Known table vector) p
      → work (chain table (Constant (pos n)) fs p) ≡ given (one_term (kind_of_part p) (sized n fs p))
  sized-works n fs p h k v = chain-works (Constant (pos n)) n [] fs p (constant-works n (front-closes (pos n) [] fs p h)) h k v

  -- without
  pub unsized-works : (fs : List (List ℕ)) (p : List ℕ) → T (not (is_none fs p)) → T (term_in_shape (sized 1 fs p)) → All (FactorKnown table) fs
      → All (Known table vector) p → work (unsized table fs p) ≡ given (one_term (kind_of_part p) (sized 1 fs p))
  unfolding unsized is_none
  unsized-works [] [] o h k v = absurd o
  unsized-works [] (a ∷ p) o h k v = let t = sized 1 [] (a ∷ p) in part-works table a p (part_in_shape_lem t (term-opens t h)) v
  unsized-works (f ∷ fs) p o h k v =
      let t = sized 1 (f ∷ fs) p in
      chain-works (factor_expr table f) 1 (f ∷ []) fs p (factor-works table f (factors-in_shape t (term-opens t h)).0 k.0) h k.1 v
