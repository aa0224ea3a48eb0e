-- One level of a tree: its tests, its operands left to right, and its operator. Assumes nothing.
use mathlib.Core.Path.{◌≡◌, refl, ap, sym, subst, ◌∙◌}
use mathlib.Core.Bool.{Bool, true, false}
use mathlib.Core.List.{List, map}
use Prim.Native.Nat.{ℕ, zero, suc, ◌+◌, ◌-◌, ◌≤◌, ◌<◌}
use native.Mathlib.Numerals.{sub-one}
use native.Mathlib.Omega.{arith}
use borrow.Author.Tests.{eq-eqb, ne_eqb, lt-ltb, ltb-true, le-leb}
use lib.Dec.{ltb}
use lib.IntN.{ℤ, nat_abs, neg_ℤ}
use lib.ListN.{length, take, get_or}
use Rattle.specification.specs.Results.{Result, Test, refused, given, ◌>>=◌, ◌>>◌, require}
use Rattle.specification.specs.Letters.{kind_of}
use Rattle.specification.specs.Records.{four_bytes_at}
use Rattle.specification.specs.Terms as S
use Rattle.specification.specs.Expressions.{Expr, Letter, Constant, Token, leaf, one, two, three, token_bytes, test_bytes, read_letter, read_token, read_operands, read_tree}
use Rattle.specification.specs.Reduction.{negate_form, sum_forms, times_forms, dot_forms, wedge_forms, triple_forms, letter_form, constant_form, work_with, work}
use Rattle.theory.specs.Tests.{refused≢given, given_same}
use Rattle.algebra.specs.Integers.{sfits-nat_abs}
use Rattle.integers.proofs.Machine.{back, back_is}
use Rattle.std.specs.Prelude.{Ok, Err, IfOk}
use Rattle.std.specs.Prelude as Std
use Rattle.refusal.specs.declared.Refusal.{Refusal}
use Rattle.refusal.specs.declared.Refusal.TheVariants.{Torn}
use Rattle.refusal.specs.Numbers.{number_of}
use Rattle.refusal.specs.Tests.{test_of}
use Rattle.rows.specs.declared.Worked.{Worked}
use Rattle.rows.specs.Rows.{Light, form_by, RowsGive}
use Rattle.rows.proofs.RowForms.{rows_refused, rows_given, rows_as}
use Rattle.sums.proofs.Sums.{form-negated, negated-run}
use Rattle.expressions.specs.declared.trees.Tree.{Tree}
use Rattle.expressions.specs.Trees.{operand_count, test_token, test_head, binary, on_one, on_two, on_three, worked_of, Sound, ReadAs, LeafAt, read_leaf, LeafSecond, WithSecond, WithThird}
use Rattle.expressions.proofs.Heads.{chain, read_is, chain_more, bytes-passed, own-byte}

-- ════ the operator of a token with two operands

module _ (token : ℕ) (f g : S.Form) (w : Std.Result Worked Refusal) (rows : List (List ℕ)) (coefs : List ℤ) where
  pub operates-sum : token ≡ 3 → RowsGive (sum_forms f g) w rows coefs → RowsGive (binary token f g) w rows coefs
  unfolding binary
  operates-sum e = rows_as _ _ w rows coefs (ap (λ (t : ℕ). binary t f g) (sym e))

  pub operates-difference : token ≡ 4 → RowsGive (sum_forms f (negate_form g)) w rows coefs → RowsGive (binary token f g) w rows coefs
  unfolding binary
  operates-difference e = rows_as _ _ w rows coefs (ap (λ (t : ℕ). binary t f g) (sym e))

  pub operates-times : token ≡ 6 → RowsGive (times_forms f g) w rows coefs → RowsGive (binary token f g) w rows coefs
  unfolding binary
  operates-times e = rows_as _ _ w rows coefs (ap (λ (t : ℕ). binary t f g) (sym e))

  pub operates-dot : token ≡ 7 → RowsGive (dot_forms f g) w rows coefs → RowsGive (binary token f g) w rows coefs
  unfolding binary
  operates-dot e = rows_as _ _ w rows coefs (ap (λ (t : ℕ). binary t f g) (sym e))

  pub operates-wedge : token ≡ 8 → RowsGive (wedge_forms f g) w rows coefs → RowsGive (binary token f g) w rows coefs
  unfolding binary
  operates-wedge e = rows_as _ _ w rows coefs (ap (λ (t : ℕ). binary t f g) (sym e))

-- no such token
pub operates_none : (token : ℕ) (f g : S.Form) (rows : List (List ℕ)) (coefs : List ℤ) → (token ≡ 3 → ⊥) → (token ≡ 4 → ⊥) → (token ≡ 6 → ⊥) → (token ≡ 7 → ⊥) → (token ≡ 8 → ⊥)
    → RowsGive (binary token f g) (Err Torn) rows coefs
unfolding binary
operates_none token f g rows coefs a b c d e =
    rows_refused (binary token f g) Torn rows coefs
    (rw (ne_eqb token 3 a, ne_eqb token 4 b, ne_eqb token 6 c, ne_eqb token 7 d, ne_eqb token 8 e))

-- ════ results of operands

-- what rows give is what was worked
worked_is : (x : Result S.Form) (w : Std.Result Worked Refusal) (rows : List (List ℕ)) (coefs : List ℤ) → RowsGive x w rows coefs → x ≡ worked_of w rows coefs
unfolding worked_of
worked_is x w rows coefs g = sym g.is

-- what turning signs asks of a form in rows
pub one_light : (x : Std.Result Worked Refusal) (rows : List (List ℕ)) (coefs : List ℤ) → Sound x rows coefs → IfOk x (λ w. (w.count ≤ length coefs) × Light 2147483647 w.count coefs)
unfolding Sound
one_light (Ok w) rows coefs s = (s.run.beside, s.light)
one_light (Err e) rows coefs s = tt

module _ (rows : List (List ℕ)) (coefs coefs' : List ℤ) where
  pub one_refused : (e : Refusal) → RowsGive (on_one (worked_of (Err e) rows coefs)) (Err e) rows coefs'
  unfolding on_one worked_of
  one_refused e = rows_refused _ e rows coefs' refl

  pub one_negated : (x : Worked) → Sound (Ok x) rows coefs → take x.count coefs' ≡ map neg_ℤ (take x.count coefs)
      → x.count ≤ length coefs' → RowsGive (on_one (worked_of (Ok x) rows coefs)) (Ok x) rows coefs'
  unfolding on_one Sound worked_of
  one_negated x s n h = rows_given _ x rows coefs' (ap given (sym (form-negated x.kind x.count rows coefs coefs' n))) (negated-run x.kind x.count rows coefs coefs' n s h)

-- the rows of each operand, and those of the result
module _ (ra : List (List ℕ)) (ca : List ℤ) (rb : List (List ℕ)) (cb : List ℤ) (rows : List (List ℕ)) (coefs : List ℤ) where
  module _ (token : ℕ) where
    pub left_refused : (e : Refusal) (y : Std.Result Worked Refusal) → RowsGive (on_two token (worked_of (Err e) ra ca) (worked_of y rb cb)) (Err e) rows coefs
    unfolding on_two worked_of
    left_refused e y = rows_refused _ e rows coefs refl

    pub right_refused : (x : Worked) (e : Refusal) → RowsGive (on_two token (worked_of (Ok x) ra ca) (worked_of (Err e) rb cb)) (Err e) rows coefs
    unfolding on_two worked_of
    right_refused x e = rows_refused _ e rows coefs refl

    pub both-worked : (x y : Worked) (w : Std.Result Worked Refusal)
        → RowsGive (binary token (form_by x.kind x.count ra ca) (form_by y.kind y.count rb cb)) w rows coefs
        → RowsGive (on_two token (worked_of (Ok x) ra ca) (worked_of (Ok y) rb cb)) w rows coefs
    unfolding on_two worked_of
    both-worked x y w g = g

  module _ (rd : List (List ℕ)) (cd : List ℤ) where
    pub first_refused : (e : Refusal) (y z : Std.Result Worked Refusal) → RowsGive (on_three (worked_of (Err e) ra ca) (worked_of y rb cb) (worked_of z rd cd)) (Err e) rows coefs
    unfolding on_three worked_of
    first_refused e y z = rows_refused _ e rows coefs refl

    pub second_refused : (x : Worked) (e : Refusal) (z : Std.Result Worked Refusal) → RowsGive (on_three (worked_of (Ok x) ra ca) (worked_of (Err e) rb cb) (worked_of z rd cd)) (Err e) rows coefs
    unfolding on_three worked_of
    second_refused x e z = rows_refused _ e rows coefs refl

    pub third_refused : (x y : Worked) (e : Refusal) → RowsGive (on_three (worked_of (Ok x) ra ca) (worked_of (Ok y) rb cb) (worked_of (Err e) rd cd)) (Err e) rows coefs
    unfolding on_three worked_of
    third_refused x y e = rows_refused _ e rows coefs refl

    pub triple-worked : (x y z : Worked) (w : Std.Result Worked Refusal)
        → RowsGive (triple_forms (form_by x.kind x.count ra ca) (form_by y.kind y.count rb cb) (form_by z.kind z.count rd cd)) w rows coefs
        → RowsGive (on_three (worked_of (Ok x) ra ca) (worked_of (Ok y) rb cb) (worked_of (Ok z) rd cd)) w rows coefs
    unfolding on_three worked_of
    triple-worked x y z w g = g

-- ════ what a tree's token is

-- a token with its number of operands, and what working its tree does
abbrev Shape : (token : ℕ) → Token → Type 0
Shape token (leaf e) = operand_count token ≡ 0
Shape token (one op) = (operand_count token ≡ 1) × ((e : Expr) → work (op e) ≡ on_one (work e))
Shape token (two op) = (operand_count token ≡ 2) × ((e f : Expr) → work (op e f) ≡ on_two token (work e) (work f))
Shape token (three op) = (operand_count token ≡ 3) × ((e f g : Expr) → work (op e f g) ≡ on_three (work e) (work f) (work g))

letter_leafy : (table : List ℕ) (n : ℕ) (token : Token) → read_letter table n ≡ given token → Shape 1 token
unfolding read_letter operand_count
letter_leafy table n token e = go (ltb n (length table)) e
  where
    go : (b : Bool) → (require b 5 >> given (leaf (Letter n (kind_of table n)))) ≡ given token → Shape 1 token
    go true e = subst (Shape 1) (given_same e) refl
    go false e = absurd (refused≢given e)

chain-shape : (n : ℕ) (letter : Result Token) (constant : Expr) → ((token : Token) → letter ≡ given token → Shape 1 token) → (token : Token)
    → chain n letter constant ≡ given token → Shape n token
unfolding chain operand_count binary on_one on_two on_three work_with
chain-shape zero letter constant l token e = absurd (refused≢given e)
chain-shape (suc zero) letter constant l token e = l token e
chain-shape (suc (suc zero)) letter constant l token e = subst (Shape 2) (given_same e) refl
chain-shape (suc (suc (suc zero))) letter constant l token e = subst (Shape 3) (given_same e) (refl, λ e f. refl)
chain-shape (suc (suc (suc (suc zero)))) letter constant l token e = subst (Shape 4) (given_same e) (refl, λ e f. refl)
chain-shape (suc (suc (suc (suc (suc zero))))) letter constant l token e = subst (Shape 5) (given_same e) (refl, λ e. refl)
chain-shape (suc (suc (suc (suc (suc (suc zero)))))) letter constant l token e = subst (Shape 6) (given_same e) (refl, λ e f. refl)
chain-shape (suc (suc (suc (suc (suc (suc (suc zero))))))) letter constant l token e = subst (Shape 7) (given_same e) (refl, λ e f. refl)
chain-shape (suc (suc (suc (suc (suc (suc (suc (suc zero)))))))) letter constant l token e = subst (Shape 8) (given_same e) (refl, λ e f. refl)
chain-shape (suc (suc (suc (suc (suc (suc (suc (suc (suc zero))))))))) letter constant l token e = subst (Shape 9) (given_same e) (refl, λ e f g. refl)
chain-shape (suc (suc (suc (suc (suc (suc (suc (suc (suc (suc n)))))))))) letter constant l token e =
    absurd (refused≢given (sym (chain_more n letter constant) ∙ e))

token-shape : (table s : List ℕ) (at : ℕ) (token : Token) → read_token table s at ≡ given token → Shape (get_or s at 0) token
token-shape table s at token e =
    chain-shape (get_or s at 0) (read_letter table (get_or s (at + 1) 0)) (Constant (four_bytes_at s (at + 1))) (letter_leafy table (get_or s (at + 1) 0)) token
    (sym (read_is table s at) ∙ e)

-- ════ leaves

nonsense : {n : ℕ} → suc n ≡ 0 → ⊥
nonsense {n} e = omega arith

-- two numbers of one thing are one
unlike : {A : Type 0} {n m k : ℕ} → n ≡ m → n ≡ k → (m ≡ k → A) → A
unlike p q f = f (sym p ∙ q)

-- a known token without operands that is no letter is a constant
only-constant : (t : ℕ) (letter : Result Token) (constant : Expr) → operand_count t ≡ 0 → ◌≡◌ {A = Test} (chain t letter constant >> given tt) (given tt)
    → (t ≡ 1 → ⊥) → t ≡ 2
unfolding chain operand_count
only-constant zero letter constant o k n = absurd (refused≢given k)
only-constant (suc zero) letter constant o k n = absurd (n refl)
only-constant (suc (suc zero)) letter constant o k n = refl
only-constant (suc (suc (suc zero))) letter constant o k n = absurd (nonsense o)
only-constant (suc (suc (suc (suc zero)))) letter constant o k n = absurd (nonsense o)
only-constant (suc (suc (suc (suc (suc zero))))) letter constant o k n = absurd (nonsense o)
only-constant (suc (suc (suc (suc (suc (suc zero)))))) letter constant o k n = absurd (nonsense o)
only-constant (suc (suc (suc (suc (suc (suc (suc zero))))))) letter constant o k n = absurd (nonsense o)
only-constant (suc (suc (suc (suc (suc (suc (suc (suc zero)))))))) letter constant o k n = absurd (nonsense o)
only-constant (suc (suc (suc (suc (suc (suc (suc (suc (suc zero))))))))) letter constant o k n = absurd (nonsense o)
only-constant (suc (suc (suc (suc (suc (suc (suc (suc (suc (suc t)))))))))) letter constant o k n =
    absurd (refused≢given (ap (λ (r : Result Token). r >> given tt) (sym (chain_more t letter constant)) ∙ k))

-- a leaf stands at a position
module _ (table s : List ℕ) (at : ℕ) (h : LeafAt table s at) where
  by_chain : (t : ℕ) → get_or s at 0 ≡ t → read_token table s at ≡ chain t (read_letter table (get_or s (at + 1) 0)) (Constant (four_bytes_at s (at + 1)))
  by_chain t e = read_is table s at ∙ ap (λ (t : ℕ). chain t (read_letter table (get_or s (at + 1) 0)) (Constant (four_bytes_at s (at + 1)))) e

  -- the bytes of a letter
  pub letter-bytes : get_or s at 0 ≡ 1 → at + 2 ≤ length s
  unfolding token_bytes
  letter-bytes e = subst (λ (t : ℕ). at + token_bytes t ≤ length s) e h.bytes

  -- its letter is in the table
  pub letter_in : get_or s at 0 ≡ 1 → get_or s (at + 1) 0 < length table
  unfolding test_token chain read_letter
  letter_in e = go (ltb (get_or s (at + 1) 0) (length table)) refl (ap (λ (r : Result Token). r >> given tt) (sym (by_chain 1 e)) ∙ h.known)
    where
      go : (b : Bool) → ltb (get_or s (at + 1) 0) (length table) ≡ b
          → ◌≡◌ {A = Test} ((require b 5 >> given (leaf (Letter (get_or s (at + 1) 0) (kind_of table (get_or s (at + 1) 0))))) >> given tt) (given tt)
          → get_or s (at + 1) 0 < length table
      go true e k = ltb-true (get_or s (at + 1) 0) (length table) e
      go false e k = absurd (refused≢given k)

  letter_read : get_or s at 0 ≡ 1 → read_token table s at ≡ given (leaf (Letter (get_or s (at + 1) 0) (kind_of table (get_or s (at + 1) 0))))
  unfolding chain read_letter
  letter_read e = by_chain 1 e ∙ rw (lt-ltb (get_or s (at + 1) 0) (length table) (letter_in e))

  -- no letter is a constant
  pub constant_token : (get_or s at 0 ≡ 1 → ⊥) → get_or s at 0 ≡ 2
  unfolding test_token
  constant_token n =
      only-constant (get_or s at 0) (read_letter table (get_or s (at + 1) 0)) (Constant (four_bytes_at s (at + 1))) h.none
      (ap (λ (r : Result Token). r >> given tt) (sym (read_is table s at)) ∙ h.known) n

  -- the bytes of a constant
  pub constant-bytes : (get_or s at 0 ≡ 1 → ⊥) → at + 5 ≤ length s
  unfolding token_bytes
  constant-bytes n = subst (λ (t : ℕ). at + token_bytes t ≤ length s) (constant_token n) h.bytes

  constant_read : get_or s at 0 ≡ 2 → read_token table s at ≡ given (leaf (Constant (four_bytes_at s (at + 1))))
  unfolding chain
  constant_read e = by_chain 2 e

  -- the leaf that was read and worked
  leaf_read : (w : Std.Result Worked Refusal) (rows : List (List ℕ)) (coefs : List ℤ) (e : Expr) (t : ℕ) → get_or s at 0 ≡ t → read_token table s at ≡ given (leaf e)
      → RowsGive (work e) w rows coefs → ReadAs (read_leaf table s at) (Ok (record { next = at + token_bytes t; work = w })) rows coefs
  unfolding ReadAs read_leaf read_operands
  leaf_read w rows coefs e t k p worked =
      let is : read_leaf table s at ≡ given (e, at + token_bytes t) = (λ i. p i >>= read_operands (λ next. refused 4) (at + token_bytes (k i))) in
      subst (λ (x : Result (Expr × ℕ)). ReadAs x (Ok (record { next = at + token_bytes t; work = w })) rows coefs) (sym is) (record { next_is = refl; worked = worked })

  -- a letter
  pub leaf-letter : (w : Std.Result Worked Refusal) (rows : List (List ℕ)) (coefs : List ℤ) (kind : ℕ) → get_or s at 0 ≡ 1 → kind ≡ kind_of table (get_or s (at + 1) 0)
      → RowsGive (given (letter_form (get_or s (at + 1) 0) kind)) w rows coefs → ReadAs (read_leaf table s at) (Ok (record { next = at + 2; work = w })) rows coefs
  unfolding work_with token_bytes
  leaf-letter w rows coefs kind e q k =
      leaf_read w rows coefs (Letter (get_or s (at + 1) 0) (kind_of table (get_or s (at + 1) 0))) 1 e (letter_read e)
      (subst (λ (x : ℕ). RowsGive (given (letter_form (get_or s (at + 1) 0) x)) w rows coefs) q k)

  -- a constant
  pub leaf-constant : (w : Std.Result Worked Refusal) (rows : List (List ℕ)) (coefs : List ℤ) → (get_or s at 0 ≡ 1 → ⊥)
      → RowsGive (constant_form (four_bytes_at s (at + 1))) w rows coefs → ReadAs (read_leaf table s at) (Ok (record { next = at + 5; work = w })) rows coefs
  unfolding work_with token_bytes
  leaf-constant w rows coefs n k = leaf_read w rows coefs (Constant (four_bytes_at s (at + 1))) 2 (constant_token n) (constant_read (constant_token n)) k

-- a constant as its bytes spell it
pub constant-read_back : (k z : ℤ) (w : Std.Result Worked Refusal) (rows : List (List ℕ)) (coefs : List ℤ) → (z ≡ k) × (nat_abs z ≤ 2147483648)
    → RowsGive (constant_form (back z)) w rows coefs → RowsGive (constant_form k) w rows coefs
constant-read_back k z w rows coefs e h = subst (λ (y : ℤ). RowsGive (constant_form y) w rows coefs) (back_is (sfits-nat_abs z (omega (arith, e.1))) ∙ e.0) h

-- ════ the tests at a level

refused_same : {A : Type 0} {m n : ℕ} → ◌≡◌ {A = Result A} (refused m) (refused n) → m ≡ n
refused_same e = cc

-- what a test refuses, the tree refuses
refused_deep : (X : Test) (Y : Result Token) (K : Token → Result (Expr × ℕ)) (n : ℕ) → ◌≡◌ {A = Test} (X >> (require true 3 >> (Y >> given tt))) (refused n)
    → ◌≡◌ {A = Result (Expr × ℕ)} (X >> (Y >>= K)) (refused n)
refused_deep (refused m) Y K n e = ap refused (refused_same e)
refused_deep (given u) (refused m) K n e = ap refused (refused_same e)
refused_deep (given u) (given t) K n e = absurd (refused≢given (sym e))

refused_shallow : (X : Test) (Y : Result Token) (n : ℕ) → ◌≡◌ {A = Test} (X >> (require false 3 >> (Y >> given tt))) (refused n)
    → ◌≡◌ {A = Result (Expr × ℕ)} (X >> refused 3) (refused n)
refused_shallow (refused m) Y n e = ap refused (refused_same e)
refused_shallow (given u) Y n e = ap refused (refused_same e)

-- the tests refuse: so does the tree
tree_refused : (depth : ℕ) (table s : List ℕ) (at n : ℕ) → test_head depth table s at ≡ refused n → read_tree depth table s at ≡ refused n
unfolding test_head test_token read_tree
tree_refused zero table s at n e = refused_shallow (test_bytes s at) (read_token table s at) n e
tree_refused (suc d) table s at n e =
    refused_deep (test_bytes s at) (read_token table s at) (read_operands (read_tree d table s) (at + token_bytes (get_or s at 0))) n
    (ap (λ (b : Bool). test_bytes s at >> (require b 3 >> (read_token table s at >> given tt))) (sym (le-leb 1 (suc d) (omega arith))) ∙ e)

-- so the level is refused with the number found
pub level_refused : (depth : ℕ) (table s : List ℕ) (at : ℕ) (n : Refusal) (rows : List (List ℕ)) (coefs : List ℤ) → test_of (Err n) ≡ test_head depth table s at
    → ReadAs (read_tree depth table s at) (Err n) rows coefs
unfolding ReadAs
level_refused depth table s at n rows coefs e =
    subst (λ (x : Result (Expr × ℕ)). ReadAs x (Err n) rows coefs) (sym (tree_refused depth table s at (number_of n) (sym e))) refl

-- the tests passed: the token with its shape, and the tree by its operands
pub record Level (depth : ℕ) (table s : List ℕ) (at : ℕ) : Type 0 where
  pub token : Token
  pub read : read_token table s at ≡ given token
  pub deep : depth ≡ 0 → ⊥
  pub bytes : at + token_bytes (get_or s at 0) ≤ length s
  pub is : read_tree depth table s at ≡ read_operands (read_tree (depth - 1) table s) (at + token_bytes (get_or s at 0)) token

passed_deep : (X : Test) (Y : Result Token) → ◌≡◌ {A = Test} (X >> (require true 3 >> (Y >> given tt))) (given tt) → (X ≡ given tt) × (t : Token)
    × (Y ≡ given t)
passed_deep (refused m) Y e = absurd (refused≢given e)
passed_deep (given u) (refused m) e = absurd (refused≢given e)
passed_deep (given u) (given t) e = (refl, t, refl)

passed-shallow : (X : Test) (Y : Result Token) → ◌≡◌ {A = Test} (X >> (require false 3 >> (Y >> given tt))) (given tt) → ⊥
passed-shallow (refused m) Y e = refused≢given e
passed-shallow (given u) Y e = refused≢given e

level-built : (d : ℕ) (table s : List ℕ) (at : ℕ) (token : Token) → test_bytes s at ≡ given tt → read_token table s at ≡ given token → Level (suc d) table s at
unfolding read_tree
level-built d table s at token p q = record {
  token = token;
  read = q;
  deep = λ z. omega arith;
  bytes = bytes-passed s at p;
  is = rw (p, q, sub-one);
}

tests-passed : (depth : ℕ) (table s : List ℕ) (at : ℕ) → test_head depth table s at ≡ given tt → Level depth table s at
unfolding test_head test_token
tests-passed zero table s at e = absurd (passed-shallow (test_bytes s at) (read_token table s at) e)
tests-passed (suc d) table s at e =
    let w = passed_deep (test_bytes s at) (read_token table s at)
    (ap (λ (b : Bool). test_bytes s at >> (require b 3 >> (read_token table s at >> given tt))) (sym (le-leb 1 (suc d) (omega arith))) ∙ e) in
    level-built d table s at w.1 w.0 w.2

-- the level by its tests
pub level : (depth : ℕ) (table s : List ℕ) (at : ℕ) (u : Unit {0}) → test_of (Ok u) ≡ test_head depth table s at → Level depth table s at
level depth table s at u e = tests-passed depth table s at (sym e)

-- ════ operands that were read, or not

-- what reading refused
pub read-refused : (X : Result (Expr × ℕ)) (e : Refusal) (rows : List (List ℕ)) (coefs : List ℤ) → ReadAs X (Err e) rows coefs → X ≡ refused (number_of e)
unfolding ReadAs
read-refused (refused n) e rows coefs r = ap refused (sym r)
read-refused (given x) e rows coefs r = absurd r

-- a tree that was read
pub record TreeFound (X : Result (Expr × ℕ)) (a : Tree) (rows : List (List ℕ)) (coefs : List ℤ) : Type 0 where
  pub tree : Expr
  pub is : X ≡ given (tree, a.next)
  pub worked : RowsGive (work tree) a.work rows coefs

-- what reading gave
pub read_given : (X : Result (Expr × ℕ)) (a : Tree) (rows : List (List ℕ)) (coefs : List ℤ) → ReadAs X (Ok a) rows coefs → TreeFound X a rows coefs
unfolding ReadAs
read_given (refused n) a rows coefs r = absurd r
read_given (given x) a rows coefs r = record { tree = x.0; is = (λ i. given (x.0, sym r.next_is i)); worked = r.worked }

-- what was read and worked is sound
pub read_sound : (X : Result (Expr × ℕ)) (a : Tree) (rows : List (List ℕ)) (coefs : List ℤ) → ReadAs X (Ok a) rows coefs → Sound a.work rows coefs
unfolding Sound
read_sound X a rows coefs r = (read_given X a rows coefs r).worked.form

-- ════ a level by its operands

-- over the reader of operands: the token, its shape, and where the first operand stands
module _ (T : ℕ → Result (Expr × ℕ)) (first t : ℕ) where
  no_operand : (token : Token) → Shape t token → operand_count t ≡ 0 → read_operands T first token ≡ (given token >>= read_operands (λ next. refused 4) first)
  unfolding read_operands
  no_operand (leaf e) h o = refl
  no_operand (one op) h o = absurd (nonsense (sym h.0 ∙ o))
  no_operand (two op) h o = absurd (nonsense (sym h.0 ∙ o))
  no_operand (three op) h o = absurd (nonsense (sym h.0 ∙ o))

  first_unread : (token : Token) (n : ℕ) → Shape t token → (operand_count t ≡ 0 → ⊥) → T first ≡ refused n → read_operands T first token ≡ refused n
  unfolding read_operands
  first_unread (leaf e) n h o p = absurd (o h)
  first_unread (one op) n h o p = rw p
  first_unread (two op) n h o p = rw p
  first_unread (three op) n h o p = rw p

  -- the first operand a with its rows, what working gave with its rows
  module _ (a : Tree) (ra : List (List ℕ)) (ca : List ℤ) (rows : List (List ℕ)) (coefs : List ℤ) (f : TreeFound (T first) a ra ca) (w : Std.Result Worked Refusal) where
    work-a : work f.tree ≡ worked_of a.work ra ca
    work-a = worked_is (work f.tree) a.work ra ca f.worked

    one_operand : (token : Token) → Shape t token → operand_count t ≡ 1 → RowsGive (on_one (worked_of a.work ra ca)) w rows coefs
        → ReadAs (read_operands T first token) (Ok (record { next = a.next; work = w })) rows coefs
    unfolding ReadAs read_operands
    one_operand (leaf e) h o g = absurd (nonsense (sym o ∙ h))
    one_operand (one op) h o g =
        subst (λ (x : Result (Expr × ℕ)). ReadAs (x >>= λ p. given (op p.0, p.1)) (Ok (record { next = a.next; work = w })) rows coefs) (sym f.is)
        (record { next_is = refl; worked = rows_as _ _ w rows coefs (sym (h.1 f.tree ∙ ap on_one work-a)) g })
    one_operand (two op) h o g = absurd (unlike o h.0 (λ e. omega arith))
    one_operand (three op) h o g = absurd (unlike o h.0 (λ e. omega arith))

    -- the second operand is refused
    second-unread : (token : Token) (n : ℕ) → Shape t token → (operand_count t ≡ 0 → ⊥) → (operand_count t ≡ 1 → ⊥) → T a.next ≡ refused n
        → read_operands T first token ≡ refused n
    unfolding read_operands
    second-unread (leaf e) n h o o' p = absurd (o h)
    second-unread (one op) n h o o' p = absurd (o' h.0)
    second-unread (two op) n h o o' p = rw (f.is, p)
    second-unread (three op) n h o o' p = rw (f.is, p)

    -- the second operand b with its rows
    module _ (b : Tree) (rb : List (List ℕ)) (cb : List ℤ) (g : TreeFound (T a.next) b rb cb) where
      work-b : work g.tree ≡ worked_of b.work rb cb
      work-b = worked_is (work g.tree) b.work rb cb g.worked

      two_operands : (token : Token) → Shape t token → operand_count t ≡ 2 → RowsGive (on_two t (worked_of a.work ra ca) (worked_of b.work rb cb)) w rows coefs
          → ReadAs (read_operands T first token) (Ok (record { next = b.next; work = w })) rows coefs
      unfolding ReadAs read_operands
      two_operands (leaf e) h o k = absurd (nonsense (sym o ∙ h))
      two_operands (one op) h o k = absurd (unlike o h.0 (λ e. omega arith))
      two_operands (two op) h o k =
          let is : read_operands T first (two op) ≡ given (op f.tree g.tree, b.next) = rw (f.is, g.is) in
          subst (λ (x : Result (Expr × ℕ)). ReadAs x (Ok (record { next = b.next; work = w })) rows coefs) (sym is)
          (record { next_is = refl; worked = rows_as _ _ w rows coefs (sym (h.1 f.tree g.tree ∙ (λ i. on_two t (work-a i) (work-b i)))) k })
      two_operands (three op) h o k = absurd (unlike o h.0 (λ e. omega arith))

      third-unread : (token : Token) (n : ℕ) → Shape t token → (operand_count t ≡ 0 → ⊥) → (operand_count t ≡ 1 → ⊥) → (operand_count t ≡ 2 → ⊥)
          → T b.next ≡ refused n
          → read_operands T first token ≡ refused n
      unfolding read_operands
      third-unread (leaf e) n h o o' o'' p = absurd (o h)
      third-unread (one op) n h o o' o'' p = absurd (o' h.0)
      third-unread (two op) n h o o' o'' p = absurd (o'' h.0)
      third-unread (three op) n h o o' o'' p = rw (f.is, g.is, p)

      -- the third operand d with its rows
      three-operands : (d : Tree) (rd : List (List ℕ)) (cd : List ℤ) (k : TreeFound (T b.next) d rd cd) (token : Token) → Shape t token
          → (operand_count t ≡ 0 → ⊥) → (operand_count t ≡ 1 → ⊥)
          → (operand_count t ≡ 2 → ⊥)
          → RowsGive (on_three (worked_of a.work ra ca) (worked_of b.work rb cb) (worked_of d.work rd cd)) w rows coefs
          → ReadAs (read_operands T first token) (Ok (record { next = d.next; work = w })) rows coefs
      unfolding ReadAs read_operands
      three-operands d rd cd k (leaf e) h o o' o'' v = absurd (o h)
      three-operands d rd cd k (one op) h o o' o'' v = absurd (o' h.0)
      three-operands d rd cd k (two op) h o o' o'' v = absurd (o'' h.0)
      three-operands d rd cd k (three op) h o o' o'' v =
          let is : read_operands T first (three op) ≡ given (op f.tree g.tree k.tree, d.next) = rw (f.is, g.is, k.is) in
          subst (λ (x : Result (Expr × ℕ)). ReadAs x (Ok (record { next = d.next; work = w })) rows coefs) (sym is)
          (record {
            next_is = refl;
            worked = rows_as _ _ w rows coefs
                (sym (h.1 f.tree g.tree k.tree ∙ (λ i. on_three (work-a i) (work-b i) (worked_is (work k.tree) d.work rd cd k.worked i)))) v;
          })

-- ════ as the code goes

module _ (depth : ℕ) (table s : List ℕ) (at : ℕ) (v : Level depth table s at) (rows : List (List ℕ)) (coefs : List ℤ) where
  abbrev T : ℕ → Result (Expr × ℕ)
  T = read_tree (depth - 1) table s

  shape : Shape (get_or s at 0) v.token
  shape = token-shape table s at v.token v.read

  -- a token of its own byte: the first operand stands behind it
  behind : (operand_count (get_or s at 0) ≡ 0 → ⊥) → read_tree depth table s at ≡ read_operands T (at + 1) v.token
  behind o = v.is ∙ ap (λ (n : ℕ). read_operands T (at + n) v.token) (own-byte (get_or s at 0) o)

  handed : (e : Refusal) → read_tree depth table s at ≡ refused (number_of e) → ReadAs (read_tree depth table s at) (Err e) rows coefs
  unfolding ReadAs
  handed e h = subst (λ (x : Result (Expr × ℕ)). ReadAs x (Err e) rows coefs) (sym h) refl

  -- a leaf stands there
  pub leaf_at : operand_count (get_or s at 0) ≡ 0 → LeafAt table s at
  unfolding test_token
  leaf_at o = record { bytes = v.bytes; none = o; known = ap (λ (r : Result Token). r >> given tt) v.read }

  pub level-leaf : (r : Std.Result Tree Refusal) → operand_count (get_or s at 0) ≡ 0 → ReadAs (read_leaf table s at) r rows coefs → ReadAs (read_tree depth table s at) r rows coefs
  unfolding read_leaf
  level-leaf r o w =
      subst (λ (x : Result (Expr × ℕ)). ReadAs x r rows coefs)
      (sym (v.is ∙ no_operand T (at + token_bytes (get_or s at 0)) (get_or s at 0) v.token shape o
      ∙ ap (λ (x : Result Token). x >>= read_operands (λ next. refused 4) (at + token_bytes (get_or s at 0))) (sym v.read))) w

  module _ (k : ℕ) (count : k ≡ operand_count (get_or s at 0)) (ra : List (List ℕ)) (ca : List ℤ) (some : k ≡ 0 → ⊥) where
    operand : operand_count (get_or s at 0) ≡ 0 → ⊥
    operand e = some (count ∙ e)

    pub level_first : (e : Refusal) → ReadAs (T (at + 1)) (Err e) ra ca → ReadAs (read_tree depth table s at) (Err e) rows coefs
    level_first e read_a =
        handed e (behind operand ∙ first_unread T (at + 1) (get_or s at 0) v.token (number_of e) shape operand (read-refused (T (at + 1)) e ra ca read_a))

    module _ (a : Tree) (read_a : ReadAs (T (at + 1)) (Ok a) ra ca) where
      fa : TreeFound (T (at + 1)) a ra ca
      fa = read_given (T (at + 1)) a ra ca read_a

      pub level_one : (w : Std.Result Worked Refusal) → k ≡ 1 → RowsGive (on_one (worked_of a.work ra ca)) w rows coefs
          → ReadAs (read_tree depth table s at) (Ok (record { next = a.next; work = w })) rows coefs
      level_one w e h =
          subst (λ (x : Result (Expr × ℕ)). ReadAs x (Ok (record { next = a.next; work = w })) rows coefs) (sym (behind operand))
          (one_operand T (at + 1) (get_or s at 0) a ra ca rows coefs fa w v.token shape (sym count ∙ e) h)

      module _ (rb : List (List ℕ)) (cb : List ℤ) (more : k ≡ 1 → ⊥) where
        operands : operand_count (get_or s at 0) ≡ 1 → ⊥
        operands e = more (count ∙ e)

        pub level-second : (e : Refusal) → ReadAs (T a.next) (Err e) rb cb → ReadAs (read_tree depth table s at) (Err e) rows coefs
        level-second e read-b =
            handed e (behind operand ∙ second-unread T (at + 1) (get_or s at 0) a ra ca rows coefs fa (Err e) v.token
            (number_of e) shape operand operands
            (read-refused (T a.next) e rb cb read-b))

        module _ (b : Tree) (read-b : ReadAs (T a.next) (Ok b) rb cb) where
          fb : TreeFound (T a.next) b rb cb
          fb = read_given (T a.next) b rb cb read-b

          pub level_two : (w : Std.Result Worked Refusal) → k ≡ 2 → RowsGive (on_two (get_or s at 0) (worked_of a.work ra ca) (worked_of b.work rb cb)) w rows coefs
              → ReadAs (read_tree depth table s at) (Ok (record { next = b.next; work = w })) rows coefs
          level_two w e h =
              subst (λ (x : Result (Expr × ℕ)). ReadAs x (Ok (record { next = b.next; work = w })) rows coefs) (sym (behind operand))
              (two_operands T (at + 1) (get_or s at 0) a ra ca rows coefs fa w b rb cb fb v.token shape (sym count ∙ e) h)

          module _ (rd : List (List ℕ)) (cd : List ℤ) (most : k ≡ 2 → ⊥) where
            three_of : operand_count (get_or s at 0) ≡ 2 → ⊥
            three_of e = most (count ∙ e)

            pub level-third : (e : Refusal) → ReadAs (T b.next) (Err e) rd cd → ReadAs (read_tree depth table s at) (Err e) rows coefs
            level-third e read-d =
                handed e (behind operand ∙ third-unread T (at + 1) (get_or s at 0) a ra ca rows coefs fa (Err e) b rb cb fb v.token
                (number_of e) shape operand operands three_of
                (read-refused (T b.next) e rd cd read-d))

            pub level-three : (d : Tree) → ReadAs (T b.next) (Ok d) rd cd → (w : Std.Result Worked Refusal)
                → RowsGive (on_three (worked_of a.work ra ca) (worked_of b.work rb cb) (worked_of d.work rd cd)) w rows coefs
                → ReadAs (read_tree depth table s at) (Ok (record { next = d.next; work = w })) rows coefs
            level-three d read-d w h =
                subst (λ (x : Result (Expr × ℕ)). ReadAs x (Ok (record { next = d.next; work = w })) rows coefs) (sym (behind operand))
                (three-operands T (at + 1) (get_or s at 0) a ra ca rows coefs fa w b rb cb fb d rd cd
                (read_given (T b.next) d rd cd read-d) v.token shape operand operands three_of h)

-- two operands of which the second is a leaf
pub level_leafy : (depth : ℕ) (table s : List ℕ) (at : ℕ) (v : Level depth table s at) (rows : List (List ℕ)) (coefs : List ℤ) (k : ℕ)
    → k ≡ operand_count (get_or s at 0)
    → (ra : List (List ℕ)) (ca : List ℤ) → (k ≡ 0 → ⊥) → (a : Tree) → ReadAs (read_tree (depth - 1) table s (at + 1)) (Ok a) ra ca → (k ≡ 1 → ⊥)
    → (r : Std.Result Tree Refusal) → k ≡ 2
    → LeafSecond (depth - 1) table s (get_or s at 0) a ra ca r rows coefs → ReadAs (read_tree depth table s at) r rows coefs
level_leafy depth table s at v rows coefs k count ra ca some a read_a none r both w = go w.second refl
  where
    go : (x : Std.Result Tree Refusal) → w.second ≡ x → ReadAs (read_tree depth table s at) r rows coefs
    go (Ok b) e =
        let p = w.works b e in
        subst (λ (x : Std.Result Tree Refusal). ReadAs (read_tree depth table s at) x rows coefs) (sym p.1)
        (level_two depth table s at v rows coefs k count ra ca some a read_a w.right w.rights none b
        (subst (λ (x : Std.Result Tree Refusal). ReadAs (read_tree (depth - 1) table s a.next) x w.right w.rights) e w.read) p.0 both p.2)
    go (Err n) e =
        subst (λ (x : Std.Result Tree Refusal). ReadAs (read_tree depth table s at) x rows coefs) (sym (w.refuses n e))
        (level-second depth table s at v rows coefs k count ra ca some a read_a w.right w.rights none n
        (subst (λ (x : Std.Result Tree Refusal). ReadAs (read_tree (depth - 1) table s a.next) x w.right w.rights) e w.read))

-- ════ the operands behind the first

module _ (depth : ℕ) (table s : List ℕ) (token k : ℕ) (a : Tree) (ra : List (List ℕ)) (ca : List ℤ) (more : 1 < k) where
  some : k ≡ 0 → ⊥
  some z = omega (arith, z, more)

  many : k ≡ 1 → ⊥
  many z = omega (arith, z, more)

  -- the second is not read
  pub second-unread_lem : (rb : List (List ℕ)) (cb : List ℤ) (e : Refusal) → ReadAs (read_tree (depth - 1) table s a.next) (Err e) rb cb
      → (rows : List (List ℕ)) (coefs : List ℤ) → WithSecond depth table s token k a ra ca (Err e) rows coefs
  second-unread_lem rb cb e h rows coefs = record {
    is = λ at tests t count read. level-second depth table s at (level depth table s at tt tests) rows coefs k (count ∙ ap operand_count t) ra ca some a read rb cb many e h;
  }

  module _ (b : Tree) (rb : List (List ℕ)) (cb : List ℤ) (read-b : ReadAs (read_tree (depth - 1) table s a.next) (Ok b) rb cb) where
    -- there are two
    pub two-worked : k ≡ 2 → (w : Std.Result Worked Refusal) (rows : List (List ℕ)) (coefs : List ℤ)
        → RowsGive (on_two token (worked_of a.work ra ca) (worked_of b.work rb cb)) w rows coefs
        → WithSecond depth table s token k a ra ca (Ok (record { next = b.next; work = w })) rows coefs
    two-worked e w rows coefs h = record {
      is = λ at tests t count read.
          level_two depth table s at (level depth table s at tt tests) rows coefs k (count ∙ ap operand_count t) ra ca some a read rb cb many b read-b w e
          (subst (λ (x : ℕ). RowsGive (on_two x (worked_of a.work ra ca) (worked_of b.work rb cb)) w rows coefs) t h);
    }

    -- there are three
    pub three-left : (k ≡ 2 → ⊥) → (r : Std.Result Tree Refusal) (rows : List (List ℕ)) (coefs : List ℤ) → WithThird depth table s a ra ca b rb cb r rows coefs
        → WithSecond depth table s token k a ra ca r rows coefs
    three-left n r rows coefs h = record { is = λ at tests t count read. h.is at tests k (count ∙ ap operand_count t) some many n read read-b }

module _ (depth : ℕ) (table s : List ℕ) (a : Tree) (ra : List (List ℕ)) (ca : List ℤ) (b : Tree) (rb : List (List ℕ)) (cb : List ℤ) where
  -- the third is not read
  pub third-unread_lem : (rd : List (List ℕ)) (cd : List ℤ) (e : Refusal) → ReadAs (read_tree (depth - 1) table s b.next) (Err e) rd cd
      → (rows : List (List ℕ)) (coefs : List ℤ) → WithThird depth table s a ra ca b rb cb (Err e) rows coefs
  third-unread_lem rd cd e h rows coefs = record {
    is = λ at tests k count some many most read_a read-b.
        level-third depth table s at (level depth table s at tt tests) rows coefs k count ra ca some a read_a rb cb many b read-b rd cd most e h;
  }

  -- it is
  pub three-worked : (d : Tree) (rd : List (List ℕ)) (cd : List ℤ) → ReadAs (read_tree (depth - 1) table s b.next) (Ok d) rd cd
      → (w : Std.Result Worked Refusal) (rows : List (List ℕ)) (coefs : List ℤ)
      → RowsGive (on_three (worked_of a.work ra ca) (worked_of b.work rb cb) (worked_of d.work rd cd)) w rows coefs
      → WithThird depth table s a ra ca b rb cb (Ok (record { next = d.next; work = w })) rows coefs
  three-worked d rd cd h w rows coefs q = record {
    is = λ at tests k count some many most read_a read-b.
        level-three depth table s at (level depth table s at tt tests) rows coefs k count ra ca some a read_a rb cb many b read-b rd cd most d h w q;
  }
