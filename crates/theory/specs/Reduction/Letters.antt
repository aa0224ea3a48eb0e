-- What holds of every letter of a tree; and the letters of an expression that is read are in the table, with their kinds. Assumes nothing.
use Rattle.std.specs.Prelude.{◌≡◌, Bool, List, ltb, leb, eqb, length, get_or}
use Rattle.std.proofs.Math.Path.{refl, subst}
use Rattle.std.proofs.Common.{◌∙◌}
use Rattle.std.proofs.Math.Bool.{true, false}
use Prim.Native.Nat.{ℕ, zero, suc, ◌+◌, ◌≤◌}
use Rattle.std.proofs.Math.Dec.{T}
use Rattle.specification.specs.Results.{Result, given, require, when◌then◌else◌}
use Rattle.specification.specs.Letters.{good_table, kind_of, test_letter}
use Rattle.specification.specs.Expressions.{Expr, Letter, Constant, Sum, Difference, Negation, Times, Dot, Wedge, Triple, Token, leaf, one, two, three, token_bytes, test_bytes, read_letter, read_token, read_operands, read_tree, read_expr}
use Rattle.theory.specs.Tests.{eqb_T, given_same, refused≢given, required, passes, tested, bound, into}
use Rattle.theory.specs.Shape.Letters.{Known, good_kind}

-- what holds of every letter of a tree, by its number and kind
abbrev pub Leaves : (P : (n kind : ℕ) → Type 0) → Expr → Type 0
Leaves P (Letter n kind) = P n kind
Leaves P (Constant k) = Unit {0}
Leaves P (Sum e f) = Leaves P e × Leaves P f
Leaves P (Difference e f) = Leaves P e × Leaves P f
Leaves P (Negation e) = Leaves P e
Leaves P (Times e f) = Leaves P e × Leaves P f
Leaves P (Dot e f) = Leaves P e × Leaves P f
Leaves P (Wedge e f) = Leaves P e × Leaves P f
Leaves P (Triple e f g) = Leaves P e × Leaves P f × Leaves P g

-- a weaker property
pub leaves_imply : (P Q : (n kind : ℕ) → Type 0) → ((n kind : ℕ) → P n kind → Q n kind) → (e : Expr) → Leaves P e → Leaves Q e
leaves_imply P Q h (Letter n kind) l = h n kind l
leaves_imply P Q h (Constant k) l = tt
leaves_imply P Q h (Sum e f) l = (leaves_imply P Q h e l.0, leaves_imply P Q h f l.1)
leaves_imply P Q h (Difference e f) l = (leaves_imply P Q h e l.0, leaves_imply P Q h f l.1)
leaves_imply P Q h (Negation e) l = leaves_imply P Q h e l
leaves_imply P Q h (Times e f) l = (leaves_imply P Q h e l.0, leaves_imply P Q h f l.1)
leaves_imply P Q h (Dot e f) l = (leaves_imply P Q h e l.0, leaves_imply P Q h f l.1)
leaves_imply P Q h (Wedge e f) l = (leaves_imply P Q h e l.0, leaves_imply P Q h f l.1)
leaves_imply P Q h (Triple e f g) l = (leaves_imply P Q h e l.0, leaves_imply P Q h f l.1, leaves_imply P Q h g l.2)

-- the letter is in the table, with its kind, which is scalar or vector
abbrev pub LetterIn : (table : List ℕ) → (n kind : ℕ) → Type 0
LetterIn table n kind = Known table kind n × (kind ≤ 1)

-- every letter is
abbrev pub LettersIn : (table : List ℕ) → Expr → Type 0
LettersIn table = Leaves (LetterIn table)

module _ (table : List ℕ) (good : T (good_table table)) where
  -- ════ tokens

  -- a leaf's letters are in the table, and an operator keeps its operands' letters
  abbrev TokenFits : Token → Type 0
  TokenFits (leaf e) = LettersIn table e
  TokenFits (one op) = (e : Expr) → LettersIn table e → LettersIn table (op e)
  TokenFits (two op) = (e f : Expr) → LettersIn table e → LettersIn table f → LettersIn table (op e f)
  TokenFits (three op) = (e f g : Expr) → LettersIn table e → LettersIn table f → LettersIn table g → LettersIn table (op e f g)

  -- a token that is given fits
  abbrev Fitting : Result Token → Type 0
  Fitting r = (token : Token) → r ≡ given token → TokenFits token

  this : (t : Token) → TokenFits t → Fitting (given t)
  this t h token e = subst TokenFits (given_same e) h

  either : (b : Bool) (r s : Result Token) → Fitting r → Fitting s → Fitting (when b then r else s)
  either true r s h k = h
  either false r s h k = k

  letter-fits : (n : ℕ) → Fitting (read_letter table n)
  unfolding read_letter test_letter
  letter-fits n token e =
      let w = required (ltb n (length table)) 5 _ token e in
      this (leaf (Letter n (kind_of table n))) (
        passes (ltb n (length table)) 5 (require (eqb (kind_of table n) (kind_of table n)) 6) w.0
            ∙ known (eqb (kind_of table n) (kind_of table n)) (eqb_T (kind_of table n) (kind_of table n) refl),
        good_kind table good n,
      ) token w.1
    where
      known : (b : Bool) → T b → require b 6 ≡ given tt
      known true t = refl
      known false t = absurd t

  token-fits : (s : List ℕ) (at : ℕ) → Fitting (read_token table s at)
  unfolding read_token
  token-fits s at =
      either (eqb (get_or s at 0) 1) _ _ (letter-fits (get_or s (at + 1) 0))
      (either (eqb (get_or s at 0) 2) _ _ (this (leaf (Constant _)) tt)
      (either (eqb (get_or s at 0) 3) _ _ (this (two Sum) (λ e f h k. (h, k)))
      (either (eqb (get_or s at 0) 4) _ _ (this (two Difference) (λ e f h k. (h, k)))
      (either (eqb (get_or s at 0) 5) _ _ (this (one Negation) (λ e h. h))
      (either (eqb (get_or s at 0) 6) _ _ (this (two Times) (λ e f h k. (h, k)))
      (either (eqb (get_or s at 0) 7) _ _ (this (two Dot) (λ e f h k. (h, k)))
      (either (eqb (get_or s at 0) 8) _ _ (this (two Wedge) (λ e f h k. (h, k)))
      (either (eqb (get_or s at 0) 9) _ _ (this (three Triple) (λ e f g h k l. (h, k, l)))
      (λ token e. absurd (refused≢given e))))))))))

  -- ════ trees

  -- a tree that is given has its letters in the table
  abbrev TreeFits : Result (Expr × ℕ) → Type 0
  TreeFits r = (p : Expr × ℕ) → r ≡ given p → LettersIn table p.0

  operands-fit : (tree : ℕ → Result (Expr × ℕ)) → ((at : ℕ) → TreeFits (tree at)) → (at : ℕ) (token : Token) → TokenFits token → TreeFits (read_operands tree at token)
  unfolding read_operands
  operands-fit tree h at (leaf e) t p r = subst (λ (q : Expr × ℕ). LettersIn table q.0) (given_same r) t
  operands-fit tree h at (one op) t p r =
      let x = bound (tree at) _ p r in
      subst (λ (q : Expr × ℕ). LettersIn table q.0) (given_same x.2) (t x.0.0 (h at x.0 x.1))
  operands-fit tree h at (two op) t p r =
      into (tree at) _ p r λ x r₁ e₁.
      into (tree x.1) _ p e₁ λ y r₂ e₂.
      subst (λ (q : Expr × ℕ). LettersIn table q.0) (given_same e₂) (t x.0 y.0 (h at x r₁) (h x.1 y r₂))
  operands-fit tree h at (three op) t p r =
      into (tree at) _ p r λ x r₁ e₁.
      into (tree x.1) _ p e₁ λ y r₂ e₂.
      into (tree y.1) _ p e₂ λ z r₃ e₃.
      subst (λ (q : Expr × ℕ). LettersIn table q.0) (given_same e₃) (t x.0 y.0 z.0 (h at x r₁) (h x.1 y r₂) (h y.1 z r₃))

  tree-fits : (depth : ℕ) (s : List ℕ) (at : ℕ) → TreeFits (read_tree depth table s at)
  unfolding read_tree
  tree-fits zero s at p e = absurd (refused≢given (tested (test_bytes s at) _ p e).1)
  tree-fits (suc depth) s at p e =
      let w = tested (test_bytes s at) _ p e in
      let t = bound (read_token table s at) _ p w.1 in
      operands-fit (read_tree depth table s) (tree-fits depth s) (at + token_bytes (get_or s at 0)) t.0 (token-fits s at t.0 t.1) p t.2

  -- the letters of an expression that is read
  pub letters_in : (s : List ℕ) (e : Expr) → read_expr table s ≡ given e → LettersIn table e
  unfolding read_expr
  letters_in s e r =
      let w = required (leb (length s) 512) 3 _ e r in
      let t = bound (read_tree 16 table s 0) _ e w.1 in
      let l = required (eqb t.0.1 (length s)) 4 _ e t.2 in
      subst (LettersIn table) (given_same l.1) (tree-fits 16 s 0 t.0 t.1)
