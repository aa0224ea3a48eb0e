-- Tokens by their operands, the tests at a tree, and what a tree gives when it is read and worked at once. Assumes nothing.
use Rattle.std.specs.Prelude.{◌-◌, ◌≡◌, ◌&&◌, List, ℕ, ◌+◌, ◌≤◌, leb, eqb, ℤ, length, get_or, Ok, Err, IfOk}
use Rattle.std.specs.Prelude as Std
use Rattle.specification.specs.Results.{Result, Test, refused, given, ◌>>=◌, ◌>>◌, require, when◌then◌else◌}
use Rattle.specification.specs.Terms.{Form}
use Rattle.specification.specs.Expressions.{Expr, token_bytes, test_bytes, read_token, read_operands, read_tree}
use Rattle.specification.specs.Reduction.{negate_form, sum_forms, times_forms, dot_forms, wedge_forms, triple_forms, work}
use Rattle.refusal.specs.declared.Refusal.{Refusal}
use Rattle.refusal.specs.Numbers.{number_of}
use Rattle.refusal.specs.Tests.{answer_of}
use Rattle.rows.specs.declared.Worked.{Worked}
use Rattle.rows.specs.Rows.{form_by, FormRun, RowsGive}
use Rattle.expressions.specs.declared.trees.Tree.{Tree}

-- ════ tokens

-- how many operands a token has: none for a leaf and for an unknown token
unfoldable pub operand_count : (token : ℕ) → ℕ
operand_count token =
    when eqb token 5 then 1 else when leb 3 token && leb token 8 then 2 else when eqb token 9 then 3 else 0

-- "unknown token (4), letter (5)"
unfoldable pub test_token : (table s : List ℕ) (at : ℕ) → Test
test_token table s at = read_token table s at >> given tt

-- the tests at a tree: bytes missing (4), depth (3), unknown token (4), letter (5)
unfoldable pub test_head : (depth : ℕ) (table s : List ℕ) (at : ℕ) → Test
test_head depth table s at = do
  test_bytes s at
  require (leb 1 depth) 3
  test_token table s at

-- ════ working

-- a form in rows, or the refusal
unfoldable pub worked_of : Std.Result Worked Refusal → (rows : List (List ℕ)) (coefs : List ℤ) → Result Form
worked_of w rows coefs = answer_of (λ x. form_by x.kind x.count rows coefs) w

-- a result whose form is in shape, if it is one
unfoldable pub Sound : Std.Result Worked Refusal → (rows : List (List ℕ)) (coefs : List ℤ) → Type 0
Sound w rows coefs = IfOk w (λ x. FormRun x.kind x.count rows coefs)

-- the operator of a token with two operands
unfoldable pub binary : (token : ℕ) (f g : Form) → Result Form
binary token f g =
    when eqb token 3 then sum_forms f g else
    when eqb token 4 then sum_forms f (negate_form g) else
    when eqb token 6 then times_forms f g else
    when eqb token 7 then dot_forms f g else
    when eqb token 8 then wedge_forms f g else
    refused 4

-- the negation of a result
unfoldable pub on_one : Result Form → Result Form
on_one x = do
  f ← x
  given (negate_form f)

-- the operator of a token on two results, left to right
unfoldable pub on_two : (token : ℕ) → Result Form → Result Form → Result Form
on_two token x y = do
  f ← x
  g ← y
  binary token f g

-- the triple of three results, left to right
unfoldable pub on_three : Result Form → Result Form → Result Form → Result Form
on_three x y z = do
  f ← x
  g ← y
  h ← z
  triple_forms f g h

-- ════ trees

-- a tree was read, the position behind it, and it was worked in rows
pub record TreeAs (e : Expr) (next : ℕ) (r : Tree) (rows : List (List ℕ)) (coefs : List ℤ) : Type 0 where
  pub next_is : r.next ≡ next
  pub worked : RowsGive (work e) r.work rows coefs

-- what reading gave
unfoldable pub ReadAs : Result (Expr × ℕ) → Std.Result Tree Refusal → (rows : List (List ℕ)) (coefs : List ℤ) → Type 0
ReadAs (refused n) (Err e) rows coefs = number_of e ≡ n
ReadAs (refused n) (Ok r) rows coefs = ⊥
ReadAs (given x) (Err e) rows coefs = ⊥
ReadAs (given x) (Ok r) rows coefs = TreeAs x.0 x.1 r rows coefs

-- a leaf stands at a position, whole and known
pub record LeafAt (table s : List ℕ) (at : ℕ) : Type 0 where
  pub bytes : at + token_bytes (get_or s at 0) ≤ length s
  pub none : operand_count (get_or s at 0) ≡ 0
  pub known : test_token table s at ≡ given tt

-- the leaf at a position
unfoldable pub read_leaf : (table s : List ℕ) (at : ℕ) → Result (Expr × ℕ)
read_leaf table s at = do
  token ← read_token table s at
  read_operands (λ next. refused 4) (at + token_bytes (get_or s at 0)) token

-- the second operand is the leaf behind the first: what reading refuses of it, or the operator worked on both
pub record LeafSecond (depth : ℕ) (table s : List ℕ) (token : ℕ) (a : Tree) (rows : List (List ℕ)) (coefs : List ℤ) (r : Std.Result Tree Refusal)
    (rows' : List (List ℕ)) (coefs' : List ℤ) : Type 0 where
  pub second : Std.Result Tree Refusal
  pub right : List (List ℕ)
  pub rights : List ℤ
  pub read : ReadAs (read_tree depth table s a.next) second right rights
  pub refuses : (e : Refusal) → second ≡ Err e → r ≡ Err e
  pub works : (b : Tree) → second ≡ Ok b
      → (w : Std.Result Worked Refusal) × (r ≡ Ok (record { next = b.next; work = w })) × RowsGive (on_two token (worked_of a.work rows coefs) (worked_of b.work right rights)) w rows' coefs'

-- with two operands or three of which the first was read: what the tree gives
pub record WithSecond (depth : ℕ) (table s : List ℕ) (token k : ℕ) (a : Tree) (ra : List (List ℕ)) (ca : List ℤ) (r : Std.Result Tree Refusal)
    (rows : List (List ℕ)) (coefs : List ℤ) : Type 0 where
  pub is : (at : ℕ) → given tt ≡ test_head depth table s at → token ≡ get_or s at 0 → k ≡ operand_count token
      → ReadAs (read_tree (depth - 1) table s (at + 1)) (Ok a) ra ca → ReadAs (read_tree depth table s at) r rows coefs

-- with three of which two were read
pub record WithThird (depth : ℕ) (table s : List ℕ) (a : Tree) (ra : List (List ℕ)) (ca : List ℤ) (b : Tree) (rb : List (List ℕ)) (cb : List ℤ)
    (r : Std.Result Tree Refusal) (rows : List (List ℕ)) (coefs : List ℤ) : Type 0 where
  pub is : (at : ℕ) → given tt ≡ test_head depth table s at → (k : ℕ) → k ≡ operand_count (get_or s at 0) → (k ≡ 0 → ⊥) → (k ≡ 1 → ⊥) → (k ≡ 2 → ⊥)
      → ReadAs (read_tree (depth - 1) table s (at + 1)) (Ok a) ra ca → ReadAs (read_tree (depth - 1) table s a.next) (Ok b) rb cb
      → ReadAs (read_tree depth table s at) r rows coefs
