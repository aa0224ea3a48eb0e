-- Expressions: the tree, and reading it from its bytes in prefix order. Assumes nothing.
use Rattle.std.specs.Prelude.{List, ℕ, zero, suc, ◌+◌, ℤ, length, get_or, ltb, leb, eqb}
use Rattle.specification.specs.Results.{Result, Test, refused, given, ◌>>=◌, ◌>>◌, require, when◌then◌else◌}
use Rattle.specification.specs.Letters.{kind_of}
use Rattle.specification.specs.Records.{four_bytes_at}

-- a tree; a letter has its number and its kind
pub data Expr : Type 0 where
  Letter : ℕ → ℕ → Expr
  Constant : ℤ → Expr
  Sum : Expr → Expr → Expr
  Difference : Expr → Expr → Expr
  Negation : Expr → Expr
  Times : Expr → Expr → Expr
  Dot : Expr → Expr → Expr
  Wedge : Expr → Expr → Expr
  Triple : Expr → Expr → Expr → Expr

-- what a token begins: a leaf, which is whole with its bytes, or an operator with one, two or three operands
pub data Token : Type 0 where
  leaf : Expr → Token
  one : (Expr → Expr) → Token
  two : (Expr → Expr → Expr) → Token
  three : (Expr → Expr → Expr → Expr) → Token

-- the bytes of a token itself: 01 n, 02 and four bytes, else one
unfoldable pub token_bytes : (token : ℕ) → ℕ
token_bytes token = when eqb token 1 then 2 else when eqb token 2 then 5 else 1

-- "its token, letter or constant bytes missing (4)"
unfoldable pub test_bytes : (s : List ℕ) (at : ℕ) → Test
test_bytes s at = do
  require (ltb at (length s)) 4
  require (leb (at + token_bytes (get_or s at 0)) (length s)) 4

-- "letter (5)"
unfoldable pub read_letter : (table : List ℕ) (n : ℕ) → Result Token
read_letter table n = do
  require (ltb n (length table)) 5
  given (leaf (Letter n (kind_of table n)))

-- "unknown token (4)"
unfoldable pub read_token : (table s : List ℕ) (at : ℕ) → Result Token
read_token table s at =
    let token = get_or s at 0 in
    when eqb token 1 then read_letter table (get_or s (at + 1) 0) else
    when eqb token 2 then given (leaf (Constant (four_bytes_at s (at + 1)))) else
    when eqb token 3 then given (two Sum) else
    when eqb token 4 then given (two Difference) else
    when eqb token 5 then given (one Negation) else
    when eqb token 6 then given (two Times) else
    when eqb token 7 then given (two Dot) else
    when eqb token 8 then given (two Wedge) else
    when eqb token 9 then given (three Triple) else
    refused 4

-- the operands of a token, left to right: `tree` reads the tree at a position
unfoldable pub read_operands : (tree : ℕ → Result (Expr × ℕ)) (at : ℕ) (token : Token) → Result (Expr × ℕ)
read_operands tree at (leaf e) = given (e, at)
read_operands tree at (one op) = do
  (e, next) ← tree at
  given (op e, next)
read_operands tree at (two op) = do
  (e, second) ← tree at
  (f, next) ← tree second
  given (op e f, next)
read_operands tree at (three op) = do
  (e, second) ← tree at
  (f, third) ← tree second
  (g, next) ← tree third
  given (op e f g, next)

-- the tree at a position, with so much depth left, and the position behind it; no depth left is 3
unfoldable pub read_tree : (depth : ℕ) (table s : List ℕ) (at : ℕ) → Result (Expr × ℕ)
read_tree zero table s at = do
  test_bytes s at
  refused 3
read_tree (suc depth) table s at = do
  test_bytes s at
  token ← read_token table s at
  read_operands (read_tree depth table s) (at + token_bytes (get_or s at 0)) token

-- "Over 512 bytes (3) comes first", then the tree, nested at most 16 deep, "bytes left over (4) last"
unfoldable pub read_expr : (table s : List ℕ) → Result Expr
read_expr table s = do
  require (leb (length s) 512) 3
  (e, next) ← read_tree 16 table s 0
  require (eqb next (length s)) 4
  given e
