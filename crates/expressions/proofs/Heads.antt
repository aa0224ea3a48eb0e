-- Tokens by their numbers, and the tests at a tree. Assumes nothing.
use mathlib.Core.Path.{◌≡◌, refl, ap, sym, subst, ◌∙◌}
use mathlib.Core.Bool.{Bool, true, false}
use mathlib.Core.List.{List}
use Prim.Native.Nat.{ℕ, zero, suc, ◌+◌, ◌-◌, ◌≤◌, ◌<◌}
use native.Mathlib.Omega.{arith}
use borrow.Author.Tests.{lt-ltb, le-ltb, le-leb, lt-leb, eq-eqb, ne_eqb}
use lib.Dec.{ltb, leb, eqb, leb→le}
use lib.ListN.{length, get_or}
use Rattle.specification.specs.Results.{Result, Test, refused, given, ◌>>◌, require, when◌then◌else◌}
use Rattle.specification.specs.Letters.{kind_of}
use Rattle.specification.specs.Records.{four_bytes_at}
use Rattle.specification.specs.Expressions.{Expr, Letter, Constant, Sum, Difference, Negation, Times, Dot, Wedge, Triple, Token, leaf, one, two, three, token_bytes, test_bytes, read_letter, read_token}
use Rattle.theory.specs.Tests.{and-false, required, passed}
use Rattle.std.specs.Prelude.{Ok, Err}
use Rattle.std.specs.Prelude as Std
use Rattle.refusal.specs.declared.Refusal.{Refusal}
use Rattle.refusal.specs.declared.Refusal.TheVariants.{TooLong, Torn, AbsentLetter}
use Rattle.refusal.specs.Tests.{test_of}
use Rattle.expressions.specs.Trees.{operand_count, test_token, test_head}

-- ════ a token by its number

-- one more than nine: no token
abbrev pub more : ℕ → ℕ
more n = suc (suc (suc (suc (suc (suc (suc (suc (suc (suc n)))))))))

-- the tests of a token's number in their order, over what a letter and a constant give
unfoldable pub chain : (token : ℕ) → Result Token → Expr → Result Token
chain token letter constant =
    when eqb token 1 then letter else
    when eqb token 2 then given (leaf constant) else
    when eqb token 3 then given (two Sum) else
    when eqb token 4 then given (two Difference) else
    when eqb token 5 then given (one Negation) else
    when eqb token 6 then given (two Times) else
    when eqb token 7 then given (two Dot) else
    when eqb token 8 then given (two Wedge) else
    when eqb token 9 then given (three Triple) else
    refused 4

-- as the specification reads a token
pub read_is : (table s : List ℕ) (at : ℕ) → read_token table s at ≡ chain (get_or s at 0) (read_letter table (get_or s (at + 1) 0))
    (Constant (four_bytes_at s (at + 1)))
unfolding read_token chain
read_is table s at = refl

-- no token
pub chain_more : (n : ℕ) (letter : Result Token) (constant : Expr) → chain (more n) letter constant ≡ refused 4
unfolding chain
chain_more n letter constant =
    rw (
      ne_eqb (more n) 1 (λ e. omega arith),
      ne_eqb (more n) 2 (λ e. omega arith),
      ne_eqb (more n) 3 (λ e. omega arith),
      ne_eqb (more n) 4 (λ e. omega arith),
      ne_eqb (more n) 5 (λ e. omega arith),
      ne_eqb (more n) 6 (λ e. omega arith),
      ne_eqb (more n) 7 (λ e. omega arith),
      ne_eqb (more n) 8 (λ e. omega arith),
      ne_eqb (more n) 9 (λ e. omega arith),
    )

-- 2 to 9 are known
chain_known : (token : ℕ) (letter : Result Token) (constant : Expr) → 2 ≤ token → token < 10 → ◌≡◌ {A = Test} (chain token letter constant >> given tt)
    (given tt)
unfolding chain
chain_known zero letter constant h k = absurd (omega arith)
chain_known (suc zero) letter constant h k = absurd (omega arith)
chain_known (suc (suc zero)) letter constant h k = refl
chain_known (suc (suc (suc zero))) letter constant h k = refl
chain_known (suc (suc (suc (suc zero)))) letter constant h k = refl
chain_known (suc (suc (suc (suc (suc zero))))) letter constant h k = refl
chain_known (suc (suc (suc (suc (suc (suc zero)))))) letter constant h k = refl
chain_known (suc (suc (suc (suc (suc (suc (suc zero))))))) letter constant h k = refl
chain_known (suc (suc (suc (suc (suc (suc (suc (suc zero)))))))) letter constant h k = refl
chain_known (suc (suc (suc (suc (suc (suc (suc (suc (suc zero))))))))) letter constant h k = refl
chain_known (suc (suc (suc (suc (suc (suc (suc (suc (suc (suc n)))))))))) letter constant h k = absurd (omega arith)

chain-high : (token : ℕ) (letter : Result Token) (constant : Expr) → 10 ≤ token → chain token letter constant ≡ refused 4
chain-high token letter constant h =
    let e : more (token - 10) ≡ token = omega arith in
    subst (λ (n : ℕ). chain n letter constant ≡ refused 4) e (chain_more (token - 10) letter constant)

-- ════ the functions over tokens

pub bytes-letter : (token : ℕ) → token ≡ 1 → (2 ≡ token_bytes token) × (2 ≤ 5)
unfolding token_bytes
bytes-letter token e = (rw (eq-eqb token 1 e), omega arith)

pub bytes-constant : (token : ℕ) → token ≡ 2 → (5 ≡ token_bytes token) × (5 ≤ 5)
unfolding token_bytes
bytes-constant token e = let n : token ≡ 1 → ⊥ = λ f. omega arith in (rw (ne_eqb token 1 n, eq-eqb token 2 e), omega arith)

pub bytes-operator : (token : ℕ) → (token ≡ 1 → ⊥) → (token ≡ 2 → ⊥) → (1 ≡ token_bytes token) × (1 ≤ 5)
unfolding token_bytes
bytes-operator token h k = (rw (ne_eqb token 1 h, ne_eqb token 2 k), omega arith)

pub count_one : (token : ℕ) → token ≡ 5 → 1 ≡ operand_count token
unfolding operand_count
count_one token e = rw (eq-eqb token 5 e)

pub count_two : (token : ℕ) → (token ≡ 5 → ⊥) → 3 ≤ token → token < 9 → 2 ≡ operand_count token
unfolding operand_count
count_two token n h k = let l : token ≤ 8 = omega arith in rw (ne_eqb token 5 n, le-leb 3 token h, le-leb token 8 l)

pub count_three : (token : ℕ) → token ≡ 9 → 3 ≡ operand_count token
unfolding operand_count
count_three token e = subst (λ (t : ℕ). 3 ≡ operand_count t) (sym e) refl

pub count_low : (token : ℕ) → token < 3 → 0 ≡ operand_count token
unfolding operand_count
count_low token h =
    let n : token ≡ 5 → ⊥ = λ e. omega arith in
    let m : token ≡ 9 → ⊥ = λ e. omega arith in
    rw (ne_eqb token 5 n, lt-leb 3 token h, ne_eqb token 9 m)

pub count_high : (token : ℕ) → 9 ≤ token → (token ≡ 9 → ⊥) → 0 ≡ operand_count token
unfolding operand_count
count_high token h m =
    let n : token ≡ 5 → ⊥ = λ e. omega arith in
    let l : 8 < token = omega arith in
    rw (ne_eqb token 5 n, lt-leb token 8 l, and-false (leb 3 token), ne_eqb token 9 m)

-- ════ the tests at a tree

-- the token is missing
pub no-token : (s : List ℕ) (at : ℕ) → length s ≤ at → test_of (Err Torn) ≡ test_bytes s at
unfolding test_bytes
no-token s at h = rw (le-ltb at (length s) h)

-- its bytes are missing
pub no_bytes : (s : List ℕ) (at k : ℕ) → at < length s → k ≡ token_bytes (get_or s at 0) → length s - at < k → test_of (Err Torn) ≡ test_bytes s at
unfolding test_bytes
no_bytes s at k h e l = let m : length s < at + token_bytes (get_or s at 0) = omega (arith, e) in rw (lt-ltb at (length s) h, lt-leb _ (length s) m)

-- all are there
pub all_bytes : (s : List ℕ) (at k : ℕ) → at < length s → k ≡ token_bytes (get_or s at 0) → k ≤ length s - at → test_of (Ok tt) ≡ test_bytes s at
unfolding test_bytes
all_bytes s at k h e l = let m : at + token_bytes (get_or s at 0) ≤ length s = omega (arith, e) in rw (lt-ltb at (length s) h, le-leb _ (length s) m)

-- so the bytes are there where the test passes
pub bytes-passed : (s : List ℕ) (at : ℕ) → test_bytes s at ≡ given tt → at + token_bytes (get_or s at 0) ≤ length s
unfolding test_bytes
bytes-passed s at p =
    let w = required (ltb at (length s)) 4 (require (leb (at + token_bytes (get_or s at 0)) (length s)) 4) tt p in
    leb→le (at + token_bytes (get_or s at 0)) (length s) (passed (leb (at + token_bytes (get_or s at 0)) (length s)) 4 w.1)

-- as its number says
pub bytes-there : (u : Unit {0}) (s : List ℕ) (at : ℕ) → test_of (Ok u) ≡ test_bytes s at → at + token_bytes (get_or s at 0) ≤ length s
bytes-there u s at e = bytes-passed s at (sym e)

-- a token with operands has no bytes but its own
pub own-byte : (token : ℕ) → (operand_count token ≡ 0 → ⊥) → token_bytes token ≡ 1
unfolding operand_count
own-byte token h = sym (bytes-operator token (λ e. h (subst (λ (t : ℕ). operand_count t ≡ 0) (sym e) refl)) (λ e. h (subst (λ (t : ℕ). operand_count t ≡ 0)
    (sym e) refl))).0

-- a letter in the table
pub in_table : (n m : ℕ) → n < m → test_of (Ok tt) ≡ require (ltb n m) 5
in_table n m h = rw (lt-ltb n m h)

-- or not
pub not_in-table : (n m : ℕ) → m ≤ n → test_of (Err AbsentLetter) ≡ require (ltb n m) 5
not_in-table n m h = rw (le-ltb n m h)

module _ (table s : List ℕ) (at : ℕ) where
  -- a letter: its own test
  pub token-letter : (r : Std.Result (Unit {0}) Refusal) (n : ℕ) → get_or s at 0 ≡ 1 → n ≡ get_or s (at + 1) 0 → test_of r ≡ require (ltb n (length table)) 5 → test_of r ≡ test_token table s at
  unfolding test_token read_letter chain
  token-letter r n e p h =
      h ∙ only (ltb n (length table)) (leaf (Letter n (kind_of table n)))
      ∙ ap (λ (m : ℕ). read_letter table m >> given tt) p
      ∙ ap (λ (token : ℕ). chain token (read_letter table (get_or s (at + 1) 0)) (Constant (four_bytes_at s (at + 1))) >> given tt) (sym e)
      ∙ ap (λ (r : Result Token). r >> given tt) (sym (read_is table s at))
    where
      only : (b : Bool) (t : Token) → ◌≡◌ {A = Test} (require b 5) ((require b 5 >> given t) >> given tt)
      only true t = refl
      only false t = refl

  -- a constant or an operator
  pub token_known : 2 ≤ get_or s at 0 → get_or s at 0 < 10 → test_of (Ok tt) ≡ test_token table s at
  unfolding test_token
  token_known h k =
      sym (ap (λ (r : Result Token). r >> given tt) (read_is table s at) ∙ chain_known (get_or s at 0) (read_letter table (get_or s (at + 1) 0))
      (Constant (four_bytes_at s (at + 1))) h k)

  -- 0 is unknown
  pub token_zero : get_or s at 0 ≡ 0 → test_of (Err Torn) ≡ test_token table s at
  unfolding test_token chain
  token_zero e =
      sym (ap (λ (r : Result Token). r >> given tt) (read_is table s at
      ∙ ap (λ (token : ℕ). chain token (read_letter table (get_or s (at + 1) 0)) (Constant (four_bytes_at s (at + 1)))) e))

  -- what is above 9 is unknown
  pub token-high : 10 ≤ get_or s at 0 → test_of (Err Torn) ≡ test_token table s at
  unfolding test_token
  token-high h =
      sym (ap (λ (r : Result Token). r >> given tt) (read_is table s at ∙ chain-high (get_or s at 0) (read_letter table (get_or s (at + 1) 0))
      (Constant (four_bytes_at s (at + 1))) h))

  -- bytes missing
  pub head_bytes : (n : Refusal) (depth : ℕ) → test_of (Err n) ≡ test_bytes s at → test_of (Err n) ≡ test_head depth table s at
  unfolding test_head
  head_bytes n depth e = ap (λ (t : Test). t >> (require (leb 1 depth) 3 >> test_token table s at)) e

  -- no depth left
  pub head-depth : (u : Unit {0}) (depth : ℕ) → test_of (Ok u) ≡ test_bytes s at → depth ≡ 0 → test_of (Err TooLong) ≡ test_head depth table s at
  unfolding test_head
  head-depth u depth e z =
      sym (ap (λ (t : Test). t >> (require (leb 1 depth) 3 >> test_token table s at)) (sym e)
      ∙ ap (λ (d : ℕ). require (leb 1 d) 3 >> test_token table s at) z)

  -- the token's own test
  pub head-token : (u : Unit {0}) (r : Std.Result (Unit {0}) Refusal) (depth : ℕ) → test_of (Ok u) ≡ test_bytes s at → (depth ≡ 0 → ⊥) → test_of r ≡ test_token table s at
      → test_of r ≡ test_head depth table s at
  unfolding test_head
  head-token u r depth e d p =
      let l : 1 ≤ depth = omega arith in
      p ∙ sym (ap (λ (t : Test). t >> (require (leb 1 depth) 3 >> test_token table s at)) (sym e)
      ∙ ap (λ (b : Bool). require b 3 >> test_token table s at) (le-leb 1 depth l))

one_byte : (token : ℕ) → 1 ≤ token_bytes token
unfolding token_bytes
one_byte token = go (eqb token 1) (eqb token 2)
  where
    go : (a b : Bool) → 1 ≤ (when a then 2 else when b then 5 else 1)
    go true b = omega arith
    go false true = omega arith
    go false false = omega arith

-- neither 0 nor 1
pub low_known : (token : ℕ) → (token ≡ 0 → ⊥) → (token ≡ 1 → ⊥) → 2 ≤ token
low_known token h k = omega arith

-- a token whose bytes are there starts inside
pub starts : (at n token : ℕ) → at + token_bytes token ≤ n → at < n
starts at n token h = omega (arith, one_byte token)

-- some depth is left
pub some_depth : (depth : ℕ) → (depth ≡ 0 → ⊥) → 1 ≤ depth
some_depth depth h = omega arith
