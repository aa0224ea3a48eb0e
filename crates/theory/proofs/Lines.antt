-- The eleven starred lines of "Lines to try", as rows of one table with one computed test. Assumes nothing.
use Rattle.std.specs.Prelude.{Bool, true, false, List, [], ◌∷◌, ◌++◌, ℕ, zero, suc, T, eqb}
use Rattle.specification.specs.Lists.{all}
use Rattle.specification.specs.Results.{Result, refused, given}
use Rattle.specification.specs.Letters.{scalar, vector}
use Rattle.specification.specs.Terms.{Term, Form, dot_of, triple_of, wedge_of, plus, minus}
use Rattle.specification.specs.Reduction.{reduced}
use Rattle.specification.specs.Rules.{Step, step_at}
use Rattle.specification.specs.Logs.{same_form}
use Rattle.specification.proofs.Computing.{computing}

-- ════ expressions as bytes

-- "Letters a to d are vectors"
abbrev table : List ℕ
table = 1 ∷ 1 ∷ 1 ∷ 1 ∷ []

abbrev a : List ℕ
a = 1 ∷ 0 ∷ []

abbrev b : List ℕ
b = 1 ∷ 1 ∷ []

abbrev c : List ℕ
c = 1 ∷ 2 ∷ []

abbrev d : List ℕ
d = 1 ∷ 3 ∷ []

-- 2
abbrev twice : List ℕ
twice = 2 ∷ 0 ∷ 0 ∷ 0 ∷ 2 ∷ []

-- 46340 and 46341: 02 00 00 B5 04, 02 00 00 B5 05
abbrev root : List ℕ
root = 2 ∷ 0 ∷ 0 ∷ 181 ∷ 4 ∷ []

abbrev over_root : List ℕ
over_root = 2 ∷ 0 ∷ 0 ∷ 181 ∷ 5 ∷ []

infixl 5 ◌⊞◌ ◌⊟◌
infixl 6 ◌⊠◌
infixl 7 ◌⊙◌
infixl 8 ◌⋀◌
-- 03 sum
abbrev ◌⊞◌ : List ℕ → List ℕ → List ℕ
e ⊞ f = 3 ∷ e ++ f

-- 04 difference
abbrev ◌⊟◌ : List ℕ → List ℕ → List ℕ
e ⊟ f = 4 ∷ e ++ f

-- 06 times
abbrev ◌⊠◌ : List ℕ → List ℕ → List ℕ
e ⊠ f = 6 ∷ e ++ f

-- 07 dot
abbrev ◌⊙◌ : List ℕ → List ℕ → List ℕ
e ⊙ f = 7 ∷ e ++ f

-- 08 wedge
abbrev ◌⋀◌ : List ℕ → List ℕ → List ℕ
e ⋀ f = 8 ∷ e ++ f

-- 09 triple
abbrev tripled : List ℕ → List ℕ → List ℕ → List ℕ
tripled e f g = 9 ∷ e ++ f ++ g

-- ════ sums of letters

-- 7 scalar letters, 0 to 6, and 8 vector letters, 7 to 14
abbrev fifteen : List ℕ
fifteen = 0 ∷ 0 ∷ 0 ∷ 0 ∷ 0 ∷ 0 ∷ 0 ∷ 1 ∷ 1 ∷ 1 ∷ 1 ∷ 1 ∷ 1 ∷ 1 ∷ 1 ∷ []

-- the sum of the letters n, n + 1, .., n + more
unfoldable pub letters : (n more : ℕ) → List ℕ
letters n zero = 1 ∷ n ∷ []
letters n (suc more) = (1 ∷ n ∷ []) ⊞ letters (suc n) more

-- ════ the table

-- what a line says of an expression: its form, that it is taken, or the number of its refusal
pub data Answer : Type 0 where
  is_form : Form → Answer
  is_taken : Answer
  is_refused : ℕ → Answer

-- a table, an expression and its answer; or a form, a step, and the form reached
pub data Claim : Type 0 where
  reduces : (table expr : List ℕ) → Answer → Claim
  steps : Form → Step → Form → Claim

-- a form of scalar terms
abbrev scalar_form : List Term → Form
scalar_form ts = record { kind = scalar; terms = ts }

-- a form of vector terms
abbrev vector_form : List Term → Form
vector_form ts = record { kind = vector; terms = ts }

-- (bcd)a − (acd)b + (abd)c − (abc)d
abbrev four_triples : Form
four_triples = vector_form
    (plus (triple_of 1 2 3 ∷ []) (0 ∷ [])
    ∷ minus (triple_of 0 2 3 ∷ []) (1 ∷ [])
    ∷ plus (triple_of 0 1 3 ∷ []) (2 ∷ [])
    ∷ minus (triple_of 0 1 2 ∷ []) (3 ∷ []) ∷ [])

-- a line that makes one claim
abbrev one : Claim → List Claim
one claim = claim ∷ []

-- a line that makes two
abbrev two : Claim → Claim → List Claim
two claim other = claim ∷ other ∷ []

-- the eleven lines, each with what it claims
unfoldable pub lines : List (List Claim)
lines =
    -- b∧a: −(a∧b)
    one (reduces table (b ⋀ a) (is_form (vector_form (minus [] (wedge_of 0 1) ∷ []))))
    -- a∧a: empty, vector
    ∷ one (reduces table (a ⋀ a) (is_form (vector_form [])))
    -- a∧(b∧c): (a·c)b − (a·b)c
    ∷ one (reduces table (a ⋀ (b ⋀ c)) (is_form (vector_form (plus (dot_of 0 2 ∷ []) (1 ∷ []) ∷ minus (dot_of 0 1 ∷ []) (2 ∷ []) ∷ []))))
    -- a∧(b∧c)+b∧(c∧a)+c∧(a∧b): empty
    ∷ one (reduces table (a ⋀ (b ⋀ c) ⊞ b ⋀ (c ⋀ a) ⊞ c ⋀ (a ⋀ b)) (is_form (vector_form [])))
    -- ((a∧b)∧(b∧c))·(c∧a) − (a·(b∧c))(a·(b∧c)): empty, scalar
    ∷ one (reduces table (((a ⋀ b) ⋀ (b ⋀ c)) ⊙ (c ⋀ a) ⊟ (a ⊙ (b ⋀ c)) ⊠ (a ⊙ (b ⋀ c))) (is_form (scalar_form [])))
    -- (b∧c)·(a∧d)+(c∧a)·(b∧d)+(a∧b)·(c∧d): empty
    ∷ one (reduces table ((b ⋀ c) ⊙ (a ⋀ d) ⊞ (c ⋀ a) ⊙ (b ⋀ d) ⊞ (a ⋀ b) ⊙ (c ⋀ d)) (is_form (scalar_form [])))
    -- (b∧c)∧(a∧d)+(c∧a)∧(b∧d)+(a∧b)∧(c∧d)+2(abc)d: (bcd)a−(acd)b+(abd)c−(abc)d
    ∷ one (reduces table ((b ⋀ c) ⋀ (a ⋀ d) ⊞ (c ⋀ a) ⋀ (b ⋀ d) ⊞ (a ⋀ b) ⋀ (c ⋀ d) ⊞ twice ⊠ tripled a b c ⊠ d) (is_form four_triples))
    -- That form, rule 2, letters a b c d, M = 1: empty
    ∷ one (steps four_triples (record { rule = 2; letters = 0 ∷ 1 ∷ 2 ∷ 3 ∷ []; m = plus [] [] }) (vector_form []))
    -- 46340 times 46340 is taken; 46341 times 46341 is 9
    ∷ two (reduces table (root ⊠ root) is_taken) (reduces table (over_root ⊠ over_root) (is_refused 9))
    -- A sum of 6 scalar letters times a sum of 8 vector letters is taken; 7 times 7 is 7
    ∷ two (reduces fifteen (letters 0 5 ⊠ letters 7 7) is_taken) (reduces fifteen (letters 0 6 ⊠ letters 7 6) (is_refused 7))
    -- (a·a)(a·a)(a·a) is taken; that times a is 8
    ∷ two (reduces table ((a ⊙ a) ⊠ (a ⊙ a) ⊠ (a ⊙ a)) is_taken) (reduces table ((a ⊙ a) ⊠ (a ⊙ a) ⊠ (a ⊙ a) ⊠ a) (is_refused 8))
    ∷ []

-- the result is the answer
answers : Result Form → Answer → Bool
answers (refused n) (is_form f) = false
answers (refused n) is_taken = false
answers (refused n) (is_refused m) = eqb n m
answers (given g) (is_form f) = same_form g f
answers (given g) is_taken = true
answers (given g) (is_refused m) = false

-- the claim holds
claim_holds : Claim → Bool
claim_holds (reduces table expr answer) = answers (reduced table expr) answer
claim_holds (steps f s g) = answers (step_at table f s) (is_form g)

-- every claim of a line holds
line_holds : List Claim → Bool
line_holds claims = all claim_holds claims

lines_hold : T (all line_holds lines)
unfolding lines letters answers claim_holds line_holds computing
lines_hold = tt
