-- The candidates for a step to fewer terms, by indices: a standing term, a mask over its factors, a rule, and a mask over the sorted letters that are left. Assumes nothing.
use Rattle.std.specs.Prelude.{◌≡◌, Bool, true, ◌&&◌, List, [], ◌∷◌, ◌++◌, ℕ, ◌^◌, ◌<◌, ◌≤◌, T, eqb, leb, ltb, length, get_or, ℤ, pos, neg_ℤ, ◌*ℤ◌}
use Rattle.specification.specs.Results.{given, when◌then◌else◌}
use Rattle.specification.specs.Lists.{joined, ascend, order, sorted}
use Rattle.specification.specs.Letters.{vector}
use Rattle.specification.specs.Terms.{Term, Form, gather}
use Rattle.specification.specs.Rules.{rule_letters, rule_kind, is_rule, Step, step_terms, step_at}
use Rattle.theory.specs.Order.{monomial}
use Rattle.theory.specs.Gathering.Coefficients.{coeff, term_at}
use Rattle.theory.specs.Shortening.Masks.{taken, left_over}

-- ════ letters

-- how many letters of a rule ascend as one block: a b c, in rule 2 with d, in rule 3 with h
unfoldable pub block_size : (rule : ℕ) → ℕ
block_size r = when eqb r 2 then 4 else when eqb r 3 then 4 else 3

-- the block and the other letters behind it, put in the order of the rule: in rule 3 d stands before h
unfoldable pub in_rule_order : (rule : ℕ) (letters : List ℕ) → List ℕ
in_rule_order r w = when eqb r 3 then get_or w 0 0 ∷ get_or w 1 0 ∷ get_or w 2 0 ∷ get_or w 4 0 ∷ get_or w 3 0 ∷ [] else w

-- in rule 5, whose triples may be exchanged, the block has the first letter
unfoldable pub block_is_first : (rule : ℕ) (block others : List ℕ) → Bool
block_is_first r x y = when eqb r 5 then leb (get_or x 0 0) (get_or y 0 0) else true

-- ════ the step that takes a term away

-- M has the factors that the mask takes, and the vector part unless the rule has it
unfoldable pub multiplier : (t : Term) (mask rule : ℕ) (c : ℤ) → Term
multiplier t k r c = record { coef = c; factors = taken k t.factors; part = when eqb (rule_kind r) vector then [] else t.part }

-- the letters that M leaves to the rule, in their order
unfoldable pub pool : (t : Term) (mask rule : ℕ) → List ℕ
pool t k r = sorted order (joined (left_over k t.factors) ++ (when eqb (rule_kind r) vector then t.part else []))

-- the step by the term, a mask over its factors, a rule, and a mask over the letters left, which takes the block; M has the coefficient c
unfoldable pub candidate : (t : Term) (mask rule pick : ℕ) (c : ℤ) → Step
candidate t k r j c = record { rule = r; letters = in_rule_order r (taken j (pool t k r) ++ left_over j (pool t k r)); m = multiplier t k r c }

-- what it adds to the term's monomial where M's coefficient is 1
unfoldable pub gain : (t : Term) (mask rule pick : ℕ) → ℤ
gain t k r j = coeff (monomial t) (gather (step_terms (candidate t k r j (pos 1))))

-- as many letters as the rule has, a whole block, the block and the others strictly ascending, and in rule 5 the block first
unfoldable pub is_candidate : (t : Term) (mask rule pick : ℕ) → Bool
is_candidate t k r j =
    let w = pool t k r in
    eqb (length w) (rule_letters r) && eqb (length (taken j w)) (block_size r)
    && ascend ltb (taken j w) && ascend ltb (left_over j w) && block_is_first r (taken j w) (left_over j w)

-- no candidate whose M takes the term away exactly is an admissible step to fewer terms
unfoldable pub NoCandidate : (table : List ℕ) (f : Form) → Type 0
NoCandidate table f =
    (i k r j : ℕ) (c : ℤ) (reached : Form) → let t = term_at f.terms i in
    i < length f.terms → k < 2 ^ length t.factors → T (is_rule r) → j < 2 ^ rule_letters r → T (is_candidate t k r j)
    → c *ℤ gain t k r j ≡ neg_ℤ t.coef → step_at table f (candidate t k r j c) ≡ given reached → length f.terms ≤ length reached.terms
