-- The five rules, and the step that adds M times (left − right) to a form. Assumes nothing.
use Rattle.std.specs.Prelude.{Bool, ◌&&◌, List, [], ◌∷◌, ◌++◌, map, ℕ, ◌+◌, length, get_or, leb, eqb}
use Rattle.specification.specs.Results.{Result, Test, ◌>>◌, require, when◌then◌else◌}
use Rattle.specification.specs.Letters.{scalar, vector, test_letters}
use Rattle.specification.specs.Terms.{Term, Form, term_kind, dot_of, triple_of, wedge_of, plus, minus, times_term, negated, gather, within, vector_letters, term_in_shape}
use Rattle.specification.specs.Records.{test_term}

-- ════ the rules

-- the terms of both sides
pub record Sides : Type 0 where
  pub left : List Term
  pub right : List Term

-- 1 (T6): (abc)d = (d·a)(b∧c) + (d·b)(c∧a) + (d·c)(a∧b)
unfoldable pub rule1 : (a b c d : ℕ) → Sides
rule1 a b c d = record {
  left = plus (triple_of a b c ∷ []) (d ∷ []) ∷ [];
  right =
      plus (dot_of d a ∷ []) (wedge_of b c)
      ∷ plus (dot_of d b ∷ []) (wedge_of c a)
      ∷ plus (dot_of d c ∷ []) (wedge_of a b) ∷ [];
}

-- 2 (T7): (abc)d = (dbc)a + (adc)b + (abd)c
unfoldable pub rule2 : (a b c d : ℕ) → Sides
rule2 a b c d = record {
  left = plus (triple_of a b c ∷ []) (d ∷ []) ∷ [];
  right =
      plus (triple_of d b c ∷ []) (a ∷ [])
      ∷ plus (triple_of a d c ∷ []) (b ∷ [])
      ∷ plus (triple_of a b d ∷ []) (c ∷ []) ∷ [];
}

-- 3 (T8): (d·h)(abc) = (d·a)(hbc) + (d·b)(ahc) + (d·c)(abh)
unfoldable pub rule3 : (a b c d h : ℕ) → Sides
rule3 a b c d h = record {
  left = plus (dot_of d h ∷ triple_of a b c ∷ []) [] ∷ [];
  right =
      plus (dot_of d a ∷ triple_of h b c ∷ []) []
      ∷ plus (dot_of d b ∷ triple_of a h c ∷ []) []
      ∷ plus (dot_of d c ∷ triple_of a b h ∷ []) [] ∷ [];
}

-- 4 (T9): (abc)(d∧h) = (dha)(b∧c) + (dhb)(c∧a) + (dhc)(a∧b)
unfoldable pub rule4 : (a b c d h : ℕ) → Sides
rule4 a b c d h = record {
  left = plus (triple_of a b c ∷ []) (wedge_of d h) ∷ [];
  right =
      plus (triple_of d h a ∷ []) (wedge_of b c)
      ∷ plus (triple_of d h b ∷ []) (wedge_of c a)
      ∷ plus (triple_of d h c ∷ []) (wedge_of a b) ∷ [];
}

-- [(p∧q)·(d∧g)](r·h), the bracket multiplied out: (p·d)(q·g)(r·h) − (p·g)(q·d)(r·h)
unfoldable pub bracket : (p q d g r h : ℕ) → List Term
bracket p q d g r h = plus (dot_of p d ∷ dot_of q g ∷ dot_of r h ∷ []) [] ∷ minus (dot_of p g ∷ dot_of q d ∷ dot_of r h ∷ []) [] ∷ []

-- 5 (document 000, 2.11): (abc)(dgh) = [(b∧c)·(d∧g)](a·h) + [(c∧a)·(d∧g)](b·h) + [(a∧b)·(d∧g)](c·h)
unfoldable pub rule5 : (a b c d g h : ℕ) → Sides
rule5 a b c d g h = record {
  left = plus (triple_of a b c ∷ triple_of d g h ∷ []) [] ∷ [];
  right = bracket b c d g a h ++ bracket c a d g b h ++ bracket a b d g c h;
}

-- the rule of a number, with its letters in their order
unfoldable pub sides : (rule : ℕ) (letters : List ℕ) → Sides
sides rule ls =
    let l : ℕ → ℕ = λ i. get_or ls i 0 in
    when eqb rule 1 then rule1 (l 0) (l 1) (l 2) (l 3) else
    when eqb rule 2 then rule2 (l 0) (l 1) (l 2) (l 3) else
    when eqb rule 3 then rule3 (l 0) (l 1) (l 2) (l 3) (l 4) else
    when eqb rule 4 then rule4 (l 0) (l 1) (l 2) (l 3) (l 4) else
    rule5 (l 0) (l 1) (l 2) (l 3) (l 4) (l 5)

-- how many letters a rule has
unfoldable pub rule_letters : (rule : ℕ) → ℕ
rule_letters rule = when leb rule 2 then 4 else when leb rule 4 then 5 else 6

-- rules 1, 2 and 4 have vectors on both sides, 3 and 5 scalars
unfoldable pub rule_kind : (rule : ℕ) → ℕ
rule_kind rule = when eqb rule 3 then scalar else when eqb rule 5 then scalar else vector

-- the rules are numbered 1 to 5
unfoldable pub is_rule : (rule : ℕ) → Bool
is_rule rule = leb 1 rule && leb rule 5

-- ════ steps

-- the rule number, its letters, and a term M
pub record Step : Type 0 where
  pub rule : ℕ
  pub letters : List ℕ
  pub m : Term

-- "Rules 1, 2 and 4 take M without a vector part; the kinds must agree"
unfoldable pub step_kinds_fit : (f : Form) (s : Step) → Bool
step_kinds_fit f s =
    when eqb (rule_kind s.rule) vector
    then eqb (term_kind s.m) scalar && eqb f.kind vector
    else eqb f.kind (term_kind s.m)

-- "M times each term of the left side, and M times each term of the right side, negated"
unfoldable pub step_terms : Step → List Term
step_terms s =
    map (times_term s.m) (sides s.rule s.letters).left
    ++ map negated (map (times_term s.m) (sides s.rule s.letters).right)

-- "step by step 6, 8 (M's and the rule's letters), 9, 10", or the form reached; "all of it is gathered together"
unfoldable pub take_step : (f : Form) (s : Step) → Result Form
take_step f s = do
  require (step_kinds_fit f s) 6
  require (leb (vector_letters s.m + rule_letters s.rule) 6) 8
  within f.kind (gather (f.terms ++ step_terms s))

-- the letters of a step in byte order: the rule's, then M's
unfoldable pub test_step_letters : (table : List ℕ) (s : Step) → Test
test_step_letters table s = do
  test_letters table vector s.letters
  test_term table s.m

-- the shape of a step: a rule, as many letters as it has, and M in shape
unfoldable pub step_in_shape : Step → Bool
step_in_shape s = is_rule s.rule && eqb (length s.letters) (rule_letters s.rule) && term_in_shape s.m

-- a step alone, with a form as the current one: admissible where this is no refusal
unfoldable pub step_at : (table : List ℕ) (f : Form) (s : Step) → Result Form
step_at table f s = do
  require (step_in_shape s) 11
  test_step_letters table s
  take_step f s
