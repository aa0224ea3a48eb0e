-- Numbers taken by a mask, the letters that M leaves to a rule, and the letters of a rule by a mask over them. Assumes nothing.
use Rattle.std.specs.Prelude.{Bool, true, false, not, ◌&&◌, ◌≡◌, List, [], ◌∷◌, ◌++◌, ℕ, zero, suc, ◌+◌, ◌≤◌, ◌<◌, T, eqb, ltb, ℤ, pos, length, take, Option, Some, None, is_some, IfSome}
use Rattle.std.specs.Int.Count.{ones}
use Rattle.specification.specs.Results.{given, when◌then◌else◌}
use Rattle.specification.specs.Lists.{joined, all, ascend, order, sorted}
use Rattle.specification.specs.Letters.{vector}
use Rattle.specification.specs.Terms.{with_coef, term_in_shape}
use Rattle.specification.specs.Terms as S
use Rattle.specification.specs.Rules.{rule_letters, rule_kind, step_at}
use Rattle.theory.specs.Elements.{All}
use Rattle.theory.specs.Shortening.Masks.{taken, left_over}
use Rattle.theory.specs.Shortening.Candidates.{block_size, in_rule_order, block_is_first, multiplier, pool, candidate, is_candidate}
use Rattle.terms.specs.declared.types.Term.{Term}
use Rattle.terms.specs.Abstraction.{term_of, Counted}
use Rattle.rules.specs.Steps.{step_tests}
use Rattle.picks.specs.declared.choosing.Opening.{Opening}

-- ════ masks

-- what a mask takes, in front of seven places
pub record MaskTaken (l : List ℕ) (mask : ℕ) (to : List ℕ) (r : ℕ) : Type 0 where
  pub is : take r to ≡ taken mask l
  pub few : r ≤ length l
  pub places : length to ≡ 7

-- how many bits stand in so many masks, from one on, as digits
unfoldable pub bit_digits : (from count : ℕ) → List ℕ
bit_digits k zero = []
bit_digits k (suc n) = (48 + ones k) ∷ bit_digits (k + 1) n

-- a factor of vectors
unfoldable pub is_vectors : List ℕ → Bool
is_vectors f = not (eqb (length f) 1)

-- how many letters a mask leaves, where they are vectors
pub record LeftBy (fs : List (List ℕ)) (mask r : ℕ) : Type 0 where
  pub is : all is_vectors (left_over mask fs) ≡ true → r ≡ length (joined (left_over mask fs))
  pub few : r ≤ 64

-- ════ the pool

-- letters in seven places, ascending; a count of seven stands for seven or more
pub record Pooled (l p : List ℕ) (n : ℕ) : Type 0 where
  pub places : length p ≡ 7
  pub few : n ≤ 7
  pub all : n < 7 → length l ≡ n
  pub many : 7 ≤ n → 7 ≤ length l
  pub is : n < 7 → take n p ≡ sorted order l
  pub small : All (λ (x : ℕ). x < 256) l

-- more letters brought into a pool
pub record Adds (xs p : List ℕ) (n : ℕ) (p' : List ℕ) (n' : ℕ) : Type 0 where
  pub few : n' ≤ 7
  pub places : length p' ≡ 7
  pub adds : (l : List ℕ) → Pooled l p n → Pooled (xs ++ l) p' n'

-- the letters that M leaves to the rule, in any order
unfoldable pub letters_left : (t : S.Term) (mask rule : ℕ) → List ℕ
letters_left t k r = joined (left_over k t.factors) ++ (when eqb (rule_kind r) vector then t.part else [])

-- ════ what M and the rule get

-- M with the coefficient 1
pub record MultiplierOf (t : Term) (mask rule : ℕ) (r : Term) : Type 0 where
  pub is : term_of r ≡ multiplier (term_of t) mask rule (pos 1)
  pub counted : Counted r

-- no step by the term, the mask and the rule is admissible at a form of the kind
unfoldable pub Shut : (kind : ℕ) (t : S.Term) (mask rule : ℕ) → Type 0
Shut kind t k r =
    (table : List ℕ) (f : S.Form) (j : ℕ) (c : ℤ) (reached : S.Form)
    → f.kind ≡ kind → T (is_candidate t k r j) → step_at table f (candidate t k r j c) ≡ given reached → ⊥

-- a step by M passes the tests of shape, kinds and number of letters at a form of the kind, whatever its letters
pub record Passes (kind rule : ℕ) (m : Term) : Type 0 where
  pub in_shape : T (term_in_shape (term_of m))
  pub fits : (letters : List ℕ) → step_tests kind (record { rule = rule; letters = letters; m = term_of m }) ≡ given tt

-- or no such step does, whatever M's coefficient
unfoldable pub Fails : (kind rule : ℕ) (m : S.Term) → Type 0
Fails kind r m =
    (table letters : List ℕ) (f : S.Form) (c : ℤ) (reached : S.Form) → f.kind ≡ kind → step_at table f (record {
      rule = r;
      letters = letters;
      m =
          with_coef c m;
    }) ≡ given reached → ⊥

unfoldable pub PassesBy : (passes : Bool) (kind rule : ℕ) (m : Term) → Type 0
PassesBy true kind r m = Passes kind r m
PassesBy false kind r m = Fails kind r (term_of m)

-- M with the coefficient 1 is in shape, its step passes the tests of kinds and letters, and the pool has the rule's letters
pub record Opened (kind : ℕ) (t : Term) (mask rule : ℕ) (o : Opening) : Type 0 where
  pub m : MultiplierOf t mask rule o.m
  pub passes : Passes kind rule o.m
  pub places : length o.pool ≡ 7
  pub letters : take (rule_letters rule) o.pool ≡ pool (term_of t) mask rule
  pub small : All (λ (x : ℕ). x < 256) (pool (term_of t) mask rule)

-- one or the other
unfoldable pub OpenedBy : (kind : ℕ) (t : Term) (mask rule : ℕ) (r : Option Opening) → Type 0
OpenedBy kind t k r (Some o) = Opened kind t k r o
OpenedBy kind t k r None = Shut kind (term_of t) k r

-- ════ picks

-- the block has its size, block and others ascend strictly, and in rule 5 the block is first
unfoldable pub picks : (rule : ℕ) (letters : List ℕ) (pick : ℕ) → Bool
picks r w j = eqb (length (taken j w)) (block_size r) && ascend ltb (taken j w) && ascend ltb (left_over j w) && block_is_first r (taken j w) (left_over j w)

-- the letters of a block and the others in the order of a rule
pub record RuleOrdered (rule : ℕ) (x y r : List ℕ) : Type 0 where
  pub is : (u v : List ℕ) → length u ≡ block_size rule → length (u ++ v) ≡ rule_letters rule → All (λ (n : ℕ). n < 256) u → All (λ (n : ℕ). n < 256) v
      → take (length u) x ≡ u → take (length v) y ≡ v → take (rule_letters rule) r ≡ in_rule_order rule (u ++ v)

-- the rule's letters by a mask over the pool, if they are a pick
pub record PickedBy (w : List ℕ) (rule pick : ℕ) (r : Option (List ℕ)) : Type 0 where
  pub is : is_some r ≡ picks rule w pick
  pub letters : IfSome r (λ l. take (rule_letters rule) l ≡ in_rule_order rule (taken pick w ++ left_over pick w))
