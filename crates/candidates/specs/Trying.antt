-- The candidate of a term, a mask, a rule and a pick, and the next one worth a trial. Assumes nothing.
use Rattle.std.specs.Prelude.{◌≡◌, ◌⊎◌, Option, Some, None, IfSome, List, [], ℕ, ◌+◌, ◌/◌, ◌%◌, ◌^◌, ◌≤◌, ◌<◌, T, eqb, ℤ, neg_ℤ, ◌*ℤ◌, length}
use Rattle.specification.specs.Results.{given, when◌then◌else◌}
use Rattle.specification.specs.Letters.{scalar, vector}
use Rattle.specification.specs.Terms as S
use Rattle.specification.specs.Rules.{rule_letters, rule_kind, step_at}
use Rattle.theory.specs.Order.{monomial}
use Rattle.theory.specs.Shape.Forms.{FormInShape}
use Rattle.theory.specs.Shape.Letters.{MonomialKnown}
use Rattle.theory.specs.Shortening.Candidates.{candidate, gain, is_candidate}
use Rattle.terms.specs.declared.types.Term.{Term}
use Rattle.terms.specs.Abstraction.{term_of, Counted}
use Rattle.rules.specs.declared.steps.Step.{Step}
use Rattle.rules.specs.Steps.{step_of}
use Rattle.picks.specs.declared.choosing.Opening.{Opening}
use Rattle.candidates.specs.declared.trying.Next.{Next}
use Rattle.picks.specs.Choosing.{Opened}
use Rattle.marking.specs.Marks.{Covering}

-- ════ one candidate

-- at every form of the kind whose terms the marks cover, with the term's letters in the table, the candidate whose M takes the term away exactly is no
-- admissible step to fewer terms
unfoldable pub Hopeless : (marks : List ℕ) (kind : ℕ) (t : S.Term) (mask rule pick : ℕ) → Type 0
Hopeless marks kind t k r j =
    k < 2 ^ length t.factors → j < 2 ^ rule_letters r
    → (table : List ℕ) (f : S.Form) (c : ℤ) (reached : S.Form)
    → FormInShape f → Covering marks f.terms → f.kind ≡ kind → MonomialKnown table (monomial t) → T (is_candidate t k r j)
    → c *ℤ gain t k r j ≡ neg_ℤ t.coef → step_at table f (candidate t k r j c) ≡ given reached
    → length f.terms ≤ length reached.terms

-- the candidate is this step and no other
unfoldable pub OnlyStep : (t : S.Term) (mask rule pick : ℕ) (s : Step) → Type 0
OnlyStep t k r j s = (c : ℤ) → T (is_candidate t k r j) → c *ℤ gain t k r j ≡ neg_ℤ t.coef → candidate t k r j c ≡ step_of s

-- nothing to hope for, or it is the step found
unfoldable pub Settled : (marks : List ℕ) (kind : ℕ) (t : S.Term) (mask rule pick : ℕ) (found : Option Step) → Type 0
Settled marks kind t k r j None = Hopeless marks kind t k r j
Settled marks kind t k r j (Some s) = Hopeless marks kind t k r j ⊎ OnlyStep t k r j s

-- an opening of some kind of form and some mask
pub record SomeOpened (t : Term) (rule : ℕ) (o : Opening) : Type 0 where
  pub kind : ℕ
  pub mask : ℕ
  pub opened : Opened kind t mask rule o

-- what trying a pick gives
pub record Tried (marks : List ℕ) (t : Term) (rule : ℕ) (o : Opening) (pick : ℕ) (r : Option Step) : Type 0 where
  pub is : (kind mask : ℕ) → Opened kind t mask rule o → Settled marks kind (term_of t) mask rule pick r
  pub counted : IfSome r (λ s. Counted s.m)

-- ════ the next

-- the step found
abbrev pub found_step : (r : Option Next) → Option Step
found_step None = None
found_step (Some n) = Some n.step

-- the place behind it; the end of all places where there is none
abbrev pub place_behind : (end : ℕ) (r : Option Next) → ℕ
place_behind end None = end
place_behind end (Some n) = n.next

-- all picks from one on, before the next
pub record NextPick (marks : List ℕ) (t : Term) (rule : ℕ) (o : Opening) (from : ℕ) (r : Option Next) : Type 0 where
  pub all : (kind mask pick : ℕ) → Opened kind t mask rule o → from ≤ pick → pick < place_behind 64 r
      → Settled marks kind (term_of t) mask rule pick (found_step r)
  pub counted : IfSome r (λ n. Counted n.step.m)
  pub forward : from < place_behind 64 r
  pub inside : place_behind 64 r ≤ 64

-- no candidate of the rule at a form of the kind, where the mask leaves so many letters: the rule is one of vectors and the form is not, or it takes another
-- number
unfoldable pub RuledOut : (kind left : ℕ) (part : List ℕ) (rule : ℕ) → Type 0
RuledOut kind n p r = ((kind ≡ scalar) × (rule_kind r ≡ vector)) ⊎ (n + length (when eqb (rule_kind r) vector then p else []) ≡ rule_letters r → ⊥)

-- the rules and the picks of a mask in one row of places, 64 picks for a rule: all from one on, before the next
pub record NextOfMask (marks : List ℕ) (kind : ℕ) (t : S.Term) (mask from : ℕ) (r : Option Next) : Type 0 where
  pub all : (p : ℕ) → from ≤ p → p < place_behind 320 r → Settled marks kind t mask (p / 64 + 1) (p % 64) (found_step r)
  pub counted : IfSome r (λ n. Counted n.step.m)
  pub forward : from < place_behind 320 r
  pub inside : place_behind 320 r ≤ 320

-- the masks, the rules and the picks in one row of places: 64 picks for a rule, 5 rules for a mask
unfoldable pub mask_of : (place : ℕ) → ℕ
mask_of p = p / 320

unfoldable pub rule_of : (place : ℕ) → ℕ
rule_of p = p / 64 % 5 + 1

unfoldable pub pick_of : (place : ℕ) → ℕ
pick_of p = p % 64

-- all places from one on, before the next; 128 masks have 40960 places
pub record NextPlace (marks : List ℕ) (kind : ℕ) (t : S.Term) (from : ℕ) (r : Option Next) : Type 0 where
  pub all : (p : ℕ) → from ≤ p → p < place_behind 40960 r → Settled marks kind t (mask_of p) (rule_of p) (pick_of p) (found_step r)
  pub counted : IfSome r (λ n. Counted n.step.m)
  pub forward : from < place_behind 40960 r
  pub inside : place_behind 40960 r ≤ 40960
