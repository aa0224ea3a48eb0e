-- The candidate by a pick: none, or the one step whose M takes the term away exactly. Assumes nothing.
use mathlib.Core.Path.{◌≡◌, refl, sym, ap, subst, ◌∙◌}
use mathlib.Core.Bool.{Bool, true, false, ◌&&◌, true≢false}
use mathlib.Core.Logic.{◌⊎◌, inl, inr, ⊎_elim}
use mathlib.Core.List.{List, [], ◌++◌}
use Prim.Native.Nat.{ℕ, ◌+◌, ◌*◌, ◌/◌, ◌%◌, ◌^◌, ◌<◌, ◌≤◌}
use native.Mathlib.Nat as N
use native.Mathlib.Omega.{arith}
use borrow.Author.Tests.{ltb-true, ltb-false, eq-eqb}
use lib.Dec.{T, eqb, leb, ltb, leb→le, le→leb}
use lib.IntN.{ℤ, pos, nat_abs, neg_ℤ, ◌*ℤ◌}
use lib.IntN as I
use lib.ListN.{length, length-map, get_or, take}
use lib.Seq.{length-take-le, get_or-take}
use Rattle.algebra.specs.Integers.{NonZero, zero_or_not, *ℤ_cancel, nat_abs-neg, nat_abs_zero}
use Rattle.integers.specs.Arithmetic.{Divided}
use Rattle.specification.specs.Results.{when◌then◌else◌}
use Rattle.specification.specs.Lists.{ascend, joined}
use Rattle.specification.specs.Letters.{vector}
use Rattle.specification.specs.Terms.{with_coef, gather}
use Rattle.specification.specs.Terms as S
use Rattle.specification.specs.Rules.{is_rule, rule_letters, rule_kind, step_terms}
use Rattle.specification.specs.Rules as R
use Rattle.theory.specs.Tests.{is_true, and_both}
use Rattle.theory.specs.Order.{nat-laws, monomial}
use Rattle.theory.specs.Sorting as O
use Rattle.theory.specs.Shape.Terms.{term-opens}
use Rattle.theory.specs.Shape.Forms.{within_given}
use Rattle.theory.proofs.Rules.Steps.{step_taken, step-admitted}
use Rattle.theory.specs.Gathering.Coefficients.{coeff}
use Rattle.theory.specs.Shortening.Masks.{taken, left_over}
use Rattle.theory.specs.Shortening.Candidates.{block_size, in_rule_order, block_is_first, multiplier, pool, candidate, gain, is_candidate}
use Rattle.terms.specs.declared.types.Term.{Term}
use Rattle.terms.specs.Abstraction.{term_of, Counted}
use Rattle.terms.specs.Valid.{TermValid}
use Rattle.rules.specs.declared.steps.Step.{Step}
use Rattle.rules.specs.Steps.{step_of, StepValid, StepFits}
use Rattle.rules.proofs.Taking.{few-letters}
use Rattle.picks.specs.declared.choosing.Opening.{Opening}
use Rattle.std.specs.Prelude.{Option, Some, None, is_some}
use Rattle.candidates.specs.declared.trying.Next.{Next}
use Rattle.picks.specs.Choosing.{bit_digits, Shut, Opened, OpenedBy, picks, PickedBy}
use Rattle.marking.specs.Marks.{size_mark, Sized}
use Rattle.marks.specs.Steps.{NotShorter}
use Rattle.candidates.specs.Trying.{Hopeless, OnlyStep, Settled, SomeOpened, Tried, NextPick, NextOfMask, mask_of, rule_of, pick_of, NextPlace}
use Rattle.picks.proofs.Masks.{taken_counted, left_first}
use Rattle.picks.proofs.Openings.{candidate-opens}

neg-zero : (z : ℤ) → neg_ℤ z ≡ pos 0 → z ≡ pos 0
neg-zero z e = nat_abs_zero z (sym (nat_abs-neg z) ∙ ap nat_abs e)

some-not_none : (q : ℤ) → ◌≡◌ {A = Option ℤ} (Some q) None → ⊥
some-not_none q e = true≢false (ap is_some e)

-- a factor of a number that is not 0
factor-alive : (c g z : ℤ) → NonZero z → c *ℤ g ≡ neg_ℤ z → NonZero c
factor-alive c g z h e q = h (neg-zero z (sym e ∙ ap (λ (y : ℤ). y *ℤ g) q ∙ I.zero-*ℤ g))

-- ════ the step with the coefficient 1

-- it is in shape
pub unit-step-valid : (t : Term) (rule : ℕ) (o : Opening) (letters : List ℕ) → T (is_rule rule) → SomeOpened t rule o → StepValid (record {
  rule =
      rule;
  letters = letters;
  m = o.m;
})
unit-step-valid t rule o letters r s = record { rule = r; m = record { counted = s.opened.m.counted; in_shape = s.opened.passes.in_shape } }

-- and fits
pub unit-step_fits : (t : Term) (rule : ℕ) (o : Opening) (letters : List ℕ) → SomeOpened t rule o → StepFits (record {
  rule = rule;
  letters = letters;
  m =
      o.m;
})
unfolding step_of
unit-step_fits t rule o letters s = record { kind = s.kind; passes = s.opened.passes.fits (take (rule_letters rule) letters) }

-- a candidate is a pick
candidate-picks : (a b c d e : Bool) → T (a && b && c && d && e) → T (b && c && d && e)
candidate-picks true b c d e h = h
candidate-picks false b c d e h = absurd h

-- no pick, no candidate
pub tried_none : (marks : List ℕ) (t : Term) (rule : ℕ) (o : Opening) (j : ℕ) → PickedBy (take (rule_letters rule) o.pool) rule j None
    → Tried marks t rule o j None
unfolding Settled Hopeless is_candidate picks
tried_none marks t rule o j w = record {
  is = λ kind k opened hk hj table f c g shape cover q known can ex h. absurd (subst T (sym (there kind k opened can)) tt);
  counted = tt;
}
  where
    there : (kind k : ℕ) → Opened kind t k rule o → T (is_candidate (term_of t) k rule j) → false ≡ true
    there kind k opened h =
        let l : List ℕ = pool (term_of t) k rule in
        w.is ∙ ap (λ (v : List ℕ). picks rule v j) opened.letters ∙ is_true _ (candidate-picks (eqb (length l) (rule_letters rule))
        (eqb (length (taken j l)) (block_size rule)) (ascend ltb (taken j l)) (ascend ltb (left_over j l)) (block_is_first rule (taken j l) (left_over j l)) h)

module _ (marks : List ℕ) (t : Term) (rule : ℕ) (o : Opening) (j : ℕ) (ls : List ℕ) (w : PickedBy (take (rule_letters rule) o.pool) rule j (Some ls)) where
  module _ (kind k : ℕ) (opened : Opened kind t k rule o) where
    letters-are : in_rule_order rule (taken j (pool (term_of t) k rule) ++ left_over j (pool (term_of t) k rule)) ≡ take (rule_letters rule)
        ls
    letters-are = ap (λ (v : List ℕ). in_rule_order rule (taken j v ++ left_over j v)) (sym opened.letters) ∙ sym w.letters

    -- with any coefficient
    step_is : (c : ℤ) → candidate (term_of t) k rule j c ≡ step_of (record {
      rule = rule;
      letters = ls;
      m = record {
        coef =
            c;
        factors = o.m.factors;
        factor_count = o.m.factor_count;
        part = o.m.part;
      };
    })
    unfolding candidate step_of term_of multiplier
    step_is c = λ i. record { rule = rule; letters = letters-are i; m = with_coef c (sym opened.m.is i) }

    gain_is : (g : ℤ) → g ≡ coeff (monomial (term_of t)) (gather (step_terms (step_of (record {
      rule = rule;
      letters = ls;
      m =
          o.m;
    })))) → g ≡ gain (term_of t) k rule j
    unfolding gain candidate step_of
    gain_is g h =
        h ∙ (λ i. coeff (monomial (term_of t)) (gather (step_terms (record { rule = rule; letters = sym letters-are i; m = opened.m.is i }))))

  -- surely no fewer terms, if M has a coefficient of the size
  long_hopeless : (size kind k : ℕ) (s : Step) → s ≡ record { rule = rule; letters = ls; m = o.m } → Opened kind t k rule o → TermValid t
      → NotShorter marks size (step_of s)
      → ((c : ℤ) → c *ℤ gain (term_of t) k rule j ≡ neg_ℤ t.coef → Sized size c) → Hopeless marks kind (term_of t) k rule j
  unfolding Hopeless NotShorter step_of term_of
  long_hopeless size kind k s es opened valid long sized hk hj table f c g shape cover q known can ex h =
      let a = step-admitted table f (candidate (term_of t) k rule j c) g h in
      let reached = within_given f.kind (gather (f.terms ++ step_terms (candidate (term_of t) k rule j c))) g (step_taken f (candidate (term_of t) k rule j c)
      g a.takes).gathers in
      let alive : NonZero c = factor-alive c (gain (term_of t) k rule j) t.coef (term-opens (term_of t) valid.in_shape).nonzero ex in
      let is : candidate (term_of t) k rule j c ≡ record { rule = rule; letters = take (rule_letters rule) ls; m = with_coef c (term_of o.m) } =
      step_is kind k opened c in
      subst (λ (l : List S.Term). length f.terms ≤ length l) (sym (ap (λ (g : S.Form). g.terms) reached.is))
      (subst (λ (u : R.Step). length f.terms ≤ length (gather (f.terms ++ step_terms u))) (sym is)
      (subst (λ (s : Step). length f.terms ≤ length (gather (f.terms ++ step_terms (record {
        rule = s.rule;
        letters = take (rule_letters s.rule)
            s.letters;
        m = with_coef c (term_of s.m);
      })))) es (long c alive (sized c ex) f shape cover)))

  pub tried-long : (s : Step) → s ≡ record { rule = rule; letters = ls; m = o.m } → TermValid t → NotShorter marks 0 (step_of s) → Tried marks t rule o j None
  unfolding Settled Sized
  tried-long s es valid long = record { is = λ kind k opened. long_hopeless 0 kind k s es opened valid long (λ c ex. inl refl); counted = tt }

  -- the quotient decides
  module _ (g c : ℤ) (valid : TermValid t) (eg : g ≡ coeff (monomial (term_of t))
      (gather (step_terms (step_of (record { rule = rule; letters = ls; m = o.m })))))
      (ec : c ≡ neg_ℤ t.coef) where
    alive : NonZero t.coef
    unfolding term_of
    alive = (term-opens (term_of t) valid.in_shape).nonzero

    -- what M takes away exactly, by the gain
    exact_is : (kind k : ℕ) → Opened kind t k rule o → (n : ℤ) → n *ℤ gain (term_of t) k rule j ≡ neg_ℤ t.coef → n *ℤ g ≡ c
    exact_is kind k opened n e = ap (λ (z : ℤ). n *ℤ z) (gain_is kind k opened g eg) ∙ e ∙ sym ec

    -- no quotient
    none : Divided c g None → (kind k : ℕ) → Opened kind t k rule o → (n : ℤ) → n *ℤ gain (term_of t) k rule j ≡ neg_ℤ t.coef → ⊥
    none d kind k opened n e =
        ⊎_elim (λ z. alive (neg-zero t.coef (sym ec ∙ sym (exact_is kind k opened n e) ∙ ap (λ (y : ℤ). n *ℤ y) z ∙ I.*ℤ-zero n)))
        (λ z. true≢false (sym (d.found n (exact_is kind k opened n e) z))) (zero_or_not g)

    -- one quotient
    one : (q : ℤ) → Divided c g (Some q) → (kind k : ℕ) → Opened kind t k rule o → (n : ℤ) → n *ℤ gain (term_of t) k rule j ≡ neg_ℤ t.coef → n ≡ q
    one q d kind k opened n e =
        *ℤ_cancel g n q (λ z. some-not_none q (d.by_zero z))
        (I.*ℤ_comm g n ∙ exact_is kind k opened n e ∙ sym d.product ∙ I.*ℤ_comm q g)

    -- there is none
    pub tried_inexact : Divided c g None → Tried marks t rule o j None
    unfolding Settled Hopeless term_of
    tried_inexact d = record { is = λ kind k opened hk hj table f n h shape cover r known can e s. absurd (none d kind k opened n e); counted = tt }

    -- M's coefficient has the size of the quotient, and with it the step surely leads to no fewer terms
    pub tried-sized : (q : ℤ) → Divided c g (Some q) → (s : Step) (size : ℕ) → s ≡ record { rule = rule; letters = ls; m = o.m } → size ≡ size_mark q
        → NotShorter marks size (step_of s) → Tried marks t rule o j None
    unfolding Settled Sized
    tried-sized q d s size es e long = record {
      is = λ kind k opened. long_hopeless size kind k s es opened valid long (λ n ex. inr (e ∙ ap size_mark (sym (one q d kind k opened n ex))));
      counted = tt;
    }

    pub tried-by : (q : ℤ) → Divided c g (Some q) → (m : Term) → Counted o.m → m ≡ record {
      coef = q;
      factors = o.m.factors;
      factor_count = o.m.factor_count;
      part =
          o.m.part;
    }
        → Tried marks t rule o j (Some (record { rule = rule; letters = ls; m = m }))
    unfolding Settled OnlyStep term_of
    tried-by q d m counted em = record {
      is = λ kind k opened. inr (λ n can e. ap (candidate (term_of t) k rule j) (one q d kind k opened n e) ∙ step_is kind k opened q
          ∙ ap (λ (u : Term). step_of (record { rule = rule; letters = ls; m = u })) (sym em));
      counted = subst Counted (sym em) (record { few = counted.few; small = counted.small });
    }

-- ════ masks that take no block

pub block-few : (r : ℕ) → block_size r ≤ 4
unfolding block_size
block-few r = go (eqb r 2) (eqb r 3)
  where
    go : (a b : Bool) → (when a then 4 else when b then 4 else 3) ≤ 4
    go true b = omega arith
    go false true = omega arith
    go false false = omega arith

module _ (t : Term) (rule : ℕ) (o : Opening) (j kind k : ℕ) (opened : Opened kind t k rule o) (inside : j < 2 ^ rule_letters rule)
    (can : T (is_candidate (term_of t) k rule j)) where
  -- another number of letters than the block has
  wrong_count : (digits : List ℕ) (block : ℕ) → digits ≡ bit_digits 0 64 → block ≡ block_size rule → (get_or digits j 0 ≡ 48 + block → ⊥) → ⊥
  wrong_count digits block e eb h =
      let l : List ℕ = pool (term_of t) k rule in
      let w = candidate-opens (term_of t) k rule j can in
      h (taken_counted digits j l e (omega (arith, w.0, few-letters rule)) (subst (λ (n : ℕ). j < 2 ^ n) (sym w.0) inside) ∙ ap (λ (n : ℕ). 48 + n)
      (w.1 ∙ sym eb))

  -- in rule 5 the first letter left
  first_left : rule ≡ 5 → get_or o.pool 0 0 < get_or o.pool 1 0 → j % 2 ≡ 0 → ⊥
  unfolding block_is_first pool block_size rule_letters
  first_left e less even =
      let l : List ℕ = pool (term_of t) k rule in
      let w = candidate-opens (term_of t) k rule j can in
      let five : rule_letters rule ≡ 6 = rw e in
      let three : length (taken j l) ≡ 3 = w.1 ∙ rw e in
      let same : (i : ℕ) → i < 6 → get_or o.pool i 0 ≡ get_or l i 0 = λ i h. sym (get_or-take (rule_letters rule) o.pool i 0 (omega (arith, five)))
      ∙ ap (λ (l : List ℕ). get_or l i 0) opened.letters in
      let more : get_or (left_over j l) 0 0 < get_or (taken j l) 0 0 =
      left_first l j (O.asc_sort nat-laws (joined (left_over k (term_of t).factors) ++ (when eqb (rule_kind rule) vector then (term_of t).part else []))) even (omega
      (arith, less, same 0 (omega arith), same 1 (omega arith))) (omega (arith, three)) in
      let first : T (leb (get_or (taken j l) 0 0) (get_or (left_over j l) 0 0)) = rw (eq-eqb rule 5 e) at w.2 in
      N.lt_irrefl (get_or (left_over j l) 0 0) (omega (arith, more, leb→le (get_or (taken j l) 0 0) (get_or (left_over j l) 0 0) first))

  pub takes-no_block : (digits : List ℕ) (block : ℕ) (b : Bool) → digits ≡ bit_digits 0 64 → block ≡ block_size rule → (b ≡ false → (rule ≡ 5)
      × (get_or o.pool 0 0 < get_or o.pool 1 0))
      → (get_or digits j 0 ≡ 48 + block → ⊥) ⊎ ((b ≡ false) × (j % 2 ≡ 0)) → ⊥
  takes-no_block digits block b e eb five (inl h) = wrong_count digits block e eb h
  takes-no_block digits block b e eb five (inr h) = let w = five h.0 in first_left w.0 w.1 h.1

-- ════ one pick after the other

-- nothing to hope for is settled whatever is found
pub hopeless-settled : (marks : List ℕ) (kind : ℕ) (t : S.Term) (k rule pick : ℕ) (r : Option Step) → Hopeless marks kind t k rule pick
    → Settled marks kind t k rule pick r
unfolding Settled
hopeless-settled marks kind t k rule pick None h = h
hopeless-settled marks kind t k rule pick (Some s) h = inl h

-- there is nothing to hope for from those passed
unfoldable pub PicksPassed : (marks : List ℕ) (t : Term) (rule : ℕ) (o : Opening) (from j : ℕ) → Type 0
PicksPassed marks t rule o from j = (kind k pick : ℕ) → Opened kind t k rule o → from ≤ pick → pick < j → Hopeless marks kind (term_of t) k rule pick

module _ (marks : List ℕ) (t : Term) (rule : ℕ) (o : Opening) (from : ℕ) where
  pub picks_none : PicksPassed marks t rule o from from
  unfolding PicksPassed
  picks_none kind k pick op a b = absurd (N.lt_irrefl from (omega arith))

  module _ (j : ℕ) (w : PicksPassed marks t rule o from j) (here : from ≤ j) where
    -- no candidate
    pub picks-skipped : ((kind k : ℕ) → Opened kind t k rule o → j < 2 ^ rule_letters rule → T (is_candidate (term_of t) k rule j) → ⊥)
        → PicksPassed marks t rule o from (j + 1)
    unfolding PicksPassed Hopeless
    picks-skipped h kind k pick op a b = go (ltb pick j) refl
      where
        go : (x : Bool) → ltb pick j ≡ x → Hopeless marks kind (term_of t) k rule pick
        go true q = w kind k pick op a (ltb-true pick j q)
        go false q = λ hk hj table f c g shape cover r known can ex s.
            let same : pick ≡ j = omega (arith, ltb-false pick j q) in
            absurd (h kind k op (subst (λ (n : ℕ). n < 2 ^ rule_letters rule) same hj) (subst (λ (n : ℕ). T (is_candidate (term_of t) k rule n)) same can))

    -- all up to this one
    up_to : (r : Option Step) → Tried marks t rule o j r → (kind k pick : ℕ) → Opened kind t k rule o → from ≤ pick → pick < j + 1
        → Settled marks kind (term_of t) k rule pick r
    unfolding PicksPassed
    up_to r v kind k pick op a b = go (ltb pick j) refl
      where
        go : (x : Bool) → ltb pick j ≡ x → Settled marks kind (term_of t) k rule pick r
        go true e = hopeless-settled _ _ _ _ _ _ r (w kind k pick op a (ltb-true pick j e))
        go false e = let same : j ≡ pick = omega (arith, ltb-false pick j e) in subst (λ (i : ℕ). Settled marks kind (term_of t) k rule i r) same (v.is kind k op)

    pub picks_more : Tried marks t rule o j None → PicksPassed marks t rule o from (j + 1)
    unfolding PicksPassed Settled
    picks_more v = up_to None v

    -- one is worth a trial
    pub picks-found : (s : Step) → Tried marks t rule o j (Some s) → j < 64 → NextPick marks t rule o from (Some (record { next = j + 1; step = s }))
    picks-found s v h = record { all = up_to (Some s) v; counted = v.counted; forward = omega arith; inside = omega arith }

    -- none is
    pub picks-end : 2 ^ rule_letters rule ≤ j → from < 64 → NextPick marks t rule o from None
    unfolding PicksPassed Settled Hopeless
    picks-end e h = record { all = λ kind k pick op a b. go kind k pick op a (ltb pick j) refl; counted = tt; forward = h; inside = omega arith }
      where
        go : (kind k pick : ℕ) → Opened kind t k rule o → from ≤ pick → (x : Bool) → ltb pick j ≡ x → Hopeless marks kind (term_of t) k rule pick
        go kind k pick op a true q = w kind k pick op a (ltb-true pick j q)
        go kind k pick op a false q = λ hk hj. absurd (N.lt_irrefl pick (omega (arith, ltb-false pick j q, hj, e)))

-- ════ the places of a mask one after the other

-- there is nothing to hope for from those passed
unfoldable pub RulesPassed : (marks : List ℕ) (kind : ℕ) (t : S.Term) (mask from at : ℕ) → Type 0
RulesPassed marks kind t k from at = (p : ℕ) → from ≤ p → p < at → Hopeless marks kind t k (p / 64 + 1) (p % 64)

-- a place has a rule
pub place-rule : (q : ℕ) → q < 5 → T (is_rule (q + 1))
unfolding is_rule
place-rule q h = let k : q + 1 ≤ 5 = omega arith in let g : 1 ≤ q + 1 = omega arith in and_both (leb 1 (q + 1)) (leb (q + 1) 5) (le→leb 1 (q + 1) g)
    (le→leb (q + 1) 5 k)

pub rules_none : (marks : List ℕ) (kind : ℕ) (t : S.Term) (k from : ℕ) → RulesPassed marks kind t k from (from / 64 * 64 + from % 64)
unfolding RulesPassed
rules_none marks kind t k from p a b = absurd (N.lt_irrefl from (omega arith))

-- what holds of the places before one and of the picks of its opening holds of all up to the next
by-opening : (P : (rule pick : ℕ) → Type 0) (from q at next : ℕ) → next ≤ 64
    → ((p : ℕ) → from ≤ p → p < q * 64 + at → P (p / 64 + 1) (p % 64)) → ((pick : ℕ) → at ≤ pick → pick < next → P (q + 1) pick)
    → (p : ℕ) → from ≤ p → p < q * 64 + next → P (p / 64 + 1) (p % 64)
by-opening P from q at next h before f p a b = go (ltb p (q * 64 + at)) refl
  where
    go : (x : Bool) → ltb p (q * 64 + at) ≡ x → P (p / 64 + 1) (p % 64)
    go true e = before p a (ltb-true p (q * 64 + at) e)
    go false e =
        let behind : q * 64 + at ≤ p = ltb-false p (q * 64 + at) e in
        let same : q ≡ p / 64 = omega arith in
        let here : at ≤ p % 64 = omega arith in
        let inside : p % 64 < next = omega arith in
        subst (λ (r : ℕ). P (r + 1) (p % 64)) same (f (p % 64) here inside)

module _ (marks : List ℕ) (kind : ℕ) (t : Term) (k from q at : ℕ) (w : RulesPassed marks kind (term_of t) k from (q * 64 + at)) where
  -- nothing to hope for by the rule
  pub rules-skipped : ((pick : ℕ) → Hopeless marks kind (term_of t) k (q + 1) pick) → RulesPassed marks kind (term_of t) k from ((q + 1) * 64 + 0)
  unfolding RulesPassed
  rules-skipped h p a b = by-opening (Hopeless marks kind (term_of t) k) from q at 64 (omega arith) w (λ pick a i. h pick) p a (omega arith)

  -- the mask and the rule leave nothing
  pub rules-shut : OpenedBy kind t k (q + 1) None → RulesPassed marks kind (term_of t) k from ((q + 1) * 64 + 0)
  unfolding OpenedBy Shut Hopeless
  rules-shut shut = rules-skipped (λ pick hk hj table f c g shape cover x known can ex h. absurd (shut table f pick c g x can h))

  module _ (o : Opening) (opened : OpenedBy kind t k (q + 1) (Some o)) where
    pub opened-there : Opened kind t k (q + 1) o
    unfolding OpenedBy
    opened-there = opened

    -- no pick is worth a trial
    pub rules-passed : NextPick marks t (q + 1) o at None → RulesPassed marks kind (term_of t) k from ((q + 1) * 64 + 0)
    unfolding RulesPassed Settled
    rules-passed n p a b =
        by-opening (Hopeless marks kind (term_of t) k) from q at 64 (omega arith) w (λ pick a i. n.all kind k pick opened-there a i) p a (omega arith)

    -- one is
    pub rules-found : (m : Next) → NextPick marks t (q + 1) o at (Some m) → from ≤ q * 64 + at → q < 5
        → NextOfMask marks kind (term_of t) k from (Some (record { next = q * 64 + m.next; step = m.step }))
    unfolding RulesPassed
    rules-found m n h i = record {
      all = by-opening (λ u j. Settled marks kind (term_of t) k u j (Some m.step)) from q at m.next n.inside
          (λ p a i. hopeless-settled _ _ _ _ _ _ (Some m.step) (w p a i)) (λ pick a i. n.all kind k pick opened-there a i);
      counted = n.counted;
      forward = omega (arith, n.forward);
      inside = omega (arith, n.inside);
    }

-- all places of the mask passed
pub rules-end : (marks : List ℕ) (kind : ℕ) (t : S.Term) (k from q at : ℕ) → RulesPassed marks kind t k from (q * 64 + at) → 5 ≤ q → from < 320
    → NextOfMask marks kind t k from None
unfolding RulesPassed Settled
rules-end marks kind t k from q at w h g = record { all = λ p a b. w p a (omega arith); counted = tt; forward = g; inside = omega arith }

-- ════ one mask after the other

-- there is nothing to hope for from the places passed
unfoldable pub PlacesPassed : (marks : List ℕ) (kind : ℕ) (t : S.Term) (from at : ℕ) → Type 0
PlacesPassed marks kind t from at = (p : ℕ) → from ≤ p → p < at → Hopeless marks kind t (mask_of p) (rule_of p) (pick_of p)

pub places_none : (marks : List ℕ) (kind : ℕ) (t : S.Term) (from : ℕ) → PlacesPassed marks kind t from (from / 320 * 320 + from % 320)
unfolding PlacesPassed
places_none marks kind t from p a b = absurd (N.lt_irrefl from (omega arith))

-- what holds of the places before one and of those of its mask holds of all up to the next
by_mask : (P : (mask rule pick : ℕ) → Type 0) (from k at next : ℕ) → next ≤ 320
    → ((p : ℕ) → from ≤ p → p < k * 320 + at → P (mask_of p) (rule_of p) (pick_of p)) → ((p : ℕ) → at ≤ p → p < next → P k (p / 64 + 1) (p % 64))
    → (p : ℕ) → from ≤ p → p < k * 320 + next → P (mask_of p) (rule_of p) (pick_of p)
unfolding mask_of rule_of pick_of
by_mask P from k at next h before f p a b = go (ltb p (k * 320 + at)) refl
  where
    go : (x : Bool) → ltb p (k * 320 + at) ≡ x → P (p / 320) (p / 64 % 5 + 1) (p % 64)
    go true e = before p a (ltb-true p (k * 320 + at) e)
    go false e =
        let behind : k * 320 + at ≤ p = ltb-false p (k * 320 + at) e in
        let mask : k ≡ p / 320 = omega arith in
        let rule : p % 320 / 64 ≡ p / 64 % 5 = omega arith in
        let pick : p % 320 % 64 ≡ p % 64 = omega arith in
        let here : at ≤ p % 320 = omega arith in
        let inside : p % 320 < next = omega arith in
        subst (λ (m : ℕ). P m (p / 64 % 5 + 1) (p % 64)) mask
        (subst (λ (r : ℕ). P k (r + 1) (p % 64)) rule (subst (λ (j : ℕ). P k (p % 320 / 64 + 1) j) pick (f (p % 320) here inside)))

module _ (marks : List ℕ) (kind : ℕ) (t : S.Term) (from k at : ℕ) (w : PlacesPassed marks kind t from (k * 320 + at)) where
  -- nothing to hope for by the mask
  pub mask-skipped : ((p : ℕ) → p < 320 → Hopeless marks kind t k (p / 64 + 1) (p % 64)) → PlacesPassed marks kind t from ((k + 1) * 320 + 0)
  unfolding PlacesPassed
  mask-skipped h p a b = by_mask (Hopeless marks kind t) from k at 320 (omega arith) w (λ p a b. h p b) p a (omega arith)

  -- nothing of it is worth a trial
  pub mask-passed : NextOfMask marks kind t k at None → PlacesPassed marks kind t from ((k + 1) * 320 + 0)
  unfolding PlacesPassed Settled
  mask-passed n p a b = by_mask (Hopeless marks kind t) from k at 320 (omega arith) w (λ p a i. n.all p a i) p a (omega arith)

  -- something is
  pub mask-found : (m : Next) → NextOfMask marks kind t k at (Some m) → from ≤ k * 320 + at → k < 128
      → NextPlace marks kind t from (Some (record { next = k * 320 + m.next; step = m.step }))
  unfolding PlacesPassed
  mask-found m n h g = record {
    all = by_mask (λ u r j. Settled marks kind t u r j (Some m.step)) from k at m.next n.inside (λ p a i. hopeless-settled _ _ _ _ _ _ (Some m.step) (w p a i)) (λ p a i. n.all p a i);
    counted = n.counted;
    forward = omega (arith, n.forward);
    inside = omega (arith, n.inside);
  }

-- all places passed
pub places-end : (marks : List ℕ) (kind : ℕ) (t : Term) (from k at end : ℕ) → PlacesPassed marks kind (term_of t) from (k * 320 + at)
    → length (term_of t).factors ≡ t.factor_count → end ≡ 2 ^ t.factor_count → end ≤ k → from < 40960 → NextPlace marks kind (term_of t) from None
unfolding PlacesPassed Settled Hopeless mask_of
places-end marks kind t from k at end w long e h g = record {
  all = λ p a b. go p a (ltb p (k * 320 + at)) refl;
  counted = tt;
  forward = g;
  inside = omega arith;
}
  where
    go : (p : ℕ) → from ≤ p → (x : Bool) → ltb p (k * 320 + at) ≡ x → Hopeless marks kind (term_of t) (p / 320) (rule_of p) (pick_of p)
    go p a true q = w p a (ltb-true p (k * 320 + at) q)
    go p a false q = λ hk hj. absurd (N.lt_irrefl p (omega (arith, ltb-false p (k * 320 + at) q, subst (λ (n : ℕ). p / 320 < 2 ^ n) long hk, e, h)))

-- a term has as many factors as it counts
pub factors-long : (t : Term) → t.factor_count ≤ length t.factors → length (term_of t).factors ≡ t.factor_count
unfolding term_of
factors-long t h = length-map (take t.factor_count t.factors) _ ∙ length-take-le t.factor_count t.factors h
