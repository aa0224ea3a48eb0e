-- A step to fewer terms takes a standing term away. Then M's factors are some of the term's, the rule has exactly the letters of the others,
-- and M's coefficient times what M with the coefficient 1 adds to the term is the term's coefficient negated. Assumes nothing.
use Rattle.std.specs.Prelude.{◌≡◌, refl, ℕ, ◌^◌, ◌<◌, ◌≤◌, T, length, get_or, take, ℤ, pos, neg_ℤ, ◌+ℤ◌, ◌*ℤ◌}
use Rattle.std.proofs.Common.{sym, ◌∙◌, arith}
use Rattle.std.proofs.Math.Path.{ap, subst}
use mathlib.Core.List.{List, [], ◌∷◌, ◌++◌, map, map-append, append-nil}
use Rattle.std.proofs.Math.Dec.{eqb}
use Rattle.std.proofs.Math.IntN as I
use Rattle.algebra.specs.Integers as R
use Rattle.algebra.specs.Integers.{NonZero, neg_unique, unit-square}
use Rattle.specification.specs.Results.{when◌then◌else◌}
use Rattle.specification.specs.Lists.{joined, order, sorted}
use Rattle.specification.specs.Letters.{vector}
use Rattle.specification.specs.Terms.{Term, Form, compare_letters, exchange_sign, factors_sign, tidy, with_coef, times_term, gather}
use Rattle.specification.specs.Rules.{rule_letters, rule_kind, is_rule, Step, step_terms}
use Rattle.specification.proofs.Computing.{computing}
use Rattle.theory.specs.Elements.{All, all_map, all-at, both_all}
use Rattle.theory.specs.Order.{Monomial, monomial, letters-laws, nat-laws}
use Rattle.theory.specs.Reordering.{Reordered, same, further, reordered-back, reordered-behind, reordered-before, reordered-turned, reordered-joined, reordered-map, reordered-sorted, sorted-reordered}
use Rattle.theory.specs.Signs.{strict-sorted}
use Rattle.theory.specs.Gathering.Tidy.{InOrder, in_order-map}
use Rattle.theory.specs.Gathering.Weights.{weigh, weigh-append, scaled}
use Rattle.theory.specs.Gathering.Coefficients.{only, coeff, term_at, coeff-at, shorter-lacks, coeff-found}
use Rattle.theory.specs.Gathering.Gathered.{Gathered, gather_asc, gather-gathered, gathered_known, gather-coefficient, map-tidied}
use Rattle.theory.specs.Shape.Terms.{no_part}
use Rattle.theory.specs.Shape.Bare.{Bare}
use Rattle.theory.proofs.Rules.Table.{positions, relabel, by-rule, rule_terms, step_terms-rule, rule_terms_bare}
use Rattle.theory.proofs.Rules.Steps.{Agreeing, vector_rule, scalar_rule}
use Rattle.theory.specs.Shortening.Masks.{Masked, MaskFor, mask-for}
use Rattle.theory.specs.Shortening.Candidates.{in_rule_order, multiplier, pool}
use Rattle.theory.proofs.Shortening.Symmetries.{base, in_blocks, adds, Same}

-- ════ the letters of a rule's terms

-- the letters of a term
abbrev letters_of : Term → List ℕ
letters_of u = joined u.factors ++ u.part

joined_map : (f : ℕ → ℕ) (fs : List (List ℕ)) → joined (map (map f) fs) ≡ map f (joined fs)
unfolding joined
joined_map f [] = refl
joined_map f (g ∷ fs) = ap (λ (l : List ℕ). map f g ++ l) (joined_map f fs) ∙ sym (map-append f g (joined fs))

-- at the letters 0 to 5 each term has each of the rule's letters once
base-letters : (r : ℕ) → T (is_rule r) → All (λ (u : Term). sorted order (letters_of u) ≡ take (rule_letters r) positions) (base r)
unfolding computing rule_terms in_rule_order
base-letters =
    by-rule (λ (r : ℕ). All (λ (u : Term). sorted order (letters_of u) ≡ take (rule_letters r) positions) (base r))
    (refl, (refl, (refl, (refl, tt)))) (refl, (refl, (refl, (refl, tt)))) (refl, (refl, (refl, (refl, tt)))) (refl, (refl, (refl, (refl, tt))))
    (refl, (refl, (refl, (refl, (refl, (refl, (refl, tt)))))))

letters-at-positions : (w : List ℕ) → length w ≤ 6 → map (λ i. get_or w i 0) (take (length w) positions) ≡ w
letters-at-positions [] h = refl
letters-at-positions (a ∷ []) h = refl
letters-at-positions (a ∷ b ∷ []) h = refl
letters-at-positions (a ∷ b ∷ c ∷ []) h = refl
letters-at-positions (a ∷ b ∷ c ∷ d ∷ []) h = refl
letters-at-positions (a ∷ b ∷ c ∷ d ∷ e ∷ []) h = refl
letters-at-positions (a ∷ b ∷ c ∷ d ∷ e ∷ f ∷ []) h = refl
letters-at-positions (a ∷ b ∷ c ∷ d ∷ e ∷ f ∷ g ∷ w) h = absurd (omega arith)

rule-within : (r : ℕ) → T (is_rule r) → rule_letters r ≤ 6
unfolding rule_letters
rule-within = by-rule (λ (r : ℕ). rule_letters r ≤ 6) (omega arith) (omega arith) (omega arith) (omega arith) (omega arith)

-- and so with any letters
rule_letters_lem : (r : ℕ) → T (is_rule r) → (w : List ℕ) → length w ≡ rule_letters r → All (λ (u : Term). Reordered (letters_of u) w) (rule_terms r (in_rule_order r w))
rule_letters_lem r h w long =
    subst (All (λ (u : Term). Reordered (letters_of u) w)) (sym (in_blocks r h w))
    (all_map (λ (u : Term). sorted order (letters_of u) ≡ take (rule_letters r) positions) (λ (u : Term). Reordered (letters_of u) w) (relabel put) one (base r) (base-letters r h))
  where
    put : ℕ → ℕ
    put i = get_or w i 0

    one : (u : Term) → sorted order (letters_of u) ≡ take (rule_letters r) positions → Reordered (letters_of (relabel put u)) w
    one u e =
        let letters : letters_of (relabel put u) ≡ map put (letters_of u) = ap (λ (l : List ℕ). l ++ map put u.part) (joined_map put u.factors) ∙ sym (map-append put (joined u.factors) u.part) in
        let all : map put (sorted order (letters_of u)) ≡ w = (λ i. map put ((e ∙ ap (λ (n : ℕ). take n positions) (sym long)) i)) ∙ letters-at-positions w (omega (arith, long, rule-within r h)) in
        subst (λ (l : List ℕ). Reordered l w) (sym letters) (subst (Reordered (map put (letters_of u))) all (reordered-map put (reordered-sorted order (letters_of u))))

-- ════ what a step leaves of a coefficient

-- M with the coefficient 1
abbrev pub unit : Term → Term
unit m = with_coef (pos 1) m

-- M's coefficient comes out
times-unit : (n : Monomial) (m : Term) (us : List Term) → coeff n (map tidy (map (times_term m) us)) ≡ m.coef *ℤ coeff n (map tidy (map (times_term (unit m)) us))
unfolding weigh times_term tidy
times-unit n m [] = sym (I.*ℤ-zero m.coef)
times-unit n m (u ∷ us) =
    (λ i. one m.coef u.coef (factors_sign (m.factors ++ u.factors) *ℤ exchange_sign (m.part ++ u.part)) (only n (monomial (tidy (times_term m u)))) i +ℤ times-unit n m us i)
    ∙ sym (R.*ℤ-+ℤ m.coef _ _)
  where
    one : (a b s o : ℤ) → ((a *ℤ b) *ℤ s) *ℤ o ≡ a *ℤ (((pos 1 *ℤ b) *ℤ s) *ℤ o)
    one a b s o = simp (R.one_*ℤ, R.*ℤ_assoc)

-- the step's letters are those of w, in the order of the rule
abbrev pub Spells : Step → List ℕ → Type 0
Spells s w = rule_terms s.rule s.letters ≡ rule_terms s.rule (in_rule_order s.rule w)

-- the terms that a step leads to
abbrev pub after : List Term → Step → List Term
after fs s = gather (fs ++ step_terms s)

module _ (fs : List Term) (standing : Gathered fs) where
  after-coeff : (s : Step) (w : List ℕ) → Spells s w → (n : Monomial) → coeff n (after fs s) ≡ coeff n fs +ℤ s.m.coef *ℤ adds s.rule (unit s.m) n w
  after-coeff s w e n =
      gather-coefficient n (fs ++ step_terms s) ∙ ap (coeff n) (map-append tidy fs (step_terms s)) ∙ weigh-append (only n) (map tidy fs) (map tidy (step_terms s))
      ∙ (λ i. coeff n (map-tidied fs standing.tidied i) +ℤ coeff n (map tidy ((step_terms-rule s ∙ ap (map (times_term s.m)) e) i)))
      ∙ ap (λ (z : ℤ). coeff n fs +ℤ z) (times-unit n s.m (rule_terms s.rule (in_rule_order s.rule w)))

  -- a step with letters that the rule takes for the same, and M's sign turned with it, leads to the same terms
  pub after_same : (s : Step) (w v : List ℕ) → Spells s w → (q : Same s.rule w v)
      → after fs (record { rule = s.rule; letters = in_rule_order s.rule v; m = scaled q.sign s.m }) ≡ after fs s
  after_same s w v e q =
      let s' : Step = record { rule = s.rule; letters = in_rule_order s.rule v; m = scaled q.sign s.m } in
      gathered_known (after fs s') (after fs s) (gather-gathered (fs ++ step_terms s')) (gather-gathered (fs ++ step_terms s))
      (λ n. after-coeff s' v refl n ∙ ap (λ (z : ℤ). coeff n fs +ℤ z) (squared n) ∙ sym (after-coeff s w e n))
    where
      squared : (n : Monomial) → (q.sign *ℤ s.m.coef) *ℤ adds s.rule (unit s.m) n v ≡ s.m.coef *ℤ adds s.rule (unit s.m) n w
      squared n =
          let a : ℤ = adds s.rule (unit s.m) n w in
          ap (λ (z : ℤ). (q.sign *ℤ s.m.coef) *ℤ z) (q.times (unit s.m) n) ∙ R.*ℤ_interchange q.sign s.m.coef q.sign a
          ∙ ap (λ (z : ℤ). z *ℤ (s.m.coef *ℤ a)) (unit-square q.sign q.unit) ∙ R.one_*ℤ (s.m.coef *ℤ a)

  -- ════ a term taken away

  -- the term, and that M's coefficient takes it away exactly
  pub record Saved (s : Step) (w : List ℕ) : Type 0 where
    pub at : ℕ
    pub inside : at < length fs
    pub exact : s.m.coef *ℤ adds s.rule (unit s.m) (monomial (term_at fs at)) w ≡ neg_ℤ (term_at fs at).coef
    pub alive : NonZero (adds s.rule (unit s.m) (monomial (term_at fs at)) w)

  pub saved : (s : Step) (w : List ℕ) → Spells s w → length (after fs s) < length fs → Saved s w
  saved s w e fewer =
      let l = shorter-lacks fs (after fs s) standing.ascending (gather_asc (fs ++ step_terms s)) fewer in
      let t : Term = term_at fs l.at in
      let a : ℤ = adds s.rule (unit s.m) (monomial t) w in
      let gone : s.m.coef *ℤ a ≡ neg_ℤ t.coef =
      neg_unique t.coef (s.m.coef *ℤ a) (sym (after-coeff s w e (monomial t) ∙ ap (λ (z : ℤ). z +ℤ s.m.coef *ℤ a) (coeff-at fs l.at l.inside standing.ascending)) ∙ l.lacks) in
      record {
        at = l.at;
        inside = l.inside;
        exact = gone;
        alive = λ z. all-at (λ (t : Term). NonZero t.coef) fs l.at _ standing.nonzero l.inside
            (sym (I.neg_ℤ-neg_ℤ t.coef) ∙ ap neg_ℤ (sym gone ∙ ap (λ (k : ℤ). s.m.coef *ℤ k) z ∙ I.*ℤ-zero s.m.coef));
      }

-- ════ M's factors, and the letters left

-- a mask over the term's factors takes M's, and what it leaves has the letters w
pub record Divides (t m : Term) (r : ℕ) (w : List ℕ) : Type 0 where
  pub mask : ℕ
  pub small : mask < 2 ^ length t.factors
  pub is_m : (c : ℤ) → multiplier t mask r c ≡ with_coef c m
  pub is_pool : pool t mask r ≡ sorted order w

-- the parts of the term, of M and of a term of the rule
parts-divided : (f : Form) (s : Step) → Agreeing f s → (size : ℕ) (t u : Term) → Bare (rule_kind s.rule) size u → sorted order s.m.part ≡ s.m.part
    → t.part ≡ sorted order (s.m.part ++ u.part)
    → ((when eqb (rule_kind s.rule) vector then [] else t.part) ≡ s.m.part) × Reordered (when eqb (rule_kind s.rule) vector then t.part else []) u.part
parts-divided f s (vector_rule r p k) size t u b o e =
    let q : sorted order u.part ≡ t.part = sym (e ∙ ap (λ (l : List ℕ). sorted order (l ++ u.part)) p) in
    rw r (sym p, subst (λ (l : List ℕ). Reordered l u.part) q (reordered-back (reordered-sorted order u.part)))
parts-divided f s (scalar_rule r k) size t u b o e =
    let none : u.part ≡ [] = no_part u.part (b.kind_is ∙ r) in
    rw r (e ∙ ap (λ (l : List ℕ). sorted order (s.m.part ++ l)) none ∙ ap (sorted order) (append-nil s.m.part) ∙ o, subst (Reordered []) (sym none) same)

joined-sorted : (fs : List (List ℕ)) → Reordered (joined (map (sorted order) fs)) (joined fs)
unfolding joined
joined-sorted [] = same
joined-sorted (g ∷ fs) = further (reordered-before (reordered-back (reordered-sorted order g)) (joined (map (sorted order) fs))) (reordered-behind g (joined-sorted fs))

module _ (f : Form) (s : Step) (agree : Agreeing f s) (in_order : InOrder (monomial s.m)) (w : List ℕ) (t : Term) where
  -- a term of the rule that M takes to the term, with the rule's letters
  divided-by : (u : Term) → Reordered (letters_of u) w × Bare (rule_kind s.rule) (rule_letters s.rule) u → monomial t ≡ monomial (tidy (times_term (unit s.m) u))
      → Divides t s.m s.rule w
  unfolding tidy times_term multiplier pool
  divided-by u b q =
      let own : List (List ℕ) = s.m.factors in
      let other : List (List ℕ) = map (sorted order) u.factors in
      let apart : map (sorted order) (own ++ u.factors) ≡ own ++ other = map-append (sorted order) own u.factors ∙ ap (λ (l : List (List ℕ)). l ++ other) (in_order-map own in_order.each) in
      let k : MaskFor letters-laws (sorted compare_letters (map (sorted order) (own ++ u.factors))) own other =
      mask-for letters-laws (map (sorted order) (own ++ u.factors)) other own (subst (λ (l : List (List ℕ)). Reordered l (other ++ own)) (sym apart) (reordered-turned own other)) in_order.order in
      let by : Masked t.factors own k.others = subst (λ (l : List (List ℕ)). Masked l own k.others) (sym (ap (λ (n : Monomial). n.1) q)) k.by in
      let p = parts-divided f s agree (rule_letters s.rule) t u b.1 (strict-sorted s.m.part in_order.part) (ap (λ (n : Monomial). n.0) q) in
      record {
        mask = by.mask;
        small = by.small;
        is_m = λ c i. record { coef = c; factors = by.taking i; part = p.0 i };
        is_pool = ap (λ (l : List (List ℕ)). sorted order (joined l ++ (when eqb (rule_kind s.rule) vector then t.part else []))) by.leaving
            ∙ sorted-reordered nat-laws (further (reordered-before (further (reordered-joined k.order) (joined-sorted u.factors)) _) (further (reordered-behind (joined u.factors) p.1) b.0));
      }

  -- where the rule adds something to the term's monomial, there is one
  pub divided : T (is_rule s.rule) → length w ≡ rule_letters s.rule → NonZero (adds s.rule (unit s.m) (monomial t) w) → Divides t s.m s.rule w
  divided rule long alive =
      let Fit : Term → Type 0 = λ u. Reordered (letters_of u) w × Bare (rule_kind s.rule) (rule_letters s.rule) u in
      let Product : Term → Type 0 = λ v. (u : Term) × Fit u × (v ≡ times_term (unit s.m) u) in
      let us : List Term = rule_terms s.rule (in_rule_order s.rule w) in
      let found = coeff-found (monomial t) Product tidy (map (times_term (unit s.m)) us)
      (all_map Fit Product (times_term (unit s.m)) (λ u b. (u, b, refl)) us
      (both_all (λ (u : Term). Reordered (letters_of u) w) (Bare (rule_kind s.rule) (rule_letters s.rule)) us (rule_letters_lem s.rule rule w long) (rule_terms_bare s.rule rule (in_rule_order s.rule w)))) alive in
      divided-by found.1.0 found.1.1 (found.2 ∙ ap (λ (v : Term). monomial (tidy v)) found.1.2)
