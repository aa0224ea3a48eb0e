-- The candidates are enough: where none is an admissible step to fewer terms, no step of any rule, letters and term M is (P8). Assumes nothing.
use Rattle.std.specs.Prelude.{◌≡◌, refl, Bool, ◌&&◌, leb, length, ℤ, pos, nat_abs, ◌*ℤ◌}
use Rattle.std.proofs.Common.{sym, ◌∙◌, arith}
use Rattle.std.proofs.Math.Path.{ap, subst}
use mathlib.Core.List.{List, ◌++◌, map}
use Prim.Native.Nat.{ℕ, ◌+◌, ◌*◌, ◌^◌, ◌<◌}
use Rattle.std.proofs.Math.Nat as N
use Rattle.std.proofs.Math.Dec.{T, eqb, ltb}
use Rattle.algebra.specs.Integers as R
use Rattle.algebra.specs.Integers.{unit-nonzero}
use Rattle.specification.specs.Results.{given, ◌>>◌, require}
use Rattle.specification.specs.Lists.{ascend, order}
use Rattle.specification.specs.Letters.{vector, test_letters}
use Rattle.specification.specs.Terms.{Term, Form, term_kind, tidy, with_coef, coef_within, vector_letters, within, term_in_shape, gather}
use Rattle.specification.specs.Records.{test_term}
use Rattle.specification.specs.Rules.{rule1, rule2, rule3, rule4, bracket, rule5, sides, rule_letters, is_rule, Step, step_kinds_fit, step_terms, take_step, test_step_letters, step_in_shape, step_at}
use Rattle.specification.specs.Shortening.{Shortest}
use Rattle.theory.specs.Tests.{and_both, eqb_T, passes, tested}
use Rattle.theory.specs.Elements.{All, all-at}
use Rattle.theory.specs.Order.{monomial, nat-laws}
use Rattle.theory.specs.Sorting as O
use Rattle.theory.specs.Reordering.{reordered-length, reordered_all, reordered-turned}
use Rattle.theory.specs.Signs.{strict-ascend}
use Rattle.theory.specs.Gathering.Weights.{scaled}
use Rattle.theory.specs.Gathering.Coefficients.{coeff, term_at}
use Rattle.theory.specs.Gathering.Gathered.{gather-coefficient}
use Rattle.theory.specs.Shape.Terms.{TermShape, term-opens, term-closes}
use Rattle.theory.specs.Shape.Forms.{FormInShape, form-gathered, within_given}
use Rattle.theory.specs.Shape.Letters.{Known, letters_known, known_letters}
use Rattle.theory.proofs.Rules.Table.{by-rule, rule_terms, step_terms-rule}
use Rattle.theory.proofs.Rules.Steps.{step-closes, step_taken, Admitted, step-admitted}
use Rattle.theory.specs.Shortening.Masks.{Masked, mask-between}
use Rattle.theory.specs.Shortening.Candidates.{block_size, in_rule_order, block_is_first, pool, candidate, gain, is_candidate, NoCandidate}
use Rattle.theory.proofs.Shortening.Symmetries.{adds, Same, InBlocks, into-blocks, block-strict, others-strict}
use Rattle.theory.proofs.Shortening.Saved.{unit, after, after_same, Saved, saved, Divides, divided}

-- ════ letters in the order of the rule

order-long : (r : ℕ) → T (is_rule r) → (w : List ℕ) → length w ≡ rule_letters r → length (in_rule_order r w) ≡ rule_letters r
unfolding in_rule_order rule_letters
order-long = by-rule (λ (r : ℕ). (w : List ℕ) → length w ≡ rule_letters r → length (in_rule_order r w) ≡ rule_letters r) (λ w e. e) (λ w e. e) (λ w e. refl) (λ w e. e) (λ w e. e)

order_all : (P : ℕ → Type 0) (r : ℕ) → T (is_rule r) → (w : List ℕ) → length w ≡ rule_letters r → All P w → All P (in_rule_order r w)
unfolding in_rule_order rule_letters
order_all P =
    by-rule (λ (r : ℕ). (w : List ℕ) → length w ≡ rule_letters r → All P w → All P (in_rule_order r w)) (λ w e h. h) (λ w e h. h)
    (λ w e h. (all-at P w 0 0 h (omega arith), (all-at P w 1 0 h (omega arith), (all-at P w 2 0 h (omega arith), (all-at P w 4 0 h (omega arith), (all-at P w 3 0 h (omega arith), tt))))))
    (λ w e h. h) (λ w e h. h)

-- twice is back
order-back : (r : ℕ) → T (is_rule r) → (ls : List ℕ) → rule_terms r ls ≡ rule_terms r (in_rule_order r (in_rule_order r ls))
unfolding rule_terms sides rule1 rule2 rule3 rule4 bracket rule5 in_rule_order
order-back = by-rule (λ (r : ℕ). (ls : List ℕ) → rule_terms r ls ≡ rule_terms r (in_rule_order r (in_rule_order r ls))) (λ ls. refl) (λ ls. refl) (λ ls. refl) (λ ls. refl) (λ ls. refl)

-- ════ an admissible step with other letters

-- M with its sign turned is in shape
turned-shape : (e : ℤ) (m : Term) → nat_abs e ≡ 1 → T (term_in_shape m) → T (term_in_shape (scaled e m))
unfolding coef_within
turned-shape e m h t =
    let o : TermShape m = term-opens m t in
    let size : nat_abs (e *ℤ m.coef) ≡ nat_abs m.coef = R.nat_abs_*ℤ e m.coef ∙ ap (λ (n : ℕ). n * nat_abs m.coef) h ∙ N.one-mul (nat_abs m.coef) in
    term-closes (scaled e m) (record {
      nonzero = R.product-nonzero e m.coef (unit-nonzero e h) o.nonzero;
      within = subst (λ (n : ℕ). T (leb n 2147483647)) (sym size) o.within;
      in_order = o.in_order;
      fits = o.fits;
    })

five-both : (a b c d e : Bool) → T a → T b → T c → T d → T e → T (a && b && c && d && e)
five-both a b c d e ta tb tc td te = and_both (a && b && c && d) e (and_both (a && b && c) d (and_both (a && b) c (and_both a b ta tb) tc) td) te

module _ (table : List ℕ) (f : Form) (in_shape : FormInShape f) (s : Step) (g : Form) (e : step_at table f s ≡ given g) where
  -- its rule
  abbrev r : ℕ
  r = s.rule

  -- what its tests say
  a : Admitted table f s g
  a = step-admitted table f s g e

  -- the step's letters, the block first
  abbrev w : List ℕ
  w = in_rule_order r s.letters

  long : length w ≡ rule_letters r
  long = order-long r a.shape.rule s.letters a.shape.long

  module _ (v : List ℕ) (q : Same r w v) where
    -- the step with the letters v
    abbrev other : Step
    other = record { rule = r; letters = in_rule_order r v; m = scaled q.sign s.m }

    other_after : after f.terms other ≡ after f.terms s
    other_after = after_same f.terms (form-gathered f in_shape) s w v (order-back r a.shape.rule s.letters) q

    other-long : length v ≡ rule_letters r
    other-long = sym (reordered-length q.order) ∙ long

    other_taken : take_step f other ≡ take_step f s
    unfolding take_step step_kinds_fit term_kind vector_letters
    other_taken =
        ap (λ (l : List Term). require (step_kinds_fit f s) 6 >> (require (leb (vector_letters s.m + rule_letters r) 6) 8 >> within f.kind l)) other_after

    other_known : test_step_letters table other ≡ given tt
    unfolding test_step_letters test_term
    other_known =
        let t = tested (test_letters table vector s.letters) (test_term table s.m) tt a.known in
        let rule = a.shape.rule in
        let ls : All (Known table vector) w = order_all (Known table vector) r rule s.letters a.shape.long (letters_known table vector s.letters t.0) in
        ap (λ r. r >> test_term table s.m) (known_letters table vector (in_rule_order r v) (order_all (Known table vector) r rule v other-long (reordered_all (Known table vector) q.order ls))) ∙ t.1

    other-admitted : step_at table f other ≡ given g
    unfolding step_at
    other-admitted =
        passes (step_in_shape other) 11 _
        (step-closes other (record { rule = a.shape.rule; long = order-long r a.shape.rule v other-long; m = turned-shape q.sign s.m q.unit a.shape.m }))
        ∙ ap (λ r. r >> take_step f other) other_known ∙ other_taken ∙ a.takes

  -- ════ the candidate

  module _ (fewer : length g.terms < length f.terms) where
    -- the step's letters in ascending blocks
    abbrev b : InBlocks r w
    b = into-blocks r a.shape.rule w long

    -- as one list
    abbrev v : List ℕ
    v = b.block ++ b.others

    shorter : length (after f.terms (other v b.alike)) < length f.terms
    shorter =
        let reached = within_given f.kind (gather (f.terms ++ step_terms s)) g (step_taken f s g a.takes).gathers in
        subst (λ (l : List Term). length l < length f.terms) (ap (λ (g : Form). g.terms) reached.is ∙ sym (other_after v b.alike)) fewer

    gone : Saved f.terms (form-gathered f in_shape) (other v b.alike) v
    gone = saved f.terms (form-gathered f in_shape) (other v b.alike) v refl shorter

    -- the term that the step takes away
    abbrev t : Term
    t = term_at f.terms gone.at

    parts : Divides t s.m r v
    parts = divided f s (step_taken f s g a.takes).agree (term-opens s.m a.shape.m).in_order v t a.shape.rule (other-long v b.alike) gone.alive

    picked : Masked (pool t parts.mask r) b.block b.others
    picked =
        subst (λ (l : List ℕ). Masked l b.block b.others) (sym parts.is_pool)
        (mask-between nat-laws v b.others b.block (reordered-turned b.block b.others) b.block_ascends b.others_ascend)

    candidate_is : (c : ℤ) → candidate t parts.mask r picked.mask c ≡ record { rule = r; letters = in_rule_order r v; m = with_coef c s.m }
    unfolding candidate
    candidate_is c = λ i. record { rule = r; letters = in_rule_order r (picked.taking i ++ picked.leaving i); m = parts.is_m c i }

    gain_is : gain t parts.mask r picked.mask ≡ adds r (unit s.m) (monomial t) v
    unfolding gain
    gain_is =
        let u : Step = record { rule = r; letters = in_rule_order r v; m = unit s.m } in
        ap (λ (s : Step). coeff (monomial t) (gather (step_terms s))) (candidate_is (pos 1)) ∙ gather-coefficient (monomial t) (step_terms u)
        ∙ ap (λ (l : List Term). coeff (monomial t) (map tidy l)) (step_terms-rule u)

    pool-long : length (pool t parts.mask r) ≡ rule_letters r
    pool-long = ap length parts.is_pool ∙ O.length-sorted order v ∙ other-long v b.alike

    is_candidate_lem : T (is_candidate t parts.mask r picked.mask)
    unfolding is_candidate
    is_candidate_lem =
        let k : List ℕ = pool t parts.mask r in
        let strict = block-strict r a.shape.rule (unit s.m) (monomial t) b.block b.others b.size (other-long v b.alike) gone.alive b.block_ascends in
        let strict' = others-strict r a.shape.rule (unit s.m) (monomial t) b.block b.others b.size (other-long v b.alike) gone.alive b.others_ascend in
        subst T (λ i. eqb (length k) (rule_letters r) && eqb (length (sym picked.taking i)) (block_size r)
        && ascend ltb (sym picked.taking i) && ascend ltb (sym picked.leaving i) && block_is_first r (sym picked.taking i) (sym picked.leaving i))
        (five-both (eqb (length k) (rule_letters r)) (eqb (length b.block) (block_size r)) (ascend ltb b.block) (ascend ltb b.others) (block_is_first r b.block b.others)
        (eqb_T (length k) (rule_letters r) pool-long) (eqb_T (length b.block) (block_size r) b.size) (strict-ascend b.block strict) (strict-ascend b.others strict') b.is_first)

    refuted : NoCandidate table f → ⊥
    unfolding NoCandidate
    refuted none =
        N.not-le_of_lt fewer
        (none gone.at parts.mask r picked.mask (b.alike.sign *ℤ s.m.coef) g gone.inside parts.small a.shape.rule
        (subst (λ (n : ℕ). picked.mask < 2 ^ n) pool-long picked.small) is_candidate_lem (ap (λ (z : ℤ). (b.alike.sign *ℤ s.m.coef) *ℤ z) gain_is ∙ gone.exact)
        (ap (step_at table f) (candidate_is (b.alike.sign *ℤ s.m.coef)) ∙ other-admitted v b.alike))

-- ════ the theorem

-- P8: where no candidate leads to fewer terms, no admissible step does
pub no_candidate-shortest : (table : List ℕ) (f : Form) → FormInShape f → NoCandidate table f → Shortest table f
unfolding Shortest
no_candidate-shortest table f in_shape none s g e = omega (arith, not-fewer)
  where
    not-fewer : length g.terms < length f.terms → ⊥
    not-fewer fewer = refuted table f in_shape s g e fewer none
