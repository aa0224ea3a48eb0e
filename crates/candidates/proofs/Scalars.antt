-- A mask that leaves a scalar letter to the rule: no step by it is admissible, since a rule's letters are vectors. Assumes nothing.
use mathlib.Core.Path.{◌≡◌, refl, sym, ap, subst, ◌∙◌}
use mathlib.Core.Bool.{Bool, true, false, not, ◌&&◌}
use mathlib.Core.Logic.{inl, inr}
use mathlib.Core.List.{List, [], ◌∷◌, ◌++◌}
use Prim.Native.Nat.{ℕ, suc, ◌+◌, ◌/◌, ◌%◌, ◌<◌, ◌≤◌}
use native.Mathlib.Nat as N
use native.Mathlib.Omega.{arith}
use borrow.Author.Tests.{eq-eqb, ne_eqb}
use lib.Dec.{T, eqb, eqb→eq}
use lib.ListN.{length, length-append, get_or}
use Rattle.specification.specs.Results.{when◌then◌else◌}
use Rattle.specification.specs.Lists.{joined, all, order}
use Rattle.specification.specs.Letters.{scalar, vector, test_letters}
use Rattle.specification.specs.Terms.{term_kind}
use Rattle.specification.specs.Terms as S
use Rattle.specification.specs.Records.{test_term}
use Rattle.specification.specs.Rules.{is_rule, rule_letters, rule_kind, step_kinds_fit, take_step, test_step_letters}
use Rattle.theory.specs.Elements.{All, all_split}
use Rattle.theory.specs.Tests.{and_split, tested, required}
use Rattle.theory.specs.Sorting as O
use Rattle.theory.specs.Reordering.{reordered-back, reordered_all, reordered-sorted}
use Rattle.theory.specs.Shape.Letters.{Known, known_is, letters_known, FactorKnown}
use Rattle.theory.proofs.Rules.Table.{by-rule}
use Rattle.theory.proofs.Rules.Steps.{step-admitted}
use Rattle.theory.specs.Shortening.Masks.{taken, left_over}
use Rattle.theory.specs.Shortening.Candidates.{in_rule_order, multiplier, pool, candidate}
use Rattle.terms.specs.declared.types.Part.{Part}
use Rattle.terms.specs.Abstraction.{part_of}
use Rattle.terms.proofs.InShape.{part-few}
use Rattle.rules.proofs.Taking.{few-letters}
use Rattle.picks.specs.Choosing.{is_vectors, LeftBy, letters_left}
use Rattle.candidates.specs.Trying.{Hopeless, RuledOut}
use Rattle.picks.proofs.Masks.{taken_left-long}
use Rattle.picks.proofs.Openings.{candidate-opens}
use Rattle.candidates.proofs.Trials.{place-rule}

-- ════ no step by such a mask

-- the letters in the order of the rule are all its letters
order_all : (P : ℕ → Type 0) (r : ℕ) → T (is_rule r) → (w : List ℕ) → length w ≡ rule_letters r → All P (in_rule_order r w) → All P w
unfolding in_rule_order rule_letters
order_all P = by-rule (λ (r : ℕ). (w : List ℕ) → length w ≡ rule_letters r → All P (in_rule_order r w) → All P w) (λ w e h. h) (λ w e h. h) five (λ w e h. h)
    (λ w e h. h)
  where
    five : (w : List ℕ) → length w ≡ 5 → All P (get_or w 0 0 ∷ get_or w 1 0 ∷ get_or w 2 0 ∷ get_or w 4 0 ∷ get_or w 3 0 ∷ []) → All P w
    five (a ∷ b ∷ c ∷ d ∷ g ∷ []) e h = (h.0, (h.1.0, (h.1.1.0, (h.1.1.1.1.0, (h.1.1.1.0, tt)))))
    five (a ∷ b ∷ c ∷ d ∷ g ∷ x ∷ w) e h = absurd (omega arith)
    five [] e h = absurd (omega arith)
    five (a ∷ []) e h = absurd (omega arith)
    five (a ∷ b ∷ []) e h = absurd (omega arith)
    five (a ∷ b ∷ c ∷ []) e h = absurd (omega arith)
    five (a ∷ b ∷ c ∷ d ∷ []) e h = absurd (omega arith)

-- what a mask takes and what it leaves is all
both_all : (P : ℕ → Type 0) (j : ℕ) (w : List ℕ) → All P (taken j w) → All P (left_over j w) → All P w
unfolding taken left_over
both_all P j [] a b = tt
both_all P j (x ∷ w) a b = go (eqb (j % 2) 1) (both_all P (j / 2) w) a b
  where
    go : (q : Bool) → (All P (taken (j / 2) w) → All P (left_over (j / 2) w) → All P w)
        → All P (when q then x ∷ taken (j / 2) w else taken (j / 2) w) → All P (when q then left_over (j / 2) w else x ∷ left_over (j / 2) w) → P x × All P w
    go true f a b = (a.0, f a.1 b)
    go false f a b = (b.0, f a b.1)

left_all : (P : List ℕ → Type 0) (k : ℕ) (l : List (List ℕ)) → All P l → All P (left_over k l)
unfolding left_over
left_all P k [] a = tt
left_all P k (x ∷ l) a = go (eqb (k % 2) 1) (left_all P (k / 2) l a.1)
  where
    go : (q : Bool) → All P (left_over (k / 2) l) → All P (when q then left_over (k / 2) l else x ∷ left_over (k / 2) l)
    go true w = w
    go false w = (a.0, w)

-- the two kinds
kinds-differ : scalar ≡ vector → ⊥
kinds-differ z = omega arith

-- letters that are vectors, in factors whose letters are known, are those of vectors
known_vectors : (table : List ℕ) (fs : List (List ℕ)) → All (FactorKnown table) fs → All (Known table vector) (joined fs) → all is_vectors fs ≡ true
unfolding all joined is_vectors
known_vectors table [] a b = refl
known_vectors table (f ∷ fs) a b =
    let s = all_split (Known table vector) f (joined fs) b in
    go f a.0 s.0 (known_vectors table fs a.1 s.1)
  where
    go : (f : List ℕ) → FactorKnown table f → All (Known table vector) f → all is_vectors fs ≡ true → (not (eqb (length f) 1) && all is_vectors fs) ≡ true
    go [] h k e = e
    go (x ∷ []) h k e = absurd (kinds-differ (sym (known_is table scalar x h.0).1 ∙ (known_is table vector x k.0).1))
    go (x ∷ y ∷ f) h k e = rw (ne_eqb (suc (suc (length f))) 1 (λ z. absurd (N.lt_irrefl 0 (omega arith)))) e

module _ (marks : List ℕ) (t : S.Term) (k : ℕ) (scalars : all is_vectors (left_over k t.factors) ≡ false) where
  -- nothing to hope for
  pub scalars_hopeless : (kind r j : ℕ) → T (is_rule r) → Hopeless marks kind t k r j
  unfolding Hopeless pool candidate test_step_letters
  scalars_hopeless kind r j rule hk hj table f c g shape cover e known can ex h =
      let l : List ℕ = pool t k r in
      let a = step-admitted table f (candidate t k r j c) g h in
      let ls : All (Known table vector) (in_rule_order r (taken j l ++ left_over j l)) = letters_known table vector (in_rule_order r (taken j l ++ left_over j l))
      (tested (test_letters table vector (in_rule_order r (taken j l ++ left_over j l))) (test_term table (candidate t k r j c).m) tt a.known).0 in
      let long : length (taken j l ++ left_over j l) ≡ rule_letters r = length-append (taken j l) (left_over j l) ∙ taken_left-long j l
      ∙ (candidate-opens t k r j can).0 in
      let split = all_split (Known table vector) (taken j l) (left_over j l) (order_all (Known table vector) r rule (taken j l ++ left_over j l) long ls) in
      let in_pool : All (Known table vector) l = both_all (Known table vector) j l split.0 split.1 in
      let left : All (Known table vector) (joined (left_over k t.factors) ++ (when eqb (rule_kind r) vector then t.part else [])) =
      reordered_all (Known table vector) (reordered-back (reordered-sorted order (joined (left_over k t.factors) ++ (when eqb (rule_kind r) vector then t.part
      else [])))) in_pool in
      absurd (subst T (sym (known_vectors table (left_over k t.factors) (left_all (FactorKnown table) k t.factors known.factors)
      (all_split (Known table vector) (joined (left_over k t.factors)) (when eqb (rule_kind r) vector then t.part else []) left).0) ∙ scalars) tt)

-- ════ a mask that leaves too many letters, or too few

module _ (marks : List ℕ) (t : S.Term) (k : ℕ) where
  -- other than the rule's letters
  count_hopeless : (kind r j : ℕ) → (length (letters_left t k r) ≡ rule_letters r → ⊥) → Hopeless marks kind t k r j
  unfolding Hopeless pool letters_left
  count_hopeless kind r j h hk hj table f c g shape cover e known can ex s = absurd (h (sym (O.length-sorted order (letters_left t k r))
      ∙ (candidate-opens t k r j can).0))

  -- by the count
  pub left_hopeless : (kind r j n : ℕ) → T (is_rule r) → LeftBy t.factors k n → (n + length (when eqb (rule_kind r) vector then t.part else []) ≡ rule_letters r
      → ⊥) → Hopeless marks kind t k r j
  unfolding letters_left
  left_hopeless kind r j n rule w h = go (all is_vectors (left_over k t.factors)) refl
    where
      go : (b : Bool) → all is_vectors (left_over k t.factors) ≡ b → Hopeless marks kind t k r j
      go false e = scalars_hopeless marks t k e kind r j rule
      go true e =
          count_hopeless kind r j
          (λ q. h (ap (λ (m : ℕ). m + length (when eqb (rule_kind r) vector then t.part else [])) (w.is e) ∙ sym
          (length-append (joined (left_over k t.factors)) (when eqb (rule_kind r) vector then t.part else [])) ∙ q))

-- ════ a rule of vectors at a form of scalars

kinds_hopeless : (marks : List ℕ) (t : S.Term) (k kind r j : ℕ) → kind ≡ scalar → rule_kind r ≡ vector → Hopeless marks kind t k r j
unfolding Hopeless take_step step_kinds_fit candidate
kinds_hopeless marks t k kind r j z v hk hj table f c g shape cover e known can ex h =
    let a = step-admitted table f (candidate t k r j c) g h in
    let fits : T (step_kinds_fit f (candidate t k r j c)) = (required (step_kinds_fit f (candidate t k r j c)) 6 _ g a.takes).0 in
    let both = and_split (eqb (term_kind (multiplier t k r c)) scalar) (eqb f.kind vector) (rw (eq-eqb (rule_kind r) vector v) at fits) in
    absurd (kinds-differ (sym z ∙ sym e ∙ eqb→eq f.kind vector both.1))

-- ════ the places of such a mask or rule

-- no rule takes so many letters
pub many_hopeless : (marks : List ℕ) (kind : ℕ) (t : S.Term) (k n : ℕ) → LeftBy t.factors k n → 6 < n → (p : ℕ) → p < 320
    → Hopeless marks kind t k (p / 64 + 1) (p % 64)
many_hopeless marks kind t k n v h p i =
    left_hopeless marks t k kind (p / 64 + 1) (p % 64) n (place-rule (p / 64) (omega arith)) v (λ q. N.lt_irrefl 6 (omega (
      arith,
      q,
      h,
      few-letters (p / 64 + 1),
    )))

-- the rule is ruled out
pub ruled_hopeless : (marks : List ℕ) (kind : ℕ) (t : S.Term) (k n r : ℕ) → T (is_rule r) → LeftBy t.factors k n → RuledOut kind n t.part r
    → (pick : ℕ) → Hopeless marks kind t k r pick
unfolding RuledOut
ruled_hopeless marks kind t k n r rule v (inl w) pick = kinds_hopeless marks t k kind r pick w.0 w.1
ruled_hopeless marks kind t k n r rule v (inr h) pick = left_hopeless marks t k kind r pick n rule v h

-- a rule takes no more than two letters of a vector part
pub part_short : (p : Part) (kind : ℕ) → length (when eqb kind vector then part_of p else []) ≤ 2
part_short p kind = go (eqb kind vector)
  where
    go : (b : Bool) → length (when b then part_of p else []) ≤ 2
    go true = part-few p
    go false = omega arith
