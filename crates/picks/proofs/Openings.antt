-- What a mask over a term's factors gives M and leaves to a rule: the step can pass its tests, or none by this mask and rule does. Assumes nothing.
use mathlib.Core.Path.{◌≡◌, refl, sym, ap, subst, ◌∙◌}
use mathlib.Core.Bool.{Bool, true, false, ◌&&◌}
use mathlib.Core.List.{List, [], ◌++◌, map}
use Rattle.std.specs.Prelude.{Some, None, Ok, Err, is_ok}
use Rattle.std.specs.Prelude as Std
use Prim.Native.Nat.{ℕ, ◌+◌, ◌-◌, ◌^◌, ◌<◌, ◌≤◌}
use native.Mathlib.Nat as N
use native.Mathlib.Omega.{arith}
use borrow.Author.Tests.{eq-eqb, ne_eqb, eqb-true, eqb-false, ltb-true, ltb-false}
use lib.Dec.{T, eqb, leb, ltb, eqb→eq}
use lib.IntN.{ℤ, pos}
use lib.ListN.{length, take, length-map}
use lib.Seq.{length-take-le}
use Rattle.algebra.specs.Integers.{NonZero, pos-nonzero}
use Rattle.specification.specs.Results.{Test, given, require, when◌then◌else◌}
use Rattle.specification.specs.Lists.{joined, ascend, order}
use Rattle.specification.specs.Letters.{vector}
use Rattle.specification.specs.Terms.{term_kind, with_coef, coef_within, vector_letters, within, term_in_shape}
use Rattle.specification.specs.Terms as S
use Rattle.specification.specs.Rules.{rule_letters, rule_kind, step_kinds_fit, take_step, step_at}
use Rattle.specification.specs.Rules as R
use Rattle.theory.specs.Elements.{All}
use Rattle.theory.specs.Tests.{and_split, required, passes, refused≢given}
use Rattle.theory.specs.Reordering.{reordered-sorted, reordered_all}
use Rattle.theory.specs.Sorting as O
use Rattle.theory.specs.Shape.Terms.{term-opens, term-closes}
use Rattle.theory.proofs.Rules.Steps.{step-admitted}
use Rattle.theory.specs.Shortening.Masks.{taken, left_over}
use Rattle.theory.specs.Shortening.Candidates.{block_size, block_is_first, multiplier, pool, candidate, is_candidate}
use Rattle.terms.specs.declared.types.Part.{Part}
use Rattle.terms.specs.declared.types.Term.{Term}
use Rattle.terms.specs.Numbers.{letters_of}
use Rattle.terms.specs.Abstraction.{part_of, term_of, Counted}
use Rattle.refusal.specs.declared.Refusal.{Refusal}
use Rattle.refusal.specs.Tests.{test_of}
use Rattle.rules.specs.Steps.{step_tests}
use Rattle.rules.proofs.Taking.{few-letters}
use Rattle.picks.specs.Choosing.{MaskTaken, Pooled, Adds, letters_left, MultiplierOf, Shut, Fails, PassesBy, OpenedBy}
use Rattle.picks.proofs.Masks.{taken_map, left_taken, taken_all}

-- ════ the factors of a term by a mask

module _ (t : Term) (k : ℕ) (counted : Counted t) (seven : length t.factors ≡ 7) where
  enough : t.factor_count ≤ length t.factors
  enough = omega (arith, counted.few, seven)

  -- the numbers taken are those of M's factors
  pub factors_taken : (f : List ℕ) (n : ℕ) → MaskTaken (take t.factor_count t.factors) k f n → map letters_of (take n f) ≡ taken k (term_of t).factors
  unfolding term_of
  factors_taken f n w = ap (map letters_of) w.is ∙ sym (taken_map letters_of k (take t.factor_count t.factors))

  -- numbers of factors
  pub factors-small : (f : List ℕ) (n : ℕ) → MaskTaken (take t.factor_count t.factors) k f n → All (λ (k : ℕ). k < 16843008) (take n f)
  factors-small f n w = subst (All (λ (k : ℕ). k < 16843008)) (sym w.is) (taken_all (λ (k : ℕ). k < 16843008) k (take t.factor_count t.factors)
      counted.small)

  -- no more than seven
  pub factors-few : (f : List ℕ) (n : ℕ) → MaskTaken (take t.factor_count t.factors) k f n → n ≤ 7
  factors-few f n w = omega (arith, w.few, length-take-le t.factor_count t.factors enough, counted.few)

-- the other mask takes the factors that are left
pub factors_left_lem : (t : Term) (k left : ℕ) → Counted t → length t.factors ≡ 7 → k < 2 ^ t.factor_count → left ≡ 2 ^ t.factor_count - 1 - k
    → (f : List ℕ) (n : ℕ) → MaskTaken (take t.factor_count t.factors) left f n → map letters_of (take n f) ≡ left_over k (term_of t).factors
unfolding term_of
factors_left_lem t k left counted seven h e f n w =
    let long : length (term_of t).factors ≡ t.factor_count =
    length-map (take t.factor_count t.factors) letters_of ∙ length-take-le t.factor_count t.factors (enough t k counted seven) in
    let inside : k < 2 ^ length (term_of t).factors = subst (λ (m : ℕ). k < 2 ^ m) (sym long) h in
    factors_taken t left counted seven f n w ∙ ap (λ (m : ℕ). taken m (term_of t).factors) (e ∙ ap (λ (m : ℕ). 2 ^ m - 1 - k) (sym long))
    ∙ sym (left_taken (term_of t).factors k inside)

-- M with the coefficient 1
pub unit-multiplier_is : (t : Term) (k rule : ℕ) → Counted t → length t.factors ≡ 7 → (f : List ℕ) (n : ℕ) (p : Part)
    → MaskTaken (take t.factor_count t.factors) k f n
    → part_of p ≡ (when eqb (rule_kind rule) vector then [] else part_of t.part) → MultiplierOf t k rule (record {
      coef = pos 1;
      factors = f;
      factor_count =
          n;
      part = p;
    })
unfolding term_of multiplier
unit-multiplier_is t k rule counted seven f n p w e = record {
  is = λ i. record { coef = pos 1; factors = factors_taken t k counted seven f n w i; part = e i };
  counted = record { few = factors-few t k counted seven f n w; small = factors-small t k counted seven f n w };
}

-- the vector part of M, where the rule has one
pub part-gone : (p : Part) (kind : ℕ) → kind ≡ 1 → [] ≡ (when eqb kind vector then [] else part_of p)
part-gone p kind e = rw (eq-eqb kind 1 e)

pub part_stays : (p : Part) (kind : ℕ) → (kind ≡ 1 → ⊥) → part_of p ≡ (when eqb kind vector then [] else part_of p)
part_stays p kind e = rw (ne_eqb kind 1 e)

-- ════ the pool

-- the letters of the vector part, where the rule has them
pub part_left : (p : Part) (kind : ℕ) → kind ≡ 1 → (when eqb kind vector then part_of p else []) ≡ part_of p
part_left p kind e = rw (eq-eqb kind 1 e)

pub part-kept : (p : Part) (kind : ℕ) → (kind ≡ 1 → ⊥) → (when eqb kind vector then part_of p else []) ≡ []
part-kept p kind e = rw (ne_eqb kind 1 e)

-- with the letters of the factors
pub pool-filled : (t : Term) (k rule : ℕ) (xs : List (List ℕ)) {p q : List ℕ} {n r : ℕ} → xs ≡ left_over k (term_of t).factors
    → Pooled (when eqb (rule_kind rule) vector then part_of t.part else []) p n
    → Adds (joined xs) p n q r → Pooled (letters_left (term_of t) k rule) q r
unfolding letters_left term_of
pool-filled t k rule xs {p} {q} {n} {r} e w a =
    subst (λ (l : List (List ℕ)). Pooled (joined l ++ (when eqb (rule_kind rule) vector then part_of t.part else [])) q r) e (a.adds (when eqb (rule_kind rule)
    vector then part_of t.part else []) w)

-- ════ the tests of M

module _ (kind rule : ℕ) (m : Term) (one : m.coef ≡ pos 1) where
  -- M with another coefficient is in shape only where M is
  shape_of-unit : (c : ℤ) → T (term_in_shape (with_coef c (term_of m))) → T (term_in_shape (term_of m))
  unfolding coef_within term_of
  shape_of-unit c h =
      let o = term-opens (with_coef c (term_of m)) h in
      term-closes (term_of m) (record {
        nonzero = subst NonZero (sym one) (pos-nonzero 0);
        within = subst (λ (z : ℤ). T (coef_within z)) (sym one) tt;
        in_order = o.in_order;
        fits = o.fits;
      })

  unit_is : with_coef (pos 1) (term_of m) ≡ term_of m
  unfolding term_of
  unit_is = λ i. with_coef (sym one i) (term_of m)

  pub in_shape-by : (b : Bool) → b ≡ term_in_shape (with_coef (pos 1) (term_of m)) → b ≡ true → T (term_in_shape (term_of m))
  in_shape-by b e z = subst (λ (t : S.Term). T (term_in_shape t)) unit_is (subst T (sym z ∙ e) tt)

  pub out_of_shape : (b : Bool) → b ≡ term_in_shape (with_coef (pos 1) (term_of m)) → b ≡ false → PassesBy false kind rule m
  unfolding PassesBy Fails
  out_of_shape b e z table letters f c g k h =
      let a = step-admitted table f (record { rule = rule; letters = letters; m = with_coef c (term_of m) }) g h in
      subst T (sym (e ∙ ap term_in_shape unit_is) ∙ z) (shape_of-unit c a.shape.m)

  -- a step that is taken passes the tests of kinds and letters
  taken_passes : (f : S.Form) (s : R.Step) (g : S.Form) → f.kind ≡ kind → take_step f s ≡ given g → step_tests kind s ≡ given tt
  unfolding take_step step_tests step_kinds_fit
  taken_passes f s g e h =
      let a = required (step_kinds_fit f s) 6 _ g h in
      let b = required (leb (vector_letters s.m + rule_letters s.rule) 6) 8 _ g a.1 in
      passes (step_kinds_fit (record { kind = kind; terms = [] }) s) 6 (require (leb (vector_letters s.m + rule_letters s.rule) 6) 8)
      (subst (λ (n : ℕ). T (step_kinds_fit (record { kind = n; terms = [] }) s)) e a.0)
      ∙ passed (leb (vector_letters s.m + rule_letters s.rule) 6) b.0
    where
      passed : (b : Bool) → T b → ◌≡◌ {A = Test} (require b 8) (given tt)
      passed true h = refl
      passed false h = absurd h

  pub tests_by : (b : Bool) (r : Std.Result (Unit {0}) Refusal) (letters : List ℕ) → b ≡ term_in_shape (with_coef (pos 1) (term_of m)) → b ≡ true
      → test_of r ≡ step_tests kind (record { rule = rule; letters = letters; m = term_of m }) → PassesBy (is_ok r) kind rule m
  unfolding PassesBy Fails step_tests step_kinds_fit term_kind vector_letters
  tests_by b (Ok u) letters e z h = record { in_shape = in_shape-by b e z; fits = λ ls. sym h }
  tests_by b (Err w) letters e z h = λ table ls f c g k s.
      let a = step-admitted table f (record { rule = rule; letters = ls; m = with_coef c (term_of m) }) g s in
      let r : step_tests kind (record { rule = rule; letters = ls; m = with_coef c (term_of m) }) ≡ given tt = taken_passes f
      (record { rule = rule; letters = ls; m = with_coef c (term_of m) }) g k a.takes in
      refused≢given (h ∙ r)

-- ════ what a candidate has

-- the rule's letters, a whole block, and in rule 5 the block first
pub candidate-opens : (t : S.Term) (k r j : ℕ) → T (is_candidate t k r j)
    → (length (pool t k r) ≡ rule_letters r) × (length (taken j (pool t k r)) ≡ block_size r) × T (block_is_first r (taken j (pool t k r))
    (left_over j (pool t k r)))
unfolding is_candidate
candidate-opens t k r j h =
    let l : List ℕ = pool t k r in
    let a = and_split (eqb (length l) (rule_letters r) && eqb (length (taken j l)) (block_size r) && ascend ltb (taken j l) && ascend ltb (left_over j l))
    (block_is_first r (taken j l) (left_over j l)) h in
    let b = and_split (eqb (length l) (rule_letters r) && eqb (length (taken j l)) (block_size r) && ascend ltb (taken j l)) (ascend ltb (left_over j l)) a.0 in
    let d = and_split (eqb (length l) (rule_letters r) && eqb (length (taken j l)) (block_size r)) (ascend ltb (taken j l)) b.0 in
    let i = and_split (eqb (length l) (rule_letters r)) (eqb (length (taken j l)) (block_size r)) d.0 in
    (eqb→eq (length l) (rule_letters r) i.0, eqb→eq (length (taken j l)) (block_size r) i.1, a.1)

-- ════ what is opened

module _ (kind rule k : ℕ) (t : Term) (p : List ℕ) (n : ℕ) (m : Term) (w : Pooled (letters_left (term_of t) k rule) p n) (wm : MultiplierOf t k rule m) where
  pub opened-by : (b : Bool) → PassesBy b kind rule m → n ≡ rule_letters rule → b ≡ true → OpenedBy kind t k rule (Some (record { m = m; pool = p }))
  unfolding OpenedBy PassesBy pool letters_left
  opened-by true w' e q = record {
    m = wm;
    passes = w';
    places = w.places;
    letters = ap (λ (i : ℕ). take i p) (sym e) ∙ w.is (omega (arith, e, few-letters rule));
    small = reordered_all (λ (x : ℕ). x < 256) (reordered-sorted order (letters_left (term_of t) k rule)) w.small;
  }
  opened-by false w' e q = absurd (subst T (sym q) tt)

  pub fails_by : (b : Bool) → PassesBy b kind rule m → b ≡ false → OpenedBy kind t k rule None
  unfolding OpenedBy PassesBy Shut Fails candidate multiplier
  fails_by true w' q = absurd (subst T q tt)
  fails_by false w' q = λ table f j c g q can h. w' table (candidate (term_of t) k rule j c).letters f c g q
      (ap (λ (u : S.Term). step_at table f (record { rule = rule; letters = (candidate (term_of t) k rule j c).letters; m = with_coef c u })) wm.is ∙ h)

  pub shut_by : (n ≡ rule_letters rule → ⊥) → OpenedBy kind t k rule None
  unfolding OpenedBy Shut pool letters_left
  shut_by e table f j c g q can h =
      let long : length (letters_left (term_of t) k rule) ≡ rule_letters rule = sym (O.length-sorted order (letters_left (term_of t) k rule))
      ∙ (candidate-opens (term_of t) k rule j can).0 in
      go (ltb n 7) refl long
    where
      go : (b : Bool) → ltb n 7 ≡ b → length (letters_left (term_of t) k rule) ≡ rule_letters rule → ⊥
      go true x long = e (sym (w.all (ltb-true n 7 x)) ∙ long)
      go false x long = N.lt_irrefl 6 (omega (arith, w.many (ltb-false n 7 x), long, few-letters rule))
