-- The rows of a step one after the other: the score of their products, and what follows once it is as much as there are rows.
-- Assumes nothing.
use mathlib.Core.Path.{◌≡◌, refl, sym, ap, subst, ◌∙◌}
use mathlib.Core.Bool.{Bool, true, false, ◌||◌}
use mathlib.Core.Logic.{◌⊎◌, inl, inr}
use mathlib.Core.List.{List, [], ◌∷◌, ◌++◌, map, map-append}
use Prim.Native.Nat.{ℕ, zero, suc, ◌+◌, ◌*◌, ◌<◌, ◌≤◌}
use native.Mathlib.Nat as N
use native.Mathlib.Omega.{arith}
use borrow.Author.Tests.{eqb-true, eqb-false}
use lib.Dec.{T, eqb}
use lib.IntN.{ℤ, nat_abs}
use lib.ListN.{length, length-map, length-set, get_or, set, take, drop, length-append, take-append-drop}
use lib.Seq.{get_or-set_same, get_or-set_other}
use Rattle.std.specs.List.{list_any}
use Rattle.algebra.specs.Integers.{NonZero, nat_abs_*ℤ}
use Rattle.specification.specs.Terms.{with_coef, times_term, gather, gather_into}
use Rattle.specification.specs.Terms as S
use Rattle.specification.specs.Rules.{is_rule, rule_letters, step_terms}
use Rattle.theory.specs.Elements.{All, all_implies}
use Rattle.theory.specs.Shape.Forms.{form-gathered}
use Rattle.theory.specs.Gathering.Gathered.{into-join, gather-onto}
use Rattle.theory.proofs.Rules.Table.{step_terms-rule}
use Rattle.terms.specs.Abstraction.{term_of}
use Rattle.terms.proofs.Arrays.{stored-behind, mapped-behind}
use Rattle.rules.specs.declared.steps.Step.{Step}
use Rattle.rule_table.specs.Table.{rule_rows, row_sign, row_term, row_terms, first_row, row_count, RowsOf}
use Rattle.rules.specs.Steps.{step_of, StepValid, StepFits}
use Rattle.rule_table.proofs.Tied.{tied, rows_inside, row_next, row_given}
use Rattle.rules.proofs.Taking.{rows, row_fits}
use Rattle.marks.specs.declared.steps.StepMarks.{StepMarks}
use Rattle.marking.specs.Marks.{mark_of, Shows, Covering, Sized, LettersMarked, product_mark, SurelyKept, Scored}
use Rattle.marks.specs.Steps.{Carried, NotShorter, StepMarked, Among}
use Rattle.marks.proofs.Growth.{Ahead, ahead_none, ahead_more, ahead-kept, ahead-new, into-long, into-covered}
use Rattle.marking.proofs.MarkedTerms.{size_same}
use Rattle.marking.proofs.RowMarks.{row_good, sign_one, product_mark_lem, product-stands}

-- the products with the first rows, whatever the coefficient of M, if it has the size, and the terms covered
unfoldable pub Passed : (marks : List ℕ) (v : ℕ) (seen : List ℕ) (s : Step) (score i : ℕ) → Type 0
Passed marks v seen s score i =
    (c : ℤ) → NonZero c → Sized v c → (ts : List S.Term) → Covering marks ts → All (λ (u : S.Term). NonZero u.coef) ts
    → Ahead marks seen ts (map (times_term (with_coef c (term_of s.m))) (take i (rows s))) score

-- a coefficient of the same size
sized : (size : ℕ) (c d : ℤ) → nat_abs d ≡ nat_abs c → Sized size c → Sized size d
unfolding Sized
sized size c d e (inl q) = inl q
sized size c d e (inr q) = inr (q ∙ sym (size_same d c e))

rows_long : (l : List ℕ) (k n : ℕ) → length (row_terms l k n) ≡ n
unfolding row_terms
rows_long l k zero = refl
rows_long l k (suc n) = ap suc (rows_long l (k + 1) n)

module _ (marks : List ℕ) (size : ℕ) (s : Step) (v : StepValid s) (six : length s.letters ≡ 6) where
  -- none yet
  pub passed_none : Passed marks size [] s 0 0
  unfolding Passed
  passed_none c h k ts w z = ahead_none marks ts w z

  module _ (seen : List ℕ) (score i : ℕ) (before : Passed marks size seen s score i) (here : i < row_count s.rule)
      (h : ℕ) (eh : h ≡ mark_of (times_term (term_of s.m) (row_term s.letters (get_or rule_rows (first_row s.rule + i) 0)))) where
    product : ℤ → S.Term
    product c = times_term (with_coef c (term_of s.m)) (row_term s.letters (get_or rule_rows (first_row s.rule + i) 0))

    -- the coefficient has no part in the mark
    mark-is : (c : ℤ) → mark_of (product c) ≡ h
    unfolding product mark_of times_term
    mark-is c = sym eh

    products : (c : ℤ) → map (times_term (with_coef c (term_of s.m))) (take (i + 1) (rows s)) ≡ map (times_term (with_coef c (term_of s.m)))
        (take i (rows s)) ++ product c ∷ []
    unfolding product
    products c =
        ap (map (times_term (with_coef c (term_of s.m)))) (row_next s.letters (first_row s.rule) (row_count s.rule) i here)
        ∙ mapped-behind (times_term (with_coef c (term_of s.m))) (take i (rows s)) (row_term s.letters (get_or rule_rows (first_row s.rule + i) 0))

    ahead_as : (n : ℕ) (c : ℤ) (ts : List S.Term) → Ahead marks (seen ++ mark_of (product c) ∷ []) ts (map (times_term (with_coef c (term_of s.m)))
        (take i (rows s)) ++ product c ∷ []) n
        → Ahead marks (seen ++ h ∷ []) ts (map (times_term (with_coef c (term_of s.m))) (take (i + 1) (rows s))) n
    ahead_as n c ts q =
        subst (λ (ps : List S.Term). Ahead marks (seen ++ h ∷ []) ts ps n) (sym (products c))
        (subst (λ (k : ℕ). Ahead marks (seen ++ k ∷ []) ts (map (times_term (with_coef c (term_of s.m))) (take i (rows s)) ++ product c ∷ []) n) (mark-is c) q)

    -- one more row, whatever its mark
    pub passed-seen : Passed marks size (seen ++ h ∷ []) s score (i + 1)
    unfolding Passed
    passed-seen c z k ts q a = ahead_as score c ts (ahead_more marks seen ts (map (times_term (with_coef c (term_of s.m)))
        (take i (rows s))) score (before c z k ts q a) (product c))

    -- the size of M's coefficient
    product_size : (c : ℤ) → nat_abs (product c).coef ≡ nat_abs c
    unfolding product times_term row_term
    product_size c =
        nat_abs_*ℤ c (row_sign (get_or rule_rows (first_row s.rule + i) 0)) ∙ ap (λ (n : ℕ). nat_abs c * n)
        (sign_one (get_or rule_rows (first_row s.rule + i) 0)) ∙ N.mul-one (nat_abs c)

    -- one more row whose mark no earlier one has
    pub passed_more : StepFits s → s.m.factor_count ≤ length s.m.factors → (l : List ℕ) → LettersMarked s.letters l → (Among h seen → ⊥)
        → (r : ℕ) → Scored marks size h l (get_or rule_rows (first_row s.rule + i) 0) r → Passed marks size (seen ++ h ∷ []) s (score + r) (i + 1)
    unfolding Passed product term_of
    passed_more fits few l w unseen r n c z k ts q a = ahead_as (score + r) c ts (by-score r n)
      where
        ps : List S.Term
        ps = map (times_term (with_coef c (term_of s.m))) (take i (rows s))

        passed : Ahead marks seen ts ps score
        passed = before c z k ts q a

        not_seen : Among (mark_of (product c)) seen → ⊥
        not_seen b = unseen (subst (λ (k : ℕ). Among k seen) (mark-is c) b)

        -- no term with the mark has the size
        unlike : SurelyKept marks size h → (d : ℤ) → nat_abs d ≡ nat_abs (product c).coef → Shows (get_or marks (mark_of (product c)) 0) d → ⊥
        unlike n d e m = n.unlike d (sized size c d (e ∙ product_size c) k) (subst (λ (k : ℕ). Shows (get_or marks k 0) d) (mark-is c) m)

        by-score : (r : ℕ) → Scored marks size h l (get_or rule_rows (first_row s.rule + i) 0) r
            → Ahead marks (seen ++ mark_of (product c) ∷ []) ts (ps ++ product c ∷ []) (score + r)
        by-score zero n = subst (Ahead marks (seen ++ mark_of (product c) ∷ []) ts (ps ++ product c ∷ [])) (sym (N.add-zero score))
            (ahead_more marks seen ts ps score passed (product c))
        by-score (suc zero) n = ahead-kept marks seen ts ps score passed (product c) not_seen (unlike (n.kept refl))
        by-score (suc (suc zero)) n =
            ahead-new marks seen ts ps score passed (product c) not_seen (ap (λ (k : ℕ). get_or marks k 0) (mark-is c) ∙ (n.new refl).unmarked)
            (product-stands s.letters l w c (term_of s.m) (get_or rule_rows (first_row s.rule + i) 0) z v.m.in_shape
            (row_fits s v six fits i here few).1
            (row_good (first_row s.rule + i) (omega (arith, (rows_inside s.rule v.rule).0))) (n.new refl).stands)
        by-score (suc (suc (suc r))) n = absurd (omega (arith, n.few))

  -- as much as there are rows
  pub passed-enough : (seen : List ℕ) (score i : ℕ) → Passed marks size seen s score i → row_count s.rule ≤ score → NotShorter marks size (step_of s)
  unfolding Passed NotShorter step_of
  passed-enough seen score i w h c z k f shape q =
      let g : S.Term → S.Term = times_term (with_coef c (term_of s.m)) in
      let ps : List S.Term = map g (take i (rows s)) in
      let qs : List S.Term = map g (drop i (rows s)) in
      let apart : map g (rows s) ≡ ps ++ qs = ap (map g) (sym (take-append-drop i (rows s))) ∙ map-append g (take i (rows s)) (drop i (rows s)) in
      let all : length (ps ++ qs) ≡ row_count s.rule = ap length (sym apart) ∙ length-map (rows s) g ∙ rows_long s.letters (first_row s.rule)
      (row_count s.rule) in
      let d : List S.Term = gather_into f.terms ps in
      let reached : gather_into d qs ≡ gather (f.terms ++ step_terms (record {
        rule = s.rule;
        letters = take (rule_letters s.rule) s.letters;
        m =
            with_coef c (term_of s.m);
      })) =
      sym (into-join f.terms ps qs) ∙ ap (gather_into f.terms) (sym apart ∙ ap (map g) (tied s.rule v.rule s.letters six)
      ∙ sym (step_terms-rule (record { rule = s.rule; letters = take (rule_letters s.rule) s.letters; m = with_coef c (term_of s.m) })))
      ∙ gather-onto f.terms (step_terms (record { rule = s.rule; letters = take (rule_letters s.rule) s.letters; m = with_coef c (term_of s.m) }))
      (form-gathered f shape) in
      let few : length f.terms ≤ length (gather_into d qs) = omega (
        arith,
        (w c z k f.terms q (form-gathered f shape).nonzero).long,
        into-long d qs,
        length-append ps qs,
        all,
        h,
      ) in
      subst (λ (ts : List S.Term). length f.terms ≤ length ts) reached few

-- ════ every step of one rule with the same marks

pub record Fitting (w : StepMarks) (n : ℕ) (rows : List ℕ) (s : Step) : Type 0 where
  pub valid : StepValid s
  pub fits : StepFits s
  pub six : length s.letters ≡ 6
  pub few : s.m.factor_count ≤ length s.m.factors
  pub marked : StepMarked s.letters (term_of s.m) w
  pub count_is : n ≡ row_count s.rule
  pub rows_are : RowsOf s.rule rows

-- the mark of M times a row
pub row-marked : (w : StepMarks) (rows : List ℕ) (s : Step) → T (is_rule s.rule) → StepMarked s.letters (term_of s.m) w → RowsOf s.rule rows
    → (i : ℕ) → i < row_count s.rule
    → (h : ℕ) → h ≡ product_mark w.factors w.part w.letters (get_or rows i 0)
    → h ≡ mark_of (times_term (term_of s.m) (row_term s.letters (get_or rule_rows (first_row s.rule + i) 0)))
row-marked w given s t m q i here h e =
    e ∙ (λ j. product_mark (m.factors j) (m.part j) w.letters (row_given s.rule given i q here j))
    ∙ sym (product_mark_lem s.letters w.letters m.letters (term_of s.m).coef (term_of s.m) (get_or rule_rows (first_row s.rule + i) 0)
    (row_good (first_row s.rule + i) (omega (arith, (rows_inside s.rule t).0, here))))

module _ {w : StepMarks} {n : ℕ} {rows : List ℕ} {s : Step} (f : Fitting w n rows s) {i : ℕ} (inside : i < n) where
  pub row_here : i < row_count s.rule
  row_here = omega (arith, f.count_is)

  pub row_is : get_or rows i 0 ≡ get_or rule_rows (first_row s.rule + i) 0
  row_is = row_given s.rule rows i f.rows_are row_here

  pub mark-here : (h : ℕ) → h ≡ product_mark w.factors w.part w.letters (get_or rows i 0)
      → h ≡ mark_of (times_term (term_of s.m) (row_term s.letters (get_or rule_rows (first_row s.rule + i) 0)))
  mark-here = row-marked w rows s f.valid.rule f.marked f.rows_are i row_here

-- the first rows, for all of them, with their marks
pub record AllPassed (marks : List ℕ) (size : ℕ) (w : StepMarks) (n : ℕ) (rows hs : List ℕ) (score i : ℕ) : Type 0 where
  pub each : (s : Step) → Fitting w n rows s → Passed marks size (take i hs) s score i

module _ {marks : List ℕ} {size : ℕ} {w : StepMarks} {n : ℕ} {rows : List ℕ} where
  pub all_none : {hs : List ℕ} → AllPassed marks size w n rows hs 0 0
  all_none = record { each = λ s f. passed_none marks size s f.valid f.six }

  module _ {hs : List ℕ} {score i h : ℕ} (a : AllPassed marks size w n rows hs score i) (long : length hs ≡ 8) (inside : i < n) (few : n ≤ 8)
      (e : h ≡ product_mark w.factors w.part w.letters (get_or rows i 0)) where
    next : take i hs ++ h ∷ [] ≡ take (i + 1) (set hs i h)
    next = sym (stored-behind hs i h (omega (arith, long)))

    -- an earlier row has its mark
    pub all_seen : AllPassed marks size w n rows (set hs i h) score (i + 1)
    all_seen = record {
      each = λ s f. subst (λ (l : List ℕ). Passed marks size l s score (i + 1)) next
          (passed-seen marks size s f.valid f.six (take i hs) score i (a.each s f) (row_here f inside) h (mark-here f inside h e));
    }

    -- none has
    pub all_more : {r : ℕ} → (Among h (take i hs) → ⊥) → Scored marks size h w.letters (get_or rows i 0) r → AllPassed marks size w n rows (set hs i h)
        (score + r) (i + 1)
    all_more {r} unseen v = record { each = there }
      where
        there : (s : Step) → Fitting w n rows s → Passed marks size (take (i + 1) (set hs i h)) s (score + r) (i + 1)
        there s f =
            subst (λ (l : List ℕ). Passed marks size l s (score + r) (i + 1)) next
            (passed_more marks size s f.valid f.six (take i hs) score i (a.each s f) (row_here f inside) h (mark-here f inside h e)
            f.fits f.few w.letters f.marked.letters unseen r (subst (λ (k : ℕ). Scored marks size h w.letters k r) (row_is f inside) v))

  -- the score is as much as there are rows
  pub all_enough : {hs : List ℕ} {score i : ℕ} {s : Step} → AllPassed marks size w n rows hs score i → Fitting w n rows s → n ≤ score
      → NotShorter marks size (step_of s)
  all_enough {hs} {score} {i} {s} a f h = passed-enough marks size s f.valid f.six (take i hs) score i (a.each s f) (omega (arith, f.count_is))

-- ════ a mark among the first ones

-- a test that none passes
neither : (a b : Bool) → (a || b) ≡ false → (a ≡ false) × (b ≡ false)
neither false b e = (refl, e)
neither true b e = absurd (subst T e tt)

-- not one of those that a slice does not contain
pub not_contained : (h : ℕ) (l : List ℕ) → list_any (λ (k : ℕ). eqb k h) l ≡ false → Among h l → ⊥
unfolding Among
not_contained h [] e a = a
not_contained h (k ∷ l) e (inl q) = eqb-false k h (neither (eqb k h) _ e).0 (sym q)
not_contained h (k ∷ l) e (inr a) = not_contained h l (neither (eqb k h) _ e).1 a

-- ════ marks carried over a step

-- 255 at the first products' marks, all else as it was
pub record Raised (before : List ℕ) (w : StepMarks) (rows : List ℕ) (i : ℕ) (marks : List ℕ) : Type 0 where
  pub long : length marks ≡ 512
  pub high : (j : ℕ) → j < i → get_or marks (product_mark w.factors w.part w.letters (get_or rows j 0)) 0 ≡ 255
  pub kept : (k : ℕ) → (get_or marks k 0 ≡ get_or before k 0) ⊎ (get_or marks k 0 ≡ 255)

pub raised_none : (before : List ℕ) (w : StepMarks) (rows : List ℕ) → length before ≡ 512 → Raised before w rows 0 before
raised_none before w rows e = record { long = e; high = λ j h. absurd (omega arith); kept = λ k. inl refl }

-- one more
pub raised_more : (before : List ℕ) (w : StepMarks) (rows : List ℕ) (i h : ℕ) (marks : List ℕ) → Raised before w rows i marks → h < 512
    → h ≡ product_mark w.factors w.part w.letters (get_or rows i 0) → Raised before w rows (i + 1) (set marks h 255)
raised_more before w given i h marks r small e = record { long = length-set marks h 255 ∙ r.long; high = higher; kept = others }
  where
    own : get_or (set marks h 255) h 0 ≡ 255
    own = get_or-set_same marks h 255 0 (omega (arith, r.long))

    -- what was 255 stays so
    stays : (k : ℕ) → get_or marks k 0 ≡ 255 → get_or (set marks h 255) k 0 ≡ 255
    stays k q = go (eqb k h) refl
      where
        go : (b : Bool) → eqb k h ≡ b → get_or (set marks h 255) k 0 ≡ 255
        go true p = ap (λ (k : ℕ). get_or (set marks h 255) k 0) (eqb-true k h p) ∙ own
        go false p = get_or-set_other marks h k 255 0 (eqb-false k h p) ∙ q

    higher : (j : ℕ) → j < i + 1 → get_or (set marks h 255) (product_mark w.factors w.part w.letters (get_or given j 0)) 0 ≡ 255
    higher j g = go (eqb j i) refl
      where
        go : (b : Bool) → eqb j i ≡ b → get_or (set marks h 255) (product_mark w.factors w.part w.letters (get_or given j 0)) 0 ≡ 255
        go true p =
            ap (λ (k : ℕ). get_or (set marks h 255) (product_mark w.factors w.part w.letters (get_or given k 0)) 0) (eqb-true j i p)
            ∙ ap (λ (k : ℕ). get_or (set marks h 255) k 0) (sym e) ∙ own
        go false p = stays (product_mark w.factors w.part w.letters (get_or given j 0)) (r.high j (omega (arith, eqb-false j i p)))

    others : (k : ℕ) → (get_or (set marks h 255) k 0 ≡ get_or before k 0) ⊎ (get_or (set marks h 255) k 0 ≡ 255)
    others k = go (eqb k h) refl
      where
        go : (b : Bool) → eqb k h ≡ b → (get_or (set marks h 255) k 0 ≡ get_or before k 0) ⊎ (get_or (set marks h 255) k 0 ≡ 255)
        go true p = inr (ap (λ (k : ℕ). get_or (set marks h 255) k 0) (eqb-true k h p) ∙ own)
        go false p = subst (λ (n : ℕ). (n ≡ get_or before k 0) ⊎ (n ≡ 255)) (sym (get_or-set_other marks h k 255 0 (eqb-false k h p))) (r.kept k)

-- what holds of each row times M holds of all
products-each : (P : S.Term → Type 0) (m : S.Term) (l : List ℕ) (k n : ℕ) → ((j : ℕ) → j < n → P (times_term m (row_term l (get_or rule_rows (k + j) 0))))
    → All P (map (times_term m) (row_terms l k n))
unfolding row_terms
products-each P m l k zero h = tt
products-each P m l k (suc n) h = (
  subst (λ (x : ℕ). P (times_term m (row_term l (get_or rule_rows x 0)))) (N.add-zero k) (h 0 (omega arith)),
  products-each P m l (k + 1) n (λ j g. let e : k + suc j ≡ k + 1 + j = omega arith in subst (λ (x : ℕ). P (times_term m (row_term l (get_or rule_rows x 0)))) e (h
      (suc j) (omega arith))),
)

-- all of them: the terms reached are covered
pub raised_all : (before : List ℕ) (w : StepMarks) (rows : List ℕ) (i : ℕ) (marks : List ℕ) (s : Step) → Raised before w rows i marks
    → i ≡ row_count s.rule → StepValid s → length s.letters ≡ 6
    → StepMarked s.letters (term_of s.m) w → RowsOf s.rule rows → Carried before (step_of s) marks
unfolding Carried step_of Covering Shows
raised_all before w given i marks s r e v six m o ts q =
    into-covered marks ts (step_terms (record { rule = s.rule; letters = take (rule_letters s.rule) s.letters; m = term_of s.m }))
    (subst (All (λ (p : S.Term). get_or marks (mark_of p) 0 ≡ 255))
    (ap (map (times_term (term_of s.m))) (tied s.rule v.rule s.letters six)
    ∙ sym (step_terms-rule (record { rule = s.rule; letters = take (rule_letters s.rule) s.letters; m = term_of s.m })))
    (products-each (λ (p : S.Term). get_or marks (mark_of p) 0 ≡ 255) (term_of s.m) s.letters (first_row s.rule) (row_count s.rule)
    (λ j h. ap (λ (k : ℕ). get_or marks k 0) (sym (row-marked w given s v.rule m o j h _ refl)) ∙ r.high j (omega (arith, e)))))
    (still ts q)
  where
    shown : (k : ℕ) (c : ℤ) → (get_or marks k 0 ≡ get_or before k 0) ⊎ (get_or marks k 0 ≡ 255) → Shows (get_or before k 0) c → Shows (get_or marks k 0) c
    shown k c (inl e) b = subst (λ (n : ℕ). Shows n c) (sym e) b
    shown k c (inr e) b = inr e

    still : (ts : List S.Term) → Covering before ts → Covering marks ts
    still ts = all_implies (λ (u : S.Term). Shows (get_or before (mark_of u) 0) u.coef) (λ (u : S.Term). Shows (get_or marks (mark_of u) 0) u.coef)
        (λ u b. shown (mark_of u) u.coef (r.kept (mark_of u)) b) ts
