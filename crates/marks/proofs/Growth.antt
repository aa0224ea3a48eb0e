-- How many terms there are after others are put in: each takes away at most one; one whose mark no term has adds one, and one whose size no term with its mark
-- has
-- takes none away. Assumes nothing.
use mathlib.Core.Path.{◌≡◌, refl, sym, ap, subst, ◌∙◌}
use mathlib.Core.Bool.{Bool, true, false}
use mathlib.Core.Logic.{◌⊎◌, inl, inr}
use mathlib.Core.List.{List, [], ◌∷◌, ◌++◌}
use Prim.Native.Nat.{ℕ, zero, suc, ◌+◌, ◌*◌, ◌≤◌, Ordering}
use native.Mathlib.Nat as N
use native.Mathlib.Omega.{arith}
use lib.IntN.{ℤ, pos, negsuc, nat_abs, ◌+ℤ◌, ◌*ℤ◌}
use lib.ListN.{length, get_or, length-append}
use Rattle.algebra.specs.Integers.{NonZero, nat_abs-neg, nat_abs_*ℤ, nat_abs_zero, neg_unique}
use Rattle.specification.specs.Results.{when◌then◌else◌}
use Rattle.specification.specs.Lists.{by_order}
use Rattle.specification.specs.Terms.{compare_terms, factors_sign, exchange_sign, with_coef, is_zero, keep, insert, gather_into, tidy}
use Rattle.specification.specs.Terms as S
use Rattle.theory.specs.Elements.{All, all_implies, both_all}
use Rattle.theory.specs.Order.{compare_terms_eq}
use Rattle.theory.specs.Gathering.Gathered.{into-join}
use Rattle.marking.specs.Marks.{mark_of, Shows, Covering}
use Rattle.marks.specs.Steps.{Among}
use Rattle.marking.proofs.MarkedTerms.{mark-like, mark-tidy, shows_some}
use Rattle.theory.specs.Units.{sign-unit}

keep-long : (t : S.Term) (l : List S.Term) → length l ≤ length (keep t l)
unfolding keep
keep-long t l = go (is_zero t.coef)
  where
    go : (b : Bool) → length l ≤ length (when b then l else t ∷ l)
    go true = omega arith
    go false = omega arith

keep_more : (t : S.Term) (l : List S.Term) → NonZero t.coef → keep t l ≡ t ∷ l
unfolding keep is_zero
keep_more t l h = go t.coef h
  where
    go : (c : ℤ) → NonZero c → (when is_zero c then l else t ∷ l) ≡ t ∷ l
    go (pos zero) n = absurd (n refl)
    go (pos (suc k)) n = refl
    go (negsuc k) n = refl

-- a term takes away at most one
insert-long : (t : S.Term) (l : List S.Term) → length l ≤ length (insert t l) + 1
unfolding insert
insert-long t [] = omega arith
insert-long t (u ∷ l) = go (compare_terms t u) (insert-long t l)
  where
    go : (o : Ordering) → length l ≤ length (insert t l) + 1
        → suc (length l) ≤ length (by_order o (keep t (u ∷ l)) (keep (with_coef (t.coef +ℤ u.coef) u) l) (u ∷ insert t l)) + 1
    go Ordering.lt ih = omega (arith, keep-long t (u ∷ l))
    go Ordering.eq ih = omega (arith, keep-long (with_coef (t.coef +ℤ u.coef) u) l)
    go Ordering.gt ih = omega arith

-- one that is like none and does not vanish adds one
insert_more : (t : S.Term) (l : List S.Term) → NonZero t.coef → All (λ (u : S.Term). mark_of t ≡ mark_of u → ⊥) l → length (insert t l) ≡ length l + 1
unfolding insert
insert_more t [] h a = ap length (keep_more t [] h)
insert_more t (u ∷ l) h a = go (compare_terms t u) (compare_terms_eq t u) (insert_more t l h a.1)
  where
    go : (o : Ordering) → (o ≡ Ordering.eq → (t.part ≡ u.part) × (t.factors ≡ u.factors)) → length (insert t l) ≡ length l + 1
        → length (by_order o (keep t (u ∷ l)) (keep (with_coef (t.coef +ℤ u.coef) u) l) (u ∷ insert t l)) ≡ suc (length l) + 1
    go Ordering.lt e ih = omega (arith, ap length (keep_more t (u ∷ l) h))
    go Ordering.eq e ih = let w = e refl in absurd (a.0 (mark-like t u w.0 w.1))
    go Ordering.gt e ih = omega arith

-- ════ a term that cancels another

-- a coefficient that a term takes away has the size of the term's, whatever its sign
cancelled : (t : S.Term) (c : ℤ) → NonZero c → (tidy t).coef +ℤ c ≡ pos 0 → nat_abs c ≡ nat_abs t.coef
unfolding tidy
cancelled t c z e =
    let sign = factors_sign t.factors *ℤ exchange_sign t.part in
    let same : nat_abs c ≡ nat_abs t.coef * nat_abs sign = ap nat_abs (neg_unique (t.coef *ℤ sign) c e) ∙ nat_abs-neg (t.coef *ℤ sign)
    ∙ nat_abs_*ℤ t.coef sign in
    by-unit (nat_abs sign) (sign-unit t) same
  where
    by-unit : (n : ℕ) → n ≤ 1 → nat_abs c ≡ nat_abs t.coef * n → nat_abs c ≡ nat_abs t.coef
    by-unit zero h q = absurd (z (nat_abs_zero c (q ∙ N.mul-zero (nat_abs t.coef))))
    by-unit (suc zero) h q = q ∙ N.mul-one (nat_abs t.coef)
    by-unit (suc (suc n)) h q = absurd (omega arith)

-- one that no like term cancels takes none away
insert-kept : (t : S.Term) (l : List S.Term) → All (λ (u : S.Term). mark_of t ≡ mark_of u → NonZero (t.coef +ℤ u.coef)) l → length l ≤ length (insert t l)
unfolding insert
insert-kept t [] a = omega arith
insert-kept t (u ∷ l) a = go (compare_terms t u) (compare_terms_eq t u) (insert-kept t l a.1)
  where
    go : (o : Ordering) → (o ≡ Ordering.eq → (t.part ≡ u.part) × (t.factors ≡ u.factors)) → length l ≤ length (insert t l)
        → suc (length l) ≤ length (by_order o (keep t (u ∷ l)) (keep (with_coef (t.coef +ℤ u.coef) u) l) (u ∷ insert t l))
    go Ordering.lt e ih = keep-long t (u ∷ l)
    go Ordering.eq e ih =
        let w = e refl in
        omega (arith, ap length (keep_more (with_coef (t.coef +ℤ u.coef) u) l (a.0 (mark-like t u w.0 w.1))))
    go Ordering.gt e ih = omega arith

-- what holds of all terms, and of every term with the mark of the one that is put in, holds after it is put in
module _ (P : S.Term → Type 0) (t : S.Term) (here : (u : S.Term) → mark_of u ≡ mark_of t → P u) where
  keep_all : (u : S.Term) (l : List S.Term) → mark_of u ≡ mark_of t → All P l → All P (keep u l)
  unfolding keep
  keep_all u l e a = go (is_zero u.coef)
    where
      go : (b : Bool) → All P (when b then l else u ∷ l)
      go true = a
      go false = (here u e, a)

  insert_all : (l : List S.Term) → All P l → All P (insert t l)
  unfolding insert mark_of
  insert_all [] a = keep_all t [] refl tt
  insert_all (u ∷ l) a = go (compare_terms t u) (compare_terms_eq t u) (insert_all l a.1)
    where
      go : (o : Ordering) → (o ≡ Ordering.eq → (t.part ≡ u.part) × (t.factors ≡ u.factors)) → All P (insert t l)
          → All P (by_order o (keep t (u ∷ l)) (keep (with_coef (t.coef +ℤ u.coef) u) l) (u ∷ insert t l))
      go Ordering.lt e ih = keep_all t (u ∷ l) refl a
      go Ordering.eq e ih = let w = e refl in keep_all (with_coef (t.coef +ℤ u.coef) u) l (sym (mark-like t u w.0 w.1)) a.1
      go Ordering.gt e ih = (a.0, ih)

-- ════ one term after the other

-- one more mark behind others
pub among-before : (h k : ℕ) (l : List ℕ) → Among h l → Among h (l ++ k ∷ [])
unfolding Among
among-before h k [] a = absurd a
among-before h k (x ∷ l) (inl e) = inl e
among-before h k (x ∷ l) (inr a) = inr (among-before h k l a)

among_last : (h k : ℕ) (l : List ℕ) → h ≡ k → Among h (l ++ k ∷ [])
unfolding Among
among_last h k [] e = inl e
among_last h k (x ∷ l) e = inr (among_last h k l e)

-- a term that stands as it did, with its size at its mark, or one whose mark was seen since
abbrev Marked : (marks seen : List ℕ) → S.Term → Type 0
Marked marks seen u = (Shows (get_or marks (mark_of u) 0) u.coef × NonZero u.coef) ⊎ Among (mark_of u) seen

-- the score of the terms put in, each of which changes the number of terms by at least its score less 1; and the marks of all that stand are known
pub record Ahead (marks seen : List ℕ) (ts ps : List S.Term) (score : ℕ) : Type 0 where
  pub marked : All (Marked marks seen) (gather_into ts ps)
  pub long : length ts + score ≤ length (gather_into ts ps) + length ps

-- none yet
pub ahead_none : (marks : List ℕ) (ts : List S.Term) → Covering marks ts → All (λ (u : S.Term). NonZero u.coef) ts → Ahead marks [] ts [] 0
unfolding Covering gather_into
ahead_none marks ts h z = record {
  marked = all_implies (λ (u : S.Term). Shows (get_or marks (mark_of u) 0) u.coef × NonZero u.coef) (Marked marks []) (λ u e. inl e) ts
      (both_all (λ (u : S.Term). Shows (get_or marks (mark_of u) 0) u.coef) (λ (u : S.Term). NonZero u.coef) ts h z);
  long = omega arith;
}

one_more : (ts ps : List S.Term) (t : S.Term) → gather_into ts (ps ++ t ∷ []) ≡ insert (tidy t) (gather_into ts ps)
unfolding gather_into
one_more ts ps t = into-join ts ps (t ∷ [])

module _ (marks seen : List ℕ) (ts ps : List S.Term) (score : ℕ) (w : Ahead marks seen ts ps score) (t : S.Term) where
  -- its mark is known from now on
  marked_more : All (Marked marks (seen ++ mark_of t ∷ [])) (gather_into ts (ps ++ t ∷ []))
  marked_more =
      subst (All (Marked marks (seen ++ mark_of t ∷ []))) (sym (one_more ts ps t))
      (insert_all (Marked marks (seen ++ mark_of t ∷ [])) (tidy t) (λ u e. inr (among_last (mark_of u) (mark_of t) seen (e ∙ mark-tidy t))) (gather_into ts ps)
      (all_implies (Marked marks seen) (Marked marks (seen ++ mark_of t ∷ [])) keeps (gather_into ts ps) w.marked))
    where
      keeps : (u : S.Term) → Marked marks seen u → Marked marks (seen ++ mark_of t ∷ []) u
      keeps u (inl e) = inl e
      keeps u (inr e) = inr (among-before (mark_of u) (mark_of t) seen e)

  -- any term
  pub ahead_more : Ahead marks (seen ++ mark_of t ∷ []) ts (ps ++ t ∷ []) score
  ahead_more = record {
    marked = marked_more;
    long = omega (arith, w.long, insert-long (tidy t) (gather_into ts ps), ap length (one_more ts ps t), length-append ps (t ∷ []));
  }

  module _ (unseen : Among (mark_of t) seen → ⊥) where
    -- what stands with its mark stands as it did
    before : (u : S.Term) → Marked marks seen u → mark_of (tidy t) ≡ mark_of u → Shows (get_or marks (mark_of t) 0) u.coef × NonZero u.coef
    before u (inl m) e = (subst (λ (n : ℕ). Shows (get_or marks n 0) u.coef) (sym (sym (mark-tidy t) ∙ e)) m.0, m.1)
    before u (inr m) e = absurd (unseen (subst (λ (n : ℕ). Among n seen) (sym (sym (mark-tidy t) ∙ e)) m))

    -- one that is surely new
    pub ahead-new : get_or marks (mark_of t) 0 ≡ 0 → NonZero (tidy t).coef → Ahead marks (seen ++ mark_of t ∷ []) ts (ps ++ t ∷ []) (score + 2)
    ahead-new a z = record {
      marked = marked_more;
      long = omega (arith, w.long, insert_more (tidy t) (gather_into ts ps) z unlike, ap length (one_more ts ps t), length-append ps (t ∷ []));
    }
      where
        unlike : All (λ (u : S.Term). mark_of (tidy t) ≡ mark_of u → ⊥) (gather_into ts ps)
        unlike = all_implies (Marked marks seen) (λ (u : S.Term). mark_of (tidy t) ≡ mark_of u → ⊥)
            (λ u m e. shows_some u.coef (subst (λ (v : ℕ). Shows v u.coef) a (before u m e).0)) (gather_into ts ps) w.marked

    -- one that surely takes none away
    pub ahead-kept : ((c : ℤ) → nat_abs c ≡ nat_abs t.coef → Shows (get_or marks (mark_of t) 0) c → ⊥) → Ahead marks (seen ++ mark_of t ∷ []) ts (ps ++ t ∷ [])
        (score + 1)
    ahead-kept k = record {
      marked = marked_more;
      long = omega (arith, w.long, insert-kept (tidy t) (gather_into ts ps) unlike, ap length (one_more ts ps t), length-append ps (t ∷ []));
    }
      where
        unlike : All (λ (u : S.Term). mark_of (tidy t) ≡ mark_of u → NonZero ((tidy t).coef +ℤ u.coef)) (gather_into ts ps)
        unlike = all_implies (Marked marks seen) (λ (u : S.Term). mark_of (tidy t) ≡ mark_of u → NonZero ((tidy t).coef +ℤ u.coef))
            (λ u m e z. let b = before u m e in k u.coef (cancelled t u.coef b.1 z) b.0) (gather_into ts ps) w.marked

-- the terms still to come take away at most one each
pub into-long : (ts ps : List S.Term) → length ts ≤ length (gather_into ts ps) + length ps
unfolding gather_into
into-long ts [] = omega arith
into-long ts (t ∷ ps) = omega (arith, into-long (insert (tidy t) ts) ps, insert-long (tidy t) ts)

-- ════ marks carried over

-- terms put in at whose marks 255 stands leave all covered
pub into-covered : (marks : List ℕ) (ts ps : List S.Term) → All (λ (p : S.Term). get_or marks (mark_of p) 0 ≡ 255) ps → Covering marks ts
    → Covering marks (gather_into ts ps)
unfolding Covering gather_into Shows
into-covered marks ts [] a w = w
into-covered marks ts (p ∷ ps) a w =
    into-covered marks (insert (tidy p) ts) ps a.1
    (insert_all (λ (u : S.Term). Shows (get_or marks (mark_of u) 0) u.coef) (tidy p) (λ u e. inr (ap (λ (n : ℕ). get_or marks n 0) (e ∙ mark-tidy p)
    ∙ a.0)) ts w)
