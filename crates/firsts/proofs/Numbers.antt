-- Numbers in a row compared, and "the first of a union is the least of the firsts": one more polynomial keeps what is known of all so far.
-- Assumes nothing.
use mathlib.Core.Path.{◌≡◌, refl, sym, ◌∙◌, ap, subst}
use mathlib.Core.Bool.{Bool, true, false}
use mathlib.Core.Logic.{◌⊎◌}
use mathlib.Core.List.{List}
use Prim.Native.Nat.{ℕ, ◌+◌, ◌*◌, ◌≤◌, ◌<◌}
use native.Mathlib.Nat as N
use native.Mathlib.Omega.{arith}
use lib.IntN.{ℤ, pos}
use lib.ListN.{length, get_or, take, drop}
use Rattle.algebra.specs.Numbers.{below_more}
use Rattle.theory.specs.Values.Firsts.{Alike, before_here, not-before, before-trans, before-alike, alike-before, not_after}
use Rattle.polynomials.specs.Summands.{Summand, weigh, total}
use Rattle.elimination.specs.Elimination.{Gives, ZeroBefore, First, Eliminated}
use Rattle.firsts.specs.Keeping.{IsBefore, Lowered, earlier, later, Kept, none, only, least, FirstSoFar, SoFar}

-- ════ numbers compared

module _ (n i : ℕ) (s t : List ℕ) (h : Alike i s t) where
  -- the first has the lesser number
  pub says-before : i < n → get_or s i 0 < get_or t i 0 → IsBefore n s t true
  says-before l k = record { yes = λ e. before_here n i s t h l k; no = λ e. absurd (let z : ◌≡◌ {A = ℕ} 0 1 = cc in omega arith) }

  -- the second has, or there is no further
  pub says-not : (get_or t i 0 < get_or s i 0) ⊎ (n ≤ i) → IsBefore n s t false
  says-not k = record { yes = λ e. absurd (let z : ◌≡◌ {A = ℕ} 0 1 = cc in omega arith); no = λ e. not-before n i s t h k }

-- ════ one more polynomial

-- how many numbers an assignment has
abbrev count : (table : List ℕ) → ℕ
count table = 3 * length table

module _ (table : List ℕ) (ms : List Summand) where
  -- numbers that are alike are the first where the others are
  first_alike : (b c : List ℕ) → Alike (count table) b c → First table ms c → First table ms b
  unfolding Gives ZeroBefore
  first_alike b c h w =
      record {
        within = λ x l. N.le_trans (N.le_of_eq (h x l)) (w.within x l);
        nonzero = λ σ g. w.nonzero σ (λ x l. g x l ∙ ap pos (h x l));
        earliest = λ s σ g k. w.earliest s σ g (before-alike (count table) s b c k h);
      }

  -- the numbers t come before those of the buffer and are written over them
  pub lowered-earlier : (z t b b' : List ℕ) (r : Bool) → Eliminated table ms z t → IsBefore (count table) t b r → r ≡ true
      → length b' ≡ length b → Alike (count table) b' t → drop (count table) b' ≡ drop (count table) b → Lowered table ms b b'
  lowered-earlier z t b b' r e k q same h d =
      earlier (alike-before (count table) b' t b h (k.yes q)) (record { same_length = same; behind = d; first = first_alike b' t h e.first })

  -- they do not: what comes before those of the buffer comes before them
  pub lowered-later : (z t b : List ℕ) (r : Bool) → Eliminated table ms z t → IsBefore (count table) t b r → r ≡ false → Lowered table ms b b
  unfolding ZeroBefore
  lowered-later z t b r e k q = later refl (λ s σ g h. e.first.earliest s σ g (not_after (count table) b t s (k.no q) h))

-- a polynomial without a summand changes nothing
pub kept_none : (table : List ℕ) (n : ℕ) (ms : List Summand) (found : Bool) (b : List ℕ) → n ≡ 0 → Kept table (take n ms) found b found b
kept_none table n ms found b e = none (ap (λ (k : ℕ). take k ms) e) refl refl

-- nothing is looked at yet
pub so_far-starts : (table : List ℕ) (P : ℕ → List Summand) (lent : List ℕ) → SoFar table P 0 false lent lent
unfolding SoFar
so_far-starts table P lent = record { zeros = λ j l. absurd (N.not-suc-le-zero l); stands = refl }

module _ (table : List ℕ) (P : ℕ → List Summand) (i : ℕ) (lent : List ℕ) (ms : List Summand) (value : (σ : ℕ → ℤ) → total σ ms ≡ total σ (P i)) where
  -- before other numbers, all so far and one more are 0
  all_before : (b : List ℕ) → ((j : ℕ) → j < i → ZeroBefore table (P j) b) → ZeroBefore table ms b → (j : ℕ) → j < i + 1 → ZeroBefore table (P j) b
  unfolding ZeroBefore
  all_before b h z = below_more (λ (j : ℕ). ZeroBefore table (P j) b) i h (λ s σ g k. sym (value σ) ∙ z s σ g k)

  -- its numbers are the first of all, where those before are 0 under all numbers before them
  first_chosen : (b b' : List ℕ) → length b ≡ length lent → drop (count table) b ≡ drop (count table) lent → Eliminated table ms b b'
      → ((j : ℕ) → j < i → ZeroBefore table (P j) b') → FirstSoFar table P (i + 1) lent b'
  first_chosen b b' same d e h =
      record {
        same_length = e.same_length ∙ same;
        behind = e.behind ∙ d;
        within = e.first.within;
        which = i;
        is_one = omega arith;
        nonzero = λ σ g q. e.first.nonzero σ g (value σ ∙ q);
        earliest = all_before b' h e.first.earliest;
      }

  -- those that stand are the first of all, where one more is 0 under all numbers before them
  first_stands : (b : List ℕ) → FirstSoFar table P i lent b → ZeroBefore table ms b → FirstSoFar table P (i + 1) lent b
  first_stands b w z =
      record {
        same_length = w.same_length;
        behind = w.behind;
        within = w.within;
        which = w.which;
        is_one = omega (arith, w.is_one);
        nonzero = w.nonzero;
        earliest = all_before b w.earliest z;
      }

  -- one more polynomial keeps what is known
  pub so_far_more : (found r : Bool) (b b' : List ℕ) → SoFar table P i found lent b → Kept table ms found b r b' → SoFar table P (i + 1) r lent b'
  unfolding SoFar ZeroBefore weigh
  so_far_more found r b b' w (none e q p) =
      subst (λ (x : Bool). SoFar table P (i + 1) x lent b') (sym q) (subst (SoFar table P (i + 1) found lent) (sym p) (go found w))
    where
      go : (found : Bool) → SoFar table P i found lent b → SoFar table P (i + 1) found lent b
      go false w =
          record { zeros = below_more (λ (j : ℕ). (σ : ℕ → ℤ) → total σ (P j) ≡ pos 0) i w.zeros (λ σ. sym (value σ) ∙ ap (total σ) e); stands = w.stands }
      go true w = first_stands b w (λ s σ g h. ap (total σ) e)
  so_far_more found r b b' w (only z q e) =
      let v = subst (λ (x : Bool). SoFar table P i x lent b) z w in
      subst (λ (x : Bool). SoFar table P (i + 1) x lent b') (sym q)
      (first_chosen b b' (ap length v.stands) (ap (drop (count table)) v.stands) e (λ j l s σ g h. v.zeros j l σ))
  so_far_more found r b b' w (least z q k) = subst (λ (x : Bool). SoFar table P (i + 1) x lent b') (sym q) (go k)
    where
      v : FirstSoFar table P i lent b
      v = subst (λ (x : Bool). SoFar table P i x lent b) z w

      go : Lowered table ms b b' → FirstSoFar table P (i + 1) lent b'
      go (earlier k e) =
          first_chosen b b' v.same_length v.behind e (λ j l s σ g h. v.earliest j l s σ g (before-trans (count table) s b' b h k))
      go (later p z) = subst (FirstSoFar table P (i + 1) lent) (sym p) (first_stands b v z)
