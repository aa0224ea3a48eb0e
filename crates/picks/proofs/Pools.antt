-- Letters brought into a pool, one after the other. Assumes nothing.
use mathlib.Core.Path.{◌≡◌, refl, sym, ap, subst, ◌∙◌}
use mathlib.Core.List.{List, [], ◌∷◌, ◌++◌, map, append_assoc, append-nil}
use Prim.Native.Nat.{ℕ, ◌+◌, ◌<◌, ◌≤◌}
use native.Mathlib.Omega.{arith}
use lib.ListN.{length, get_or, take, drop}
use Rattle.specification.specs.Lists.{joined, order, put_into, sorted}
use Rattle.terms.specs.Numbers.{letters_of}
use Rattle.terms.specs.Build.{Placed, PutAt}
use Rattle.terms.proofs.Arrays.{rest_at, nothing_left_lem}
use Rattle.picks.specs.Choosing.{Pooled, Adds}

-- ════ letters

-- no letters yet
pub pooled_none : (p : List ℕ) → length p ≡ 7 → Pooled [] p 0
unfolding sorted
pooled_none p e = record { places = e; few = omega arith; all = λ h. refl; many = λ h. absurd (omega arith); is = λ h. refl; small = tt }

-- seven or more, and one more
pub adds-many : (p : List ℕ) (n x : ℕ) → length p ≡ 7 → x < 256 → 6 < n → Adds (x ∷ []) p n p 7
adds-many p n x e b h = record {
  few = omega arith;
  places = e;
  adds = λ l w. record {
    places = w.places;
    few = omega arith;
    all = λ g. absurd (omega arith);
    many = λ g. omega (arith, w.many (omega (arith, w.few)));
    is = λ g. absurd (omega arith);
    small = (b, w.small);
  };
}

-- one more in its place
pub adds_one : (p q : List ℕ) (n x i : ℕ) → x < 256 → n ≤ 6 → Placed (take n p) x i → PutAt p n i x q → Adds (x ∷ []) p n q (n + 1)
unfolding sorted
adds_one p q n x i b h at put = record {
  few = omega arith;
  places = put.length;
  adds = λ l w. record {
    places = put.length;
    few = omega arith;
    all = λ g. omega (arith, w.all (omega arith));
    many = λ g. omega (arith, w.all (omega arith));
    is = λ g. put.is ∙ at.splits ∙ ap (put_into order x) (w.is (omega arith));
    small = (b, w.small);
  };
}

-- nothing brought in
pub adds_none : (p : List ℕ) (n : ℕ) → n ≤ 7 → length p ≡ 7 → Adds [] p n p n
adds_none p n h e = record { few = h; places = e; adds = λ l w. w }

-- one list behind another
pub adds_both : {xs ys p q r : List ℕ} {k m n : ℕ} → Adds ys p k q m → Adds xs q m r n → Adds (xs ++ ys) p k r n
adds_both {xs} {ys} {p} {q} {r} {k} {m} {n} a b = record {
  few = b.few;
  places = b.places;
  adds = λ l w. subst (λ (v : List ℕ). Pooled v r n) (sym (append_assoc xs ys l)) (b.adds (ys ++ l) (a.adds l w));
}

-- the same letters in other words
pub adds_as : {xs ys p q : List ℕ} {k n : ℕ} → ys ≡ xs → Adds xs p k q n → Adds ys p k q n
adds_as {xs} {ys} {p} {q} {k} {n} e a = subst (λ (l : List ℕ). Adds l p k q n) (sym e) a

pub pooled_as : {l k p : List ℕ} {n : ℕ} → k ≡ l → Pooled l p n → Pooled k p n
pooled_as {l} {k} {p} {n} e w = subst (λ (l : List ℕ). Pooled l p n) (sym e) w

pub pooled_in : {l p p' : List ℕ} {n n' : ℕ} → p ≡ p' → n ≡ n' → Pooled l p' n' → Pooled l p n
pooled_in {l} {p} {p'} {n} {n'} e q w = subst (λ (p : List ℕ). Pooled l p n) (sym e) (subst (λ (n : ℕ). Pooled l p' n) (sym q) w)

-- letters brought into an empty pool
pub adds_first : {xs p q : List ℕ} {n : ℕ} → length p ≡ 7 → Adds xs p 0 q n → Pooled xs q n
adds_first {xs} {p} {q} {n} e a = subst (λ (l : List ℕ). Pooled l q n) (append-nil xs) (a.adds [] (pooled_none p e))

-- ════ factors

-- the factors from a place on
pub factors_more : {p q r : List ℕ} {k m n : ℕ} (f : List ℕ) (count i : ℕ) → count ≤ length f → i < count
    → Adds (joined (map letters_of (drop (i + 1) (take count f)))) p k q m → Adds (letters_of (get_or f i 0)) q m r n
    → Adds (joined (map letters_of (drop i (take count f)))) p k r n
unfolding joined
factors_more {p} {q} {r} {k} {m} {n} f count i h g a b =
    subst (λ (l : List ℕ). Adds (joined (map letters_of l)) p k r n) (sym (rest_at f count i 0 h g)) (adds_both a b)

pub factors_none : (p : List ℕ) (n : ℕ) (f : List ℕ) (count : ℕ) → n ≤ 7 → length p ≡ 7 → count ≤ length f
    → Adds (joined (map letters_of (drop count (take count f)))) p n p n
unfolding joined
factors_none p n f count g e h = subst (λ (l : List ℕ). Adds (joined (map letters_of l)) p n p n) (sym (nothing_left_lem f count count h (omega arith)))
    (adds_none p n g e)
