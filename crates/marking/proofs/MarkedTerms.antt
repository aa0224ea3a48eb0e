-- Marks do not depend on the order of letters and factors, so a term put in the order of forms keeps its mark. Assumes nothing.
use mathlib.Core.Path.{◌≡◌, refl, sym, ap, ◌∙◌}
use mathlib.Core.Logic.{inl, inr}
use mathlib.Core.List.{List, [], ◌∷◌, ◌++◌, map}
use Prim.Native.Nat.{ℕ, ◌+◌, ◌*◌, ◌%◌, ◌<◌}
use native.Mathlib.Nat as N
use native.Mathlib.Omega.{arith}
use lib.IntN.{ℤ, nat_abs}
use Rattle.specification.specs.Lists.{order, sorted}
use Rattle.specification.specs.Terms.{compare_letters, times_term, tidy}
use Rattle.specification.specs.Terms as S
use Rattle.theory.specs.Reordering.{Reordered, same, exchanged, behind, further, reordered-sorted}
use Rattle.marking.specs.Marks.{letter_mark, letters_mark, factors_mark, mark_of, size_mark, Shows, Sized}

letters-reordered : {k l : List ℕ} → Reordered k l → letters_mark k ≡ letters_mark l
unfolding letters_mark
letters-reordered same = refl
letters-reordered (exchanged {x = x} {y = y} {l = l}) = N.mul_left_comm (letter_mark x) (letter_mark y) (letters_mark l)
letters-reordered (behind {x = x} r) = ap (λ (n : ℕ). letter_mark x * n) (letters-reordered r)
letters-reordered (further r s) = letters-reordered r ∙ letters-reordered s

factors-reordered : {k l : List (List ℕ)} → Reordered k l → factors_mark k ≡ factors_mark l
unfolding factors_mark
factors-reordered same = refl
factors-reordered (exchanged {x = x} {y = y} {l = l}) = omega arith
factors-reordered (behind {x = x} r) = ap (λ (n : ℕ). letters_mark x + n) (factors-reordered r)
factors-reordered (further r s) = factors-reordered r ∙ factors-reordered s

letters-sorted : (l : List ℕ) → letters_mark (sorted order l) ≡ letters_mark l
letters-sorted l = sym (letters-reordered (reordered-sorted order l))

factors-each : (l : List (List ℕ)) → factors_mark (map (sorted order) l) ≡ factors_mark l
unfolding factors_mark
factors-each [] = refl
factors-each (f ∷ l) = λ i. letters-sorted f i + factors-each l i

factors-sorted : (l : List (List ℕ)) → factors_mark (sorted compare_letters (map (sorted order) l)) ≡ factors_mark l
factors-sorted l = sym (factors-reordered (reordered-sorted compare_letters (map (sorted order) l))) ∙ factors-each l

-- a term put in the order of forms keeps its mark
pub mark-tidy : (t : S.Term) → mark_of (tidy t) ≡ mark_of t
unfolding mark_of tidy
mark-tidy t = λ i. (factors-sorted t.factors i + 3 * letters-sorted t.part i) % 509

-- like terms have one mark
pub mark-like : (t u : S.Term) → t.part ≡ u.part → t.factors ≡ u.factors → mark_of t ≡ mark_of u
unfolding mark_of
mark-like t u p f = λ i. (factors_mark (f i) + 3 * letters_mark (p i)) % 509

-- ════ joined lists

pub letters-joined : (k l : List ℕ) → letters_mark (k ++ l) ≡ letters_mark k * letters_mark l
unfolding letters_mark
letters-joined [] l = sym (N.one-mul (letters_mark l))
letters-joined (x ∷ k) l = ap (λ (n : ℕ). letter_mark x * n) (letters-joined k l) ∙ sym (N.mul_assoc (letter_mark x) (letters_mark k) (letters_mark l))

pub factors-joined : (k l : List (List ℕ)) → factors_mark (k ++ l) ≡ factors_mark k + factors_mark l
unfolding factors_mark
factors-joined [] l = sym (N.zero-add (factors_mark l))
factors-joined (f ∷ k) l = ap (λ (n : ℕ). letters_mark f + n) (factors-joined k l) ∙ sym (N.add_assoc (letters_mark f) (factors_mark k) (factors_mark l))

-- the mark of a product
pub mark-product : (t u : S.Term) → mark_of (times_term t u) ≡ (factors_mark t.factors + factors_mark u.factors + 3 * (letters_mark t.part * letters_mark u.part)) % 509
unfolding mark_of times_term
mark-product t u = λ i. (factors-joined t.factors u.factors i + 3 * letters-joined t.part u.part i) % 509

-- ════ marks are small

pub mark-small : (t : S.Term) → mark_of t < 509
unfolding mark_of
mark-small t = omega arith

-- ════ what stands at a mark

-- nothing shows no coefficient
pub shows_some : (c : ℤ) → Shows 0 c → ⊥
unfolding Shows size_mark
shows_some c (inl e) = N.ne_of_lt (omega arith) e
shows_some c (inr e) = N.ne_of_lt (omega arith) e

-- coefficients of one size have one mark
pub size_same : (c d : ℤ) → nat_abs c ≡ nat_abs d → size_mark c ≡ size_mark d
unfolding size_mark
size_same c d e = ap (λ (n : ℕ). n % 253 + 1) e

-- no coefficient of a size that is known shows where another one stands
pub other-size : (w v : ℕ) → (v ≡ 0 → ⊥) → (w ≡ v → ⊥) → (w ≡ 255 → ⊥) → (c : ℤ) → Sized v c → Shows w c → ⊥
unfolding Sized Shows
other-size w v z h k c (inl e) m = z e
other-size w v z h k c (inr e) (inl m) = h (m ∙ sym e)
other-size w v z h k c (inr e) (inr m) = k m
