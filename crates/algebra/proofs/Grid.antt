-- A polynomial in one variable, by its coefficients, that is 0 at as many distinct points as it has coefficients has all coefficients 0.
-- By division: p(x) = p(r) + (x − r) q(x), where q has one coefficient less. Assumes nothing.
use Rattle.std.specs.Prelude.{◌≡◌, refl, List, [], ◌∷◌, ℕ, zero, suc, ◌≤◌, ◌<◌, length, ℤ, pos, nat_abs, ◌+ℤ◌, ◌-ℤ◌, ◌*ℤ◌}
use Rattle.std.proofs.Common.{sym, ◌∙◌, ap, inl, inr, arith}
use Rattle.std.proofs.Math.Nat as N
use Rattle.std.proofs.Math.IntN as I
use Rattle.algebra.specs.Integers as R
use Rattle.algebra.proofs.Normaliser.{var, ◌⊕◌, ◌⊖◌, ◌⊗◌, solve, normalising}

-- the value at x of the polynomial with these coefficients, the constant first
unfoldable pub eval : ℤ → List ℤ → ℤ
eval x [] = pos 0
eval x (c ∷ cs) = c +ℤ x *ℤ eval x cs

-- every coefficient is 0
abbrev pub AllZero : List ℤ → Type 0
AllZero [] = Unit {0}
AllZero (c ∷ cs) = (c ≡ pos 0) × AllZero cs

-- ════ division by x − r

-- the quotient by x − r of the polynomial c + x cs, for any c
unfoldable quot : ℤ → List ℤ → List ℤ
quot r [] = []
quot r (c ∷ cs) = eval r (c ∷ cs) ∷ quot r cs

-- the numbers that the equation `division-step` is about, as its variables 0 to 4
abbrev among : ℤ → ℤ → ℤ → ℤ → ℤ → ℕ → ℤ
among c x r f w zero = c
among c x r f w (suc zero) = x
among c x r f w (suc (suc zero)) = r
among c x r f w (suc (suc (suc zero))) = f
among c x r f w (suc (suc (suc (suc n)))) = w

division-base : (c x r : ℤ) → c +ℤ x *ℤ pos 0 ≡ (c +ℤ r *ℤ pos 0) +ℤ (x -ℤ r) *ℤ pos 0
division-base c x r = simp (I.*ℤ-zero, I.+ℤ_idr)

division-step : (c x r f w : ℤ) → c +ℤ x *ℤ (f +ℤ (x -ℤ r) *ℤ w) ≡ (c +ℤ r *ℤ f) +ℤ (x -ℤ r) *ℤ (f +ℤ x *ℤ w)
unfolding normalising
division-step c x r f w =
    solve (var 0 ⊕ var 1 ⊗ (var 3 ⊕ (var 1 ⊖ var 2) ⊗ var 4)) ((var 0 ⊕ var 2 ⊗ var 3) ⊕ (var 1 ⊖ var 2) ⊗ (var 3 ⊕ var 1 ⊗ var 4))
    (among c x r f w) refl

-- p(x) = p(r) + (x − r) q(x)
division : (x r c : ℤ) (cs : List ℤ) → eval x (c ∷ cs) ≡ eval r (c ∷ cs) +ℤ (x -ℤ r) *ℤ eval x (quot r cs)
unfolding eval quot
division x r c [] = division-base c x r
division x r c (d ∷ ds) = ap (λ (z : ℤ). c +ℤ x *ℤ z) (division x r d ds) ∙ division-step c x r (eval r (d ∷ ds)) (eval x (quot r ds))

eval_zero : (x : ℤ) (cs : List ℤ) → AllZero cs → eval x cs ≡ pos 0
unfolding eval
eval_zero x [] h = refl
eval_zero x (c ∷ cs) h = simp (h.0, eval_zero x cs h.1, I.*ℤ-zero)

-- the value at r is the first coefficient where the others are 0
head_zero : (r c : ℤ) (cs : List ℤ) → AllZero cs → eval r (c ∷ cs) ≡ pos 0 → c ≡ pos 0
unfolding eval
head_zero r c cs h e = simp (eval_zero r cs h, I.*ℤ-zero, I.+ℤ_idr) at e

quot_zero : (r : ℤ) (cs : List ℤ) → AllZero (quot r cs) → AllZero cs
unfolding quot
quot_zero r [] h = tt
quot_zero r (c ∷ cs) h = (head_zero r c cs (quot_zero r cs h.1) h.0, quot_zero r cs h.1)

length-quot : (r : ℤ) (cs : List ℤ) → length (quot r cs) ≡ length cs
unfolding quot
length-quot r [] = refl
length-quot r (c ∷ cs) = ap suc (length-quot r cs)

-- ════ distinct roots

-- r is none of rs
abbrev pub Apart : ℤ → List ℤ → Type 0
Apart r [] = Unit {0}
Apart r (s ∷ rs) = ¬ (s ≡ r) × Apart r rs

-- no two are equal
abbrev pub Distinct : List ℤ → Type 0
Distinct [] = Unit {0}
Distinct (r ∷ rs) = Apart r rs × Distinct rs

-- the polynomial is 0 at each of rs
abbrev pub Roots : List ℤ → List ℤ → Type 0
Roots cs [] = Unit {0}
Roots cs (r ∷ rs) = (eval r cs ≡ pos 0) × Roots cs rs

-- another root s than r is one of the quotient: (s − r) q(s) = p(s) − p(r)
quot-root : (s r c : ℤ) (cs : List ℤ) → ¬ (s ≡ r) → eval r (c ∷ cs) ≡ pos 0 → eval s (c ∷ cs) ≡ pos 0 → eval s (quot r cs) ≡ pos 0
quot-root s r c cs ne er es =
    elim (R.no_zero-div (s -ℤ r) (eval s (quot r cs)) (simp (er, I.+ℤ_idl) at (sym (division s r c cs) ∙ es)))
    [ inl p ↦ absurd (ne (R.sub_zero→eq s r p)) | inr q ↦ q ]

quot-roots : (r c : ℤ) (cs rs : List ℤ) → Apart r rs → eval r (c ∷ cs) ≡ pos 0 → Roots (c ∷ cs) rs → Roots (quot r cs) rs
quot-roots r c cs [] a er h = tt
quot-roots r c cs (s ∷ rs) a er h = (quot-root s r c cs a.0 er h.0, quot-roots r c cs rs a.1 er h.1)

-- as many distinct roots as coefficients: all are 0
pub grid : (rs cs : List ℤ) → length cs ≤ length rs → Distinct rs → Roots cs rs → AllZero cs
grid [] [] le d h = tt
grid (r ∷ rs) [] le d h = tt
grid [] (c ∷ cs) le d h = absurd (N.not-suc-le-zero le)
grid (r ∷ rs) (c ∷ cs) le d h =
    let z : AllZero cs = quot_zero r cs (grid rs (quot r cs) (omega (arith, length-quot r cs)) d.1 (quot-roots r c cs rs d.0 h.0 h.1)) in
    (head_zero r c cs z h.0, z)

-- ════ the points 0, 1, … as roots

-- the numbers from n − 1 down to 0
unfoldable pub points : ℕ → List ℤ
points zero = []
points (suc n) = pos n ∷ points n

length-points : (n : ℕ) → length (points n) ≡ n
unfolding points
length-points zero = refl
length-points (suc n) = ap suc (length-points n)

points-apart : (n m : ℕ) → n ≤ m → Apart (pos m) (points n)
unfolding points
points-apart zero m h = tt
points-apart (suc n) m h = (λ e. omega (arith, ap nat_abs e), points-apart n m (omega arith))

-- no two of them are equal
pub points-distinct : (n : ℕ) → Distinct (points n)
unfolding points
points-distinct zero = tt
points-distinct (suc n) = (points-apart n n (N.le_refl n), points-distinct n)

points-roots : (n : ℕ) (cs : List ℤ) → ((v : ℕ) → v < n → eval (pos v) cs ≡ pos 0) → Roots cs (points n)
unfolding points
points-roots zero cs h = tt
points-roots (suc n) cs h = (h n (N.le_refl (suc n)), points-roots n cs (λ v l. h v (omega arith)))

-- a polynomial with at most n coefficients that is 0 at 0, 1, …, n − 1 has all coefficients 0
pub grid-points : (n : ℕ) (cs : List ℤ) → length cs ≤ n → ((v : ℕ) → v < n → eval (pos v) cs ≡ pos 0) → AllZero cs
grid-points n cs l h = grid (points n) cs (omega (arith, length-points n)) (points-distinct n) (points-roots n cs h)
