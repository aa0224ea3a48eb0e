-- Tests and results taken apart: a conjunction, a line of a `do` block that did not refuse. Assumes nothing.
use Rattle.std.specs.Prelude.{◌≡◌, refl, Bool, true, false, ◌&&◌, ℕ, zero, suc, T, eqb, ℤ, pos, negsuc}
use Rattle.std.proofs.Common.{sym, subst, arith}
use Rattle.std.proofs.Math.Dec.{eqb_refl}
use Rattle.algebra.specs.Integers.{NonZero}
use Rattle.specification.specs.Results.{Result, refused, given, Test, require, ◌>>◌, ◌>>=◌}
use Rattle.specification.specs.Terms.{is_zero}

-- ════ tests

-- a test that holds, as an equation to rewrite with
pub is_true : (b : Bool) → T b → b ≡ true
is_true true t = refl
is_true false t = absurd t

-- and back
pub holds : (b : Bool) → b ≡ true → T b
holds b e = subst T (sym e) tt

pub and_both : (a b : Bool) → T a → T b → T (a && b)
and_both true b s t = t
and_both false b s t = s

pub and_split : (a b : Bool) → T (a && b) → T a × T b
and_split true b t = (tt, t)
and_split false b t = absurd t

-- what fails second fails
pub and-false : (b : Bool) → (b && false) ≡ false
and-false true = refl
and-false false = refl

pub and-true : (b : Bool) → (b && true) ≡ b
and-true true = refl
and-true false = refl

pub and_same : (b : Bool) → (b && b) ≡ b
and_same true = refl
and_same false = refl

-- a number that passes the test of 0
pub is-zero : (z : ℤ) → T (is_zero z) → z ≡ pos 0
unfolding is_zero
is-zero (pos zero) t = refl
is-zero (pos (suc n)) t = absurd t
is-zero (negsuc n) t = absurd t

-- and one that does not
pub not-zero : (z : ℤ) → NonZero z → is_zero z ≡ false
unfolding is_zero
not-zero (pos zero) h = absurd (h refl)
not-zero (pos (suc n)) h = refl
not-zero (negsuc n) h = refl

-- a number passes the test against its equal
pub eqb_T : (m n : ℕ) → m ≡ n → T (eqb m n)
eqb_T m n e = subst (λ (k : ℕ). T (eqb m k)) e (eqb_refl m)

-- ════ results

module _ {A : Type 0} where
  pub refused≢given : {n : ℕ} {a : A} → refused n ≡ given a → ⊥
  refused≢given e = let z : ◌≡◌ {A = ℕ} 0 1 = cc in omega arith

  pub given_same : {a b : A} → given a ≡ given b → a ≡ b
  given_same e = cc

  -- a test in front of what was given held
  pub required : (b : Bool) (n : ℕ) (r : Result A) (a : A) → (require b n >> r) ≡ given a → T b × (r ≡ given a)
  required true n r a e = (tt, e)
  required false n r a e = absurd (refused≢given e)

  -- a test that holds is passed
  pub passes : (b : Bool) (n : ℕ) (r : Result A) → T b → (require b n >> r) ≡ r
  passes true n r t = refl
  passes false n r t = absurd t

  -- tests in front of what was given were passed
  pub tested : (t : Test) (r : Result A) (a : A) → (t >> r) ≡ given a → (t ≡ given tt) × (r ≡ given a)
  tested (refused n) r a e = absurd (refused≢given e)
  tested (given u) r a e = (refl, e)

  -- a result in front of what was given was given
  pub bound : {B : Type 0} (r : Result B) (k : B → Result A) (a : A) → (r >>= k) ≡ given a → (b : B) × (r ≡ given b) × (k b ≡ given a)
  bound (refused n) k a e = absurd (refused≢given e)
  bound (given b) k a e = (b, refl, e)

-- a test that was passed held
pub passed : (b : Bool) (n : ℕ) → ◌≡◌ {A = Test} (require b n) (given tt) → T b
passed true n e = tt
passed false n e = absurd (refused≢given e)

-- the same for long blocks: what a line gave is handed on under a name (a `let` would be written out in full in each later line)
module _ {A P : Type 0} where
  pub past : (b : Bool) (n : ℕ) (r : Result A) (a : A) → (require b n >> r) ≡ given a → (T b → r ≡ given a → P) → P
  past b n r a e f = let w = required b n r a e in f w.0 w.1

  pub into : {B : Type 0} (r : Result B) (k : B → Result A) (a : A) → (r >>= k) ≡ given a → ((b : B) → r ≡ given b → k b ≡ given a → P) → P
  into r k a e f = let w = bound r k a e in f w.0 w.1 w.2
