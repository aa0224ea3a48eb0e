-- A test and the choice that it makes: `cond` by its two branches, and the tests of two numbers. Assumes nothing.
use Rattle.std.specs.Prelude.{◌≡◌, refl, Bool, true, false, not, cond, ◌⊎◌, ℕ, ◌≤◌, ◌<◌, T, ltb, eqb}
use Rattle.std.proofs.Common.{inl, inr, ltb-true, ltb-false, eqb-true, eqb→eq}
use Rattle.std.proofs.lemmas.Bool.{eqb-false}
use Rattle.std.proofs.Math.Dec.{eqb_refl}

-- what holds of each branch under its test holds of the choice
pub cond_either : {A : Type 0} (b : Bool) (x y : A) (P : A → Type 0) → (T b → P x) → (T (not b) → P y) → P (cond b x y)
cond_either true x y P f g = f tt
cond_either false x y P f g = g tt

-- a number passes the test against itself
pub eqb-self : (x : ℕ) → eqb x x ≡ true
eqb-self x = go (eqb x x) (eqb_refl x)
  where
    go : (b : Bool) → T b → b ≡ true
    go true t = refl
    go false t = absurd t

-- and fails it against another
pub eqb_ne : (x y : ℕ) → ¬ (x ≡ y) → eqb x y ≡ false
eqb_ne x y h = go (eqb x y) (λ t. h (eqb→eq x y t))
  where
    go : (b : Bool) → (T b → ⊥) → b ≡ false
    go true f = absurd (f tt)
    go false f = refl

-- equal, or not
pub eq-or-ne : (a b : ℕ) → (a ≡ b) ⊎ ¬ (a ≡ b)
eq-or-ne a b = go (eqb a b) refl
  where
    go : (t : Bool) → eqb a b ≡ t → (a ≡ b) ⊎ ¬ (a ≡ b)
    go true e = inl (eqb-true a b e)
    go false e = inr (eqb-false a b e)

-- below, or not
pub lt_or_le : (a b : ℕ) → (a < b) ⊎ (b ≤ a)
lt_or_le a b = go (ltb a b) refl
  where
    go : (t : Bool) → ltb a b ≡ t → (a < b) ⊎ (b ≤ a)
    go true e = inl (ltb-true a b e)
    go false e = inr (ltb-false a b e)
