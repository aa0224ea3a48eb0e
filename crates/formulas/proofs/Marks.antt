-- The bytes that go on: a factor, a sign, an operator of a level; where the operands of one begin. Assumes nothing.
use mathlib.Core.Path.{◌≡◌, refl, sym, ◌∙◌, ap}
use mathlib.Core.Bool.{Bool, true, false, true≢false, ◌&&◌}
use mathlib.Core.List.{List}
use Prim.Native.Nat.{ℕ, zero, suc, ◌≤◌, ◌<◌}
use borrow.Author.Tests.{eq-eqb, ne_eqb, le-leb, lt-leb}
use lib.Dec.{eqb}
use lib.ListN.{length, get_or}
use Rattle.specification.specs.Results.{when◌then◌else◌}
use Rattle.specification.specs.Text.{is_letter, is_digit, is_factor, is_sign, next, factor_at}
use Rattle.theory.specs.Text.OnTheWay.{goes_on, most_of, isFront, operand_at, front_at}
use Rattle.theory.specs.Text.Turns.{byte-there}

-- ════ numbers

-- none may stand here
pub number-none : (number : Bool) (b : ℕ) → number ≡ false → false ≡ (number && is_digit b)
number-none true b e = absurd (true≢false e)
number-none false b e = refl

-- where one may, it begins with a digit
pub number-digit : (number t : Bool) (b : ℕ) → number ≡ true → t ≡ is_digit b → t ≡ (number && is_digit b)
number-digit true t b e h = h
number-digit false t b e h = absurd (true≢false (sym e))

-- ════ factors

module _ (b : ℕ) where
  -- a star
  pub factor-star : b ≡ 42 → true ≡ is_factor b
  unfolding is_factor
  factor-star e = rw (eq-eqb b 42 e)

  -- a letter
  pub factor-letter : (t : Bool) → (b ≡ 42 → ⊥) → t ≡ is_letter b → t ≡ true → true ≡ is_factor b
  unfolding is_factor
  factor-letter t n h e = rw (ne_eqb b 42 n, sym h ∙ e)

  -- else an opening parenthesis
  pub factor-else : (t : Bool) → (b ≡ 42 → ⊥) → t ≡ is_letter b → t ≡ false → eqb b 40 ≡ is_factor b
  unfolding is_factor
  factor-else t n h e = rw (ne_eqb b 42 n, sym h ∙ e)

  -- ════ signs

  pub sign-plus : b ≡ 43 → true ≡ is_sign b
  unfolding is_sign
  sign-plus e = rw (eq-eqb b 43 e)

  pub sign-else : (b ≡ 43 → ⊥) → eqb b 45 ≡ is_sign b
  unfolding is_sign
  sign-else n = rw (ne_eqb b 43 n)

  -- ════ operators of a level

  module _ (level : ℕ) where
    pub on_wedge : level ≡ 1 → eqb b 94 ≡ goes_on level b
    unfolding goes_on
    on_wedge e = rw (eq-eqb level 1 e)

    module _ (one : level ≡ 1 → ⊥) where
      pub on_dot : level ≡ 2 → eqb b 46 ≡ goes_on level b
      unfolding goes_on
      on_dot e = rw (ne_eqb level 1 one, eq-eqb level 2 e)

      module _ (two : level ≡ 2 → ⊥) where
        pub on_product : (t : Bool) → level ≡ 3 → t ≡ is_factor b → t ≡ goes_on level b
        unfolding goes_on
        on_product t e h = h ∙ rw (ne_eqb level 1 one, ne_eqb level 2 two, eq-eqb level 3 e)

        pub on_sum : (t : Bool) → (level ≡ 3 → ⊥) → t ≡ is_sign b → t ≡ goes_on level b
        unfolding goes_on
        on_sum t three h = h ∙ rw (ne_eqb level 1 one, ne_eqb level 2 two, ne_eqb level 3 three)

-- at most one
pub most_one : (level n : ℕ) → level ≤ 2 → 1 ≡ most_of level n
unfolding most_of
most_one level n h = rw (le-leb level 2 h)

-- as many as there are bytes
pub most_all : (level n : ℕ) → 2 < level → n ≡ most_of level n
unfolding most_of
most_all level n h = rw (lt-leb level 2 h)

-- ════ where the operands begin

nothing-goes : (level : ℕ) → goes_on level 0 ≡ false
unfolding goes_on is_factor is_sign is_letter
nothing-goes level = go (eqb level 1) (eqb level 2) (eqb level 3)
  where
    go : (a b c : Bool) → (when a then false else when b then false else when c then false else false) ≡ false
    go true b c = refl
    go false true c = refl
    go false false true = refl
    go false false false = refl

module _ (s : List ℕ) (at : ℕ) where
  -- a byte that is not 0 is there
  byte_inside : (get_or s at 0 ≡ 0 → ⊥) → at < length s
  byte_inside h = go (get_or s at 0) refl
    where
      go : (b : ℕ) → get_or s at 0 ≡ b → at < length s
      go zero e = absurd (h e)
      go (suc b) e = byte-there s at b e

  -- an operator stands inside the text
  pub on_inside : (level : ℕ) → goes_on level (get_or s at 0) ≡ true → at < length s
  on_inside level h = byte_inside (λ e. true≢false (sym h ∙ ap (goes_on level) e ∙ nothing-goes level))

  -- so does a sign
  pub sign-inside : (b : ℕ) (t : Bool) → b ≡ get_or s at 0 → t ≡ is_sign b → t ≡ true → at < length s
  unfolding is_sign
  sign-inside b t p q e = byte_inside (λ z. true≢false (sym e ∙ q ∙ ap is_sign (p ∙ z)))

  module _ (level : ℕ) where
    -- behind the operator
    pub operand-behind : (r : ℕ) → (level ≡ 3 → ⊥) → r ≡ next s at → r ≡ operand_at s level at
    unfolding operand_at
    operand-behind r n e = e ∙ rw (ne_eqb level 3 n)

    -- side by side
    pub operand-beside : (b : ℕ) → level ≡ 3 → b ≡ get_or s at 0 → (b ≡ 42 → ⊥) → at ≡ operand_at s level at
    unfolding operand_at factor_at
    operand-beside b e p n = rw (eq-eqb level 3 e, ne_eqb (get_or s at 0) 42 (λ q. n (p ∙ q)))

    -- behind a star
    pub operand-star : (b r : ℕ) → level ≡ 3 → b ≡ get_or s at 0 → b ≡ 42 → r ≡ next s at → r ≡ operand_at s level at
    unfolding operand_at factor_at
    operand-star b r e p q h = h ∙ rw (eq-eqb level 3 e, eq-eqb (get_or s at 0) 42 (sym p ∙ q))

    -- no sum
    pub front-other : (level ≡ 4 → ⊥) → at ≡ front_at s level at
    unfolding front_at isFront
    front-other n = rw (ne_eqb level 4 n)

    module _ (b : ℕ) (t : Bool) (four : level ≡ 4) (p : b ≡ get_or s at 0) (q : t ≡ is_sign b) where
      sign-is : is_sign (get_or s at 0) ≡ t
      sign-is = ap is_sign (sym p) ∙ sym q

      -- no sign in front
      pub front_none : t ≡ false → at ≡ front_at s level at
      unfolding front_at isFront
      front_none e = rw (eq-eqb level 4 four, sign-is ∙ e)

      -- behind a sign
      pub front-sign : (r : ℕ) → t ≡ true → r ≡ next s at → r ≡ front_at s level at
      unfolding front_at isFront
      front-sign r e h = h ∙ rw (eq-eqb level 4 four, sign-is ∙ e)
