-- Polynomials as the functions make them: products, counts, the polynomials of factors and vector parts. Assumes nothing.
use mathlib.Core.Path.{◌≡◌, sym, ◌∙◌, ap, ap₂, subst}
use mathlib.Core.List.{List}
use Prim.Native.Nat.{ℕ, ◌+◌, ◌*◌, ◌/◌, ◌%◌, ◌<◌, ◌^◌}
use native.Mathlib.Nat as N
use native.Mathlib.Omega.{arith}
use borrow.Author.Tests.{eq-eqb, ne_eqb}
use lib.IntN.{ℤ, pos, negsuc, nat_abs, ◌*ℤ◌}
use lib.ListN.{set}
use Rattle.terms.specs.declared.types.Part.{Part}
use Rattle.terms.specs.declared.types.Part.TheVariants.{Nothing, Letter, Wedge}
use Rattle.terms.specs.Numbers.{letters_of}
use Rattle.terms.specs.declared.factors.Factor.{Factor}
use Rattle.terms.specs.declared.factors.Factor.TheVariants as F
use Rattle.terms.specs.Abstraction.{factor_of, part_of}
use Rattle.terms.proofs.Letters.{scalar_is, dot_is, triple_is, nothing_is, letter_is, wedge_is}
use Rattle.polynomials.specs.declared.expansion.Piece.{Piece}
use Rattle.polynomials.specs.declared.expansion.Block.{Block}
use Rattle.polynomials.specs.declared.expansion.Block.TheVariants.{Zero, One, Single, Dot, Triple, Cross}
use Rattle.polynomials.specs.Keys.{times_digit}
use Rattle.polynomials.specs.Summands.{Summand}
use Rattle.polynomials.specs.Memory.{summand}
use Rattle.polynomials.specs.Expansion.{digit_of, piece_sign, cross_piece, piece_at, count_of, block_of, part_block, times_piece, PieceFit, SmallBlock}

-- ════ products

abbrev make : (a b c : ℕ) (sign : ℤ) → Piece
make a b c sign = record { a = a; b = b; c = c; sign = sign }

-- the sign of a product of a wedge
pub sign-plus : (o : ℕ) → o ≡ 0 → pos 1 ≡ piece_sign o
unfolding piece_sign
sign-plus o e = rw (eq-eqb o 0 e)

pub sign-minus : (o : ℕ) → ¬ (o ≡ 0) → negsuc 0 ≡ piece_sign o
unfolding piece_sign
sign-minus o h = rw (ne_eqb o 0 h)

-- one of the two products of a component of a wedge
pub cross_is : (l m i o c a b : ℕ) (z : ℤ) → a ≡ digit_of l ((i + 1 + o) % 3) → b ≡ digit_of m ((i + 2 + 2 * o) % 3) → z ≡ piece_sign o → make a b c z ≡ cross_piece l m i o c
unfolding cross_piece
cross_is l m i o c a b z p q r = λ t. make (p t) (q t) c (r t)

module _ (f : Block) (j : ℕ) where
  -- the product number j of each kind of polynomial
  pub piece_zero : f ≡ Zero → make 0 0 0 (pos 1) ≡ piece_at f j
  unfolding piece_at
  piece_zero e = ap (λ (g : Block). piece_at g j) (sym e)

  pub piece_one : f ≡ One → make 0 0 0 (pos 1) ≡ piece_at f j
  unfolding piece_at
  piece_one e = ap (λ (g : Block). piece_at g j) (sym e)

  pub piece-single : (l i a : ℕ) → f ≡ Single l i → a ≡ digit_of l i → make a 0 0 (pos 1) ≡ piece_at f j
  unfolding piece_at
  piece-single l i a e p = ap (λ (x : ℕ). make x 0 0 (pos 1)) p ∙ ap (λ (g : Block). piece_at g j) (sym e)

  pub piece-dot : (l m a b : ℕ) → f ≡ Dot l m → a ≡ digit_of l j → b ≡ digit_of m j → make a b 0 (pos 1) ≡ piece_at f j
  unfolding piece_at
  piece-dot l m a b e p q = ap₂ (λ (x y : ℕ). make x y 0 (pos 1)) p q ∙ ap (λ (g : Block). piece_at g j) (sym e)

  pub piece-triple : (l m k c : ℕ) (r : Piece) → f ≡ Triple l m k → c ≡ digit_of k (j / 2) → r ≡ cross_piece l m (j / 2) (j % 2) c → r ≡ piece_at f j
  unfolding piece_at
  piece-triple l m k c r e p q = q ∙ ap (cross_piece l m (j / 2) (j % 2)) p ∙ ap (λ (g : Block). piece_at g j) (sym e)

  pub piece-cross : (l m i : ℕ) (r : Piece) → f ≡ Cross l m i → r ≡ cross_piece l m i j 0 → r ≡ piece_at f j
  unfolding piece_at
  piece-cross l m i r e q = q ∙ ap (λ (g : Block). piece_at g j) (sym e)

  -- so many there are
  module _ (h : j < count_of f) where
    pub few-dot : (l m : ℕ) → f ≡ Dot l m → j < 3
    unfolding count_of
    few-dot l m e = subst (λ (g : Block). j < count_of g) e h

    pub few-triple : (l m k : ℕ) → f ≡ Triple l m k → j < 6
    unfolding count_of
    few-triple l m k e = subst (λ (g : Block). j < count_of g) e h

    pub few-cross : (l m i : ℕ) → f ≡ Cross l m i → j < 2
    unfolding count_of
    few-cross l m i e = subst (λ (g : Block). j < count_of g) e h

  -- components are below 3
  pub small-single : (l i : ℕ) → SmallBlock f → f ≡ Single l i → i < 3
  small-single l i s e = (subst SmallBlock e s).1

  pub small-cross : (l m i : ℕ) → SmallBlock f → f ≡ Cross l m i → i < 3
  small-cross l m i s e = (subst SmallBlock e s).2

-- ════ polynomials

module _ (k : ℕ) (f : Factor) (e : factor_of f ≡ letters_of k) where
  -- the polynomial of a scalar letter
  pub block_one : (x : ℕ) → f ≡ F.Scalar x → Single x 0 ≡ block_of (letters_of k)
  unfolding block_of
  block_one x h = ap block_of (sym (scalar_is k f e x h))

  -- of a dot
  pub block_two : (x y : ℕ) → f ≡ F.Dot x y → Dot x y ≡ block_of (letters_of k)
  unfolding block_of
  block_two x y h = ap block_of (sym (dot_is k f e x y h))

  -- of a triple
  pub block-three : (x y z : ℕ) → f ≡ F.Triple x y z → Triple x y z ≡ block_of (letters_of k)
  unfolding block_of
  block-three x y z h = ap block_of (sym (triple_is k f e x y z h))

module _ (p : Part) (i : ℕ) where
  -- no vector part: 1 in the first component
  pub part_one : p ≡ Nothing → i ≡ 0 → One ≡ part_block i (part_of p)
  unfolding part_block
  part_one e z = sym (ap (part_block i) (nothing_is p e) ∙ rw (eq-eqb i 0 z))

  -- and 0 in the others
  pub part_zero : p ≡ Nothing → ¬ (i ≡ 0) → Zero ≡ part_block i (part_of p)
  unfolding part_block
  part_zero e z = sym (ap (part_block i) (nothing_is p e) ∙ rw (ne_eqb i 0 z))

  -- a letter
  pub part-single : (l : ℕ) → p ≡ Letter l → Single l i ≡ part_block i (part_of p)
  unfolding part_block
  part-single l e = sym (ap (part_block i) (letter_is p l e))

  -- a wedge
  pub part-cross : (l m : ℕ) → p ≡ Wedge l m → Cross l m i ≡ part_block i (part_of p)
  unfolding part_block
  part-cross l m e = sym (ap (part_block i) (wedge_is p l m e))

-- ════ a summand times a product

-- the coefficient of a product fits 64 bits
pub product-asks : (p : Piece) (m : Summand) (y z : ℤ) → PieceFit p m → y ≡ m.coef → z ≡ p.sign → nat_abs y * nat_abs z < 2 ^ 63
product-asks p m y z f e g = omega (arith, ap nat_abs e, ap nat_abs g, f.modest, N.mul-le-mul (N.le_of_eq (ap nat_abs e)) (N.le_trans (N.le_of_eq (ap nat_abs g)) f.small.unit))

-- a product as the code makes it
pub product-made : (p : Piece) (m : Summand) (k k₁ k₂ k₃ : ℕ) (y z r : ℤ) → k ≡ m.key → k₁ ≡ times_digit p.a k → k₂ ≡ times_digit p.b k₁ → k₃ ≡ times_digit p.c k₂
    → y ≡ m.coef → z ≡ p.sign → r ≡ y *ℤ z → summand k₃ r ≡ times_piece p m
unfolding times_piece
product-made p m k k₁ k₂ k₃ y z r e a b c u v w =
    ap₂ summand (c ∙ ap (times_digit p.c) (b ∙ ap (times_digit p.b) (a ∙ ap (times_digit p.a) e))) (w ∙ ap₂ (λ (s t : ℤ). s *ℤ t) u v)

-- as it is written
pub product-put : (p : Piece) (m : Summand) (k₃ : ℕ) (r y : ℤ) (ns os : List Summand) (to : ℕ) → os ≡ set ns to (summand k₃ y) → y ≡ r → summand k₃ r ≡ times_piece p m → os ≡ set ns to (times_piece p m)
product-put p m k₃ r y ns os to e g q = e ∙ ap (set ns to) (ap (summand k₃) g ∙ q)
