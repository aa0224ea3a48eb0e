-- The summands of a term have its value, and their keys are those of forms. Assumes nothing.
use mathlib.Core.Path.{◌≡◌, refl, sym, ◌∙◌, ap, ap₂, subst}
use mathlib.Core.Bool.{Bool, true, false}
use mathlib.Core.Logic.{inl, inr}
use mathlib.Core.List.{List, [], ◌∷◌, map}
use Prim.Native.Nat.{ℕ, zero, suc, ◌+◌, ◌*◌, ◌/◌, ◌%◌, ◌≤◌, ◌<◌}
use native.Mathlib.Numerals.{add-one}
use native.Mathlib.Omega.{arith}
use lib.Dec.{eqb}
use borrow.Author.Tests.{eq-eqb, ne_eqb, lt-ltb}
use lib.IntN.{ℤ, pos, ◌+ℤ◌, ◌*ℤ◌}
use lib.IntN as I
use lib.ListN.{length}
use Rattle.algebra.specs.Integers as R
use Rattle.algebra.proofs.Normaliser.{var, ◌⊗◌, solve, normalising}
use Rattle.algebra.specs.Lists.{tabulated}
use Rattle.specification.specs.Results.{when◌then◌else◌}
use Rattle.specification.specs.Lists.{joined}
use Rattle.specification.specs.Letters.{scalar, vector, kind_of}
use Rattle.theory.specs.Elements.{All, all_append}
use Rattle.theory.specs.Shape.Terms.{OneToThree}
use Rattle.theory.specs.Shape.Letters.{Known, FactorKnown, known_is}
use Rattle.polynomials.specs.declared.expansion.Piece.{Piece}
use Rattle.polynomials.specs.declared.expansion.Block.TheVariants.{Zero, One}
use Rattle.polynomials.specs.Keys.{digit_value, key_value, times_digit, Ordered, tally}
use Rattle.polynomials.specs.Summands.{Summand, weigh, total}
use Rattle.polynomials.specs.Expansion.{digit_of, piece_sign, plus, cross_piece, piece_at, count_of, pieces, block_of, part_block, times_piece, times_pieces}
use Rattle.elimination.specs.Elimination.{vector_digit, scalar_digit, strange_digit, Has}
use Rattle.polynomials.proofs.Keys.{times_value, times-ordered, times-tally, from-tally}
use Rattle.polynomials.proofs.Summands.{weigh-append}

-- ════ digits

among : ℤ → ℤ → ℤ → ℤ → ℤ → ℤ → ℕ → ℤ
among m g c b a k zero = m
among m g c b a k (suc zero) = g
among m g c b a k (suc (suc zero)) = c
among m g c b a k (suc (suc (suc zero))) = b
among m g c b a k (suc (suc (suc (suc zero)))) = a
among m g c b a k (suc (suc (suc (suc (suc n))))) = k

shuffled : (m g c b a k : ℤ) → m *ℤ g *ℤ (c *ℤ (b *ℤ (a *ℤ k))) ≡ g *ℤ (c *ℤ (b *ℤ a)) *ℤ (m *ℤ k)
unfolding normalising among
shuffled m g c b a k =
    solve (var 0 ⊗ var 1 ⊗ (var 2 ⊗ (var 3 ⊗ (var 4 ⊗ var 5)))) (var 1 ⊗ (var 2 ⊗ (var 3 ⊗ var 4)) ⊗ (var 0 ⊗ var 5)) (among m g c b a k) refl

-- a sum over digits of two numbers for each
tally-sum : (f g : ℕ → ℕ) (n k : ℕ) → tally (λ d. f d + g d) n k ≡ tally f n k + tally g n k
unfolding tally
tally-sum f g zero k = omega arith
tally-sum f g (suc n) k = omega (arith, tally-sum f g n (k / 256))

module _ (table : List ℕ) where
  -- every digit but 0 is of a vector or of a scalar
  one_kind : (d : ℕ) → 1 ≤ d → vector_digit table d + scalar_digit table d ≡ 1
  unfolding vector_digit scalar_digit
  one_kind zero h = absurd (omega arith)
  one_kind (suc x) h = go (eqb (kind_of table (x / 3)) vector)
    where
      go : (b : Bool) → (when b then 1 else 0) + (when b then 0 else 1) ≡ 1
      go true = refl
      go false = refl

  zero_digits : (vector_digit table 0 ≡ 0) × (scalar_digit table 0 ≡ 0) × (strange_digit table 0 ≡ 0)
  unfolding vector_digit scalar_digit strange_digit
  zero_digits = (refl, refl, refl)

  -- a key with fewer than eight variables ends with 0
  has_room : (v s k : ℕ) → Has table v s k → v + s ≤ 7 → k % 256 ≡ 0
  has_room v s k w h = go w.ordered
    where
      go : Ordered 1 8 k → k % 256 ≡ 0
      go (inl r) = r.0
      go (inr f) =
          absurd (omega (arith, from-tally (λ d. vector_digit table d + scalar_digit table d) 1 8 k one_kind f, tally-sum (vector_digit table) (scalar_digit table) 8 k, w.vectors, w.scalars))

  times_none : (k : ℕ) → times_digit 0 k ≡ k
  unfolding times_digit
  times_none k = refl

  -- a key times a variable, where there is room
  module _ (σ : ℕ → ℤ) (v s k : ℕ) (w : Has table v s k) where
    pub digit-times : (d : ℕ) → d < 256 → strange_digit table d ≡ 0 → v + vector_digit table d + (s + scalar_digit table d) ≤ 8
        → (key_value σ 8 (times_digit d k) ≡ digit_value σ d *ℤ key_value σ 8 k) × Has table (v + vector_digit table d) (s + scalar_digit table d) (times_digit d k)
    unfolding digit_value vector_digit scalar_digit
    digit-times zero h z l =
        let e : v + 0 ≡ v = omega arith in
        let g : s + 0 ≡ s = omega arith in
        (ap (key_value σ 8) (times_none k) ∙ sym (R.one_*ℤ (key_value σ 8 k)), rw (e, g, times_none k) w)
    digit-times (suc x) h z l =
        let d = suc x in
        let r : k % 256 ≡ 0 = has_room v s k w (omega (arith, one_kind d (omega arith), l)) in (
          times_value σ d k h r,
          record {
            ordered = times-ordered d k h r w.ordered;
            vectors = omega (arith, times-tally (vector_digit table) d k h r zero_digits.0, w.vectors);
            scalars = omega (arith, times-tally (scalar_digit table) d k h r zero_digits.1, w.scalars);
            known = omega (arith, times-tally (strange_digit table) d k h r zero_digits.2, w.known, z);
          },
        )

  -- ════ products

  -- a product of v variables of vectors and s of scalars
  pub record PieceHas (v s : ℕ) (p : Piece) : Type 0 where
    pub first : p.a < 256
    pub second : p.b < 256
    pub third : p.c < 256
    pub known_first : strange_digit table p.a ≡ 0
    pub known_second : strange_digit table p.b ≡ 0
    pub known_third : strange_digit table p.c ≡ 0
    pub vectors : vector_digit table p.a + vector_digit table p.b + vector_digit table p.c ≡ v
    pub scalars : scalar_digit table p.a + scalar_digit table p.b + scalar_digit table p.c ≡ s

  abbrev pub AllHas : (v s : ℕ) (ms : List Summand) → Type 0
  AllHas v s ms = All (λ (m : Summand). Has table v s m.key) ms

  module _ (σ : ℕ → ℤ) where
    -- the value of a product
    abbrev pub piece_value : Piece → ℤ
    piece_value p = p.sign *ℤ (digit_value σ p.c *ℤ (digit_value σ p.b *ℤ digit_value σ p.a))

    -- the value of products
    abbrev pub pieces_value : List Piece → ℤ
    pieces_value [] = pos 0
    pieces_value (p ∷ ps) = piece_value p +ℤ pieces_value ps

    module _ (v s dv ds : ℕ) (l : v + dv + (s + ds) ≤ 8) where
      piece-times : (p : Piece) → PieceHas dv ds p → (m : Summand) → Has table v s m.key
          → ((times_piece p m).coef *ℤ key_value σ 8 (times_piece p m).key ≡ piece_value p *ℤ (m.coef *ℤ key_value σ 8 m.key)) × Has table (v + dv) (s + ds) (times_piece p m).key
      unfolding times_piece
      piece-times p q m w =
          let a = p.a in
          let b = p.b in
          let c = p.c in
          let u₁ = digit-times σ v s m.key w a q.first q.known_first (omega (arith, q.vectors, q.scalars)) in
          let u₂ = digit-times σ (v + vector_digit table a) (s + scalar_digit table a) (times_digit a m.key) u₁.1 b q.second q.known_second (omega (arith, q.vectors, q.scalars)) in
          let u₃ =
          digit-times σ (v + vector_digit table a + vector_digit table b) (s + scalar_digit table a + scalar_digit table b) (times_digit b (times_digit a m.key)) u₂.1
          c q.third q.known_third (omega (arith, q.vectors, q.scalars)) in
          let x : v + vector_digit table a + vector_digit table b + vector_digit table c ≡ v + dv = omega (arith, q.vectors) in
          let y : s + scalar_digit table a + scalar_digit table b + scalar_digit table c ≡ s + ds = omega (arith, q.scalars) in
          let k = times_digit c (times_digit b (times_digit a m.key)) in (
            ap (λ (z : ℤ). m.coef *ℤ p.sign *ℤ z) (u₃.0 ∙ ap (λ (z : ℤ). digit_value σ c *ℤ z) (u₂.0 ∙ ap (λ (z : ℤ). digit_value σ b *ℤ z) u₁.0))
                ∙ shuffle m.coef p.sign (digit_value σ c) (digit_value σ b) (digit_value σ a) (key_value σ 8 m.key),
            subst (λ (i : ℕ). Has table i (s + ds) k) x (subst (λ (j : ℕ). Has table (v + vector_digit table a + vector_digit table b + vector_digit table c) j k) y u₃.1),
          )
        where
          shuffle : (m g c b a k : ℤ) → m *ℤ g *ℤ (c *ℤ (b *ℤ (a *ℤ k))) ≡ g *ℤ (c *ℤ (b *ℤ a)) *ℤ (m *ℤ k)
          shuffle m g c b a k = shuffled m g c b a k

      piece_all : (p : Piece) → PieceHas dv ds p → (ms : List Summand) → AllHas v s ms
          → (total σ (map (times_piece p) ms) ≡ piece_value p *ℤ total σ ms) × AllHas (v + dv) (s + ds) (map (times_piece p) ms)
      unfolding weigh
      piece_all p q [] a = (sym (I.*ℤ-zero (piece_value p)), tt)
      piece_all p q (m ∷ ms) a =
          let u = piece-times p q m a.0 in
          let w = piece_all p q ms a.1 in
          (ap₂ (λ (x y : ℤ). x +ℤ y) u.0 w.0 ∙ sym (R.*ℤ-+ℤ (piece_value p) (m.coef *ℤ key_value σ 8 m.key) (total σ ms)), (u.1, w.1))

      -- a sum of products
      pub pieces_all : (ps : List Piece) → All (PieceHas dv ds) ps → (ms : List Summand) → AllHas v s ms
          → (total σ (times_pieces ps ms) ≡ pieces_value ps *ℤ total σ ms) × AllHas (v + dv) (s + ds) (times_pieces ps ms)
      unfolding times_pieces joined weigh
      pieces_all [] h ms a = (sym (I.zero-*ℤ (total σ ms)), tt)
      pieces_all (p ∷ ps) h ms a =
          let u = piece_all p h.0 ms a in
          let w = pieces_all ps h.1 ms a in (
            weigh-append (key_value σ 8) (map (times_piece p) ms) (times_pieces ps ms) ∙ ap₂ (λ (x y : ℤ). x +ℤ y) u.0 w.0 ∙ sym (R.+ℤ-*ℤ (piece_value p) (pieces_value ps) (total σ ms)),
            all_append (λ (m : Summand). Has table (v + dv) (s + ds) m.key) (map (times_piece p) ms) (times_pieces ps ms) u.1 w.1,
          )

  -- ════ polynomials of known letters

  -- a digit of a known letter
  module _ (short : length table ≤ 24) where
    pub record Digit (v s d : ℕ) : Type 0 where
      pub small : d < 256
      pub known : strange_digit table d ≡ 0
      pub vectors : vector_digit table d ≡ v
      pub scalars : scalar_digit table d ≡ s

    vector_digit_lem : (l i : ℕ) → Known table vector l → i < 3 → Digit 1 0 (digit_of l i)
    unfolding strange_digit vector_digit scalar_digit
    vector_digit_lem l i k h =
        let w = known_is table vector l k in
        let x = 3 * l + i in
        let e : 3 * l + i + 1 ≡ suc x = add-one x in
        let q : x / 3 ≡ l = omega arith in
        let t : eqb (kind_of table (x / 3)) vector ≡ true = eq-eqb (kind_of table (x / 3)) vector (ap (kind_of table) q ∙ w.1) in
        record {
          small = omega (arith, w.0);
          known = rw (e, lt-ltb x (3 * length table) (omega (arith, w.0)), t);
          vectors = rw (e, t);
          scalars = rw (e, t);
        }

    scalar_digit_lem : (l : ℕ) → Known table scalar l → Digit 0 1 (digit_of l 0)
    unfolding strange_digit vector_digit scalar_digit
    scalar_digit_lem l k =
        let w = known_is table scalar l k in
        let x = 3 * l + 0 in
        let e : 3 * l + 0 + 1 ≡ suc x = add-one x in
        let q : x / 3 ≡ l = omega arith in
        let t : eqb (kind_of table (x / 3)) vector ≡ false = ne_eqb (kind_of table (x / 3)) vector (λ z. omega (arith, z, ap (kind_of table) q, w.1)) in
        let r : eqb (x % 3) 0 ≡ true = eq-eqb (x % 3) 0 (omega arith) in
        record {
          small = omega (arith, w.0);
          known = rw (e, lt-ltb x (3 * length table) (omega (arith, w.0)), t, r);
          vectors = rw (e, t);
          scalars = rw (e, t);
        }

    no_digit_lem : Digit 0 0 0
    no_digit_lem = record { small = omega arith; known = zero_digits.2; vectors = zero_digits.0; scalars = zero_digits.1 }

    piece-has : (v₁ s₁ v₂ s₂ v₃ s₃ a b c : ℕ) (z : ℤ) → Digit v₁ s₁ a → Digit v₂ s₂ b → Digit v₃ s₃ c → PieceHas (v₁ + v₂ + v₃) (s₁ + s₂ + s₃) (record { a = a; b = b; c = c; sign = z })
    piece-has v₁ s₁ v₂ s₂ v₃ s₃ a b c z p q r =
        record {
          first = p.small;
          second = q.small;
          third = r.small;
          known_first = p.known;
          known_second = q.known;
          known_third = r.known;
          vectors = omega (arith, p.vectors, q.vectors, r.vectors);
          scalars = omega (arith, p.scalars, q.scalars, r.scalars);
        }

    cross-has : (v₃ l m i o c : ℕ) → Known table vector l → Known table vector m → Digit v₃ 0 c → PieceHas (2 + v₃) 0 (cross_piece l m i o c)
    unfolding cross_piece
    cross-has v₃ l m i o c p q r =
        piece-has 1 0 1 0 v₃ 0 (digit_of l ((i + 1 + o) % 3)) (digit_of m ((i + 2 + 2 * o) % 3)) c (piece_sign o)
        (vector_digit_lem l ((i + 1 + o) % 3) p (omega arith)) (vector_digit_lem m ((i + 2 + 2 * o) % 3) q (omega arith)) r

    -- the products of a factor have its letters
    pub factor_has_lem : (f : List ℕ) → OneToThree f → FactorKnown table f → All (PieceHas (when eqb (length f) 1 then 0 else length f) (when eqb (length f) 1 then 1 else 0)) (pieces (block_of f))
    unfolding pieces block_of count_of piece_at
    factor_has_lem [] o k = absurd (omega (arith, o.0))
    factor_has_lem (a ∷ []) o k = (piece-has 0 1 0 0 0 0 (digit_of a 0) 0 0 (pos 1) (scalar_digit_lem a k.0) no_digit_lem no_digit_lem, tt)
    factor_has_lem (a ∷ b ∷ []) o k = (one 0 (omega arith), (one 1 (omega arith), (one 2 (omega arith), tt)))
      where
        one : (j : ℕ) → j < 3 → PieceHas 2 0 (plus (digit_of a j) (digit_of b j))
        one j h = piece-has 1 0 1 0 0 0 (digit_of a j) (digit_of b j) 0 (pos 1) (vector_digit_lem a j k.0 h) (vector_digit_lem b j k.1.0 h) no_digit_lem
    factor_has_lem (a ∷ b ∷ c ∷ []) o k = (one 0 (omega arith), (one 1 (omega arith), (one 2 (omega arith), (one 3 (omega arith), (one 4 (omega arith), (one 5 (omega arith), tt))))))
      where
        one : (j : ℕ) → j < 6 → PieceHas 3 0 (cross_piece a b (j / 2) (j % 2) (digit_of c (j / 2)))
        one j h = cross-has 1 a b (j / 2) (j % 2) (digit_of c (j / 2)) k.0 k.1.0 (vector_digit_lem c (j / 2) k.1.1.0 (omega arith))
    factor_has_lem (a ∷ b ∷ c ∷ d ∷ f) o k = absurd (omega (arith, o.1))

    -- and those of a vector part
    pub part_has : (i : ℕ) (p : List ℕ) → i < 3 → length p ≤ 2 → All (Known table vector) p → All (PieceHas (length p) 0) (pieces (part_block i p))
    unfolding pieces part_block count_of piece_at
    part_has i [] h o k = go (eqb i 0)
      where
        go : (b : Bool) → All (PieceHas 0 0) (tabulated (count_of (when b then One else Zero)) (piece_at (when b then One else Zero)))
        go true = (piece-has 0 0 0 0 0 0 0 0 0 (pos 1) no_digit_lem no_digit_lem no_digit_lem, tt)
        go false = tt
    part_has i (a ∷ []) h o k = (piece-has 1 0 0 0 0 0 (digit_of a i) 0 0 (pos 1) (vector_digit_lem a i k.0 h) no_digit_lem no_digit_lem, tt)
    part_has i (a ∷ b ∷ []) h o k = (cross-has 0 a b i 0 0 k.0 k.1.0 no_digit_lem, (cross-has 0 a b i 1 0 k.0 k.1.0 no_digit_lem, tt))
    part_has i (a ∷ b ∷ c ∷ p) h o k = absurd (omega arith)
