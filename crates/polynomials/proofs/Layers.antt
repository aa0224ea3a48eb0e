-- Summands multiplied in place: one turn of each loop, and the room that is needed. Assumes nothing.
use mathlib.Core.Path.{◌≡◌, sym, ◌∙◌, ap, ap₂, subst}
use mathlib.Core.Logic.{◌⊎◌, inl, inr}
use mathlib.Core.List.{List, [], ◌∷◌, ◌++◌, map}
use Prim.Native.Nat.{ℕ, zero, suc, ◌+◌, ◌-◌, ◌*◌, ◌/◌, ◌%◌, ◌≤◌, ◌<◌}
use native.Mathlib.Nat as N
use native.Mathlib.Numerals.{add-one}
use native.Mathlib.Omega.{arith}
use borrow.Author.Tests.{ne_eqb}
use lib.IntN.{nat_abs}
use lib.ListN.{length, get_or, take, drop, set, length-append, length-map, length-drop}
use lib.Seq.{get_or-drop, take-suc, drop-cons, drop-length}
use Rattle.algebra.specs.Lists.{tabulated, length-tabulated, get_d_tabulated, length-window}
use Rattle.specification.specs.Lists.{joined}
use Rattle.theory.specs.Elements.{All}
use Rattle.integers.specs.Over.{over}
use Rattle.integers.proofs.Over.{length_over, get_d_before, get_d_behind, window-before, over-nil, over_more, over-front}
use Rattle.terms.proofs.Arrays.{all-at, mapped-behind}
use Rattle.polynomials.specs.declared.expansion.Piece.{Piece}
use Rattle.polynomials.specs.declared.expansion.Block.{Block}
use Rattle.polynomials.specs.declared.expansion.Block.TheVariants.{Zero, One, Single, Dot, Triple, Cross}
use Rattle.polynomials.specs.Summands.{Summand}
use Rattle.polynomials.specs.Memory.{none, summands}
use Rattle.polynomials.specs.Expansion.{digit_of, piece_sign, cross_piece, piece_at, count_of, pieces, times_piece, times_pieces, times_block, PieceSmall, PieceFit, Modest}
use Rattle.polynomials.specs.Expansion.{SmallBlock, Spreading, Spread, Multiplying, Multiplied}
use Rattle.polynomials.proofs.Bytes.{length-summands}

-- ════ summands times a product

module _ (from n to : ℕ) (p : Piece) (ms : List Summand) (w : Spreading from n to p ms) where
  abbrev written : ℕ → List Summand
  written i = map (times_piece p) (take i (drop from ms))

  enough : from + n ≤ length ms
  enough = elim w.apart [ inl e ↦ omega (arith, w.there) | inr l ↦ omega (arith, w.there) ]

  length_written : (i : ℕ) → i ≤ n → length (written i) ≡ i
  length_written i l = length-map (take i (drop from ms)) (times_piece p) ∙ length-window ms from i (omega (arith, enough))

  module _ (i : ℕ) (ns : List Summand) (is : ns ≡ over ms to (written i)) where
    kept-length : i ≤ n → length ns ≡ length ms
    kept-length l = ap length is ∙ length_over ms to (written i) (omega (arith, length_written i l, w.there))

    module _ (l : i < n) where
      pub spread-from : from + i < length ns
      spread-from = omega (arith, kept-length (omega arith), enough)

      pub spread_to : to + i < length ns
      spread_to = omega (arith, kept-length (omega arith), w.there)

      unwritten : get_or ns (from + i) none ≡ get_or ms (from + i) none
      unwritten = ap (λ (l : List Summand). get_or l (from + i) none) is ∙ go w.apart
        where
          go : (from ≡ to) ⊎ (from + n ≤ to) → get_or (over ms to (written i)) (from + i) none ≡ get_or ms (from + i) none
          go (inl e) = get_d_behind ms to (written i) (from + i) none (omega (arith, length_written i (omega arith))) (omega (arith, w.there))
          go (inr k) = get_d_before ms to (written i) (from + i) none (omega arith) (omega (arith, w.there))

      -- the next summand can be multiplied
      pub spread-fits : PieceFit p (get_or ns (from + i) none)
      spread-fits =
          record {
            small = w.small;
            modest = subst Modest (get_or-drop from ms i none ∙ sym unwritten)
                (all-at Modest (drop from ms) n i none (omega (arith, length-drop from ms, enough)) l w.modest);
          }

      -- it is multiplied and written
      pub spread_on : (os : List Summand) → os ≡ set ns (to + i) (times_piece p (get_or ns (from + i) none)) → os ≡ over ms to (written (i + 1))
      spread_on os e =
          let x = times_piece p (get_or ms (from + i) none) in
          let g : get_or ns (from + i) none ≡ get_or ms (from + i) none = unwritten in
          let k : to + length (written i) ≡ to + i = omega (arith, length_written i (omega arith)) in
          let more : written (i + 1) ≡ written i ++ x ∷ [] =
          ap (λ (j : ℕ). written j) (add-one i) ∙ ap (map (times_piece p)) (take-suc (drop from ms) i none (omega (arith, length-drop from ms, enough)))
          ∙ mapped-behind (times_piece p) (take i (drop from ms)) (get_or (drop from ms) i none)
          ∙ ap (λ (m : Summand). written i ++ times_piece p m ∷ []) (get_or-drop from ms i none) in
          e ∙ ap₂ (λ (l : List Summand) (m : Summand). set l (to + i) (times_piece p m)) is g
          ∙ ap (λ (j : ℕ). set (over ms to (written i)) j x) (sym k)
          ∙ over_more ms to (written i) x (omega (arith, length_written i (omega arith), w.there))
          ∙ ap (over ms to) (sym more)

  -- nothing is written yet
  pub spread-starts : ms ≡ over ms to (written 0)
  spread-starts = over-nil ms to

  -- all are written
  pub spread-ends : (i : ℕ) (ns : List Summand) → n ≤ i → i ≤ n → ns ≡ over ms to (written i) → Spread from n to p ms ns
  spread-ends i ns l k is = let e : i ≡ n = omega arith in record { is = is ∙ ap (λ (j : ℕ). over ms to (written j)) e }

-- ════ summands times a polynomial

-- the digits of a product are small
module _ where
  digit-small : (l i : ℕ) → l < 24 → i < 3 → digit_of l i < 256
  digit-small l i h k = omega arith

  sign-unit : (o : ℕ) → nat_abs (piece_sign o) ≤ 1
  unfolding piece_sign
  sign-unit zero = N.le_refl 1
  sign-unit (suc o) = rw (ne_eqb (suc o) 0 (λ e. omega arith)) (N.le_refl 1)

  cross-small : (l m i o c : ℕ) → l < 24 → m < 24 → c < 256 → PieceSmall (cross_piece l m i o c)
  unfolding cross_piece
  cross-small l m i o c h k z = record { first = digit-small l ((i + 1 + o) % 3) h (omega arith); second = digit-small m ((i + 2 + 2 * o) % 3) k (omega arith); third = z; unit = sign-unit o }

  -- the digits of each product of a polynomial are small, and its sign is a unit
  pub piece-small : (f : Block) (j : ℕ) → SmallBlock f → j < count_of f → PieceSmall (piece_at f j)
  unfolding piece_at count_of
  piece-small Zero j s h = record { first = omega arith; second = omega arith; third = omega arith; unit = N.le_refl 1 }
  piece-small One j s h = record { first = omega arith; second = omega arith; third = omega arith; unit = N.le_refl 1 }
  piece-small (Single l i) j s h = record { first = digit-small l i s.0 s.1; second = omega arith; third = omega arith; unit = N.le_refl 1 }
  piece-small (Dot l m) j s h = record { first = digit-small l j s.0 h; second = digit-small m j s.1 h; third = omega arith; unit = N.le_refl 1 }
  piece-small (Triple l m k) j s h = cross-small l m (j / 2) (j % 2) (digit_of k (j / 2)) s.0 s.1 (digit-small k (j / 2) s.2 (omega arith))
  piece-small (Cross l m i) j s h = cross-small l m i j 0 s.0 s.1 (omega arith)

module _ (start n : ℕ) (f : Block) (ms : List Summand) (w : Multiplying start n f ms) where
  abbrev layer : List Summand
  layer = take n (drop start ms)

  layer-length : length layer ≡ n
  layer-length = length-window ms start n w.there

  abbrev left : ℕ → List Summand
  left j = times_pieces (drop j (pieces f)) layer

  -- so many places further on it is within
  most : (j : ℕ) → j ≤ count_of f → start + j * n ≤ length ms
  most j l = omega (arith, N.mul-le-mul_right n l, w.room)

  pieces-at : (j : ℕ) → j < count_of f → drop j (pieces f) ≡ piece_at f j ∷ drop (suc j) (pieces f)
  unfolding pieces
  pieces-at j l =
      let d = piece_at f 0 in
      drop-cons (tabulated (count_of f) (piece_at f)) j d (omega (arith, length-tabulated (count_of f) (piece_at f)))
      ∙ ap (λ (p : Piece). p ∷ drop (suc j) (tabulated (count_of f) (piece_at f))) (get_d_tabulated (count_of f) (piece_at f) j d l)

  left_on : (j : ℕ) → j < count_of f → left j ≡ map (times_piece (piece_at f j)) layer ++ left (suc j)
  unfolding times_pieces joined
  left_on j l = ap (λ (ps : List Piece). times_pieces ps layer) (pieces-at j l)

  -- what is left to multiply by makes so many
  left-length : (n' j : ℕ) → n' + j ≡ count_of f → length (left j) ≡ n' * n
  unfolding times_pieces joined pieces
  left-length zero j e =
      let q : j ≡ length (tabulated (count_of f) (piece_at f)) = omega (arith, e, length-tabulated (count_of f) (piece_at f)) in
      ap (λ (i : ℕ). length (times_pieces (drop i (pieces f)) layer)) q ∙ ap (λ (ps : List Piece). length (times_pieces ps layer)) (drop-length (pieces f)) ∙ omega arith
  left-length (suc n') j e =
      ap length (left_on j (omega arith)) ∙ length-append (map (times_piece (piece_at f j)) layer) (left (suc j))
      ∙ omega (arith, length-map layer (times_piece (piece_at f j)), layer-length, left-length n' (suc j) (omega arith), N.add-mul 1 n' n)

  -- nothing is multiplied by yet
  pub multiply_starts : ms ≡ over ms (start + count_of f * n) (left (count_of f))
  unfolding times_pieces joined pieces
  multiply_starts =
      over-nil ms (start + count_of f * n)
      ∙ ap (λ (ps : List Piece). over ms (start + count_of f * n) (times_pieces ps layer))
      (sym (ap (λ (i : ℕ). drop i (pieces f)) (sym (length-tabulated (count_of f) (piece_at f))) ∙ drop-length (pieces f)))

  module _ (j : ℕ) (l : j < count_of f) (ns : List Summand) (is : ns ≡ over ms (start + (j + 1) * n) (left (j + 1))) where
    ends : start + (j + 1) * n + length (left (j + 1)) ≤ length ms
    ends =
        let e : count_of f - (j + 1) + (j + 1) ≡ count_of f = omega arith in
        omega (arith, left-length (count_of f - (j + 1)) (j + 1) e, N.add-mul (count_of f - (j + 1)) (j + 1) n, ap (λ (x : ℕ). x * n) e, w.room)

    same_length_lem : length ns ≡ length ms
    same_length_lem = ap length is ∙ length_over ms (start + (j + 1) * n) (left (j + 1)) ends

    pub place-fits : start + j * n ≤ length ms
    place-fits = most j (omega arith)

    -- the summands to multiply stand as they were
    pub same_layer : take n (drop start ns) ≡ layer
    same_layer =
        ap (λ (x : List Summand). take n (drop start x)) is
        ∙ window-before ms (start + (j + 1) * n) (left (j + 1)) start n (omega (arith, N.add-mul j 1 n)) ends

    -- they can be multiplied by the product number j
    pub spreadable : Spreading start n (start + j * n) (piece_at f j) ns
    spreadable =
        record {
          there = omega (arith, same_length_lem, most (j + 1) (omega arith), N.add-mul j 1 n);
          apart = go j;
          small = piece-small f j w.small l;
          modest = subst (All Modest) (sym same_layer) w.modest;
        }
      where
        go : (j : ℕ) → (start ≡ start + j * n) ⊎ (start + n ≤ start + j * n)
        go zero = inl (omega arith)
        go (suc j) = inr (omega (arith, N.add-mul 1 j n))

    -- they are multiplied by it
    pub multiply_on : (os : List Summand) → Spread start n (start + j * n) (piece_at f j) ns os → os ≡ over ms (start + j * n) (left j)
    multiply_on os s =
        let xs = map (times_piece (piece_at f j)) layer in
        let size : length xs ≡ n = length-map layer (times_piece (piece_at f j)) ∙ layer-length in
        let at : start + (j + 1) * n ≡ start + j * n + length xs = omega (arith, N.add-mul j 1 n, size) in
        s.is ∙ ap (λ (x : List Summand). over ns (start + j * n) (map (times_piece (piece_at f j)) x)) same_layer
        ∙ ap (λ (x : List Summand). over x (start + j * n) xs) (is ∙ ap₂ (λ (a i : ℕ). over ms a (left i)) at (add-one j))
        ∙ over-front ms (start + j * n) xs (left (suc j)) (omega (arith, most (j + 1) (omega arith)))
        ∙ ap (over ms (start + j * n)) (sym (left_on j l))

  -- they are multiplied by all products
  pub multiply_ends : (ns : List Summand) (m r : ℕ) → ns ≡ over ms (start + 0 * n) (left 0) → m ≡ count_of f → r ≡ m * n → Multiplied start n f r ms ns
  unfolding times_block
  multiply_ends ns m r is e g =
      let z : start + 0 * n ≡ start = omega arith in
      record { is = is ∙ ap (λ (a : ℕ). over ms a (left 0)) z; count = g ∙ ap (λ (x : ℕ). x * n) e }

  -- one place earlier
  module _ (j : ℕ) (z : 0 < j) (l : j ≤ count_of f) (ns : List Summand) (is : ns ≡ over ms (start + j * n) (left j)) where
    earlier : ns ≡ over ms (start + (j - 1 + 1) * n) (left (j - 1 + 1))
    earlier = let e : j ≡ j - 1 + 1 = omega arith in is ∙ ap (λ (i : ℕ). over ms (start + i * n) (left i)) e

    below : j - 1 < count_of f
    below = omega arith

    pub product_fits : (j - 1) * n ≤ length ms
    product_fits = omega (arith, place-fits (j - 1) below ns earlier)

    pub sum_fits : start + (j - 1) * n ≤ length ms
    sum_fits = place-fits (j - 1) below ns earlier

    module _ (p : Piece) (e : p ≡ piece_at f (j - 1)) where
      pub spread-asks : Spreading start n (start + (j - 1) * n) p ns
      spread-asks = subst (λ (q : Piece). Spreading start n (start + (j - 1) * n) q ns) (sym e) (spreadable (j - 1) below ns earlier)

      pub multiply_back : (os : List Summand) → Spread start n (start + (j - 1) * n) p ns os → os ≡ over ms (start + (j - 1) * n) (left (j - 1))
      multiply_back os s = multiply_on (j - 1) below ns earlier os (subst (λ (q : Piece). Spread start n (start + (j - 1) * n) q ns os) e s)

  -- the same with another name for the count
  pub multiply_first : (m : ℕ) → m ≡ count_of f → ms ≡ over ms (start + m * n) (left m)
  multiply_first m e = multiply_starts ∙ ap (λ (i : ℕ). over ms (start + i * n) (left i)) (sym e)

  -- and at the end
  pub multiply_last : (ns : List Summand) (j m r : ℕ) → j ≡ 0 → ns ≡ over ms (start + j * n) (left j) → m ≡ count_of f → r ≡ m * n → Multiplied start n f r ms ns
  multiply_last ns j m r z is = multiply_ends ns m r (is ∙ ap (λ (i : ℕ). over ms (start + i * n) (left i)) z)

  pub count_fits : (m : ℕ) → m ≡ count_of f → m * n ≤ length ms
  count_fits m e = omega (arith, ap (λ (i : ℕ). i * n) e, w.room)

-- there are fewer summands than bytes
pub words : (l : List ℕ) → length (summands l) ≤ length l
words l = omega (arith, length-summands l)
