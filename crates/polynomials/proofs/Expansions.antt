-- Terms expanded factor by factor: one turn of the loop, and room for 36 summands. Assumes nothing.
use mathlib.Core.Path.{◌≡◌, refl, sym, ◌∙◌, ap, ap₂, subst}
use mathlib.Core.Bool.{Bool, true, false}
use mathlib.Core.List.{List, [], ◌∷◌, ◌++◌, map}
use Prim.Native.Nat.{ℕ, zero, suc, ◌+◌, ◌*◌, ◌≤◌, ◌<◌, ◌^◌}
use native.Mathlib.Nat as N
use native.Mathlib.Numerals.{add-one}
use native.Mathlib.Omega.{arith}
use lib.Dec.{T, eqb}
use lib.IntN.{ℤ, nat_abs, ◌*ℤ◌}
use lib.ListN.{length, get_or, take, drop, set, length-append, length-map, length-set}
use lib.Seq.{take-suc, take_at, drop_at, length-take-le, take-take, take-set-le, get_or-set_same}
use Rattle.algebra.specs.Integers.{nat_abs_*ℤ}
use Rattle.algebra.specs.Lists.{length-tabulated, window}
use Rattle.specification.specs.Lists.{joined}
use Rattle.specification.specs.Results.{when◌then◌else◌}
use Rattle.specification.specs.Terms.{vector_letters_of, term_in_shape}
use Rattle.specification.specs.Terms as S
use Rattle.theory.specs.Elements.{All, all_append, all_map, all_tabulated}
use Rattle.theory.specs.Shape.Terms.{OneToThree, term-opens}
use Rattle.integers.specs.Over.{over}
use Rattle.integers.proofs.Over.{length_over, take_over-end}
use Rattle.terms.specs.declared.types.Term.{Term}
use Rattle.terms.specs.Numbers.{letters_of}
use Rattle.terms.specs.Abstraction.{part_of, term_of}
use Rattle.terms.proofs.Arrays.{rest_at, nothing_left_lem, all-at}
use Rattle.record_writing.proofs.Terms.{coef_size_lem}
use Rattle.polynomials.specs.declared.expansion.Piece.{Piece}
use Rattle.polynomials.specs.declared.expansion.Block.{Block}
use Rattle.polynomials.specs.declared.expansion.Block.TheVariants.{Zero, One}
use Rattle.polynomials.specs.Summands.{Summand}
use Rattle.polynomials.specs.Memory.{summand, none}
use Rattle.polynomials.specs.Expansion.{piece_at, count_of, pieces, block_of, part_block, times_piece, times_pieces, times_block, times_factors, expand_term, PieceSmall}
use Rattle.polynomials.specs.Expansion.{Modest, SmallBlock, Multiplying, Multiplied, LettersBelow, top, Layer, Factorable, Factored, Expandable, Expanded}
use Rattle.polynomials.proofs.Layers.{piece-small}

-- ════ so many summands

-- the vector letters of a factor
abbrev vectors : List ℕ → ℕ
vectors f = when eqb (length f) 1 then 0 else length f

-- a dot makes three summands of one, and takes two letters
dot-step : (v : ℕ) → v ≤ 4 → 3 * top v ≤ top (2 + v)
unfolding top
dot-step zero h = omega arith
dot-step (suc zero) h = omega arith
dot-step (suc (suc zero)) h = omega arith
dot-step (suc (suc (suc zero))) h = omega arith
dot-step (suc (suc (suc (suc zero)))) h = omega arith
dot-step (suc (suc (suc (suc (suc v))))) h = absurd (omega arith)

-- a triple makes six, and takes three
triple-step : (v : ℕ) → v ≤ 3 → 6 * top v ≤ top (3 + v)
unfolding top
triple-step zero h = omega arith
triple-step (suc zero) h = omega arith
triple-step (suc (suc zero)) h = omega arith
triple-step (suc (suc (suc zero))) h = omega arith
triple-step (suc (suc (suc (suc v)))) h = absurd (omega arith)

-- a factor makes no more than its letters allow
factor-step : (f : List ℕ) (v : ℕ) → OneToThree f → vectors f + v ≤ 6 → count_of (block_of f) * top v ≤ top (vectors f + v)
unfolding count_of block_of
factor-step [] v o h = absurd (omega (arith, o.0))
factor-step (a ∷ []) v o h = rw (N.zero-add v) (omega arith)
factor-step (a ∷ b ∷ []) v o h = dot-step v (omega arith)
factor-step (a ∷ b ∷ c ∷ []) v o h = triple-step v (omega arith)
factor-step (a ∷ b ∷ c ∷ d ∷ f) v o h = absurd (omega (arith, o.1))

-- nor does a vector part
part_step_lem : (i : ℕ) (p : List ℕ) → length p ≤ 2 → count_of (part_block i p) ≤ top (length p)
unfolding top count_of part_block
part_step_lem i [] h = go (eqb i 0)
  where
    go : (b : Bool) → count_of (when b then One else Zero) ≤ 1
    go true = omega arith
    go false = omega arith
part_step_lem i (a ∷ []) h = omega arith
part_step_lem i (a ∷ b ∷ []) h = omega arith
part_step_lem i (a ∷ b ∷ c ∷ p) h = absurd (omega arith)

top-most : (v : ℕ) → v ≤ 6 → (1 ≤ top v) × (top v ≤ 36)
unfolding top
top-most zero h = (omega arith, omega arith)
top-most (suc zero) h = (omega arith, omega arith)
top-most (suc (suc zero)) h = (omega arith, omega arith)
top-most (suc (suc (suc zero))) h = (omega arith, omega arith)
top-most (suc (suc (suc (suc zero)))) h = (omega arith, omega arith)
top-most (suc (suc (suc (suc (suc zero))))) h = (omega arith, omega arith)
top-most (suc (suc (suc (suc (suc (suc n)))))) h = (omega arith, omega arith)

-- ════ what a polynomial does to summands

-- a product for each piece and each summand
pub times-length : (ps : List Piece) (ms : List Summand) → length (times_pieces ps ms) ≡ length ps * length ms
unfolding times_pieces joined
times-length [] ms = omega arith
times-length (p ∷ ps) ms =
    length-append (map (times_piece p) ms) (times_pieces ps ms) ∙ omega (arith, length-map ms (times_piece p), times-length ps ms, N.add-mul 1 (length ps) (length ms))

-- so a polynomial makes as many of each summand as it has
pub block-length : (f : Block) (ms : List Summand) → length (times_block f ms) ≡ count_of f * length ms
unfolding times_block pieces
block-length f ms = times-length (pieces f) ms ∙ ap (λ (n : ℕ). n * length ms) (length-tabulated (count_of f) (piece_at f))

piece-modest : (p : Piece) → PieceSmall p → (m : Summand) → Modest m → Modest (times_piece p m)
unfolding times_piece
piece-modest p s m h = omega (arith, nat_abs_*ℤ m.coef p.sign, N.mul-le-mul_left (nat_abs m.coef) s.unit)

pieces-modest : (ps : List Piece) (ms : List Summand) → All PieceSmall ps → All Modest ms → All Modest (times_pieces ps ms)
unfolding times_pieces joined
pieces-modest [] ms s h = tt
pieces-modest (p ∷ ps) ms s h =
    all_append Modest (map (times_piece p) ms) (times_pieces ps ms) (all_map Modest Modest (times_piece p) (piece-modest p s.0) ms h) (pieces-modest ps ms s.1 h)

-- no coefficient grows
pub block-modest : (f : Block) (ms : List Summand) → SmallBlock f → All Modest ms → All Modest (times_block f ms)
unfolding times_block pieces
block-modest f ms s h = pieces-modest (pieces f) ms (all_tabulated PieceSmall (count_of f) (piece_at f) (λ j l. piece-small f j s l)) h

-- the letters of a factor are below 24
pub block-small : (f : List ℕ) → LettersBelow f → SmallBlock (block_of f)
unfolding block_of
block-small [] b = tt
block-small (l ∷ []) b = (b.0, omega arith)
block-small (l ∷ m ∷ []) b = (b.0, b.1.0)
block-small (l ∷ m ∷ k ∷ f) b = (b.0, b.1.0, b.1.1.0)

-- those of a vector part too
pub part_small : (i : ℕ) (p : List ℕ) → i < 3 → LettersBelow p → SmallBlock (part_block i p)
unfolding part_block
part_small i [] h b = go (eqb i 0)
  where
    go : (t : Bool) → SmallBlock (when t then One else Zero)
    go true = tt
    go false = tt
part_small i (l ∷ []) h b = (b.0, h)
part_small i (l ∷ m ∷ p) h b = (b.0, b.1.0, h)

-- factors make no more than their vector letters allow
factors-few : (fs : List (List ℕ)) (v : ℕ) (ms : List Summand) → All OneToThree fs → vector_letters_of fs + v ≤ 6 → length ms * top (vector_letters_of fs + v) ≤ 36
    → length (times_factors fs ms) * top v ≤ 36
unfolding times_factors vector_letters_of
factors-few [] v ms o h r = subst (λ (x : ℕ). length ms * top x ≤ 36) (N.zero-add v) r
factors-few (f ∷ fs) v ms o h r =
    let x = vector_letters_of fs + v in
    let c = count_of (block_of f) in
    let e : vectors f + vector_letters_of fs + v ≡ vectors f + x = N.add_assoc (vectors f) (vector_letters_of fs) v in
    let z : vectors f + x ≤ 6 = subst (λ (y : ℕ). y ≤ 6) e h in
    let q : length ms * top (vectors f + x) ≤ 36 = subst (λ (y : ℕ). length ms * top y ≤ 36) e r in
    factors-few fs v (times_block (block_of f) ms) o.1 (omega (arith, z))
    (omega (
      arith,
      ap (λ (y : ℕ). y * top x) (block-length (block_of f) ms ∙ N.mul_comm c (length ms)),
      N.mul_assoc (length ms) c (top x),
      N.mul-le-mul_left (length ms) (factor-step f x o.0 z),
      q,
    ))

-- a component of a term in shape has at most 36 summands
pub term_few : (i : ℕ) (sign : ℤ) (t : S.Term) → T (term_in_shape t) → length (expand_term i sign t) ≤ 36
unfolding expand_term
term_few i sign t h =
    let o = (term-opens t h).fits in
    let p = t.part in
    let c = count_of (part_block i p) in
    let l = times_factors t.factors (summand 0 (t.coef *ℤ sign) ∷ []) in
    let b : length l * top (length p) ≤ 36 =
    factors-few t.factors (length p) (summand 0 (t.coef *ℤ sign) ∷ []) o.lengths o.vectors
    (omega (arith, (top-most (vector_letters_of t.factors + length p) o.vectors).1)) in
    omega (arith, block-length (part_block i p) l, N.mul_comm c (length l), N.mul-le-mul_left (length l) (part_step_lem i p o.part), b)

-- ════ a layer behind the first summands

module _ (start n : ℕ) (ms ns layer : List Summand) (w : Layer start n ms ns layer) (there : start + n ≤ length ms) where
  is_layer : take n (drop start ns) ≡ layer
  is_layer =
      window ns start n (omega (arith, w.same)) ∙ ap (drop start) w.front
      ∙ drop_at (take start ms) layer start (length-take-le start ms (omega arith))

  front-stands : take start ns ≡ take start ms
  front-stands =
      sym (take-take start (start + n) ns (omega arith)) ∙ ap (take start) w.front ∙ take_at (take start ms) layer start (length-take-le start ms (omega arith))

  module _ (f : Block) (s : SmallBlock f) (room : start + count_of f * n ≤ length ms) where
    -- it can be multiplied in place
    pub layer-asks : Multiplying start n f ns
    layer-asks =
        record { there = omega (arith, w.same); room = omega (arith, w.same); small = s; modest = subst (All Modest) (sym is_layer) w.modest }

    -- it is multiplied
    pub layer_on : (r : ℕ) (os : List Summand) → Multiplied start n f r ns os → Layer start r ms os (times_block f layer)
    layer_on r os m =
        let xs = times_block f layer in
        let is : os ≡ over ns start xs = m.is ∙ ap (λ (l : List Summand). over ns start (times_block f l)) is_layer in
        let size : length xs ≡ count_of f * n = block-length f layer ∙ ap (λ (k : ℕ). count_of f * k) (sym w.count) in
        let count : r ≡ length xs = m.count ∙ sym size in
        record {
          front = ap₂ (λ (k : ℕ) (l : List Summand). take (start + k) l) count is ∙ take_over-end ns start xs (omega (arith, w.same)) ∙ ap (λ (l : List Summand). l ++ xs) front-stands;
          count = count;
          same = ap length is ∙ length_over ns start xs (omega (arith, w.same, size)) ∙ w.same;
          modest = block-modest f layer s w.modest;
        }

-- ════ the factors of a term

-- the factors of a term
abbrev pub numbers : (t : Term) → List ℕ
numbers t = take t.factor_count t.factors

-- the factors from k on
abbrev pub later : (t : Term) (k : ℕ) → List (List ℕ)
later t k = map letters_of (drop k (numbers t))

-- the vector letters of what is left to multiply by
abbrev pub letters_left : (t : Term) (k : ℕ) → ℕ
letters_left t k = vector_letters_of (later t k) + length (part_of t.part)

-- the summands after k factors
pub record Turned (start : ℕ) (t : Term) (ms : List Summand) (k n : ℕ) (ns : List Summand) : Type 0 where
  pub layer : List Summand
  pub stands : Layer start n ms ns layer
  pub factors : times_factors (later t k) layer ≡ times_factors (later t 0) (get_or ms start none ∷ [])
  pub room : n * top (letters_left t k) ≤ 36
  pub few : letters_left t k ≤ 6
  pub lengths : All OneToThree (later t k)
  pub below : All LettersBelow (later t k)

module _ (start : ℕ) (t : Term) (ms : List Summand) (w : Factorable start t ms) where
  -- no factor is multiplied by yet
  pub turn-starts : Turned start t ms 0 1 ms
  unfolding term_of
  turn-starts =
      let o = (term-opens (term_of t) w.valid.in_shape).fits in
      record {
        layer = get_or ms start none ∷ [];
        stands = record { front = ap (λ (k : ℕ). take k ms) (add-one start) ∙ take-suc ms start none (omega (arith, w.room)); count = refl; same = refl; modest = (w.modest, tt) };
        factors = refl;
        room = omega (arith, (top-most (letters_left t 0) o.vectors).1);
        few = o.vectors;
        lengths = o.lengths;
        below = w.factors;
      }

  module _ (places : t.factor_count ≤ length t.factors) (k : ℕ) (l : k < t.factor_count) (n : ℕ) (ns : List Summand) (s : Turned start t ms k n ns) where
    abbrev f : List ℕ
    f = letters_of (get_or t.factors k 0)

    next : later t k ≡ f ∷ later t (k + 1)
    next = ap (map letters_of) (rest_at t.factors t.factor_count k 0 places l)

    -- the number of the next factor is that of a factor
    pub number_small : get_or t.factors k 0 < 16843008
    number_small = all-at (λ (x : ℕ). x < 16843008) t.factors t.factor_count k 0 places l w.valid.counted.small

    vectors_next : letters_left t k ≡ vectors f + letters_left t (k + 1)
    unfolding vector_letters_of
    vectors_next = ap (λ (fs : List (List ℕ)). vector_letters_of fs + length (part_of t.part)) next ∙ N.add_assoc (vectors f) (vector_letters_of (later t (k + 1))) (length (part_of t.part))

    shape : All OneToThree (f ∷ later t (k + 1))
    shape = subst (All OneToThree) next s.lengths

    letters : All LettersBelow (f ∷ later t (k + 1))
    letters = subst (All LettersBelow) next s.below

    step : count_of (block_of f) * top (letters_left t (k + 1)) ≤ top (letters_left t k)
    step = subst (λ (x : ℕ). count_of (block_of f) * top (letters_left t (k + 1)) ≤ top x) (sym vectors_next)
        (factor-step f (letters_left t (k + 1)) shape.0 (subst (λ (x : ℕ). x ≤ 6) vectors_next s.few))

    room_next : count_of (block_of f) * n * top (letters_left t (k + 1)) ≤ 36
    room_next =
        let c = count_of (block_of f) in
        let v = top (letters_left t (k + 1)) in
        omega (arith, ap (λ (x : ℕ). x * v) (N.mul_comm c n), N.mul_assoc n c v, N.mul-le-mul_left n step, s.room)

    few_next : letters_left t (k + 1) ≤ 6
    few_next = omega (arith, vectors_next, s.few)

    product-few : count_of (block_of f) * n ≤ 36
    product-few = omega (arith, room_next, N.mul-le-mul_left (count_of (block_of f) * n) (top-most (letters_left t (k + 1)) few_next).0)

    layer-few : n ≤ 36
    layer-few = omega (arith, s.room, N.mul-le-mul_left n (top-most (letters_left t k) s.few).0)

    there : start + n ≤ length ms
    there = omega (arith, w.room, layer-few)

    module _ (b : Block) (e : b ≡ block_of f) where
      small : SmallBlock b
      small = subst SmallBlock (sym e) (block-small f letters.0)

      enough : start + count_of b * n ≤ length ms
      enough = subst (λ (x : Block). start + count_of x * n ≤ length ms) (sym e) (omega (arith, w.room, product-few))

      -- its polynomial can be multiplied by
      pub turn_asks : Multiplying start n b ns
      turn_asks = layer-asks start n ms ns s.layer s.stands there b small enough

      -- it is, and the next factor follows
      pub turn_on : (r : ℕ) (os : List Summand) → Multiplied start n b r ns os → Turned start t ms (k + 1) r os
      unfolding times_factors
      turn_on r os m =
          record {
            layer = times_block b s.layer;
            stands = layer_on start n ms ns s.layer s.stands there b small enough r os m;
            factors = ap (λ (x : Block). times_factors (later t (k + 1)) (times_block x s.layer)) e ∙ ap (λ (fs : List (List ℕ)). times_factors fs s.layer) (sym next) ∙ s.factors;
            room = omega (arith, ap (λ (x : ℕ). x * top (letters_left t (k + 1))) (m.count ∙ ap (λ (x : Block). count_of x * n) e), room_next);
            few = few_next;
            lengths = shape.1;
            below = letters.1;
          }

  -- all factors are multiplied by
  pub turn-ends : t.factor_count ≤ length t.factors → (k : ℕ) → t.factor_count ≤ k → (n : ℕ) (ns : List Summand) → Turned start t ms k n ns → Factored start t n ms ns
  unfolding times_factors vector_letters_of term_of
  turn-ends places k l n ns s =
      let none_left : later t k ≡ [] = ap (map letters_of) (nothing_left_lem t.factors t.factor_count k places l) in
      let is : s.layer ≡ times_factors (later t 0) (get_or ms start none ∷ []) = ap (λ (fs : List (List ℕ)). times_factors fs s.layer) (sym none_left) ∙ s.factors in
      let v : letters_left t k ≡ length (part_of t.part) = ap (λ (fs : List (List ℕ)). vector_letters_of fs + length (part_of t.part)) none_left ∙ N.zero-add (length (part_of t.part)) in
      record { stands = subst (Layer start n ms ns) is s.stands; room = subst (λ (x : ℕ). n * top x ≤ 36) v s.room }

-- ════ a component of a term

module _ (start : ℕ) (t : Term) (i : ℕ) (sign : ℤ) (ms : List Summand) (w : Expandable start t i sign ms) where
  -- the coefficient times the sign fits 64 bits
  pub first_asks : (y z : ℤ) → y ≡ t.coef → z ≡ sign → nat_abs y * nat_abs z < 2 ^ 63
  first_asks y z p q = omega (arith, coef_size_lem t w.valid, w.unit, N.mul-le-mul (N.le_of_eq (ap nat_abs p)) (N.le_trans (N.le_of_eq (ap nat_abs q)) w.unit), ap nat_abs p)

  module _ (ns : List Summand) (z y a b : ℤ) (p : a ≡ t.coef) (q : b ≡ sign) (e : y ≡ a *ℤ b) (g : z ≡ y) (h : ns ≡ set ms start (summand 0 z)) where
    first : Summand
    first = summand 0 (t.coef *ℤ sign)

    put_is : ns ≡ set ms start (summand 0 (t.coef *ℤ sign))
    put_is = h ∙ ap (λ (x : ℤ). set ms start (summand 0 x)) (g ∙ e ∙ ap₂ (λ (c d : ℤ). c *ℤ d) p q)

    first-is : get_or ns start none ≡ summand 0 (t.coef *ℤ sign)
    first-is = ap (λ (l : List Summand). get_or l start none) put_is ∙ get_or-set_same ms start (summand 0 (t.coef *ℤ sign)) none (omega (arith, w.room))

    first-same : length ns ≡ length ms
    first-same = ap length put_is ∙ length-set ms start (summand 0 (t.coef *ℤ sign))

    first_front : take start ns ≡ take start ms
    first_front = ap (take start) put_is ∙ take-set-le start ms start (summand 0 (t.coef *ℤ sign)) (N.le_refl start)

    -- the coefficient is written, the factors follow
    pub factors-ask : Factorable start t ns
    factors-ask =
        record {
          room = omega (arith, w.room, first-same);
          valid = w.valid;
          factors = w.factors;
          modest = subst Modest (sym first-is) (omega (arith, nat_abs_*ℤ t.coef sign, N.mul-le-mul_left (nat_abs t.coef) w.unit, coef_size_lem t w.valid));
        }

    module _ (n : ℕ) (os : List Summand) (f : Factored start t n ns os) where
      part_short : length (term_of t).part ≤ 2
      part_short = (term-opens (term_of t) w.valid.in_shape).fits.part

      few-there : n ≤ 36
      few-there = omega (arith, f.room, N.mul-le-mul_left n (top-most (length (term_of t).part) (N.le_trans part_short (omega arith))).0)

      module _ (c : Block) (u : c ≡ part_block i (term_of t).part) where
        last_few : count_of c * n ≤ 36
        last_few =
            subst (λ (x : Block). count_of x * n ≤ 36) (sym u)
            (omega (arith, N.mul_comm (count_of (part_block i (term_of t).part)) n, N.mul-le-mul_left n (part_step_lem i (term_of t).part part_short), f.room))

        part_fits_lem : SmallBlock c
        part_fits_lem = subst SmallBlock (sym u) (part_small i (term_of t).part w.component w.part)

        -- then the vector part
        pub part-asks : Multiplying start n c os
        part-asks = layer-asks start n ns os _ f.stands (omega (arith, w.room, few-there, first-same)) c part_fits_lem (omega (arith, w.room, last_few, first-same))

        -- the component is expanded
        pub expand-ends : (r : ℕ) (qs : List Summand) → Multiplied start n c r os qs → Expanded start (expand_term i sign (term_of t)) r ms qs
        unfolding expand_term term_of
        expand-ends r qs m =
            let o = layer_on start n ns os _ f.stands (omega (arith, w.room, few-there, first-same)) c part_fits_lem (omega (arith, w.room, last_few, first-same)) r qs m in
            let is : times_block c (times_factors (term_of t).factors (get_or ns start none ∷ [])) ≡ expand_term i sign (term_of t) =
            ap₂ (λ (x : Block) (y : Summand). times_block x (times_factors (term_of t).factors (y ∷ []))) u first-is in
            record {
              front = o.front ∙ ap₂ (λ (x y : List Summand). x ++ y) first_front is;
              count = o.count ∙ ap length is;
              same = o.same ∙ first-same;
            }

-- ════ the coefficients

factors-modest : (fs : List (List ℕ)) (ms : List Summand) → All LettersBelow fs → All Modest ms → All Modest (times_factors fs ms)
unfolding times_factors
factors-modest [] ms b h = h
factors-modest (f ∷ fs) ms b h = factors-modest fs (times_block (block_of f) ms) b.1 (block-modest (block_of f) ms (block-small f b.0) h)

-- the summands of a component of a term have its coefficient, up to the sign
pub term-modest : (i : ℕ) (sign : ℤ) (t : S.Term) → i < 3 → All LettersBelow t.factors → LettersBelow t.part → nat_abs t.coef ≤ 2147483647 → nat_abs sign ≤ 1 → All Modest (expand_term i sign t)
unfolding expand_term
term-modest i sign t h b c m u =
    block-modest (part_block i t.part) (times_factors t.factors (summand 0 (t.coef *ℤ sign) ∷ [])) (part_small i t.part h c)
    (factors-modest t.factors (summand 0 (t.coef *ℤ sign) ∷ []) b (omega (arith, nat_abs_*ℤ t.coef sign, N.mul-le-mul_left (nat_abs t.coef) u), tt))
