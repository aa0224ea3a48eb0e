-- The summands of a component of a term: a product of polynomials, multiplied out. Assumes nothing.
use Rattle.std.specs.Prelude.{◌≡◌, ◌⊎◌, List, [], ◌∷◌, ◌++◌, map, ℕ, zero, suc, ◌+◌, ◌*◌, ◌/◌, ◌%◌, ◌≤◌, ◌<◌, eqb, ℤ, pos, negsuc, nat_abs, ◌*ℤ◌, length, get_or, take, drop}
use Rattle.algebra.specs.Lists.{tabulated}
use Rattle.specification.specs.Results.{when◌then◌else◌}
use Rattle.specification.specs.Lists.{joined}
use Rattle.specification.specs.Terms as S
use Rattle.theory.specs.Elements.{All}
use Rattle.integers.specs.Over.{over}
use Rattle.terms.specs.declared.types.Term.{Term}
use Rattle.terms.specs.Abstraction.{term_of}
use Rattle.terms.specs.Valid.{TermValid}
use Rattle.polynomials.specs.declared.expansion.Piece.{Piece}
use Rattle.polynomials.specs.declared.expansion.Block.{Block}
use Rattle.polynomials.specs.declared.expansion.Block.TheVariants.{Zero, One, Single, Dot, Triple, Cross}
use Rattle.polynomials.specs.Keys.{times_digit}
use Rattle.polynomials.specs.Summands.{Summand}
use Rattle.polynomials.specs.Memory.{summand, none}

-- ════ polynomials as lists of products

-- the digit of the component i of a letter
abbrev pub digit_of : (letter i : ℕ) → ℕ
digit_of letter i = 3 * letter + i + 1

-- plus for the first product of a wedge's component, minus for the second
unfoldable pub piece_sign : (o : ℕ) → ℤ
piece_sign o = when eqb o 0 then pos 1 else negsuc 0

-- a product with the sign plus
abbrev pub plus : (a b : ℕ) → Piece
plus a b = record { a = a; b = b; c = 0; sign = pos 1 }

-- the first or the second product of the component i of a wedge, times a third variable
unfoldable pub cross_piece : (l m i o c : ℕ) → Piece
cross_piece l m i o c = record { a = digit_of l ((i + 1 + o) % 3); b = digit_of m ((i + 2 + 2 * o) % 3); c = c; sign = piece_sign o }

-- the product number j
unfoldable pub piece_at : (f : Block) (j : ℕ) → Piece
piece_at Zero j = plus 0 0
piece_at One j = plus 0 0
piece_at (Single l i) j = plus (digit_of l i) 0
piece_at (Dot l m) j = plus (digit_of l j) (digit_of m j)
piece_at (Triple l m k) j = cross_piece l m (j / 2) (j % 2) (digit_of k (j / 2))
piece_at (Cross l m i) j = cross_piece l m i j 0

-- how many there are
unfoldable pub count_of : (f : Block) → ℕ
count_of Zero = 0
count_of One = 1
count_of (Single l i) = 1
count_of (Dot l m) = 3
count_of (Triple l m k) = 6
count_of (Cross l m i) = 2

-- all of them
unfoldable pub pieces : (f : Block) → List Piece
pieces f = tabulated (count_of f) (piece_at f)

-- the polynomial of a factor
unfoldable pub block_of : (factor : List ℕ) → Block
block_of [] = One
block_of (l ∷ []) = Single l 0
block_of (l ∷ m ∷ []) = Dot l m
block_of (l ∷ m ∷ k ∷ f) = Triple l m k

-- the polynomial of the component i of a vector part
unfoldable pub part_block : (i : ℕ) (part : List ℕ) → Block
part_block i [] = when eqb i 0 then One else Zero
part_block i (l ∷ []) = Single l i
part_block i (l ∷ m ∷ p) = Cross l m i

-- ════ multiplying out

-- a summand times a product
unfoldable pub times_piece : (p : Piece) (m : Summand) → Summand
times_piece p m = summand (times_digit p.c (times_digit p.b (times_digit p.a m.key))) (m.coef *ℤ p.sign)

-- summands times each product
unfoldable pub times_pieces : (ps : List Piece) (ms : List Summand) → List Summand
times_pieces ps ms = joined (map (λ (p : Piece). map (times_piece p) ms) ps)

-- summands times a polynomial
unfoldable pub times_block : (f : Block) (ms : List Summand) → List Summand
times_block f ms = times_pieces (pieces f) ms

-- summands times the factors
unfoldable pub times_factors : (factors : List (List ℕ)) (ms : List Summand) → List Summand
times_factors [] ms = ms
times_factors (f ∷ fs) ms = times_factors fs (times_block (block_of f) ms)

-- the component i of a term, times a sign
unfoldable pub expand_term : (i : ℕ) (sign : ℤ) (t : S.Term) → List Summand
expand_term i sign t = times_block (part_block i t.part) (times_factors t.factors (summand 0 (t.coef *ℤ sign) ∷ []))

-- ════ what the functions ask and promise

-- the digits are of letters below 24, and the sign is a sign
pub record PieceSmall (p : Piece) : Type 0 where
  pub first : p.a < 256
  pub second : p.b < 256
  pub third : p.c < 256
  pub unit : nat_abs p.sign ≤ 1

-- a coefficient of a form
abbrev pub Modest : (m : Summand) → Type 0
Modest m = nat_abs m.coef ≤ 2147483647

-- a summand can be multiplied by a product
pub record PieceFit (p : Piece) (m : Summand) : Type 0 where
  pub small : PieceSmall p
  pub modest : Modest m

-- the letters are below 24, components below 3
abbrev pub SmallBlock : (f : Block) → Type 0
SmallBlock Zero = Unit {0}
SmallBlock One = Unit {0}
SmallBlock (Single l i) = (l < 24) × (i < 3)
SmallBlock (Dot l m) = (l < 24) × (m < 24)
SmallBlock (Triple l m k) = (l < 24) × (m < 24) × (k < 24)
SmallBlock (Cross l m i) = (l < 24) × (m < 24) × (i < 3)

-- n summands can be multiplied by a product, to stand behind or in their own place
pub record Spreading (from n to : ℕ) (p : Piece) (ms : List Summand) : Type 0 where
  pub there : to + n ≤ length ms
  pub apart : (from ≡ to) ⊎ (from + n ≤ to)
  pub small : PieceSmall p
  pub modest : All Modest (take n (drop from ms))

-- they are multiplied, and the others stand
pub record Spread (from n to : ℕ) (p : Piece) (ms ns : List Summand) : Type 0 where
  pub is : ns ≡ over ms to (map (times_piece p) (take n (drop from ms)))

-- n summands can be multiplied by a polynomial
pub record Multiplying (start n : ℕ) (f : Block) (ms : List Summand) : Type 0 where
  pub there : start + n ≤ length ms
  pub room : start + count_of f * n ≤ length ms
  pub small : SmallBlock f
  pub modest : All Modest (take n (drop start ms))

-- they are multiplied, and the others stand
pub record Multiplied (start n : ℕ) (f : Block) (r : ℕ) (ms ns : List Summand) : Type 0 where
  pub is : ns ≡ over ms start (times_block f (take n (drop start ms)))
  pub count : r ≡ count_of f * n

-- the letters of a list are below 24
abbrev pub LettersBelow : (letters : List ℕ) → Type 0
LettersBelow letters = All (λ (l : ℕ). l < 24) letters

-- the most products that so many vector letters make
unfoldable pub top : ℕ → ℕ
top zero = 1
top (suc zero) = 1
top (suc (suc zero)) = 3
top (suc (suc (suc zero))) = 6
top (suc (suc (suc (suc zero)))) = 9
top (suc (suc (suc (suc (suc zero))))) = 18
top (suc (suc (suc (suc (suc (suc n)))))) = 36

-- the layer stands behind the first `start` summands, which are those of ms
pub record Layer (start n : ℕ) (ms ns layer : List Summand) : Type 0 where
  pub front : take (start + n) ns ≡ take start ms ++ layer
  pub count : n ≡ length layer
  pub same : length ns ≡ length ms
  pub modest : All Modest layer

-- the summand number `start` can be multiplied by the factors of a term
pub record Factorable (start : ℕ) (t : Term) (ms : List Summand) : Type 0 where
  pub room : start + 36 ≤ length ms
  pub valid : TermValid t
  pub factors : All LettersBelow (term_of t).factors
  pub modest : Modest (get_or ms start none)

-- it is multiplied, and there is room for the vector part
pub record Factored (start : ℕ) (t : Term) (r : ℕ) (ms ns : List Summand) : Type 0 where
  pub stands : Layer start r ms ns (times_factors (term_of t).factors (get_or ms start none ∷ []))
  pub room : r * top (length (term_of t).part) ≤ 36

-- a term's component can be expanded
pub record Expandable (start : ℕ) (t : Term) (i : ℕ) (sign : ℤ) (ms : List Summand) : Type 0 where
  pub room : start + 36 ≤ length ms
  pub valid : TermValid t
  pub factors : All LettersBelow (term_of t).factors
  pub part : LettersBelow (term_of t).part
  pub component : i < 3
  pub unit : nat_abs sign ≤ 1

-- it is expanded behind the first summands, which stand
pub record Expanded (start : ℕ) (es : List Summand) (r : ℕ) (ms ns : List Summand) : Type 0 where
  pub front : take (start + r) ns ≡ take start ms ++ es
  pub count : r ≡ length es
  pub same : length ns ≡ length ms
