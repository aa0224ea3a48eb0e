-- Reading a term: each step as its tests decide it. Assumes nothing.
use mathlib.Core.Path.{◌≡◌, refl, ap, sym, ◌∙◌}
use mathlib.Core.Bool.{Bool, true, false, true≢false, not, ◌&&◌}
use mathlib.Core.List.{List, [], ◌∷◌, ◌++◌, map, append-nil, append_assoc}
use Prim.Native.Nat.{ℕ, zero, suc, ◌+◌, ◌-◌, ◌*◌, ◌/◌, ◌%◌, ◌<◌, ◌≤◌}
use native.Mathlib.Omega.{arith}
use native.Mathlib.Nat.{suc-mul, mul-le-mul, mul-le-mul_right, le_of_lt, lt_of_le_of_lt}
use native.Mathlib.Numerals.{add-one}
use lib.Dec.{ltb, leb, eqb, lit<}
use lib.IntN.{ℤ, pos}
use lib.ListN.{length, get_or, take, drop, set}
use lib.Seq.{drop-cons}
use borrow.Author.Tests.{lt-ltb, le-ltb, le-leb, lt-leb, ltb-true, leb-true, leb-false}
use Rattle.specification.specs.Results.{Result, refused, given, ◌>>=◌, ◌>>◌, require}
use Rattle.specification.specs.Terms.{with_coef, plus, term_in_shape}
use Rattle.specification.specs.Terms as S
use Rattle.specification.specs.Records.{is_one, four_bytes_at, stands, part_letters, good_bits, read_coef, read_factors, read_letters, factors_at, test_shape, read_term_at}
use Rattle.terms.specs.declared.types.Part.{Part}
use Rattle.terms.specs.declared.types.Part.TheVariants.{Nothing}
use Rattle.terms.specs.declared.types.Term.{Term}
use Rattle.terms.specs.Numbers.{letters_of, FactorNumber}
use Rattle.terms.specs.Abstraction.{part_of, term_of, Counted}
use Rattle.terms.specs.Build.{behind, Appended}
use Rattle.terms.proofs.Appending.{appended_one}
use Rattle.records.specs.declared.read.Fields.{Fields}
use Rattle.std.specs.Prelude.{Ok, Err}
use Rattle.refusal.specs.declared.Refusal.TheVariants.{WrongShape}
use Rattle.records.specs.Reading.{read_of, listed, at_fields, fields_of, coef_step, CoefRead, factors_step, with_part, part_step, shape_step, rest_of, read_fields, Stepped, TermRead}

-- ════ room

pub room_none : (len at n : ℕ) → len < n → false ≡ leb (at + n) len
room_none len at n h = sym (lt-leb (at + n) len (omega arith))

pub room_some : (len at n : ℕ) → n ≤ len → leb at (len - n) ≡ leb (at + n) len
room_some len at n h = go (leb at (len - n)) refl
  where
    go : (t : Bool) → leb at (len - n) ≡ t → leb at (len - n) ≡ leb (at + n) len
    go true e = e ∙ sym (le-leb (at + n) len (omega (arith, leb-true at (len - n) e)))
    go false e = e ∙ sym (lt-leb (at + n) len (omega (arith, leb-false at (len - n) e)))

-- ════ a step

module _ (step : S.Term × ℕ → Result (S.Term × ℕ)) (more : ℕ) (r : Fields) (f g : List ℕ) where
  -- the step refuses
  pub refuses : step (term_of (at_fields r f), r.next) ≡ refused 11 → Stepped step more r f (Err WrongShape) g
  unfolding fields_of
  refuses e = record { is = sym e; counted = tt; few = tt }

  -- the step gives
  pub goes : (q : Fields) → step (term_of (at_fields r f), r.next) ≡ given (term_of (at_fields q g), q.next)
      → Counted (at_fields q g) → q.count ≤ r.count + more → Stepped step more r f (Ok q) g
  unfolding fields_of
  goes q e k l = record { is = sym e; counted = k; few = l }

-- ════ the coefficient

pub recounted : (t u : Term) → u.factors ≡ t.factors → u.factor_count ≡ t.factor_count → Counted t → Counted u
recounted t u e f h = record { few = rw f h.few; small = rw (e, f) h.small }

pub coef-absent : (s : List ℕ) (t : S.Term) (at : ℕ) (there : Bool) → there ≡ false → coef_step there s (t, at) ≡ given (with_coef (pos 1) t, at)
unfolding coef_step read_coef
coef-absent s t at there e = rw e

module _ (s : List ℕ) (t : S.Term) (at : ℕ) (there : Bool) (e : there ≡ true) where
  pub coef_short : leb (at + 4) (length s) ≡ false → coef_step there s (t, at) ≡ refused 11
  unfolding coef_step read_coef
  coef_short f = rw (e, f)

  pub coef_one : leb (at + 4) (length s) ≡ true → is_one (four_bytes_at s at) ≡ true → coef_step there s (t, at) ≡ refused 11
  unfolding coef_step read_coef
  coef_one f g = rw (e, f, g)

  pub coef_given : leb (at + 4) (length s) ≡ true → is_one (four_bytes_at s at) ≡ false → coef_step there s (t, at) ≡ given (with_coef (four_bytes_at s at) t, at + 4)
  unfolding coef_step read_coef
  coef_given f g = rw (e, f, g)

-- a coefficient read is that of a term without factors
pub coef-goes : (there : Bool) (s : List ℕ) (at : ℕ) (q : Fields) → q.count ≡ 0
    → coef_step there s (plus [] [], at) ≡ given (with_coef q.coef (plus [] []), q.next) → CoefRead there s at (Ok q)
unfolding fields_of at_fields term_of part_of
coef-goes there s at q none e = record { is = λ f. rw none (sym e); none = none }

-- one refused
pub coef-refuses : (there : Bool) (s : List ℕ) (at : ℕ) → coef_step there s (plus [] [], at) ≡ refused 11 → CoefRead there s at (Err WrongShape)
unfolding fields_of
coef-refuses there s at e = record { is = λ f. sym e; none = tt }

-- ════ letters at a position

module _ (s : List ℕ) (at : ℕ) where
  pub one_at : at + 1 ≤ length s → take 1 (drop at s) ≡ get_or s at 0 ∷ []
  one_at h = rw (drop-cons s at 0 (omega arith))

  pub two_at : at + 2 ≤ length s → take 2 (drop at s) ≡ get_or s at 0 ∷ get_or s (at + 1) 0 ∷ []
  two_at h =
      let p : suc at < length s = omega arith in
      rw (drop-cons s at 0 (omega arith), drop-cons s (suc at) 0 p, add-one)

  pub three_at_lem : at + 3 ≤ length s → take 3 (drop at s) ≡ get_or s at 0 ∷ get_or s (at + 1) 0 ∷ get_or s (at + 2) 0 ∷ []
  three_at_lem h =
      let p : suc at < length s = omega arith in
      let q : suc (suc at) < length s = omega arith in
      let e : suc (suc at) ≡ at + 2 = omega arith in
      rw (drop-cons s at 0 (omega arith), drop-cons s (suc at) 0 p, drop-cons s (suc (suc at)) 0 q, e, add-one)

-- ════ factors

pub appended_none : (t : Term) (size : ℕ) (s : List ℕ) (at : ℕ) → Counted t → Appended (factors_at 0 size s at) 0 t t
unfolding behind factors_at
appended_none t size s at h = record { is = ap (λ (fs : List (List ℕ)). record { coef = (term_of t).coef; factors = fs; part = (term_of t).part }) (sym (append-nil _)); counted = h; count = omega arith }

-- one factor behind those read so far is one more read
pub appended_more : (t u r : Term) (i size next k : ℕ) (s : List ℕ) (at : ℕ) → next ≡ at + i * size → FactorNumber (take size (drop next s)) k
    → Appended (factors_at i size s at) i t u → Appended (letters_of k ∷ []) 1 u r → Appended (factors_at (i + 1) size s at) (i + 1) t r
unfolding factors_at behind
appended_more t u r i size next k s at e n h g = record { is = g.is ∙ ap (behind (letters_of k ∷ [])) h.is ∙ together; counted = g.counted; count = omega (arith, g.count, h.count) }
  where
    grown : (i at : ℕ) → next ≡ at + i * size → factors_at i size s at ++ letters_of k ∷ [] ≡ factors_at (suc i) size s at
    grown zero at e = let z : next ≡ at = omega arith in ap (λ (f : List ℕ). f ∷ []) (n.letters ∙ ap (λ (p : ℕ). take size (drop p s)) z)
    grown (suc i) at e = ap (λ (z : List (List ℕ)). take size (drop at s) ∷ z) (grown i (at + size) (omega (arith, e, suc-mul i size)))

    together : behind (letters_of k ∷ []) (behind (factors_at i size s at) (term_of t)) ≡ behind (factors_at (i + 1) size s at) (term_of t)
    together = ap (λ (fs : List (List ℕ)). record { coef = (term_of t).coef; factors = fs; part = (term_of t).part }) (append_assoc (term_of t).factors (factors_at i size s at) (letters_of k ∷ []) ∙ ap (λ (z : List (List ℕ)). (term_of t).factors ++ z) (grown i at e ∙ rw add-one))

-- none in a list
pub listed_none : (n size : ℕ) (s : List ℕ) (at : ℕ) (f : List ℕ) → Counted (listed n f) → Appended (factors_at 0 size s at) 0 (listed n f) (listed (n + 0) f)
listed_none n size s at f h = let e : n + 0 ≡ n = omega arith in rw e (appended_none (listed n f) size s at h)

-- one factor more in a list of seven
pub listed_more : (n k : ℕ) (f : List ℕ) → Counted (listed n f) → n < 7 → k < 16843008 → length f ≡ 7 → Appended (letters_of k ∷ []) 1 (listed n f) (listed (n + 1) (set f n k))
unfolding listed
listed_more n k f h g b l = appended_one _ _ _ h g b l refl refl refl refl

-- one more read, at its place in the list
pub listed-turn : (n i size next k : ℕ) (s : List ℕ) (at : ℕ) (f₀ f : List ℕ) → next ≡ at + i * size → FactorNumber (take size (drop next s)) k → n + i < 7 → length f ≡ 7
    → Appended (factors_at i size s at) i (listed n f₀) (listed (n + i) f) → Appended (factors_at (i + 1) size s at) (i + 1) (listed n f₀) (listed (n + (i + 1)) (set f (n + i) k))
listed-turn n i size next k s at f₀ f e b g l h =
    let q : n + (i + 1) ≡ n + i + 1 = omega arith in
    rw q (appended_more (listed n f₀) (listed (n + i) f) (listed (n + i + 1) (set f (n + i) k)) i size next k s at e b h (listed_more (n + i) k f h.counted g b.small l))

pub none_counted : (n : ℕ) (f : List ℕ) → n ≡ 0 → Counted (listed n f)
unfolding listed
none_counted n f e = rw e (record { few = omega arith; small = tt })

pub again-counted : (r : Fields) (f : List ℕ) → Counted (at_fields r f) → Counted (listed r.count f)
unfolding listed at_fields
again-counted r f h = recounted _ _ refl refl h

pub fields-counted : (r : Fields) (f : List ℕ) → Counted (listed r.count f) → Counted (at_fields r f)
unfolding listed at_fields
fields-counted r f h = recounted _ _ refl refl h

-- some behind others
pub fields-appended : (k : ℤ) (n m : ℕ) (f g : List ℕ) (fs : List (List ℕ)) → Appended fs m (listed n f) (listed (n + m) g)
    → behind fs (term_of (record { coef = k; factors = f; factor_count = n; part = Nothing })) ≡ term_of (record { coef = k; factors = g; factor_count = n + m; part = Nothing })
unfolding behind term_of listed part_of
fields-appended k n m f g fs h = λ i. record { coef = k; factors = sym (ap (λ (t : S.Term). t.factors) h.is) i; part = [] }

-- ════ the tests before factors

module _ (s : List ℕ) (at most size : ℕ) where
  abbrev Stand : Bool
  Stand = ltb at (length s) && ((leb 1 (get_or s at 0) && leb (get_or s at 0) most) && leb (at + 1 + get_or s at 0 * size) (length s))

  pub stand-behind : length s ≤ at → false ≡ Stand
  stand-behind h = rw (le-ltb at (length s) h)

  pub stand_zero : at < length s → get_or s at 0 < 1 → false ≡ Stand
  stand_zero h g = rw (lt-ltb at (length s) h, lt-leb 1 (get_or s at 0) g)

  pub stand-many : at < length s → 1 ≤ get_or s at 0 → most < get_or s at 0 → false ≡ Stand
  stand-many h g f = rw (lt-ltb at (length s) h, le-leb 1 (get_or s at 0) g, lt-leb (get_or s at 0) most f)

  pub stand-there : at < length s → 1 ≤ get_or s at 0 → get_or s at 0 ≤ most → (b : Bool) → b ≡ leb (at + 1 + get_or s at 0 * size) (length s) → b ≡ Stand
  stand-there h g f b e = rw (lt-ltb at (length s) h, le-leb 1 (get_or s at 0) g, le-leb (get_or s at 0) most f) e

  pub stand-says : Stand ≡ true → (at < length s) × (1 ≤ get_or s at 0) × (get_or s at 0 ≤ most) × (at + 1 + get_or s at 0 * size ≤ length s)
  stand-says e = go (ltb at (length s)) refl (leb 1 (get_or s at 0)) refl (leb (get_or s at 0) most) refl (leb (at + 1 + get_or s at 0 * size) (length s)) refl (sym e)
    where
      go : (a : Bool) → ltb at (length s) ≡ a → (b : Bool) → leb 1 (get_or s at 0) ≡ b → (c : Bool) → leb (get_or s at 0) most ≡ c → (d : Bool) → leb (at + 1 + get_or s at 0 * size) (length s) ≡ d
          → true ≡ (a && ((b && c) && d)) → (at < length s) × (1 ≤ get_or s at 0) × (get_or s at 0 ≤ most) × (at + 1 + get_or s at 0 * size ≤ length s)
      go true ea true eb true ec true ed h = (ltb-true _ _ ea, leb-true _ _ eb, leb-true _ _ ec, leb-true _ _ ed)
      go true ea true eb true ec false ed h = absurd (true≢false h)
      go true ea true eb false ec d ed h = absurd (true≢false h)
      go true ea false eb c ec d ed h = absurd (true≢false h)
      go false ea b eb c ec d ed h = absurd (true≢false h)

  module _ (t : S.Term) (there : Bool) (e : there ≡ true) where
    pub factors_refused : Stand ≡ false → factors_step there most size s (t, at) ≡ refused 11
    unfolding factors_step read_factors
    factors_refused f = rw e (go _ _ (ltb at (length s)) (leb 1 (get_or s at 0) && leb (get_or s at 0) most) (leb (at + 1 + get_or s at 0 * size) (length s)) f)
      where
        go : (x : List (List ℕ) × ℕ) (k : List (List ℕ) × ℕ → Result (S.Term × ℕ)) (a b c : Bool) → (a && (b && c)) ≡ false → ((require a 11 >> (require b 11 >> (require c 11 >> given x))) >>= k) ≡ refused 11
        go x k false b c h = refl
        go x k true false c h = refl
        go x k true true false h = refl
        go x k true true true h = absurd (true≢false h)

    pub factors_given : Stand ≡ true → factors_step there most size s (t, at) ≡ given (behind (factors_at (get_or s at 0) size s (at + 1)) t, at + 1 + get_or s at 0 * size)
    unfolding factors_step read_factors
    factors_given f = let w = stand-says f in rw (e, lt-ltb at (length s) w.0, le-leb 1 (get_or s at 0) w.1, le-leb (get_or s at 0) most w.2, le-leb (at + 1 + get_or s at 0 * size) (length s) w.3)

pub factors-absent : (s : List ℕ) (t : Term) (at most size : ℕ) (there : Bool) → there ≡ false → factors_step there most size s (term_of t, at) ≡ given (term_of t, at)
unfolding factors_step read_factors behind term_of
factors-absent s t at most size there e = rw (e, append-nil)

-- ════ the vector part

module _ (s : List ℕ) (t : S.Term) (at n : ℕ) where
  part_short : leb (at + n) (length s) ≡ false → part_step n s (t, at) ≡ refused 11
  unfolding part_step read_letters
  part_short f = rw f

  part_given : leb (at + n) (length s) ≡ true → part_step n s (t, at) ≡ given (with_part (take n (drop at s)) t, at + n)
  unfolding part_step read_letters
  part_given f = rw f

-- ════ the shape

shape_refused : (t : S.Term) (at : ℕ) → term_in_shape t ≡ false → shape_step (t, at) ≡ refused 11
unfolding shape_step test_shape
shape_refused t at e = rw e

shape_given : (t : S.Term) (at : ℕ) → term_in_shape t ≡ true → shape_step (t, at) ≡ given (t, at)
unfolding shape_step test_shape
shape_given t at e = rw e

-- ════ the rest of a term

module _ (s f : List ℕ) (r : Fields) (n : ℕ) where
  -- a vector part cut off
  pub rest_short : leb (r.next + n) (length s) ≡ false → TermRead (rest_of n s r f) (Err WrongShape)
  unfolding rest_of read_of
  rest_short e = record { is = sym (rw (part_short s (term_of (at_fields r f)) r.next n e)); counted = tt }

  module _ (p : Part) (k : ℤ) (l : leb (r.next + n) (length s) ≡ true) (ep : part_of p ≡ take n (drop r.next s)) (ek : k ≡ r.coef) where
    -- the whole term
    abbrev whole : Term
    whole = record { coef = k; factors = f; factor_count = r.count; part = p }

    rest-is : rest_of n s r f ≡ shape_step (term_of whole, r.next + n)
    unfolding rest_of at_fields term_of with_part
    rest-is =
        rw (part_given s (term_of (at_fields r f)) r.next n l)
        (λ i. shape_step (record { coef = sym ek i; factors = map letters_of (take r.count f); part = sym ep i }, r.next + n))

    -- not in shape
    pub rest-bad : term_in_shape (term_of whole) ≡ false → TermRead (rest_of n s r f) (Err WrongShape)
    unfolding read_of
    rest-bad e = record { is = sym (rest-is ∙ shape_refused (term_of whole) (r.next + n) e); counted = tt }

    -- read whole
    pub rest_given : term_in_shape (term_of whole) ≡ true → Counted (listed r.count f) → TermRead (rest_of n s r f) (Ok (whole, r.next + n))
    unfolding read_of listed
    rest_given e c = record { is = sym (rest-is ∙ shape_given (term_of whole) (r.next + n) e); counted = recounted _ _ refl refl c }

-- ════ bits

module _ (m : ℕ) where
  pub size_one : eqb (m / 16 % 2) 1 ≡ true → 1 ≡ part_letters m
  unfolding part_letters stands
  size_one e = rw e

  pub size_two : eqb (m / 16 % 2) 1 ≡ false → eqb (m / 32 % 2) 1 ≡ true → 2 ≡ part_letters m
  unfolding part_letters stands
  size_two e f = rw (e, f)

  pub size_none : eqb (m / 16 % 2) 1 ≡ false → eqb (m / 32 % 2) 1 ≡ false → 0 ≡ part_letters m
  unfolding part_letters stands
  size_none e f = rw (e, f)

  pub bits-beyond : 64 ≤ m → false ≡ good_bits m
  unfolding good_bits
  bits-beyond h = rw (le-ltb m 64 h)

  pub bits-letter : m < 64 → eqb (m / 16 % 2) 1 ≡ true → (b : Bool) → b ≡ eqb (m / 32 % 2) 1 → not b ≡ good_bits m
  unfolding good_bits stands
  bits-letter h e b f = rw (lt-ltb m 64 h, e, f)

  pub bits-other : m < 64 → eqb (m / 16 % 2) 1 ≡ false → true ≡ good_bits m
  unfolding good_bits stands
  bits-other h e = rw (lt-ltb m 64 h, e)

-- ════ the fields in a row

fields_are : (bits : ℕ) (s : List ℕ) (at : ℕ) → (do
  (coef, scalars_at) ← read_coef (stands 0 bits) s at
  (scalars, dots_at) ← read_factors (stands 1 bits) 2 1 s scalars_at
  (dots, triples_at) ← read_factors (stands 2 bits) 3 2 s dots_at
  (triples, part_at) ← read_factors (stands 3 bits) 2 3 s triples_at
  (part, next) ← read_letters (part_letters bits) s part_at
  test_shape (record { coef = coef; factors = scalars ++ dots ++ triples; part = part }) next) ≡ read_fields bits s at
unfolding read_fields coef_step factors_step part_step shape_step behind with_part
fields_are bits s at = coefs (read_coef (stands 0 bits) s at)
  where
    parts : (k : ℤ) (a b c : List (List ℕ)) (r : Result (List ℕ × ℕ))
        → (r >>= (λ (x : List ℕ × ℕ). test_shape (record { coef = k; factors = a ++ b ++ c; part = x.0 }) x.1))
        ≡ ((r >>= (λ (x : List ℕ × ℕ). given (record { coef = k; factors = ((([] ++ a) ++ b) ++ c); part = x.0 }, x.1))) >>= (λ (y : S.Term × ℕ). test_shape y.0 y.1))
    parts k a b c (refused n) = refl
    parts k a b c (given x) = refl

    triples : (k : ℤ) (a b : List (List ℕ)) (r : Result (List (List ℕ) × ℕ))
        → (r >>= (λ (y : List (List ℕ) × ℕ). read_letters (part_letters bits) s y.1 >>= (λ (x : List ℕ × ℕ). test_shape (record { coef = k; factors = a ++ b ++ y.0; part = x.0 }) x.1)))
        ≡ (r >>= (λ (y : List (List ℕ) × ℕ). given (record { coef = k; factors = (([] ++ a) ++ b) ++ y.0; part = [] }, y.1)) >>= part_step (part_letters bits) s >>= shape_step)
    triples k a b (refused n) = refl
    triples k a b (given y) = parts k a b y.0 (read_letters (part_letters bits) s y.1)

    dots : (k : ℤ) (a : List (List ℕ)) (r : Result (List (List ℕ) × ℕ))
        → (r >>= (λ (z : List (List ℕ) × ℕ). read_factors (stands 3 bits) 2 3 s z.1 >>= (λ (y : List (List ℕ) × ℕ). read_letters (part_letters bits) s y.1 >>= (λ (x : List ℕ × ℕ). test_shape (record { coef = k; factors = a ++ z.0 ++ y.0; part = x.0 }) x.1))))
        ≡ (r >>= (λ (z : List (List ℕ) × ℕ). given (record { coef = k; factors = ([] ++ a) ++ z.0; part = [] }, z.1)) >>= factors_step (stands 3 bits) 2 3 s >>= part_step (part_letters bits) s >>= shape_step)
    dots k a (refused n) = refl
    dots k a (given z) = triples k a z.0 (read_factors (stands 3 bits) 2 3 s z.1)

    scalars : (k : ℤ) (r : Result (List (List ℕ) × ℕ))
        → (r >>= (λ (v : List (List ℕ) × ℕ). read_factors (stands 2 bits) 3 2 s v.1 >>= (λ (z : List (List ℕ) × ℕ). read_factors (stands 3 bits) 2 3 s z.1 >>= (λ (y : List (List ℕ) × ℕ). read_letters (part_letters bits) s y.1 >>= (λ (x : List ℕ × ℕ). test_shape (record { coef = k; factors = v.0 ++ z.0 ++ y.0; part = x.0 }) x.1)))))
        ≡ (r >>= (λ (v : List (List ℕ) × ℕ). given (record { coef = k; factors = [] ++ v.0; part = [] }, v.1)) >>= factors_step (stands 2 bits) 3 2 s >>= factors_step (stands 3 bits) 2 3 s >>= part_step (part_letters bits) s >>= shape_step)
    scalars k (refused n) = refl
    scalars k (given v) = dots k v.0 (read_factors (stands 2 bits) 3 2 s v.1)

    coefs : (r : Result (ℤ × ℕ))
        → (r >>= (λ (w : ℤ × ℕ). read_factors (stands 1 bits) 2 1 s w.1 >>= (λ (v : List (List ℕ) × ℕ). read_factors (stands 2 bits) 3 2 s v.1 >>= (λ (z : List (List ℕ) × ℕ). read_factors (stands 3 bits) 2 3 s z.1 >>= (λ (y : List (List ℕ) × ℕ). read_letters (part_letters bits) s y.1 >>= (λ (x : List ℕ × ℕ). test_shape (record { coef = w.0; factors = v.0 ++ z.0 ++ y.0; part = x.0 }) x.1))))))
        ≡ (r >>= (λ (w : ℤ × ℕ). given (with_coef w.0 (plus [] []), w.1)) >>= factors_step (stands 1 bits) 2 1 s >>= factors_step (stands 2 bits) 3 2 s >>= factors_step (stands 3 bits) 2 3 s >>= part_step (part_letters bits) s >>= shape_step)
    coefs (refused n) = refl
    coefs (given w) = scalars w.0 (read_factors (stands 1 bits) 2 1 s w.1)

module _ (s : List ℕ) (at : ℕ) where
  pub term-behind : length s ≤ at → refused 11 ≡ read_term_at s at
  unfolding read_term_at
  term-behind h = rw (le-ltb at (length s) h)

  pub term-bad-bits : at < length s → good_bits (get_or s at 0) ≡ false → refused 11 ≡ read_term_at s at
  unfolding read_term_at
  term-bad-bits h e = rw (lt-ltb at (length s) h, e)

  pub term-fields : at < length s → good_bits (get_or s at 0) ≡ true → read_fields (get_or s at 0) s (at + 1) ≡ read_term_at s at
  unfolding read_term_at
  term-fields h e = rw (lt-ltb at (length s) h, e) (sym (fields_are (get_or s at 0) s (at + 1)))

-- ════ products of a count and a size

pub small_product : (n p : ℕ) → n < 256 → p ≤ 3 → n * p < 18446744073709551616
small_product n p h k = lt_of_le_of_lt (mul-le-mul (le_of_lt h) k) (lit< tt)

-- a further turn stays within
pub turn-fits : (at i count size len next : ℕ) → i < count → at + count * size ≤ len → next ≡ at + i * size → next + size ≤ len
turn-fits at i count size len next h k e = omega (arith, e, suc-mul i size, mul-le-mul_right size (lt-suc h), k)
  where
    lt-suc : i < count → suc i ≤ count
    lt-suc g = omega arith

-- the number of the letters at a position
pub spelled : (s : List ℕ) (at size n : ℕ) (l : List ℕ) (k : ℕ) → size ≡ n → take n (drop at s) ≡ l → FactorNumber l k → FactorNumber (take size (drop at s)) k
spelled s at size n l k e q h = rw (e, q) h

-- the steps made one after the other, each from what the one before it gave or refused
pub fields_read : (m : ℕ) (s : List ℕ) (at : ℕ) (coef scalars dots triples all : Result (S.Term × ℕ)) (b₀ b₁ b₂ b₃ : Bool) (n : ℕ)
    → b₀ ≡ eqb (m / 1 % 2) 1 → b₁ ≡ eqb (m / 2 % 2) 1 → b₂ ≡ eqb (m / 4 % 2) 1 → b₃ ≡ eqb (m / 8 % 2) 1 → n ≡ part_letters m
    → coef ≡ coef_step b₀ s (plus [] [], at)
    → scalars ≡ (coef >>= factors_step b₁ 2 1 s)
    → dots ≡ (scalars >>= factors_step b₂ 3 2 s)
    → triples ≡ (dots >>= factors_step b₃ 2 3 s)
    → all ≡ (triples >>= part_step n s >>= shape_step)
    → all ≡ read_fields m s at
unfolding read_fields stands
fields_read m s at coef scalars dots triples all b₀ b₁ b₂ b₃ n d₀ d₁ d₂ d₃ dn e₁ e₂ e₃ e₄ e₅ = rw (e₅, e₄, e₃, e₂, e₁, d₀, d₁, d₂, d₃, dn)
