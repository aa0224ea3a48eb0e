-- The fields of a term record: coefficient, counted factors and letters are read back, and those read are those written. Assumes nothing.
use Rattle.std.specs.Prelude.{◌≡◌, refl, Bool, true, false, not, ◌&&◌, List, [], ◌∷◌, ℕ, zero, suc, ◌+◌, ◌*◌, ◌≤◌, ◌<◌, ℤ, pos, negsuc, nat_abs, length, get_or, take, drop, ltb, leb}
use Rattle.std.proofs.Common.{ap, sym, subst, arith, suc-mul, zero-mul, length-append, length-take, length-drop, ltb→lt, leb→le, lt-ltb, le-leb}
use Rattle.std.proofs.lemmas.Bool.{false≢true, not-true}
use Rattle.specification.specs.Lists.{joined}
use Rattle.specification.specs.Results.{given}
use Rattle.specification.specs.Records.{four_bytes, four_bytes_at, is_one, coef_field, count_field, read_letters, read_coef, factors_at, read_factors}
use Rattle.theory.specs.Tests.{is_true, and_split, given_same, required}
use Rattle.theory.specs.Elements.{All}
use Rattle.theory.specs.Records.Positions.{Spells, Bytes, spells_none, spells-cons, spells-take, spells-join, spells_first, spells-rest, spelled-take, spelled-there, spelled-byte, spelled-tail}
use Rattle.theory.specs.Records.Numbers.{four_bytes-length, four_bytes_read, four_bytes_written}

-- every factor has so many letters
abbrev pub Sized : ℕ → List (List ℕ) → Type 0
Sized n fs = All (λ (f : List ℕ). length f ≡ n) fs

-- there are factors
abbrev pub are_there : List (List ℕ) → Bool
are_there [] = false
are_there (f ∷ fs) = true

-- ════ letters

-- letters that stand somewhere are read there
pub letters_read : (s : List ℕ) (a b n : ℕ) (xs : List ℕ) → length xs ≡ n → Spells s a b xs → read_letters n s a ≡ given (xs, b)
unfolding read_letters
letters_read s a b n xs e p =
    let h : a + n ≡ b = omega (arith, p.ends) in
    let t : take n (drop a s) ≡ xs = rw (← e) (spelled-take s a b xs p) in
    simp (h, le-leb b (length s) p.fits, t)

-- what reading letters gives
pub record LettersRead (s : List ℕ) (a b n : ℕ) (xs : List ℕ) : Type 0 where
  pub count : length xs ≡ n
  pub spelled : Spells s a b xs

-- letters that are read stand there
pub letters_written : (s : List ℕ) (a b n : ℕ) (xs : List ℕ) → read_letters n s a ≡ given (xs, b) → LettersRead s a b n xs
unfolding read_letters
letters_written s a b n xs e =
    let w = required (leb (a + n) (length s)) 11 _ (xs, b) e in
    let l = leb→le (a + n) (length s) w.0 in
    subst (λ (v : List ℕ × ℕ). LettersRead s a v.1 n v.0) (given_same w.1)
    (record { count = simp (length-take, length-drop) (omega arith); spelled = spells-take s a n l })

-- ════ the coefficient

is_one_one : (k : ℤ) → is_one k ≡ true → k ≡ pos 1
unfolding is_one
is_one_one (pos zero) e = absurd (false≢true e)
is_one_one (pos (suc zero)) e = refl
is_one_one (pos (suc (suc n))) e = absurd (false≢true e)
is_one_one (negsuc n) e = absurd (false≢true e)

coef-left_out : (k : ℤ) → is_one k ≡ true → coef_field k ≡ []
unfolding coef_field
coef-left_out k e = simp e

coef_written_out : (k : ℤ) → is_one k ≡ false → coef_field k ≡ four_bytes k
unfolding coef_field
coef_written_out k e = simp e

-- a coefficient is read back
pub coef_read : (s : List ℕ) (a b : ℕ) (k : ℤ) → nat_abs k ≤ 2147483647 → Spells s a b (coef_field k) → read_coef (not (is_one k)) s a ≡ given (k, b)
unfolding read_coef
coef_read s a b k h p = go (is_one k) refl
  where
    go : (one : Bool) → is_one k ≡ one → read_coef (not (is_one k)) s a ≡ given (k, b)
    go true e =
        let q : Spells s a b [] = rw (coef-left_out k e) at p in
        let l : a ≡ b = omega (arith, q.ends) in
        rw e (simp (is_one_one k e, l))
    go false e =
        let q : Spells s a b (four_bytes k) = rw (coef_written_out k e) at p in
        let l : a + 4 ≡ b = omega (arith, q.ends, four_bytes-length k) in
        simp (e, l, le-leb b (length s) p.fits, four_bytes_read s a b k h q, e)

-- at most four bytes
pub coef_short : (k : ℤ) → length (coef_field k) ≤ 4
coef_short k = go (is_one k) refl
  where
    go : (one : Bool) → is_one k ≡ one → length (coef_field k) ≤ 4
    go true e = rw (coef-left_out k e) (omega arith)
    go false e = rw (coef_written_out k e) (omega (arith, four_bytes-length k))

-- what reading a coefficient gives
pub record CoefRead (is_there : Bool) (s : List ℕ) (a b : ℕ) (k : ℤ) : Type 0 where
  pub there : is_there ≡ not (is_one k)
  pub spelled : Spells s a b (coef_field k)

-- a coefficient that is read is the one that is written
pub coef_written : (is_there : Bool) (s : List ℕ) (a b : ℕ) (k : ℤ) → Bytes s → a ≤ length s → read_coef is_there s a ≡ given (k, b) → CoefRead is_there s a b k
unfolding read_coef is_one coef_field
coef_written false s a b k bs h e =
    subst (λ (v : ℤ × ℕ). CoefRead false s a v.1 v.0) (given_same e) (record { there = refl; spelled = spells_none s a h })
coef_written true s a b k bs h e =
    let w₁ = required (leb (a + 4) (length s)) 11 _ (k, b) e in
    let w₂ = required (not (is_one (four_bytes_at s a))) 11 _ (k, b) w₁.1 in
    let z = not-true (is_one (four_bytes_at s a)) (is_true (not (is_one (four_bytes_at s a))) w₂.0) in
    subst (λ (v : ℤ × ℕ). CoefRead true s a v.1 v.0) (given_same w₂.1)
    (record { there = simp z; spelled = rw (coef_written_out (four_bytes_at s a) z) (four_bytes_written s a bs (leb→le (a + 4) (length s) w₁.0)) })

-- ════ factors

joined_length : (n : ℕ) (fs : List (List ℕ)) → Sized n fs → length (joined fs) ≡ length fs * n
unfolding joined
joined_length n [] h = sym (zero-mul n)
joined_length n (f ∷ fs) h =
    let i = joined_length n fs h.1 in
    simp (length-append, suc-mul) (omega (arith, h.0))

-- a count and n bytes a factor
pub factors_short : (n : ℕ) (fs : List (List ℕ)) → Sized n fs → length (count_field fs) ≤ 1 + length fs * n
unfolding count_field
factors_short n [] h = omega arith
factors_short n (f ∷ fs) h = omega (arith, joined_length n (f ∷ fs) h)

factors_at_read : (s : List ℕ) (n : ℕ) (fs : List (List ℕ)) (a b : ℕ) → Sized n fs → Spells s a b (joined fs) → factors_at (length fs) n s a ≡ fs
unfolding joined factors_at
factors_at_read s n [] a b h p = refl
factors_at_read s n (f ∷ fs) a b h p =
    let e : length f ≡ n = h.0 in
    let t : take n (drop a s) ≡ f = rw (← e) (spelled-take s a (a + length f) f (spells_first s a b f (joined fs) p)) in
    let r : Spells s (a + n) b (joined fs) = rw (← e) (spells-rest s a b f (joined fs) p) in
    let i = factors_at_read s n fs (a + n) b h.1 r in
    cc

-- what stands where factors are read
record FactorsAt (s : List ℕ) (a b n : ℕ) (fs : List (List ℕ)) : Type 0 where
  sized : Sized n fs
  spelled : Spells s a b (joined fs)

factors_at_written : (s : List ℕ) (n count a : ℕ) → a + count * n ≤ length s → FactorsAt s a (a + count * n) n (factors_at count n s a)
unfolding joined factors_at
factors_at_written s n zero a h =
    let e : a + 0 * n ≡ a = omega arith in
    rw e (record { sized = tt; spelled = spells_none s a (omega arith) })
factors_at_written s n (suc count) a h =
    let e : a + suc count * n ≡ a + n + count * n = simp suc-mul (omega arith) in
    let l : a + n + count * n ≤ length s = omega arith in
    let i = factors_at_written s n count (a + n) l in
    let t : length (take n (drop a s)) ≡ n = simp (length-take, length-drop) (omega arith) in
    rw e (record {
      sized = (t, i.sized);
      spelled = spells-join s a (a + n) (a + n + count * n) (take n (drop a s)) (joined (factors_at count n s (a + n))) (spells-take s a n (omega arith)) i.spelled;
    })

factors_at_count : (s : List ℕ) (n count a : ℕ) → length (factors_at count n s a) ≡ count
unfolding factors_at
factors_at_count s n zero a = refl
factors_at_count s n (suc count) a = ap suc (factors_at_count s n count (a + n))

-- counted factors are read back
pub factors_read : (s : List ℕ) (a b most n : ℕ) (fs : List (List ℕ)) → Sized n fs → length fs ≤ most → Spells s a b (count_field fs)
    → read_factors (are_there fs) most n s a ≡ given (fs, b)
unfolding count_field read_factors
factors_read s a b most n [] h m p = let e : a ≡ b = omega (arith, p.ends) in cc
factors_read s a b most n (f ∷ fs) h m p =
    let c = length (f ∷ fs) in
    let q : Spells s (a + 1) b (joined (f ∷ fs)) = spelled-tail s a b c (joined (f ∷ fs)) p in
    let e : get_or s a 0 ≡ c = spelled-byte s a b c (joined (f ∷ fs)) p in
    let l : a + 1 + c * n ≡ b = omega (arith, q.ends, joined_length n (f ∷ fs) h) in
    let i = factors_at_read s n (f ∷ fs) (a + 1) b h q in
    simp (lt-ltb a (length s) (spelled-there s a b c (joined (f ∷ fs)) p), e, le-leb 1 c (omega arith), le-leb c most m, l, le-leb b (length s) p.fits, i)

-- what reading counted factors gives
pub record FactorsRead (is_there : Bool) (s : List ℕ) (a b n : ℕ) (fs : List (List ℕ)) : Type 0 where
  pub there : is_there ≡ are_there fs
  pub sized : Sized n fs
  pub spelled : Spells s a b (count_field fs)

are_there_some : (fs : List (List ℕ)) → 1 ≤ length fs → are_there fs ≡ true
are_there_some [] h = absurd (omega arith)
are_there_some (f ∷ fs) h = refl

count_field_some : (fs : List (List ℕ)) → 1 ≤ length fs → count_field fs ≡ length fs ∷ joined fs
unfolding count_field
count_field_some [] h = absurd (omega arith)
count_field_some (f ∷ fs) h = refl

factors-there : (s : List ℕ) (a n c : ℕ) → c ≡ get_or s a 0 → a < length s → 1 ≤ c → a + 1 + c * n ≤ length s
    → FactorsRead true s a (a + 1 + c * n) n (factors_at c n s (a + 1))
factors-there s a n c e h l f =
    let fs = factors_at c n s (a + 1) in
    let w = factors_at_written s n c (a + 1) f in
    let k : length fs ≡ c = factors_at_count s n c (a + 1) in
    let o : 1 ≤ length fs = omega arith in
    record {
      there = sym (are_there_some fs o);
      sized = w.sized;
      spelled = rw (count_field_some fs o, k, e) (rw e at (spells-cons s a (a + 1 + c * n) (joined fs) h w.spelled));
    }

-- counted factors that are read are those that are written
pub factors_written : (is_there : Bool) (s : List ℕ) (a b most n : ℕ) (fs : List (List ℕ)) → a ≤ length s → read_factors is_there most n s a ≡ given (fs, b)
    → FactorsRead is_there s a b n fs
unfolding read_factors count_field
factors_written false s a b most n fs h e =
    subst (λ (v : List (List ℕ) × ℕ). FactorsRead false s a v.1 n v.0) (given_same e)
    (record { there = refl; sized = tt; spelled = spells_none s a h })
factors_written true s a b most n fs h e =
    let c = get_or s a 0 in
    let w₁ = required (ltb a (length s)) 11 _ (fs, b) e in
    let w₂ = required (leb 1 c && leb c most) 11 _ (fs, b) w₁.1 in
    let w₃ = required (leb (a + 1 + c * n) (length s)) 11 _ (fs, b) w₂.1 in
    subst (λ (v : List (List ℕ) × ℕ). FactorsRead true s a v.1 n v.0) (given_same w₃.1)
    (factors-there s a n c refl (ltb→lt a (length s) w₁.0) (leb→le 1 c (and_split (leb 1 c) (leb c most) w₂.0).0) (leb→le (a + 1 + c * n) (length s) w₃.0))
