-- Term records: a term in shape is read back from its record, and a record that is read is the one that is written; it has at most 16 bytes. Assumes nothing.
use Rattle.std.specs.Prelude.{◌≡◌, refl, not, List, ◌∷◌, ◌++◌, ℕ, ◌+◌, ◌≤◌, ◌<◌, ℤ, nat_abs, length, get_or, T, ltb}
use Rattle.std.proofs.Common.{◌∙◌, subst, append-nil, arith, length-append, ltb→lt, leb→le, lt-ltb}
use Rattle.specification.specs.Results.{given}
use Rattle.specification.specs.Terms.{Term, coef_within, term_in_shape}
use Rattle.specification.specs.Records.{is_one, coef_field, count_field, factors_of, write_term, stands, good_bits, part_letters, read_coef, read_factors, read_letters, test_shape, read_term_at}
use Rattle.theory.specs.Tests.{passes, given_same, past, into}
use Rattle.theory.specs.Shape.Terms.{TermShape, term-opens}
use Rattle.theory.specs.Records.Positions.{Spells, Bytes, spells-cons, spells-join, spells_first, spells-rest, spelled-there, spelled-byte, spelled-tail}
use Rattle.theory.specs.Records.Fields.{coef_short, factors_short, Sized, are_there, CoefRead, FactorsRead, LettersRead, coef_read, coef_written, factors_read, factors_written, letters_read, letters_written}
use Rattle.theory.specs.Records.Factors.{of_size, of_size-sized, of_size-append, of_size_same, of_size-other, factors-split, scalars-counted, vectors-counted}
use Rattle.theory.specs.Records.Bits.{bit_map, coef-bit, count_bit, bit_map-tells, bit_map_of}

-- ════ a record by its fields

-- the fields behind the bit map
abbrev fields : (k : ℤ) (ss ds ts : List (List ℕ)) (part : List ℕ) → List ℕ
fields k ss ds ts part = coef_field k ++ count_field ss ++ count_field ds ++ count_field ts ++ part

-- the bit map and the fields
abbrev record_of : (k : ℤ) (ss ds ts : List (List ℕ)) (part : List ℕ) → List ℕ
record_of k ss ds ts part = bit_map (not (is_one k)) (are_there ss) (are_there ds) (are_there ts) part ∷ fields k ss ds ts part

written_fields : (t : Term) → write_term t ≡ record_of t.coef (of_size 1 t.factors) (of_size 2 t.factors) (of_size 3 t.factors) t.part
unfolding write_term factors_of
written_fields t = simp (coef-bit, count_bit)

-- what a record's fields have to be
record Fit (k : ℤ) (ss ds ts : List (List ℕ)) (part : List ℕ) : Type 0 where
  coef : nat_abs k ≤ 2147483647
  scalars : Sized 1 ss
  few_scalars : length ss ≤ 2
  dots : Sized 2 ds
  few_dots : length ds ≤ 3
  triples : Sized 3 ts
  few_triples : length ts ≤ 2
  letters : length part ≤ 2

fields_read : (s : List ℕ) (a b : ℕ) (k : ℤ) (ss ds ts : List (List ℕ)) (part : List ℕ) → Fit k ss ds ts part → Spells s a b (record_of k ss ds ts part)
    → read_term_at s a ≡ test_shape (record { coef = k; factors = ss ++ ds ++ ts; part = part }) b
unfolding read_term_at
fields_read s a b k ss ds ts part f p =
    let n = bit_map (not (is_one k)) (are_there ss) (are_there ds) (are_there ts) part in
    let tells = bit_map-tells (not (is_one k)) (are_there ss) (are_there ds) (are_there ts) part f.letters in
    let e : get_or s a 0 ≡ n = spelled-byte s a b n (fields k ss ds ts part) p in
    let w₁ = coef_field k in
    let w₂ = w₁ ++ count_field ss in
    let w₃ = w₂ ++ count_field ds in
    let w₄ = w₃ ++ count_field ts in
    let q₅ : Spells s (a + 1) b (w₄ ++ part) = spelled-tail s a b n (fields k ss ds ts part) p in
    let q₄ = spells_first s (a + 1) b w₄ part q₅ in
    let q₃ = spells_first s (a + 1) _ w₃ (count_field ts) q₄ in
    let q₂ = spells_first s (a + 1) _ w₂ (count_field ds) q₃ in
    let q₁ = spells_first s (a + 1) _ w₁ (count_field ss) q₂ in
    let r₁ = coef_read s (a + 1) (a + 1 + length w₁) k f.coef q₁ in
    let r₂ = factors_read s (a + 1 + length w₁) (a + 1 + length w₂) 2 1 ss f.scalars f.few_scalars (spells-rest s (a + 1) _ w₁ (count_field ss) q₂) in
    let r₃ = factors_read s (a + 1 + length w₂) (a + 1 + length w₃) 3 2 ds f.dots f.few_dots (spells-rest s (a + 1) _ w₂ (count_field ds) q₃) in
    let r₄ = factors_read s (a + 1 + length w₃) (a + 1 + length w₄) 2 3 ts f.triples f.few_triples (spells-rest s (a + 1) _ w₃ (count_field ts) q₄) in
    let r₅ = letters_read s (a + 1 + length w₄) b (length part) part refl (spells-rest s (a + 1) b w₄ part q₅) in
    simp (lt-ltb a (length s) (spelled-there s a b n (fields k ss ds ts part) p), e, tells.good, tells.coef, tells.scalars, tells.dots, tells.triples, tells.letters, r₁, r₂, r₃, r₄, r₅)

-- ════ a term in shape

shape-fit : (t : Term) → TermShape t → Fit t.coef (of_size 1 t.factors) (of_size 2 t.factors) (of_size 3 t.factors) t.part
unfolding coef_within
shape-fit t h =
    let v = vectors-counted t.factors h.fits.lengths in
    let c = scalars-counted t.factors h.fits.lengths in
    record {
      coef = leb→le (nat_abs t.coef) 2147483647 h.within;
      scalars = of_size-sized 1 t.factors;
      few_scalars = omega (arith, h.fits.scalars);
      dots = of_size-sized 2 t.factors;
      few_dots = omega (arith, h.fits.vectors);
      triples = of_size-sized 3 t.factors;
      few_triples = omega (arith, h.fits.vectors);
      letters = h.fits.part;
    }

-- a term in shape is read back, wherever its record stands
pub term_read : (s : List ℕ) (a b : ℕ) (t : Term) → T (term_in_shape t) → Spells s a b (write_term t) → read_term_at s a ≡ given (t, b)
unfolding test_shape
term_read s a b t h p =
    let o : TermShape t = term-opens t h in
    let e = factors-split t.factors o.fits.lengths o.in_order.order in
    let q = rw (written_fields t) at p in
    let r : read_term_at s a ≡ test_shape t b = rw (← e) at (fields_read s a b t.coef (of_size 1 t.factors) (of_size 2 t.factors) (of_size 3 t.factors) t.part (shape-fit t o) q) in
    r ∙ passes (term_in_shape t) 11 (given (t, b)) h

-- the record of a term in shape has at most 16 bytes
pub term_short : (t : Term) → T (term_in_shape t) → length (write_term t) ≤ 16
term_short t h =
    let o : TermShape t = term-opens t h in
    let f = shape-fit t o in
    let v = vectors-counted t.factors o.fits.lengths in
    rw (written_fields t) (simp length-append (omega (
      arith,
      coef_short t.coef,
      factors_short 1 (of_size 1 t.factors) f.scalars,
      factors_short 2 (of_size 2 t.factors) f.dots,
      factors_short 3 (of_size 3 t.factors) f.triples,
      o.fits.vectors,
      f.few_scalars,
    )))

-- ════ what is read

-- what reading a term gives
pub record TermRead (s : List ℕ) (a b : ℕ) (t : Term) : Type 0 where
  pub in_shape : T (term_in_shape t)
  pub spelled : Spells s a b (write_term t)

-- the record of a term made of fields of their sizes
record_of-fields : (k : ℤ) (ss ds ts : List (List ℕ)) (part : List ℕ) → Sized 1 ss → Sized 2 ds → Sized 3 ts
    → write_term (record { coef = k; factors = ss ++ ds ++ ts; part = part }) ≡ record_of k ss ds ts part
record_of-fields k ss ds ts part h₁ h₂ h₃ =
    written_fields (record { coef = k; factors = ss ++ ds ++ ts; part = part }) ∙ simp (
      of_size-append,
      of_size_same 1 ss h₁,
      of_size_same 2 ds h₂,
      of_size_same 3 ts h₃,
      of_size-other 1 2 ss (λ e. omega (arith, e)) h₁,
      of_size-other 1 3 ss (λ e. omega (arith, e)) h₁,
      of_size-other 2 1 ds (λ e. omega (arith, e)) h₂,
      of_size-other 2 3 ds (λ e. omega (arith, e)) h₂,
      of_size-other 3 1 ts (λ e. omega (arith, e)) h₃,
      of_size-other 3 2 ts (λ e. omega (arith, e)) h₃,
      append-nil,
    )

fields_written : (s : List ℕ) (a p₁ p₂ p₃ p₄ b : ℕ) (k : ℤ) (ss ds ts : List (List ℕ)) (part : List ℕ) → a < length s → T (good_bits (get_or s a 0))
    → CoefRead (stands 0 (get_or s a 0)) s (a + 1) p₁ k
    → FactorsRead (stands 1 (get_or s a 0)) s p₁ p₂ 1 ss
    → FactorsRead (stands 2 (get_or s a 0)) s p₂ p₃ 2 ds
    → FactorsRead (stands 3 (get_or s a 0)) s p₃ p₄ 3 ts
    → LettersRead s p₄ b (part_letters (get_or s a 0)) part
    → Spells s a b (write_term (record { coef = k; factors = ss ++ ds ++ ts; part = part }))
fields_written s a p₁ p₂ p₃ p₄ b k ss ds ts part there good r₁ r₂ r₃ r₄ r₅ =
    let q₂ = spells-join s (a + 1) p₁ p₂ _ _ r₁.spelled r₂.spelled in
    let q₃ = spells-join s (a + 1) p₂ p₃ _ _ q₂ r₃.spelled in
    let q₄ = spells-join s (a + 1) p₃ p₄ _ _ q₃ r₄.spelled in
    let q₅ = spells-join s (a + 1) p₄ b _ _ q₄ r₅.spelled in
    let e : get_or s a 0 ≡ bit_map (not (is_one k)) (are_there ss) (are_there ds) (are_there ts) part =
    bit_map_of (get_or s a 0) part good r₅.count ∙ simp (r₁.there, r₂.there, r₃.there, r₄.there) in
    rw (record_of-fields k ss ds ts part r₂.sized r₃.sized r₄.sized, ← e) (spells-cons s a b _ there q₅)

-- a record that is read is the one that is written
pub term_written : (s : List ℕ) (a b : ℕ) (t : Term) → Bytes s → read_term_at s a ≡ given (t, b) → TermRead s a b t
unfolding read_term_at test_shape
term_written s a b t bs e =
    let n = get_or s a 0 in
    past (ltb a (length s)) 11 _ (t, b) e λ there e₁.
    past (good_bits n) 11 _ (t, b) e₁ λ good e₂.
    into (read_coef (stands 0 n) s (a + 1)) _ (t, b) e₂ λ c g₁ e₃.
    into (read_factors (stands 1 n) 2 1 s c.1) _ (t, b) e₃ λ ss g₂ e₄.
    into (read_factors (stands 2 n) 3 2 s ss.1) _ (t, b) e₄ λ ds g₃ e₅.
    into (read_factors (stands 3 n) 2 3 s ds.1) _ (t, b) e₅ λ ts g₄ e₆.
    into (read_letters (part_letters n) s ts.1) _ (t, b) e₆ λ p g₅ e₇.
    past (term_in_shape (record { coef = c.0; factors = ss.0 ++ ds.0 ++ ts.0; part = p.0 })) 11 _ (t, b) e₇ λ in_shape e₈.
    let l = ltb→lt a (length s) there in
    let r₁ = coef_written (stands 0 n) s (a + 1) c.1 c.0 bs (omega arith) g₁ in
    let r₂ = factors_written (stands 1 n) s c.1 ss.1 2 1 ss.0 r₁.spelled.fits g₂ in
    let r₃ = factors_written (stands 2 n) s ss.1 ds.1 3 2 ds.0 r₂.spelled.fits g₃ in
    let r₄ = factors_written (stands 3 n) s ds.1 ts.1 2 3 ts.0 r₃.spelled.fits g₄ in
    let r₅ = letters_written s ts.1 p.1 (part_letters n) p.0 g₅ in
    subst (λ (v : Term × ℕ). TermRead s a v.1 v.0) (given_same e₈)
    (record { in_shape = in_shape; spelled = fields_written s a c.1 ss.1 ds.1 ts.1 p.1 c.0 ss.0 ds.0 ts.0 p.0 l good r₁ r₂ r₃ r₄ r₅ })
