-- Records: the bytes of terms and forms, written and read; the shape, and the letters in byte order. Assumes nothing.
--
-- Reading is by a position `at` in the bytes `s`; a reader gives what it read and the position behind it, or 11.
use Rattle.std.specs.Prelude.{Bool, true, false, not, ◌&&◌, List, [], ◌∷◌, ◌++◌, map, ℕ, zero, suc, ◌+◌, ◌-◌, ◌*◌, ◌/◌, ◌%◌, ◌^◌, ℤ, pos, negsuc, length, get_or, take, drop, ltb, leb, eqb}
use Rattle.specification.specs.Lists.{select, joined, follows}
use Rattle.specification.specs.Results.{Result, Test, refused, given, ◌>>=◌, ◌>>◌, require, when◌then◌else◌}
use Rattle.specification.specs.Letters.{scalar, vector, test_table, test_letters}
use Rattle.specification.specs.Terms.{Term, Form, term_kind, term_before, term_in_shape}

-- "A call that gives a form writes its record into at least 770 bytes"
abbrev pub form_bytes : ℕ
form_bytes = 770

-- ════ four bytes signed, most significant byte first

-- an integer as a number of 32 bits
unfoldable pub to_bits32 : ℤ → ℕ
to_bits32 (pos n) = n
to_bits32 (negsuc n) = 4294967295 - n

-- a number of 32 bits as an integer
unfoldable pub from_bits32 : ℕ → ℤ
from_bits32 n = when ltb n 2147483648 then pos n else negsuc (4294967295 - n)

-- the four bytes of an integer
unfoldable pub four_bytes : ℤ → List ℕ
four_bytes k = let n = to_bits32 k in n / 16777216 % 256 ∷ n / 65536 % 256 ∷ n / 256 % 256 ∷ n % 256 ∷ []

-- the integer that the four bytes at a position spell
unfoldable pub four_bytes_at : (s : List ℕ) (at : ℕ) → ℤ
four_bytes_at s at =
    from_bits32 (((get_or s at 0 * 256 + get_or s (at + 1) 0) * 256 + get_or s (at + 2) 0) * 256 + get_or s (at + 3) 0)

-- ════ writing

-- the factors of n letters: 1 the scalar letters, 2 the dots, 3 the triples
unfoldable pub factors_of : ℕ → Term → List (List ℕ)
factors_of n t = select (λ f. eqb (length f) n) t.factors

-- the coefficient 1 is left out
unfoldable pub is_one : ℤ → Bool
is_one (pos zero) = false
is_one (pos (suc zero)) = true
is_one (pos (suc (suc n))) = false
is_one (negsuc n) = false

-- "Bit 0: coefficient, four bytes signed, left out exactly when it is 1"
unfoldable pub coef_field : ℤ → List ℕ
coef_field k = when is_one k then [] else four_bytes k

-- a count and the letters of factors, left out where there are none
unfoldable pub count_field : List (List ℕ) → List ℕ
count_field [] = []
count_field (f ∷ fs) = length (f ∷ fs) ∷ joined (f ∷ fs)

-- the value of a bit that stands where the field is there
unfoldable pub bit_of : List ℕ → ℕ → ℕ
bit_of [] value = 0
bit_of (b ∷ bs) value = value

-- bit 4 for a vector letter, bit 5 for a wedge
unfoldable pub part_bit : List ℕ → ℕ
part_bit p = when eqb (length p) 1 then 16 else when eqb (length p) 2 then 32 else 0

-- "a bit map byte, then only the fields whose bit stands, in this order"
unfoldable pub write_term : Term → List ℕ
write_term t =
    let coef = coef_field t.coef in
    let scalars = count_field (factors_of 1 t) in
    let dots = count_field (factors_of 2 t) in
    let triples = count_field (factors_of 3 t) in
    (bit_of coef 1 + bit_of scalars 2 + bit_of dots 4 + bit_of triples 8 + part_bit t.part)
    ∷ coef ++ scalars ++ dots ++ triples ++ t.part

-- "kind, term count, terms"
unfoldable pub write_form : Form → List ℕ
write_form f = f.kind ∷ length f.terms ∷ joined (map write_term f.terms)

-- a record in front of the memory lent: "the bytes after it stand"
unfoldable pub write_into : (bytes memory : List ℕ) → List ℕ
write_into bytes memory = bytes ++ drop (length bytes) memory

-- a form or the number as a call's answer: the length written, and the memory lent, afterwards
unfoldable pub answer_form : Result Form → (memory : List ℕ) → Result ℕ × List ℕ
answer_form (refused n) memory = (refused n, memory)
answer_form (given f) memory = (given (length (write_form f)), write_into (write_form f) memory)

-- the tests of a call that gives a form, in their order: 1, 2, then contents
unfoldable pub form_tested : (table out : List ℕ) (content : Result Form) → Result Form
form_tested table out content = do
  test_table table
  require (leb form_bytes (length out)) 2
  content

-- ════ reading a term

-- the bit k of a bit map stands
unfoldable pub stands : (k bits : ℕ) → Bool
stands k bits = eqb (bits / 2 ^ k % 2) 1

-- the n letters at a position
unfoldable pub read_letters : (n : ℕ) (s : List ℕ) (at : ℕ) → Result (List ℕ × ℕ)
read_letters n s at = do
  require (leb (at + n) (length s)) 11
  given (take n (drop at s), at + n)

-- the coefficient, if its bit stands: written out it is not 1
unfoldable pub read_coef : (is_there : Bool) (s : List ℕ) (at : ℕ) → Result (ℤ × ℕ)
read_coef false s at = given (pos 1, at)
read_coef true s at = do
  require (leb (at + 4) (length s)) 11
  require (not (is_one (four_bytes_at s at))) 11
  given (four_bytes_at s at, at + 4)

-- count factors of size letters each, from a position on
unfoldable pub factors_at : (count size : ℕ) (s : List ℕ) (at : ℕ) → List (List ℕ)
factors_at zero size s at = []
factors_at (suc count) size s at = take size (drop at s) ∷ factors_at count size s (at + size)

-- a count and factors, if their bit stands: at least 1, and at most as many as a term's letters allow
unfoldable pub read_factors : (is_there : Bool) (most size : ℕ) (s : List ℕ) (at : ℕ) → Result (List (List ℕ) × ℕ)
read_factors false most size s at = given ([], at)
read_factors true most size s at = do
  require (ltb at (length s)) 11
  require (leb 1 (get_or s at 0) && leb (get_or s at 0) most) 11
  require (leb (at + 1 + get_or s at 0 * size) (length s)) 11
  given (factors_at (get_or s at 0) size s (at + 1), at + 1 + get_or s at 0 * size)

-- how many letters the vector part has
unfoldable pub part_letters : (bits : ℕ) → ℕ
part_letters bits = when stands 4 bits then 1 else when stands 5 bits then 2 else 0

-- "bits 4 and 5 never stand together; bits 6 and 7 are 0"
unfoldable pub good_bits : (bits : ℕ) → Bool
good_bits bits = ltb bits 64 && not (stands 4 bits && stands 5 bits)

-- the term read, if it is in shape
unfoldable pub test_shape : (t : Term) (next : ℕ) → Result (Term × ℕ)
test_shape t next = do
  require (term_in_shape t) 11
  given (t, next)

-- the term record at a position
unfoldable pub read_term_at : (s : List ℕ) (at : ℕ) → Result (Term × ℕ)
read_term_at s at = do
  require (ltb at (length s)) 11
  require (good_bits (get_or s at 0)) 11
  (coef, scalars_at) ← read_coef (stands 0 (get_or s at 0)) s (at + 1)
  (scalars, dots_at) ← read_factors (stands 1 (get_or s at 0)) 2 1 s scalars_at
  (dots, triples_at) ← read_factors (stands 2 (get_or s at 0)) 3 2 s dots_at
  (triples, part_at) ← read_factors (stands 3 (get_or s at 0)) 2 3 s triples_at
  (part, next) ← read_letters (part_letters (get_or s at 0)) s part_at
  test_shape (record { coef = coef; factors = scalars ++ dots ++ triples; part = part }) next

-- ════ reading a form

-- "in a vector form every term has a vector part, in a scalar form none"
unfoldable pub part_fits : (kind : ℕ) (t : Term) → Bool
part_fits kind t = eqb (term_kind t) kind

-- count terms behind those before, strictly ascending
unfoldable pub read_terms : (count kind : ℕ) (before : List Term) (s : List ℕ) (at : ℕ) → Result (List Term × ℕ)
read_terms zero kind before s at = given (before, at)
read_terms (suc count) kind before s at = do
  (t, next) ← read_term_at s at
  require (part_fits kind t && follows term_before before t) 11
  read_terms count kind (before ++ t ∷ []) s next

-- the form record at a position; that none is longer than `form_bytes` is a theorem (`form_short`)
unfoldable pub read_form_at : (s : List ℕ) (at : ℕ) → Result (Form × ℕ)
read_form_at s at = do
  require (leb (at + 2) (length s)) 11
  require (leb (get_or s at 0) 1 && leb (get_or s (at + 1) 0) 48) 11
  (terms, next) ← read_terms (get_or s (at + 1) 0) (get_or s at 0) [] s (at + 2)
  given (record { kind = get_or s at 0; terms = terms }, next)

-- the form whose record the bytes are, from the first to the last
unfoldable pub read_form : (s : List ℕ) → Result Form
read_form s = do
  (form, next) ← read_form_at s 0
  require (eqb next (length s)) 11
  given form

-- ════ the letters in byte order

-- the letters of factors: a single letter is scalar, those of dots and triples are vectors
unfoldable pub test_factors : (table : List ℕ) (factors : List (List ℕ)) → Test
test_factors table [] = given tt
test_factors table (f ∷ fs) = do
  test_letters table (when eqb (length f) 1 then scalar else vector) f
  test_factors table fs

-- the letters of a term
unfoldable pub test_term : (table : List ℕ) (t : Term) → Test
test_term table t = do
  test_factors table t.factors
  test_letters table vector t.part

-- the letters of terms
unfoldable pub test_terms : (table : List ℕ) (terms : List Term) → Test
test_terms table [] = given tt
test_terms table (t ∷ ts) = do
  test_term table t
  test_terms table ts

-- a form taken from its sender: 11 for its shape, then 5 or 6 for its letters
unfoldable pub take_form : (table s : List ℕ) → Result Form
take_form table s = do
  form ← read_form s
  test_terms table form.terms
  given form

-- two forms taken: "every shape is tested first", "Then letters in byte order"
unfoldable pub take_both : (table s t : List ℕ) → Result (Form × Form)
take_both table s t = do
  f ← read_form s
  g ← read_form t
  test_terms table f.terms
  test_terms table g.terms
  given (f, g)
