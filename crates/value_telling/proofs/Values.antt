-- Values in words, and how large they are. Assumes nothing.
use mathlib.Core.Path.{◌≡◌, sym, ap}
use mathlib.Core.Bool.{Bool, true, false, not}
use mathlib.Core.List.{List}
use Prim.Native.Nat.{ℕ, ◌-◌, ◌*◌, ◌^◌, ◌≤◌, ◌<◌}
use native.Mathlib.Omega.{arith}
use borrow.Author.Tests.{eq-eqb, ne_eqb}
use lib.Dec.{T, ltb, ltb→lt, nltb→le}
use lib.IntN.{ℤ, pos, negsuc, nat_abs}
use lib.ListN.{length}
use Rattle.specification.specs.Results.{when◌then◌else◌}
use Rattle.specification.specs.Lists.{all}
use Rattle.specification.specs.Values.{Vec}
use Rattle.specification.specs.Terms.{term_in_shape}
use Rattle.specification.specs.Evaluation.{signed_byte, six_or_less, assignment, value}
use Rattle.specification.specs.Commands.{signed_numeral, value_text}
use Rattle.theory.specs.Elements.{all_T}
use Rattle.integers.proofs.Machine.{back, fits_back}
use Rattle.terms.specs.declared.types.Form.{Form}
use Rattle.terms.specs.Abstraction.{form_of}
use Rattle.terms.specs.Valid.{FormValid}
use Rattle.evaluation.specs.declared.vectors.Vector.{Vector}
use Rattle.evaluation.specs.Vectors.{vec_of, Within}
use Rattle.evaluation.proofs.Bounds.{within_more, assignment-small, terms-small}
use Rattle.telling.specs.Told.{Tells}
use Rattle.telling.proofs.Pieces.{tells_as}

-- ════ components

-- one is read back, and has a size
pub size-told : (z : ℤ) → nat_abs z ≤ 48 * 2 ^ 57 → nat_abs (back z) < 2 ^ 63
size-told z h = rw (fits_back z (omega arith)) (omega arith)

-- and is told as it is
pub number-told : {l m : List ℕ} {at next : ℕ} (z : ℤ) → nat_abs z ≤ 48 * 2 ^ 57 → Tells l m at next (signed_numeral (back z))
    → Tells l m at next (signed_numeral z)
number-told z h t = tells_as _ (ap signed_numeral (fits_back z (omega arith))) t

-- ════ by kind

module _ {l m : List ℕ} {at next : ℕ} (kind : ℕ) (v : Vec) where
  -- a number
  pub value_scalar : kind ≡ 0 → Tells l m at next (signed_numeral v.x) → Tells l m at next (value_text kind v)
  unfolding value_text
  value_scalar e t = tells_as _ (sym (rw (eq-eqb kind 0 e))) t

  -- three
  pub value_vector : (kind ≡ 0 → ⊥) → Tells l m at next (value_text 1 v) → Tells l m at next (value_text kind v)
  unfolding value_text
  value_vector n t = tells_as _ (sym (rw (ne_eqb kind 0 n))) t

-- ════ how large

-- a signed byte is at most 128 in size
byte-size : (b : ℕ) → nat_abs (signed_byte b) ≤ 128
unfolding signed_byte
byte-size b = go (ltb b 128) (ltb→lt b 128) (nltb→le b 128)
  where
    go : (t : Bool) → (T t → b < 128) → (T (not t) → 128 ≤ b) → nat_abs (when t then pos b else negsuc (255 - b)) ≤ 128
    go true f g = omega (arith, f tt)
    go false f g = omega (arith, g tt)

-- the vector of a letter can be told
pub letter-small : (s : List ℕ) (n : ℕ) (v : Vector) → vec_of v ≡ assignment s n → Within (48 * 2 ^ 57) (vec_of v)
unfolding assignment
letter-small s n v e = rw e (within_more 128 (48 * 2 ^ 57) (assignment s n) (omega arith) (record { x = byte-size _; y = byte-size _; z = byte-size _ }))

-- the value of a valid form under numbers from −6 to 6 can be told
pub form_small : (s : List ℕ) (f : Form) (v : Vector) → all six_or_less s ≡ true → FormValid f → vec_of v ≡ value (assignment s) (form_of f)
    → Within (48 * 2 ^ 57) (vec_of v)
unfolding value
form_small s f v small h e =
    rw e
    (within_more (length (form_of f).terms * 2 ^ 57) (48 * 2 ^ 57) _ (omega (arith, h.in_shape.count))
    (terms-small (assignment s) (assignment-small s small) (form_of f).terms (all_T term_in_shape (form_of f).terms h.in_shape.terms)))
