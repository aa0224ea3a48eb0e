-- Numbers in decimal: below 10 a digit, else the digits of a tenth and one more; at most 10 of them. Assumes nothing.
use mathlib.Core.Path.{◌≡◌, refl, ap, sym, ◌∙◌}
use mathlib.Core.Bool.{Bool, true, false}
use mathlib.Core.List.{List, [], ◌∷◌, ◌++◌}
use Prim.Native.Nat.{ℕ, zero, suc, ◌+◌, ◌/◌, ◌%◌, ◌^◌, ◌<◌, ◌≤◌}
use native.Mathlib.Nat.{pow-suc}
use native.Mathlib.Omega.{arith}
use lib.Dec.{ltb}
use lib.ListN.{length, set, length-append}
use borrow.Author.Tests.{lt-ltb, le-ltb}
use Rattle.specification.specs.Results.{when◌then◌else◌}
use Rattle.specification.specs.Printing.{digits, decimal}
use Rattle.record_writing.specs.Written.{Written}
use Rattle.record_writing.proofs.Writes.{written_store, written_then, written_length}

-- one digit
pub decimal_one : (n : ℕ) → n < 10 → decimal n ≡ (48 + n) ∷ []
unfolding decimal digits
decimal_one n h = rw (lt-ltb n 10 h)

-- more room changes nothing
pub digits_same : (most n : ℕ) → n < 10 ^ suc most → digits (suc most) n ≡ digits (suc (suc most)) n
unfolding digits
digits_same zero n h = rw (lt-ltb n 10 h)
digits_same (suc most) n h =
    let l : n / 10 < 10 ^ suc most = omega (arith, h, pow-suc 10 (suc most)) in
    go (ltb n 10) (digits_same most (n / 10) l)
  where
    go : (b : Bool) → digits (suc most) (n / 10) ≡ digits (suc (suc most)) (n / 10)
        → (when b then (48 + n) ∷ [] else digits (suc most) (n / 10) ++ (48 + n % 10) ∷ []) ≡ (when b then (48 + n) ∷ [] else digits (suc (suc most)) (n / 10) ++ (48 + n % 10) ∷ [])
    go true e = refl
    go false e = ap (λ (l : List ℕ). l ++ (48 + n % 10) ∷ []) e

-- the digits of a tenth, and one more
pub decimal_more : (n : ℕ) → 10 ≤ n → n < 10000000000 → decimal n ≡ decimal (n / 10) ++ (48 + n % 10) ∷ []
unfolding decimal digits
decimal_more n h g =
    let l : n / 10 < 10 ^ 9 = omega arith in
    rw (le-ltb n 10 h) (ap (λ (l : List ℕ). l ++ (48 + n % 10) ∷ []) (digits_same 8 (n / 10) l))

digits_short : (most n : ℕ) → length (digits most n) ≤ most
unfolding digits
digits_short zero n = omega arith
digits_short (suc most) n = go (ltb n 10) (digits_short most (n / 10))
  where
    go : (b : Bool) → length (digits most (n / 10)) ≤ most → length (when b then (48 + n) ∷ [] else digits most (n / 10) ++ (48 + n % 10) ∷ []) ≤ suc most
    go true h = omega arith
    go false h = simp length-append (omega arith)

-- at most 10 digits
pub decimal_short : (n : ℕ) → length (decimal n) ≤ 10
unfolding decimal
decimal_short n = digits_short 10 n

-- ════ written

-- one digit, as it is stored
pub digit_is : (n d : ℕ) → n < 10 → d ≡ 48 + n → decimal n ≡ d ∷ []
digit_is n d h e = decimal_one n h ∙ ap (λ (x : ℕ). x ∷ []) (sym e)

-- there is room for the digits of a tenth
pub tenth-room : (n at room : ℕ) → 10 ≤ n → n < 10000000000 → at + length (decimal n) ≤ room → at + length (decimal (n / 10)) < room
tenth-room n at room h g r = omega (arith, simp length-append at (ap length (decimal_more n h g)))

-- the last digit stored behind those of a tenth
pub last_written : (l m : List ℕ) (at next n d : ℕ) → 10 ≤ n → n < 10000000000 → d ≡ 48 + n % 10 → at + length (decimal n) ≤ length l
    → Written l m at next (decimal (n / 10)) → Written l (set m next d) at (next + 1) (decimal n)
last_written l m at next n d h g e r w =
    let f = tenth-room n at (length l) h g r in
    let s = written_length l m at next (decimal (n / 10)) (omega arith) w in
    rw (decimal_more n h g, ← e) (written_then l m (set m next d) at next (next + 1) (decimal (n / 10)) (d ∷ []) (omega arith) w (written_store m next d (omega (arith, w.ends))))
