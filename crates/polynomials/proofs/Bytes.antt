-- Summands in bytes: what is written is read, and what was not written over stands. Assumes nothing.
use mathlib.Core.Path.{◌≡◌, refl, ap, ap₂, sym, ◌∙◌}
use mathlib.Core.Logic.{◌⊎◌, inl, inr}
use mathlib.Core.Bool.{Bool, true, false}
use mathlib.Core.List.{List, [], ◌∷◌, ◌++◌, append_assoc}
use Prim.Native.Nat.{ℕ, zero, suc, ◌+◌, ◌*◌, ◌/◌, ◌%◌, ◌^◌, ◌≤◌, ◌<◌}
use native.Mathlib.Nat.{eq-or-lt_of_le}
use native.Mathlib.Omega.{arith}
use lib.Dec.{eqb}
use borrow.Author.Tests.{eqb-true, eqb-false}
use lib.IntN.{ℤ}
use lib.ListN.{length, get_or, take, drop, set, length-set}
use lib.Seq.{sets, sets-eq, length-sets, length-take-le, get_or_at, get_or-set_same, get_or-set_other, ext_get_or}
use mir.Syntax.{w64}
use mir.Val.{SFits, to_z, of_z}
use mir.ValLaws.{to_z-of_z, of_z_fits}
use Rattle.algebra.specs.Conditions.{lt_or_le}
use Rattle.algebra.specs.Numbers.{shift_small}
use Rattle.algebra.specs.Lists.{length-tabulated, get_d_tabulated, get_d_second, sets-other}
use borrow.Rule.Slice.PartMut.{put_mid}
use Rattle.std.specs.Int.{byte_at, to_le_bytes}
use Rattle.std.proofs.lemmas.List.{drop-drop}
use Rattle.polynomials.specs.Summands.{Summand}
use Rattle.polynomials.specs.Memory.{bytes_of, number_of, eight, summand, none, summand_at, summands}

-- ════ stores

-- the eight bytes of a number, as the library has them
bytes_are : (x : ℕ) → to_le_bytes w64 x ≡ bytes_of 8 x
bytes_are x =
    let b : byte_at 1 x ≡ x / 256 % 256 = omega arith in
    let c : byte_at 2 x ≡ x / 256 / 256 % 256 = omega arith in
    let d : byte_at 3 x ≡ x / 256 / 256 / 256 % 256 = omega arith in
    let e : byte_at 4 x ≡ x / 256 / 256 / 256 / 256 % 256 = omega arith in
    let f : byte_at 5 x ≡ x / 256 / 256 / 256 / 256 / 256 % 256 = omega arith in
    let g : byte_at 6 x ≡ x / 256 / 256 / 256 / 256 / 256 / 256 % 256 = omega arith in
    let h : byte_at 7 x ≡ x / 256 / 256 / 256 / 256 / 256 / 256 / 256 % 256 = omega arith in
    λ i. x % 256 ∷ b i ∷ c i ∷ d i ∷ e i ∷ f i ∷ g i ∷ h i ∷ []

-- stored
pub eight_stored : (l ys : List ℕ) (at k x : ℕ) → at + 8 ≤ length l → k ≡ 8 → ys ≡ to_le_bytes w64 x → put_mid at k l ys ≡ sets l at (bytes_of 8 x)
eight_stored l ys at k x h e q =
    let long : 8 ≡ length (bytes_of 8 x) = refl in
    ap (λ (r : List ℕ). take at l ++ r) (λ i. (q ∙ bytes_are x) i ++ (drop-drop k at l ∙ ap (λ (m : ℕ). drop (at + m) l) (e ∙ long)) i)
    ∙ sym (append_assoc (take at l) _ _) ∙ sym (sets-eq (bytes_of 8 x) l at h)

-- the number of the bytes of a number
number_bytes : (n x : ℕ) → x < 256 ^ n → number_of (bytes_of n x) ≡ x
number_bytes zero x h = omega arith
number_bytes (suc n) x h = rw (number_bytes n (x / 256) (shift_small n x h)) (omega arith)

-- eight bytes apart from those set stand
eight-other : (l : List ℕ) (at : ℕ) (vs : List ℕ) (j : ℕ) → (j + 8 ≤ at) ⊎ (at + length vs ≤ j) → eight (sets l at vs) j ≡ eight l j
unfolding eight
eight-other l at vs j h =
    rw (
      sets-other l at vs j 0 (elim h [ inl q ↦ inl (omega arith) | inr q ↦ inr (omega arith) ]),
      s 1 (omega arith),
      s 2 (omega arith),
      s 3 (omega arith),
      s 4 (omega arith),
      s 5 (omega arith),
      s 6 (omega arith),
      s 7 (omega arith),
    )
  where
    s : (i : ℕ) → i < 8 → get_or (sets l at vs) (j + i) 0 ≡ get_or l (j + i) 0
    s i g = sets-other l at vs (j + i) 0 (elim h [ inl q ↦ inl (omega arith) | inr q ↦ inr (omega arith) ])

-- what was put is there
eight-sets : (l : List ℕ) (at a b c d e f g h : ℕ) → at + 8 ≤ length l
    → eight (sets l at (a ∷ b ∷ c ∷ d ∷ e ∷ f ∷ g ∷ h ∷ [])) at ≡ a ∷ b ∷ c ∷ d ∷ e ∷ f ∷ g ∷ h ∷ []
unfolding eight
eight-sets l at a b c d e f g h k =
    let vs : List ℕ = a ∷ b ∷ c ∷ d ∷ e ∷ f ∷ g ∷ h ∷ [] in
    let q = length-take-le at l (omega arith) in
    let r = vs ++ drop (at + 8) l in
    let m : sets l at vs ≡ take at l ++ r = sets-eq vs l at k ∙ append_assoc (take at l) vs (drop (at + 8) l) in
    rw (
      m,
      get_or_at (take at l) a _ 0 at q,
      get_d_second (take at l) r at 1 0 q,
      get_d_second (take at l) r at 2 0 q,
      get_d_second (take at l) r at 3 0 q,
      get_d_second (take at l) r at 4 0 q,
      get_d_second (take at l) r at 5 0 q,
      get_d_second (take at l) r at 6 0 q,
      get_d_second (take at l) r at 7 0 q,
    )

-- a number that was put is read back
number-there : (l : List ℕ) (at x : ℕ) → at + 8 ≤ length l → x < 2 ^ 64 → number_of (eight (sets l at (bytes_of 8 x)) at) ≡ x
number-there l at x h k = ap number_of (eight-sets l at _ _ _ _ _ _ _ _ h) ∙ number_bytes 8 x k

-- ════ summands

-- so many
pub length-summands : (l : List ℕ) → length (summands l) ≡ length l / 16
unfolding summands
length-summands l = length-tabulated (length l / 16) (summand_at l)

-- those with a number below are in the bytes
pub within : (l : List ℕ) (i : ℕ) → i < length (summands l) → 16 * i + 16 ≤ length l
within l i h = omega (arith, length-summands l)

-- the summand number i is the one at its 16 bytes
get_d_summands : (l : List ℕ) (i : ℕ) → i < length (summands l) → get_or (summands l) i none ≡ summand_at l i
unfolding summands
get_d_summands l i h = get_d_tabulated (length l / 16) (summand_at l) i none (omega (arith, length-tabulated (length l / 16) (summand_at l)))

-- the key and the coefficient as they are read
pub key_read : (l : List ℕ) (i x : ℕ) → i < length (summands l) → x ≡ number_of (eight l (16 * i)) → x ≡ (get_or (summands l) i none).key
unfolding summand_at
key_read l i x h e = e ∙ sym (ap (λ (m : Summand). m.key) (get_d_summands l i h))

-- and the coefficient
pub coef_read : (l : List ℕ) (i : ℕ) (z : ℤ) → i < length (summands l) → z ≡ to_z w64 (number_of (eight l (16 * i + 8))) → z ≡ (get_or (summands l) i none).coef
unfolding summand_at
coef_read l i z h e = e ∙ sym (ap (λ (m : Summand). m.coef) (get_d_summands l i h))

-- one number put behind the other
module _ (l m n : List ℕ) (i key x : ℕ) (coef : ℤ) (h : i < length (summands l)) (k : key < 2 ^ 64) (f : SFits w64 coef)
    (p : m ≡ sets l (16 * i) (bytes_of 8 key)) (q : n ≡ sets m (16 * i + 8) (bytes_of 8 x)) (e : x ≡ of_z w64 coef) where
  length-m : length m ≡ length l
  length-m = ap length p ∙ length-sets l (16 * i) (bytes_of 8 key)

  length-n : length n ≡ length l
  length-n = ap length q ∙ length-sets m (16 * i + 8) (bytes_of 8 x) ∙ length-m

  same_count : length (summands n) ≡ length (summands l)
  same_count = length-summands n ∙ ap (λ (z : ℕ). z / 16) length-n ∙ sym (length-summands l)

  x-small : x < 2 ^ 64
  x-small = rw e (of_z_fits w64 coef f).fits

  here : summand_at n i ≡ summand key coef
  unfolding summand_at
  here =
      let behind : eight (sets m (16 * i + 8) (bytes_of 8 x)) (16 * i) ≡ eight m (16 * i) = eight-other m (16 * i + 8) (bytes_of 8 x) (16 * i) (inl (omega arith)) in
      let a : number_of (eight n (16 * i)) ≡ key = rw q (ap number_of behind ∙ rw p (number-there l (16 * i) key (omega (arith, within l i h)) k)) in
      let b : number_of (eight n (16 * i + 8)) ≡ x = rw q (number-there m (16 * i + 8) x (omega (arith, within l i h, length-m)) x-small) in
      ap₂ summand a (ap (to_z w64) (b ∙ e) ∙ to_z-of_z w64 coef f)

  there : (j : ℕ) → ¬ (j ≡ i) → summand_at n j ≡ summand_at l j
  unfolding summand_at
  there j g =
      let o : (at : ℕ) → (at + 8 ≤ 16 * i) ⊎ (16 * i + 16 ≤ at) → number_of (eight n at) ≡ number_of (eight l at) =
      λ at w. rw q (ap number_of (eight-other m (16 * i + 8) (bytes_of 8 x) at (elim w [ inl u ↦ inl (omega arith) | inr u ↦ inr (omega arith) ]))
      ∙ rw p (ap number_of (eight-other l (16 * i) (bytes_of 8 key) at (elim w [ inl u ↦ inl u | inr u ↦ inr (omega arith) ])))) in
      ap₂ summand (o (16 * j) (elim (side j g 0 (omega arith)) [ inl u ↦ inl (omega arith) | inr u ↦ inr (omega arith) ])) (ap (to_z w64) (o (16 * j + 8) (side j g 8 (omega arith))))
    where
      side : (j : ℕ) → ¬ (j ≡ i) → (b : ℕ) → b ≤ 8 → (16 * j + b + 8 ≤ 16 * i) ⊎ (16 * i + 16 ≤ 16 * j + b)
      side j g b w = elim (lt_or_le j i) [ inl u ↦ inl (omega arith) | inr u ↦ inr (elim (eq-or-lt_of_le u) [ inl z ↦ absurd (g (sym z)) | inr z ↦ omega arith ]) ]

  -- the summands afterwards: the one number i is put, the others stand
  pub summand-put : summands n ≡ set (summands l) i (summand key coef)
  summand-put =
      ext_get_or none (summands n) (set (summands l) i (summand key coef)) (same_count ∙ sym (length-set (summands l) i (summand key coef)))
      (λ j w. get_d_summands n j w ∙ go j w (eqb j i) refl)
    where
      go : (j : ℕ) → j < length (summands n) → (b : Bool) → eqb j i ≡ b → summand_at n j ≡ get_or (set (summands l) i (summand key coef)) j none
      go j w true z =
          let u : j ≡ i = eqb-true j i z in
          rw u (here ∙ sym (get_or-set_same (summands l) i (summand key coef) none h))
      go j w false z =
          there j (eqb-false j i z) ∙ sym (get_or-set_other (summands l) i j (summand key coef) none (eqb-false j i z) ∙ get_d_summands l j (omega (arith, same_count)))
