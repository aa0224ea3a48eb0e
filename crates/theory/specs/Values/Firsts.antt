-- The order of assignments in whole numbers, place by place; that the decision's "differs" determines the bytes handed over. Assumes nothing.
use Rattle.std.specs.Prelude.{◌≡◌, ◌⊎◌, List, ◌++◌, ℕ, zero, suc, ◌+◌, ◌*◌, ◌≤◌, ◌<◌, T, pos, length, get_or, take}
use Rattle.std.proofs.Common.{sym, ◌∙◌, ap, inl, inr, add-one, arith, take-append-drop, get_or-take, length-take-le, ext_get_or, lt-ltb}
use Rattle.std.proofs.Math.Nat as N
use Rattle.algebra.specs.Conditions.{lt_or_le}
use Rattle.algebra.specs.Numbers.{below_more}
use Rattle.specification.specs.Letters.{good_table}
use Rattle.specification.specs.Terms.{Form}
use Rattle.specification.specs.Evaluation.{signed_byte, rest_is_zero, assignment}
use Rattle.specification.specs.Decision.{whole, Before, Differs}
use Rattle.theory.specs.Elements.{T_each}
use Rattle.theory.specs.Shape.Letters.{AllKnown}
use Rattle.theory.specs.Values.Letters.{value_agrees}
use Rattle.theory.specs.Values.Assignments.{small, rest_zero}

-- ════ the order

-- equal at the first n places
abbrev pub Alike : (n : ℕ) (s t : List ℕ) → Type 0
Alike n s t = (i : ℕ) → i < n → get_or s i 0 ≡ get_or t i 0

-- they are alike at one more place
pub alike_more : (i : ℕ) (s t : List ℕ) → Alike i s t → get_or t i 0 ≤ get_or s i 0 → get_or s i 0 ≤ get_or t i 0 → Alike (i + 1) s t
alike_more i s t h k l = below_more (λ (j : ℕ). get_or s j 0 ≡ get_or t j 0) i h (N.le_antisymm l k)

-- alike before i: what is found there decides
module _ (n i : ℕ) (s t : List ℕ) (h : Alike i s t) where
  -- s has the lesser number
  pub before_here : i < n → get_or s i 0 < get_or t i 0 → Before n s t
  before_here l k = record { place = i; inside = l; alike = h; less = k }

  -- t has, or no place is left
  pub not-before : (get_or t i 0 < get_or s i 0) ⊎ (n ≤ i) → ¬ Before n s t
  not-before k w = go (lt_or_le w.place i) (lt_or_le i w.place) k
    where
      go : (w.place < i) ⊎ (i ≤ w.place) → (i < w.place) ⊎ (w.place ≤ i) → (get_or t i 0 < get_or s i 0) ⊎ (n ≤ i) → ⊥
      go (inl l) r k = omega (arith, h w.place l, w.less)
      go (inr l) r (inr k) = omega (arith, w.inside)
      go (inr l) (inl r) (inl k) = omega (arith, w.alike i r)
      go (inr l) (inr r) (inl k) =
          let e : w.place ≡ i = N.le_antisymm r l in omega (arith, w.less, ap (λ (j : ℕ). get_or s j 0) e, ap (λ (j : ℕ). get_or t j 0) e)

-- one comes before the other, or they are alike
data Placed (n : ℕ) (s t : List ℕ) : Type 0 where
  earlier : Before n s t → Placed n s t
  same : Alike n s t → Placed n s t
  later : Before n t s → Placed n s t

placed : (n : ℕ) (s t : List ℕ) → Placed n s t
placed zero s t = same (λ i h. absurd (N.not-suc-le-zero h))
placed (suc n) s t = go (placed n s t)
  where
    wider : (u v : List ℕ) → Before n u v → Before (suc n) u v
    wider u v w = record { place = w.place; inside = omega (arith, w.inside); alike = w.alike; less = w.less }

    last : Alike n s t → (get_or s n 0 < get_or t n 0) ⊎ (get_or t n 0 ≤ get_or s n 0) → (get_or t n 0 < get_or s n 0) ⊎ (get_or s n 0 ≤ get_or t n 0) → Placed (suc n) s t
    last h (inl l) r = earlier (before_here (suc n) n s t h (N.le_refl (suc n)) l)
    last h (inr l) (inl r) = later (before_here (suc n) n t s (λ i k. sym (h i k)) (N.le_refl (suc n)) r)
    last h (inr l) (inr r) = same (λ i k. alike_more n s t h l r i (N.le_trans k (N.le_of_eq (sym (add-one n)))))

    go : Placed n s t → Placed (suc n) s t
    go (earlier w) = earlier (wider s t w)
    go (same h) = last h (lt_or_le (get_or s n 0) (get_or t n 0)) (lt_or_le (get_or t n 0) (get_or s n 0))
    go (later w) = later (wider t s w)

module _ (n : ℕ) (s t u : List ℕ) where
  -- before what is before
  pub before-trans : Before n s t → Before n t u → Before n s u
  before-trans v w = go (lt_or_le v.place w.place) (lt_or_le w.place v.place)
    where
      go : (v.place < w.place) ⊎ (w.place ≤ v.place) → (w.place < v.place) ⊎ (v.place ≤ w.place) → Before n s u
      go (inl l) r =
          before_here n v.place s u (λ i k. v.alike i k ∙ w.alike i (omega arith)) v.inside (omega (arith, v.less, w.alike v.place l))
      go (inr l) (inl r) =
          before_here n w.place s u (λ i k. v.alike i (omega arith) ∙ w.alike i k) w.inside (omega (arith, w.less, v.alike w.place r))
      go (inr l) (inr r) =
          let e : v.place ≡ w.place = N.le_antisymm r l in
          before_here n w.place s u (λ i k. v.alike i (omega arith) ∙ w.alike i k) w.inside
          (omega (arith, w.less, v.less, ap (λ (j : ℕ). get_or s j 0) e, ap (λ (j : ℕ). get_or t j 0) e))

  -- before what is alike
  pub before-alike : Before n s t → Alike n t u → Before n s u
  before-alike v h =
      before_here n v.place s u (λ i k. v.alike i k ∙ h i (omega (arith, v.inside))) v.inside (omega (arith, v.less, h v.place v.inside))

  -- what is alike is before
  pub alike-before : Alike n s t → Before n t u → Before n s u
  alike-before h v =
      before_here n v.place s u (λ i k. h i (omega (arith, v.inside)) ∙ v.alike i k) v.inside (omega (arith, v.less, h v.place v.inside))

-- t is not before s: all before s are before t
pub not_after : (n : ℕ) (s t u : List ℕ) → ¬ Before n t s → Before n u s → Before n u t
not_after n s t u h b = go (placed n s t)
  where
    go : Placed n s t → Before n u t
    go (earlier w) = before-trans n u s t b w
    go (same w) = before-alike n u s t b w
    go (later w) = absurd (h w)

-- ════ what the decision hands over

-- bytes up to 6 are whole numbers
pub whole-bytes : (n : ℕ) (s b : List ℕ) → Alike (3 * n) s b → ((x : ℕ) → x < 3 * n → get_or b x 0 ≤ 6) → (l : ℕ) → l < n → whole s l ≡ assignment b l
unfolding whole assignment signed_byte
whole-bytes n s b h few l k = λ i. record { x = byte (3 * l) (omega arith) i; y = byte (3 * l + 1) (omega arith) i; z = byte (3 * l + 2) (omega arith) i }
  where
    byte : (x : ℕ) → x < 3 * n → pos (get_or s x 0) ≡ signed_byte (get_or b x 0)
    byte x l = rw (h x l, lt-ltb (get_or b x 0) 128 (omega (arith, few x l)))

module _ (table : List ℕ) (f g : Form) (good : T (good_table table)) (firsts : AllKnown table f.terms) (seconds : AllKnown table g.terms) where
  -- none of the assignments that "differs" allows comes before another
  none_before : (b c b' c' : List ℕ) → 3 * length table ≤ length b' → Differs table f g b b' → Differs table f g c c' → Before (3 * length table) b' c' → ⊥
  none_before b c b' c' long v w h =
      let n = 3 * length table in
      let front : Alike n (take n b') b' = λ i k. get_or-take n b' i 0 k in
      let agree = whole-bytes (length table) (take n b') b' front (small table b' long v.in_range) in
      v.unequal
      (sym (value_agrees (whole (take n b')) (assignment b') table agree f firsts)
      ∙ w.first (take n b') (T_each (rest_is_zero table (take n b')) (length table) (rest_zero table b' long v.in_range good))
      (alike-before n (take n b') b' c' front h)
      ∙ value_agrees (whole (take n b')) (assignment b') table agree g seconds)

  -- K2: the first 3 bytes a letter are determined by the forms, whatever was lent
  pub differs-alike : (b c b' c' : List ℕ) → 3 * length table ≤ length b' → 3 * length table ≤ length c' → Differs table f g b b' → Differs table f g c c'
      → take (3 * length table) b' ≡ take (3 * length table) c'
  differs-alike b c b' c' long long' v w = go (placed n b' c')
    where
      n : ℕ
      n = 3 * length table

      go : Placed n b' c' → take n b' ≡ take n c'
      go (earlier h) = absurd (none_before b c b' c' long v w h)
      go (later h) = absurd (none_before c b c' b' long' w v h)
      go (same h) =
          ext_get_or 0 (take n b') (take n c') (length-take-le n b' long ∙ sym (length-take-le n c' long'))
          (λ i k. let l : i < n = omega (arith, k, length-take-le n b' long) in get_or-take n b' i 0 l ∙ h i l ∙ sym (get_or-take n c' i 0 l))

  -- and with them every byte of the buffer: two buffers that meet "differs" for one that was lent are equal
  pub differs-determined : (b b' c' : List ℕ) → 3 * length table ≤ length b → Differs table f g b b' → Differs table f g b c' → b' ≡ c'
  differs-determined b b' c' long v w =
      let n = 3 * length table in
      let front = differs-alike b b b' c' (omega (arith, v.same_length)) (omega (arith, w.same_length)) v w in
      let rest = v.rest_stands ∙ sym w.rest_stands in
      sym (take-append-drop n b') ∙ (λ i. front i ++ rest i) ∙ take-append-drop n c'
