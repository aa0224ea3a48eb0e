-- Masks: of two lists joined and sorted, some mask takes the one, where it ascends, and leaves the other in ascending order. Assumes nothing.
use Rattle.std.specs.Prelude.{◌≡◌, Bool, eqb, length}
use Rattle.std.proofs.Math.Path.{refl}
use Rattle.std.proofs.Common.{sym, ◌∙◌, subst}
use Rattle.std.proofs.Math.Bool.{true, false}
use mathlib.Core.List.{List, [], ◌∷◌, ◌++◌}
use Prim.Native.Nat.{ℕ, ◌+◌, ◌*◌, ◌/◌, ◌%◌, ◌^◌, ◌<◌, Ordering}
use Rattle.std.proofs.Math.Nat as N
use native.Mathlib.Omega.{arith}
use Rattle.specification.specs.Results.{when◌then◌else◌}
use Rattle.specification.specs.Lists.{is_not_more, put_into, sorted}
use Rattle.theory.specs.Order.{Laws}
use Rattle.theory.specs.Sorting as O
use Rattle.theory.specs.Reordering.{Reordered, same, exchanged, behind, further, sorted-reordered}

module _ {A : Type 0} where
  -- the elements whose bit in the mask stands, the first with bit 0
  unfoldable pub taken : (mask : ℕ) → List A → List A
  taken k [] = []
  taken k (x ∷ l) = let rest = taken (k / 2) l in when eqb (k % 2) 1 then x ∷ rest else rest

  -- the others
  unfoldable pub left_over : (mask : ℕ) → List A → List A
  left_over k [] = []
  left_over k (x ∷ l) = let rest = left_over (k / 2) l in when eqb (k % 2) 1 then rest else x ∷ rest

  -- a list taken apart into some elements and the others
  data Apart : List A → List A → List A → Type 0 where
    end : Apart [] [] []
    takes : {x : A} {l s c : List A} → Apart l s c → Apart (x ∷ l) (x ∷ s) c
    leaves : {x : A} {l s c : List A} → Apart l s c → Apart (x ∷ l) s (x ∷ c)

  -- by a mask
  pub record Masked (l s c : List A) : Type 0 where
    pub mask : ℕ
    pub small : mask < 2 ^ length l
    pub taking : taken mask l ≡ s
    pub leaving : left_over mask l ≡ c

  masked-takes : (x : A) (l s c : List A) → Masked l s c → Masked (x ∷ l) (x ∷ s) c
  unfolding taken left_over
  masked-takes x l s c n =
      let bit : (2 * n.mask + 1) % 2 ≡ 1 = omega arith in
      let half : (2 * n.mask + 1) / 2 ≡ n.mask = omega arith in
      record { mask = 2 * n.mask + 1; small = omega (arith, n.small, N.two-pow-succ (length l)); taking = rw (bit, half, n.taking); leaving = rw (bit, half, n.leaving) }

  masked-leaves : (x : A) (l s c : List A) → Masked l s c → Masked (x ∷ l) s (x ∷ c)
  unfolding taken left_over
  masked-leaves x l s c n =
      let bit : (2 * n.mask) % 2 ≡ 0 = omega arith in
      let half : (2 * n.mask) / 2 ≡ n.mask = omega arith in
      record { mask = 2 * n.mask; small = omega (arith, n.small, N.two-pow-succ (length l)); taking = rw (bit, half, n.taking); leaving = rw (bit, half, n.leaving) }

  masked : {l s c : List A} → Apart l s c → Masked l s c
  unfolding taken left_over
  masked end = record { mask = 0; small = omega arith; taking = refl; leaving = refl }
  masked (takes {x = x} {l = l} {s = s} {c = c} p) = masked-takes x l s c (masked p)
  masked (leaves {x = x} {l = l} {s = s} {c = c} p) = masked-leaves x l s c (masked p)

  all_taken : (l : List A) → Apart l l []
  all_taken [] = end
  all_taken (x ∷ l) = takes (all_taken l)

  -- some elements, and the others in any order
  abbrev Others : List A → List A → List A → Type 0
  Others l s c = (d : List A) × Apart l s d × Reordered d c

-- ════ sorting

module _ {A : Type 0} (cmp : A → A → Ordering) where
  apart-put : (x : A) {l s c : List A} → Apart l s c → Others (put_into cmp x l) s (x ∷ c)
  unfolding put_into
  apart-put x end = (x ∷ [], leaves end, same)
  apart-put x (takes {x = y} {l = l} {s = s} {c = c} p) = go (is_not_more (cmp x y)) (apart-put x p)
    where
      go : (b : Bool) → Others (put_into cmp x l) s (x ∷ c) → Others (when b then x ∷ y ∷ l else y ∷ put_into cmp x l) (y ∷ s) (x ∷ c)
      go true w = (x ∷ c, leaves (takes p), same)
      go false w = (w.0, takes w.1, w.2)
  apart-put x (leaves {x = y} {l = l} {s = s} {c = c} p) = go (is_not_more (cmp x y)) (apart-put x p)
    where
      go : (b : Bool) → Others (put_into cmp x l) s (x ∷ c) → Others (when b then x ∷ y ∷ l else y ∷ put_into cmp x l) s (x ∷ y ∷ c)
      go true w = (x ∷ y ∷ c, leaves (leaves p), same)
      go false w = (y ∷ w.0, leaves w.1, further (behind w.2) exchanged)

  apart-sorted : (c s : List A) → Others (sorted cmp (c ++ s)) (sorted cmp s) c
  unfolding sorted
  apart-sorted [] s = ([], all_taken (sorted cmp s), same)
  apart-sorted (x ∷ c) s =
      let w = apart-sorted c s in
      let v = apart-put x w.1 in
      (v.0, v.1, further v.2 (behind w.2))

module _ {A : Type 0} {cmp : A → A → Ordering} {Lt : A → A → Type 0} (L : Laws cmp Lt) where
  others_from : (x : A) {l s c : List A} → Apart l s c → O.From L x l → O.Asc L l → O.From L x c
  others_from x end f a = tt
  others_from x (takes {x = y} {l = l} p) f a = others_from x p (O.from-trans L x y l f a.0) a.1
  others_from x (leaves p) f a = f

  others_ascend_lem : {l s c : List A} → Apart l s c → O.Asc L l → O.Asc L c
  others_ascend_lem end a = tt
  others_ascend_lem (takes p) a = others_ascend_lem p a.1
  others_ascend_lem (leaves {x = x} p) a = (others_from x p a.0 a.1, others_ascend_lem p a.1)

  -- a mask over a list that takes s, and leaves what ascends and is c in another order
  pub record MaskFor (l s c : List A) : Type 0 where
    pub others : List A
    pub by : Masked l s others
    pub order : Reordered others c
    pub ascend : O.Asc L others

  -- the sorted list of c and s, where s ascends
  pub mask-for : (l c s : List A) → Reordered l (c ++ s) → O.Asc L s → MaskFor (sorted cmp l) s c
  mask-for l c s r a =
      let w = apart-sorted cmp c s in
      record {
        others = w.0;
        by = subst (λ (k : List A). Masked k s w.0) (sym (sorted-reordered L r)) (subst (λ (k : List A). Masked (sorted cmp (c ++ s)) k w.0) (O.sort_asc L s a) (masked w.1));
        order = w.2;
        ascend = others_ascend_lem w.1 (O.asc_sort L (c ++ s));
      }

  -- and where c ascends too
  pub mask-between : (l c s : List A) → Reordered l (c ++ s) → O.Asc L s → O.Asc L c → Masked (sorted cmp l) s c
  mask-between l c s r a b =
      let k : MaskFor (sorted cmp l) s c = mask-for l c s r a in
      subst (Masked (sorted cmp l) s) (sym (O.sort_asc L k.others k.ascend) ∙ sorted-reordered L k.order ∙ O.sort_asc L c b) k.by
