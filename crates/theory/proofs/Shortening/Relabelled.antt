-- Other letters put into terms: tidying before makes no difference afterwards, where no sign vanishes.
-- So terms that gather to the same but for a factor do so with any letters put for theirs, under any multiplier. Assumes nothing.
use Rattle.std.specs.Prelude.{◌≡◌, true, false, T, eqb, length, nat_abs, ◌+ℤ◌, ◌*ℤ◌}
use Rattle.std.proofs.Math.Path.{refl, sym, ap}
use Rattle.std.proofs.Common.{◌∙◌, eqb→eq}
use Rattle.std.proofs.Math.Bool.{Bool}
use mathlib.Core.List.{List, [], ◌∷◌, ◌++◌, map, map-append}
use Prim.Native.Nat.{ℕ}
use Rattle.std.proofs.Math.ListN.{length-map}
use Rattle.std.proofs.Math.IntN.{ℤ, pos}
use Rattle.std.proofs.Math.IntN as I
use Rattle.algebra.specs.Integers as R
use Rattle.algebra.specs.Integers.{NonZero, unit-square, unit-nonzero}
use Rattle.specification.specs.Results.{when◌then◌else◌}
use Rattle.specification.specs.Lists.{all, order, sorted}
use Rattle.specification.specs.Terms.{Term, compare_letters, exchange_sign, factor_sign, factors_sign, term_sign, tidy, with_coef, plus, times_term, gather}
use Rattle.theory.specs.Elements.{All, all_implies, all_T}
use Rattle.theory.specs.Order.{Monomial, monomial, nat-laws, letters-laws}
use Rattle.theory.specs.Sorting as O
use Rattle.theory.specs.Reordering.{Reordered, same, exchanged, behind, further, reordered-behind, reordered-map, reordered-sorted, sorted-reordered}
use Rattle.theory.specs.Signs.{signs-reordered}
use Rattle.theory.specs.Gathering.Tidy.{in_order-tidy, tidy-in_order, signs-append}
use Rattle.theory.specs.Gathering.Weights.{weight, weigh, weigh-gather, weigh-tidied, scaled, weigh-scaled}
use Rattle.theory.specs.Gathering.Coefficients.{only, coeff}
use Rattle.theory.proofs.Rules.Table.{relabel}

-- ════ signs

-- the factors as tidying has them
abbrev tidied : List (List ℕ) → List (List ℕ)
tidied fs = sorted compare_letters (map (sorted order) fs)

-- a term that is tidied and does not vanish has the sign 1
tidy-sign : (t : Term) → NonZero (term_sign t) → term_sign (tidy t) ≡ pos 1
unfolding tidy
tidy-sign t h =
    sym (R.one_*ℤ (term_sign (tidy t)))
    ∙ ap (λ (u : Term). u.coef) (in_order-tidy (with_coef (pos 1) (tidy t)) (tidy-in_order (with_coef (pos 1) t) (λ z. h (sym (R.one_*ℤ (term_sign t)) ∙ z))))

signs-in_any_order : {k l : List (List ℕ)} → Reordered k l → factors_sign k ≡ factors_sign l
unfolding factors_sign
signs-in_any_order same = refl
signs-in_any_order (exchanged {x = g} {y = h} {l = l}) = R.*ℤ_left_comm (factor_sign g) (factor_sign h) (factors_sign l)
signs-in_any_order (behind {x = g} r) = ap (λ (z : ℤ). factor_sign g *ℤ z) (signs-in_any_order r)
signs-in_any_order (further r s) = signs-in_any_order r ∙ signs-in_any_order s

regroup : (a b c d e : ℤ) → (a *ℤ b) *ℤ ((c *ℤ d) *ℤ e) ≡ c *ℤ ((a *ℤ d) *ℤ (b *ℤ e))
regroup a b c d e =
    ap (λ (z : ℤ). (a *ℤ b) *ℤ z) (R.*ℤ_assoc c d e) ∙ R.*ℤ_left_comm (a *ℤ b) c (d *ℤ e) ∙ ap (λ (z : ℤ). c *ℤ z) (R.*ℤ_interchange a b d e)

module _ (f : ℕ → ℕ) where
  -- the signs of factors and of the same factors with other letters, which turn together
  abbrev both : List (List ℕ) → ℤ
  both fs = factors_sign fs *ℤ factors_sign (map (map f) fs)

  both_one : (g : List ℕ) → factor_sign g *ℤ factor_sign (map f g) ≡ factor_sign (sorted order g) *ℤ factor_sign (map f (sorted order g))
  unfolding factor_sign
  both_one g = rw (length-map g f, length-map (sorted order g) f, O.length-sorted order g) (go (eqb (length g) 3))
    where
      sign : Bool → List ℕ → ℤ
      sign b g = when b then exchange_sign g else pos 1

      go : (b : Bool) → sign b g *ℤ sign b (map f g) ≡ sign b (sorted order g) *ℤ sign b (map f (sorted order g))
      go true = signs-reordered f [] (reordered-sorted order g)
      go false = refl

  both-each : (fs : List (List ℕ)) → both fs ≡ both (map (sorted order) fs)
  unfolding factors_sign
  both-each [] = refl
  both-each (g ∷ fs) =
      let gs : List (List ℕ) = map (sorted order) fs in
      R.*ℤ_interchange (factor_sign g) (factors_sign fs) (factor_sign (map f g)) (factors_sign (map (map f) fs))
      ∙ (λ i. both_one g i *ℤ both-each fs i)
      ∙ R.*ℤ_interchange (factor_sign (sorted order g)) (factor_sign (map f (sorted order g))) (factors_sign gs) (factors_sign (map (map f) gs))

  both-tidied : (fs : List (List ℕ)) → both fs ≡ both (tidied fs)
  both-tidied fs =
      let r = reordered-sorted compare_letters (map (sorted order) fs) in
      both-each fs ∙ (λ i. signs-in_any_order r i *ℤ signs-in_any_order (reordered-map (map f) r) i)

  -- under a multiplier m
  module _ (m : Term) where
    -- m times a term with other letters
    abbrev put : Term → Term
    put t = times_term m (relabel f t)

    sign-put : (t : Term) → term_sign t *ℤ term_sign (put t) ≡ term_sign (tidy t) *ℤ term_sign (put (tidy t))
    unfolding times_term tidy
    sign-put t =
        spread t ∙ (λ i. factors_sign m.factors *ℤ (both-tidied t.factors i *ℤ signs-reordered f m.part (reordered-sorted order t.part) i))
        ∙ sym (spread (tidy t))
      where
        spread : (t : Term) → term_sign t *ℤ term_sign (put t) ≡ factors_sign m.factors *ℤ (both t.factors *ℤ (exchange_sign t.part *ℤ exchange_sign (m.part ++ map f t.part)))
        spread t =
            unfold times_term in
            (ap (λ (z : ℤ). term_sign t *ℤ (z *ℤ exchange_sign (m.part ++ map f t.part))) (signs-append m.factors (map (map f) t.factors))
            ∙ regroup (factors_sign t.factors) (exchange_sign t.part) (factors_sign m.factors) (factors_sign (map (map f) t.factors)) (exchange_sign (m.part ++ map f t.part)))

    each-put : (fs : List (List ℕ)) → map (sorted order) (map (map f) fs) ≡ map (sorted order) (map (map f) (map (sorted order) fs))
    each-put [] = refl
    each-put (g ∷ fs) = λ i. sorted-reordered nat-laws (reordered-map f (reordered-sorted order g)) i ∷ each-put fs i

    factors-put : (fs : List (List ℕ)) → tidied (m.factors ++ map (map f) fs) ≡ tidied (m.factors ++ map (map f) (tidied fs))
    factors-put fs =
        let s : List (List ℕ) → List (List ℕ) = map (sorted order) in
        rw (map-append (sorted order) m.factors (map (map f) fs), map-append (sorted order) m.factors (map (map f) (tidied fs)), each-put fs)
        (sorted-reordered letters-laws (reordered-behind (s m.factors) (reordered-map (sorted order) (reordered-map (map f) (reordered-sorted compare_letters (s fs))))))

    -- tidying before changes nothing
    tidy-put : (t : Term) → nat_abs (term_sign t) ≡ 1 → tidy (put t) ≡ tidy (put (tidy t))
    unfolding times_term tidy
    tidy-put t h =
        λ i. record {
          coef = coefs m.coef t.coef (term_sign t) (term_sign (put t)) (term_sign (put (tidy t))) (unit-square (term_sign t) h)
              (sign-put t ∙ ap (λ (z : ℤ). z *ℤ term_sign (put (tidy t))) (tidy-sign t (unit-nonzero (term_sign t) h)) ∙ R.one_*ℤ (term_sign (put (tidy t)))) i;
          factors = factors-put t.factors i;
          part = sorted-reordered nat-laws (reordered-behind m.part (reordered-map f (reordered-sorted order t.part))) i;
        }
      where
        coefs : (a b s u v : ℤ) → s *ℤ s ≡ pos 1 → s *ℤ u ≡ v → (a *ℤ b) *ℤ u ≡ (a *ℤ (b *ℤ s)) *ℤ v
        coefs a b s u v q e =
            ap (λ (z : ℤ). (a *ℤ b) *ℤ z) (sym (R.one_*ℤ u) ∙ ap (λ (z : ℤ). z *ℤ u) (sym q) ∙ R.*ℤ_assoc s s u ∙ ap (λ (z : ℤ). s *ℤ z) e)
            ∙ sym (R.*ℤ_assoc (a *ℤ b) s v) ∙ ap (λ (z : ℤ). z *ℤ v) (R.*ℤ_assoc a b s)

    -- ════ what terms with other letters add to a monomial under m

    module _ (n : Monomial) where
      -- one term with the coefficient 1
      unfoldable share : Monomial → ℤ
      share q = weight (only n) (tidy (put (plus q.1 q.0)))

      share-term : (t : Term) → weight share t ≡ weight (only n) (tidy (put t))
      unfolding share times_term tidy
      share-term t = coefs t.coef m.coef (factors_sign (m.factors ++ map (map f) t.factors) *ℤ exchange_sign (m.part ++ map f t.part)) (only n (monomial (tidy (put t))))
        where
          coefs : (a b s o : ℤ) → a *ℤ (((b *ℤ pos 1) *ℤ s) *ℤ o) ≡ ((b *ℤ a) *ℤ s) *ℤ o
          coefs a b s o = rw (R.*ℤ-1 b, I.*ℤ_comm b a) (simp R.*ℤ_assoc)

      -- all of them
      abbrev pub added : List Term → ℤ
      added ts = coeff n (map tidy (map (times_term m) (map (relabel f) ts)))

      added-shares : (ts : List Term) → added ts ≡ weigh share ts
      unfolding weigh
      added-shares [] = refl
      added-shares (t ∷ ts) = λ i. sym (share-term t) i +ℤ added-shares ts i

      added-gathered : (ts : List Term) → All (λ (t : Term). nat_abs (term_sign t) ≡ 1) ts → added ts ≡ weigh share (gather ts)
      added-gathered ts h =
          added-shares ts
          ∙ sym (weigh-gather share ts ∙ weigh-tidied share ts
          (all_implies (λ (t : Term). nat_abs (term_sign t) ≡ 1) (λ (t : Term). weight share (tidy t) ≡ weight share t)
          (λ t u. share-term (tidy t) ∙ sym (ap (weight (only n)) (tidy-put t u)) ∙ sym (share-term t)) ts h))

-- ════ the theorem

-- no term vanishes
unfoldable pub unit_signs : List Term → Bool
unit_signs ts = all (λ t. eqb (nat_abs (term_sign t)) 1) ts

signs-are-units : (ts : List Term) → T (unit_signs ts) → All (λ (t : Term). nat_abs (term_sign t) ≡ 1) ts
unfolding unit_signs
signs-are-units ts h =
    all_implies (λ (t : Term). T (eqb (nat_abs (term_sign t)) 1)) (λ (t : Term). nat_abs (term_sign t) ≡ 1) (λ t. eqb→eq (nat_abs (term_sign t)) 1) ts
    (all_T (λ t. eqb (nat_abs (term_sign t)) 1) ts h)

-- terms that gather to the same but for a factor e add e times as much
pub added-turned : (e : ℤ) (ts us : List Term) → T (unit_signs ts) → T (unit_signs us) → gather ts ≡ map (scaled e) (gather us)
    → (f : ℕ → ℕ) (m : Term) (n : Monomial) → added f m n ts ≡ e *ℤ added f m n us
added-turned e ts us a b h f m n =
    added-gathered f m n ts (signs-are-units ts a) ∙ ap (weigh (share f m n)) h ∙ weigh-scaled (share f m n) e (gather us)
    ∙ ap (λ (z : ℤ). e *ℤ z) (sym (added-gathered f m n us (signs-are-units us b)))
