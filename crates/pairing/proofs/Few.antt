-- What two vector parts make, case by case, and which of the terms stay. Assumes nothing.
use mathlib.Core.Path.{◌≡◌, refl, ap, sym, subst, ◌∙◌}
use mathlib.Core.Logic.{◌⊎◌, inl, inr}
use mathlib.Core.Bool.{Bool, true, false, not}
use mathlib.Core.List.{List, [], ◌∷◌, ◌++◌}
use Prim.Native.Nat.{ℕ, ◌<◌}
use native.Mathlib.Omega.{arith}
use borrow.Author.Tests.{eq-eqb, ne_eqb}
use lib.Dec.{eqb}
use lib.IntN.{ℤ, pos, negsuc, ◌*ℤ◌}
use Rattle.algebra.specs.Integers.{one_*ℤ, *ℤ-1}
use Rattle.specification.specs.Results.{when◌then◌else◌}
use Rattle.specification.specs.Lists.{select}
use Rattle.specification.specs.Terms.{pair_sign, sign_before, exchange_sign, factor_sign, factors_sign, is_zero, vanishes, staying, plus, minus}
use Rattle.specification.specs.Terms as S
use Rattle.specification.specs.Reduction.{times_parts, wedge_parts}
use Rattle.theory.specs.Tests.{not-zero}
use Rattle.theory.specs.Order.{nat-laws}
use Rattle.theory.specs.Sorting as O
use Rattle.theory.specs.Signs.{pair_eq}
use Rattle.theory.specs.Gathering.Staying.{vanishing_goes, other-stays}
use Rattle.terms.specs.declared.types.Part.{Part}
use Rattle.terms.specs.declared.types.Part.TheVariants.{Nothing, Letter, Wedge}
use Rattle.terms.specs.declared.types.Term.{Term}
use Rattle.terms.specs.Numbers.{letters_of, FactorNumber}
use Rattle.terms.specs.Abstraction.{part_of, term_of}
use Rattle.tidying.proofs.Selecting.{pair_zero, zero_exactly}
use Rattle.pairing.specs.declared.parts.Operation.{Operation}
use Rattle.pairing.specs.declared.parts.Operation.TheVariants.{Times}
use Rattle.pairing.specs.declared.parts.Few.{Few}
use Rattle.pairing.specs.Parts.{parts_of, Together, is_some, Made, FewMade}

-- the same terms in other words
pub few_as : (r : Few) (ts us : List S.Term) → ts ≡ us → FewMade ts r → FewMade us r
few_as r ts us e h = subst (λ (l : List S.Term). FewMade l r) e h

-- one term that was made
pub one_made : (r : Few) (t : Term) (u : S.Term) → Made u t → FewMade (term_of t ∷ []) r → FewMade (u ∷ []) r
one_made r t u m h = few_as r (term_of t ∷ []) (u ∷ []) (ap (λ (x : S.Term). x ∷ []) m.is) h

-- two terms that were made
pub two_made : (r : Few) (t u : Term) (v w : S.Term) → Made v t → Made w u → FewMade (term_of t ∷ term_of u ∷ []) r → FewMade (v ∷ w ∷ []) r
two_made r t u v w m n h = few_as r (term_of t ∷ term_of u ∷ []) (v ∷ w ∷ []) (λ i. m.is i ∷ n.is i ∷ []) h

-- a term of one factor
abbrev pub factor_term : (s : ℤ) (f p : List ℕ) → S.Term
factor_term s f p = record { coef = s; factors = f ∷ []; part = p }

-- one factor by its number
pub one_factor : (r : Few) (t : Term) (s : ℤ) (p : List ℕ) (k : ℕ) (f : List ℕ) → FactorNumber f k → Made (factor_term s (letters_of k) p) t → FewMade (term_of t ∷ []) r
    → FewMade (factor_term s f p ∷ []) r
one_factor r t s p k f n m h =
    few_as r (factor_term s (letters_of k) p ∷ []) (factor_term s f p ∷ []) (ap (λ (g : List ℕ). factor_term s g p ∷ []) n.letters)
    (one_made r t (factor_term s (letters_of k) p) m h)

-- two factors with a letter each, by their numbers
pub two_factors : (r : Few) (k l : ℕ) (f g : List ℕ) (a b : ℕ) → FactorNumber f k → FactorNumber g l
    → FewMade (plus (letters_of k ∷ []) (a ∷ []) ∷ minus (letters_of l ∷ []) (b ∷ []) ∷ []) r
    → FewMade (plus (f ∷ []) (a ∷ []) ∷ minus (g ∷ []) (b ∷ []) ∷ []) r
two_factors r k l f g a b m n h =
    few_as r (plus (letters_of k ∷ []) (a ∷ []) ∷ minus (letters_of l ∷ []) (b ∷ []) ∷ []) (plus (f ∷ []) (a ∷ []) ∷ minus (g ∷ []) (b ∷ []) ∷ [])
    (λ i. plus (m.letters i ∷ []) (a ∷ []) ∷ minus (n.letters i ∷ []) (b ∷ []) ∷ []) h

-- two products of two dots, by their numbers
pub four-factors : (r : Few) (t u : Term) (k l m n : ℕ) (e f g h : List ℕ) → FactorNumber e k → FactorNumber f l → FactorNumber g m → FactorNumber h n
    → Made (plus (letters_of k ∷ letters_of l ∷ []) []) t → Made (minus (letters_of m ∷ letters_of n ∷ []) []) u → FewMade (term_of t ∷ term_of u ∷ []) r
    → FewMade (plus (e ∷ f ∷ []) [] ∷ minus (g ∷ h ∷ []) [] ∷ []) r
four-factors r t u k l m n e f g h p q v w x y z =
    few_as r (plus (letters_of k ∷ letters_of l ∷ []) [] ∷ minus (letters_of m ∷ letters_of n ∷ []) [] ∷ []) (plus (e ∷ f ∷ []) [] ∷ minus (g ∷ h ∷ []) [] ∷ [])
    (λ i. plus (p.letters i ∷ q.letters i ∷ []) [] ∷ minus (v.letters i ∷ w.letters i ∷ []) [] ∷ [])
    (two_made r t u (plus (letters_of k ∷ letters_of l ∷ []) []) (minus (letters_of m ∷ letters_of n ∷ []) []) x y z)

-- ════ by the vector part

module _ (P : List ℕ → Type 0) (q : Part) where
  -- with nothing
  by-nothing : q ≡ Nothing → P [] → P (part_of q)
  unfolding part_of
  by-nothing e h = subst (λ (q : Part). P (part_of q)) (sym e) h

  -- with a letter
  by-letter : (a : ℕ) → q ≡ Letter a → P (a ∷ []) → P (part_of q)
  unfolding part_of
  by-letter a e h = subst (λ (q : Part). P (part_of q)) (sym e) h

  -- with a wedge
  by-wedge : (a b : ℕ) → q ≡ Wedge a b → P (a ∷ b ∷ []) → P (part_of q)
  unfolding part_of
  by-wedge a b e h = subst (λ (q : Part). P (part_of q)) (sym e) h

-- the terms made
module _ (made : List ℕ → List S.Term) (q : Part) (r : Few) where
  -- with nothing
  pub at_nothing : q ≡ Nothing → FewMade (staying (made [])) r → FewMade (staying (made (part_of q))) r
  at_nothing = by-nothing (λ l. FewMade (staying (made l)) r) q

  -- with a letter
  pub at-letter : (a : ℕ) → q ≡ Letter a → FewMade (staying (made (a ∷ []))) r → FewMade (staying (made (part_of q))) r
  at-letter = by-letter (λ l. FewMade (staying (made l)) r) q

  -- with a wedge
  pub at-wedge : (a b : ℕ) → q ≡ Wedge a b → FewMade (staying (made (a ∷ b ∷ []))) r → FewMade (staying (made (part_of q))) r
  at-wedge = by-wedge (λ l. FewMade (staying (made l)) r) q

-- whether there is one
module _ (made : List ℕ → List S.Term) (q : Part) (r : Bool) where
  -- with nothing
  pub some_nothing : q ≡ Nothing → r ≡ is_some (staying (made [])) → r ≡ is_some (staying (made (part_of q)))
  some_nothing = by-nothing (λ l. r ≡ is_some (staying (made l))) q

  -- with a letter
  pub some_letter : (a : ℕ) → q ≡ Letter a → r ≡ is_some (staying (made (a ∷ []))) → r ≡ is_some (staying (made (part_of q)))
  some_letter = by-letter (λ l. r ≡ is_some (staying (made l))) q

  -- with a wedge
  pub some_wedge : (a b : ℕ) → q ≡ Wedge a b → r ≡ is_some (staying (made (a ∷ b ∷ []))) → r ≡ is_some (staying (made (part_of q)))
  some_wedge = by-wedge (λ l. r ≡ is_some (staying (made l))) q

-- the one part that is there, in order, and so it stays
pub times-made : (p q : List ℕ) (o : Part) (t : Term) (r : Few) → exchange_sign (p ++ q) ≡ pos 1 → part_of o ≡ p ++ q → Made (plus [] (part_of o)) t
    → FewMade (term_of t ∷ []) r → FewMade (staying (times_parts p q)) r
unfolding times_parts vanishes factors_sign is_zero staying select
times-made p q o t r s e m h =
    few_as r (plus [] (part_of o) ∷ []) (staying (plus [] (p ++ q) ∷ []))
    (ap (λ (l : List ℕ). plus [] l ∷ []) e ∙ sym (other-stays (plus [] (p ++ q)) [] (ap (λ (z : ℤ). is_zero (pos 1 *ℤ z)) s)))
    (one_made r t (plus [] (part_of o)) m h)

-- by the operation
pub by-operation : (op o : Operation) (p q : List ℕ) (r : Few) → op ≡ o → FewMade (staying (parts_of o p q)) r → FewMade (staying (parts_of op p q)) r
by-operation op o p q r e h = subst (λ (o : Operation). FewMade (staying (parts_of o p q)) r) (sym e) h

-- one of the parts of a product by a scalar is nothing, and the other in order
pub together-times : (op : Operation) (p q : List ℕ) → op ≡ Times → Together op p q → ((p ≡ []) ⊎ (q ≡ [])) × (exchange_sign (p ++ q) ≡ pos 1)
unfolding Together
together-times op p q e h = subst (λ (o : Operation). Together o p q) e h

-- ════ which terms stay

-- one name under which it computes that terms with dots alone stay
unfoldable pub judging : Unit {0}
unfolding staying select vanishes is_zero factors_sign factor_sign exchange_sign sign_before
judging = tt

-- three letters of which two are equal
pub two_equal : (a b c : ℕ) → (a ≡ b) ⊎ ((a ≡ c) ⊎ (b ≡ c)) → true ≡ is_zero (exchange_sign (a ∷ b ∷ c ∷ []))
unfolding is_zero
two_equal a b c h = sym (ap is_zero ((zero_exactly a b c).1 h))

-- the last two decide where the first is like neither
pub last_two : (a b c : ℕ) → (a ≡ b → ⊥) → (a ≡ c → ⊥) → eqb b c ≡ is_zero (exchange_sign (a ∷ b ∷ c ∷ []))
last_two a b c h k = go (O.tri nat-laws b c)
  where
    none_equal : (b ≡ c → ⊥) → (a ≡ b) ⊎ ((a ≡ c) ⊎ (b ≡ c)) → ⊥
    none_equal n (inl e) = h e
    none_equal n (inr (inl e)) = k e
    none_equal n (inr (inr e)) = n e

    differ : (b ≡ c → ⊥) → eqb b c ≡ is_zero (exchange_sign (a ∷ b ∷ c ∷ []))
    differ n = ne_eqb b c n ∙ sym (not-zero (exchange_sign (a ∷ b ∷ c ∷ [])) (λ z. none_equal n ((zero_exactly a b c).0 z)))

    go : ((b < c) ⊎ (b ≡ c)) ⊎ (c < b) → eqb b c ≡ is_zero (exchange_sign (a ∷ b ∷ c ∷ []))
    go (inl (inl l)) = differ (λ e. omega (arith, e, l))
    go (inl (inr e)) = eq-eqb b c e ∙ two_equal a b c (inr (inr e))
    go (inr l) = differ (λ e. omega (arith, e, l))

-- a term of one triple and at most one letter vanishes exactly where the triple makes it
triple-judged : (s : ℤ) (a b c : ℕ) (p : List ℕ) → exchange_sign p ≡ pos 1
    → vanishes (factor_term s (a ∷ b ∷ c ∷ []) p) ≡ is_zero (exchange_sign (a ∷ b ∷ c ∷ []))
unfolding vanishes factors_sign factor_sign
triple-judged s a b c p e =
    ap is_zero (ap (λ (z : ℤ). (exchange_sign (a ∷ b ∷ c ∷ []) *ℤ pos 1) *ℤ z) e ∙ *ℤ-1 (exchange_sign (a ∷ b ∷ c ∷ []) *ℤ pos 1)
    ∙ *ℤ-1 (exchange_sign (a ∷ b ∷ c ∷ [])))

-- a wedge of two letters where they are equal
wedge-judged : (a b : ℕ) → vanishes (plus [] (a ∷ b ∷ [])) ≡ is_zero (pair_sign a b)
unfolding vanishes factors_sign exchange_sign sign_before
wedge-judged a b =
    ap is_zero (one_*ℤ ((pair_sign a b *ℤ pos 1) *ℤ pos 1) ∙ *ℤ-1 (pair_sign a b *ℤ pos 1) ∙ *ℤ-1 (pair_sign a b))

-- the sign of two letters is 0 where they are equal
equal-sign : (a b : ℕ) → is_zero (pair_sign a b) ≡ eqb a b
unfolding is_zero
equal-sign a b = go (O.tri nat-laws a b)
  where
    differ : (a ≡ b → ⊥) → is_zero (pair_sign a b) ≡ eqb a b
    differ n = not-zero (pair_sign a b) (λ z. n (pair_zero a b z)) ∙ sym (ne_eqb a b n)

    go : ((a < b) ⊎ (a ≡ b)) ⊎ (b < a) → is_zero (pair_sign a b) ≡ eqb a b
    go (inl (inl l)) = differ (λ e. omega (arith, e, l))
    go (inl (inr e)) = ap is_zero (pair_eq a b e) ∙ sym (eq-eqb a b e)
    go (inr l) = differ (λ e. omega (arith, e, l))

-- a term, unless it goes
stays-unless : (t : S.Term) (gone : Bool) (ts : List S.Term) → vanishes t ≡ gone → (when gone then staying ts else t ∷ staying ts) ≡ staying (t ∷ ts)
stays-unless t true ts e = sym (vanishing_goes t ts e)
stays-unless t false ts e = sym (other-stays t ts e)

-- one term that was made, unless it goes
one_made-unless : (r : Few) (gone : Bool) (t : Term) (u : S.Term) → term_of t ≡ u → vanishes u ≡ gone → FewMade (when gone then [] else term_of t ∷ []) r → FewMade (staying (u ∷ [])) r
unfolding staying select
one_made-unless r gone t u m e =
    few_as r (when gone then [] else term_of t ∷ []) (staying (u ∷ [])) (ap (λ (x : S.Term). when gone then [] else x ∷ []) m ∙ stays-unless u gone [] e)

-- a triple alone
pub triple-made : (a b c : ℕ) (gone : Bool) (k : ℕ) (t : Term) (r : Few) → gone ≡ is_zero (exchange_sign (a ∷ b ∷ c ∷ [])) → FactorNumber (a ∷ b ∷ c ∷ []) k
    → Made (factor_term (pos 1) (letters_of k) []) t → FewMade (when gone then [] else term_of t ∷ []) r → FewMade (staying (factor_term (pos 1) (a ∷ b ∷ c ∷ []) [] ∷ [])) r
triple-made a b c gone k t r e n m =
    one_made-unless r gone t (factor_term (pos 1) (a ∷ b ∷ c ∷ []) []) (m.is ∙ ap (λ (g : List ℕ). factor_term (pos 1) g []) n.letters)
    (unfold exchange_sign in triple-judged (pos 1) a b c [] refl ∙ sym e)

-- a wedge of two letters
pub wedge-made : (a b : ℕ) (t : Term) (r : Few) → Made (plus [] (a ∷ b ∷ [])) t → FewMade (when eqb a b then [] else term_of t ∷ []) r
    → FewMade (staying (plus [] (a ∷ b ∷ []) ∷ [])) r
wedge-made a b t r m = one_made-unless r (eqb a b) t (plus [] (a ∷ b ∷ [])) m.is (wedge-judged a b ∙ equal-sign a b)

-- each of the two terms of a wedge wedge a wedge by itself
module _ (a b c d : ℕ) (first second : Bool) (e : first ≡ is_zero (exchange_sign (a ∷ b ∷ d ∷ []))) (g : second ≡ is_zero (exchange_sign (a ∷ b ∷ c ∷ []))) where
  one_term_lem : S.Term
  one_term_lem = factor_term (pos 1) (a ∷ b ∷ d ∷ []) (c ∷ [])

  other-term : S.Term
  other-term = factor_term (negsuc 0) (a ∷ b ∷ c ∷ []) (d ∷ [])

  one_judged : vanishes one_term_lem ≡ first
  unfolding one_term_lem exchange_sign sign_before
  one_judged = triple-judged (pos 1) a b d (c ∷ []) refl ∙ sym e

  other-judged : vanishes other-term ≡ second
  unfolding other-term exchange_sign sign_before
  other-judged = triple-judged (negsuc 0) a b c (d ∷ []) refl ∙ sym g

  module _ (k l : ℕ) (x y : Term) (r : Few) (n : FactorNumber (a ∷ b ∷ d ∷ []) k) (o : FactorNumber (a ∷ b ∷ c ∷ []) l)
      (mx : Made (factor_term (pos 1) (letters_of k) (c ∷ [])) x) (my : Made (factor_term (negsuc 0) (letters_of l) (d ∷ [])) y) where
    y_is : term_of y ≡ other-term
    unfolding other-term
    y_is = my.is ∙ ap (λ (f : List ℕ). factor_term (negsuc 0) f (d ∷ [])) o.letters

    -- the first goes
    pub second-made : first ≡ true → FewMade (when second then [] else term_of y ∷ []) r → FewMade (staying (wedge_parts (a ∷ b ∷ []) (c ∷ d ∷ []))) r
    unfolding wedge_parts one_term_lem other-term
    second-made p h =
        few_as r (staying (other-term ∷ [])) (staying (one_term_lem ∷ other-term ∷ [])) (sym (vanishing_goes one_term_lem (other-term ∷ []) (one_judged ∙ p)))
        (one_made-unless r second y other-term y_is other-judged h)

    -- the first stays
    pub first_made : first ≡ false → FewMade (term_of x ∷ (when second then [] else term_of y ∷ [])) r → FewMade (staying (wedge_parts (a ∷ b ∷ []) (c ∷ d ∷ []))) r
    unfolding wedge_parts one_term_lem other-term staying select
    first_made p =
        few_as r (term_of x ∷ (when second then [] else term_of y ∷ [])) (staying (one_term_lem ∷ other-term ∷ []))
        ((λ i. (mx.is ∙ ap (λ (f : List ℕ). factor_term (pos 1) f (c ∷ [])) n.letters) i ∷ (when second then [] else y_is i ∷ []))
        ∙ ap (λ (ts : List S.Term). one_term_lem ∷ ts) (stays-unless other-term second [] other-judged) ∙ sym (other-stays one_term_lem (other-term ∷ []) (one_judged ∙ p)))

-- ════ whether one stays

one_some : (t : S.Term) (gone : Bool) → vanishes t ≡ gone → not gone ≡ is_some (staying (t ∷ []))
unfolding is_some staying select
one_some t true e = sym (ap is_some (vanishing_goes t [] e))
one_some t false e = sym (ap is_some (other-stays t [] e))

-- a triple alone
pub triple_some : (a b c : ℕ) (gone : Bool) → gone ≡ is_zero (exchange_sign (a ∷ b ∷ c ∷ [])) → not gone ≡ is_some (staying (factor_term (pos 1) (a ∷ b ∷ c ∷ []) [] ∷ []))
triple_some a b c gone e = one_some (factor_term (pos 1) (a ∷ b ∷ c ∷ []) []) gone (unfold exchange_sign in triple-judged (pos 1) a b c [] refl ∙ sym e)

-- a wedge of two letters
pub letters_some : (a b : ℕ) → not (eqb a b) ≡ is_some (staying (plus [] (a ∷ b ∷ []) ∷ []))
letters_some a b = one_some (plus [] (a ∷ b ∷ [])) (eqb a b) (wedge-judged a b ∙ equal-sign a b)

-- one of two triples with a letter each
module _ (a b c d : ℕ) (first : Bool) (e : first ≡ is_zero (exchange_sign (a ∷ b ∷ d ∷ []))) where
  pub first_some : first ≡ false → true ≡ is_some (staying (wedge_parts (a ∷ b ∷ []) (c ∷ d ∷ [])))
  unfolding wedge_parts is_some exchange_sign sign_before
  first_some p =
      sym (ap is_some (other-stays (factor_term (pos 1) (a ∷ b ∷ d ∷ []) (c ∷ [])) _ (triple-judged (pos 1) a b d (c ∷ []) refl ∙ sym e ∙ p)))

  pub second_some : (second : Bool) → second ≡ is_zero (exchange_sign (a ∷ b ∷ c ∷ [])) → first ≡ true → not second ≡ is_some (staying (wedge_parts (a ∷ b ∷ []) (c ∷ d ∷ [])))
  unfolding wedge_parts exchange_sign sign_before
  second_some second g p =
      one_some (factor_term (negsuc 0) (a ∷ b ∷ c ∷ []) (d ∷ [])) second (triple-judged (negsuc 0) a b c (d ∷ []) refl ∙ sym g)
      ∙ sym (ap is_some (vanishing_goes (factor_term (pos 1) (a ∷ b ∷ d ∷ []) (c ∷ [])) _ (triple-judged (pos 1) a b d (c ∷ []) refl ∙ sym e ∙ p)))

-- by the operation
pub some_operation : (op o : Operation) (p q : List ℕ) (r : Bool) → op ≡ o → r ≡ is_some (staying (parts_of o p q)) → r ≡ is_some (staying (parts_of op p q))
some_operation op o p q r e h = subst (λ (o : Operation). r ≡ is_some (staying (parts_of o p q))) (sym e) h

-- a product by a scalar
pub times_some : (p q : List ℕ) → exchange_sign (p ++ q) ≡ pos 1 → true ≡ is_some (staying (times_parts p q))
unfolding times_parts vanishes factors_sign is_zero is_some
times_some p q s = sym (ap is_some (other-stays (plus [] (p ++ q)) [] (ap (λ (z : ℤ). is_zero (pos 1 *ℤ z)) s)))
