-- The symmetries of the rules: an exchange inside a block of letters turns the sign of all that a rule adds, and exchanging the triples of rule 5 changes nothing.
-- So letters can be put in ascending blocks; and where a rule adds something, these ascend strictly. Assumes nothing.
use Rattle.std.specs.Prelude.{◌≡◌, refl, ◌⊎◌, Bool, true, false, ◌&&◌, ◌||◌, List, [], ◌∷◌, ◌++◌, map, ℕ, zero, suc, ◌+◌, ◌*◌, ◌-◌, ◌<◌, ◌≤◌, T, eqb, length, get_or, take, drop, ℤ, pos, negsuc, neg_ℤ, nat_abs, ◌*ℤ◌}
use Rattle.std.proofs.Common.{sym, ◌∙◌, ap, subst, inl, inr, arith, eqb→eq, le→leb, take-append-drop, length-append, length-take-le}
use Rattle.std.proofs.Math.Nat as N
use Rattle.std.proofs.Math.IntN as I
use Rattle.algebra.specs.Integers as R
use Rattle.algebra.specs.Integers.{NonZero}
use Rattle.specification.specs.Lists.{each, order, sorted}
use Rattle.specification.specs.Terms.{Term, tidy, times_term, gather}
use Rattle.specification.specs.Rules.{rule1, rule2, rule3, rule4, bracket, rule5, sides, rule_letters, is_rule}
use Rattle.specification.specs.Logs.{same_terms}
use Rattle.specification.proofs.Computing.{computing}
use Rattle.theory.specs.Tests.{and_split}
use Rattle.theory.specs.Elements.{each_T}
use Rattle.theory.specs.Order.{Monomial, nat-laws}
use Rattle.theory.specs.Sorting as O
use Rattle.theory.specs.Reordering.{Reordered, same, exchanged, behind, further, reordered-length, reordered-turned, reordered-sorted}
use Rattle.theory.specs.Signs.{Strict}
use Rattle.theory.specs.Gathering.Weights.{scaled}
use Rattle.theory.specs.Gathering.Coefficients.{coeff}
use Rattle.theory.proofs.Rules.Table.{positions, relabel, by-rule, rule_terms}
use Rattle.theory.proofs.Replay.Accepted.{same_terms_eq}
use Rattle.theory.proofs.Shortening.Relabelled.{unit_signs, added-turned}
use Rattle.theory.specs.Shortening.Candidates.{block_size, in_rule_order, block_is_first}

-- ════ a rule with its letters in blocks

-- the rule's terms at the letters 0 to 5, the block first
abbrev pub base : ℕ → List Term
base r = rule_terms r (in_rule_order r positions)

-- other letters are put for these
pub in_blocks : (r : ℕ) → T (is_rule r) → (w : List ℕ) → rule_terms r (in_rule_order r w) ≡ map (relabel (λ i. get_or w i 0)) (base r)
unfolding rule_terms sides rule1 rule2 rule3 rule4 bracket rule5 in_rule_order
in_blocks =
    by-rule (λ (r : ℕ). (w : List ℕ) → rule_terms r (in_rule_order r w) ≡ map (relabel (λ i. get_or w i 0)) (base r)) (λ w. refl) (λ w. refl) (λ w. refl) (λ w. refl) (λ w. refl)

-- others for others for these
in_blocks-twice : (r : ℕ) → T (is_rule r) → (f g : ℕ → ℕ) → map (relabel (λ i. f (g i))) (base r) ≡ map (relabel f) (map (relabel g) (base r))
unfolding rule_terms sides rule1 rule2 rule3 rule4 bracket rule5 in_rule_order
in_blocks-twice =
    by-rule (λ (r : ℕ). (f g : ℕ → ℕ) → map (relabel (λ i. f (g i))) (base r) ≡ map (relabel f) (map (relabel g) (base r))) (λ f g. refl) (λ f g. refl) (λ f g. refl) (λ f g. refl) (λ f g. refl)

-- what the rule adds to a monomial under a multiplier
abbrev pub adds : (rule : ℕ) (m : Term) (n : Monomial) (letters : List ℕ) → ℤ
adds r m n w = coeff n (map tidy (map (times_term m) (rule_terms r (in_rule_order r w))))

-- e times as much with the letters v as with the letters w
abbrev Times : ℕ → ℤ → List ℕ → List ℕ → Type 0
Times r e w v = (m : Term) (n : Monomial) → adds r m n v ≡ e *ℤ adds r m n w

-- ════ the tests at the letters 0 to 5

-- with places exchanged the rule's terms gather to e times what they gather to
unfoldable turns : (rule : ℕ) (e : ℤ) (places : ℕ → ℕ) → Bool
turns r e g = unit_signs (map (relabel g) (base r)) && unit_signs (base r) && same_terms (gather (map (relabel g) (base r))) (map (scaled e) (gather (base r)))

turned : (r : ℕ) → T (is_rule r) → (e : ℤ) (g : ℕ → ℕ) → T (turns r e g) → (w v : List ℕ)
    → rule_terms r (in_rule_order r v) ≡ map (relabel (λ i. get_or w i 0)) (map (relabel g) (base r)) → Times r e w v
unfolding turns
turned r h e g t w v q m n =
    let u₂ = and_split (unit_signs (map (relabel g) (base r)) && unit_signs (base r)) (same_terms (gather (map (relabel g) (base r))) (map (scaled e) (gather (base r)))) t in
    let u₁ = and_split (unit_signs (map (relabel g) (base r))) (unit_signs (base r)) u₂.0 in
    ap (λ (ts : List Term). coeff n (map tidy (map (times_term m) ts))) q
    ∙ added-turned e (map (relabel g) (base r)) (base r) u₁.0 u₁.1 (same_terms_eq (gather (map (relabel g) (base r))) (map (scaled e) (gather (base r))) u₂.1) (λ i. get_or w i 0) m n
    ∙ ap (λ (ts : List Term). e *ℤ coeff n (map tidy (map (times_term m) ts))) (sym (in_blocks r h w))

-- the places i and i + 1 exchanged
unfoldable exchange : ℕ → ℕ → ℕ
exchange zero zero = 1
exchange zero (suc zero) = 0
exchange zero (suc (suc j)) = suc (suc j)
exchange (suc i) zero = 0
exchange (suc i) (suc j) = suc (exchange i j)

-- neighbours in the block, and neighbours behind it, turn the sign
neighbours-turn : (r : ℕ) → T (is_rule r) → T (each (rule_letters r - 1) (λ i. eqb (suc i) (block_size r) || turns r (negsuc 0) (exchange i)))
unfolding computing rule_terms in_rule_order block_size turns exchange unit_signs
neighbours-turn = by-rule (λ (r : ℕ). T (each (rule_letters r - 1) (λ i. eqb (suc i) (block_size r) || turns r (negsuc 0) (exchange i)))) tt tt tt tt tt

-- the triples of rule 5
abbrev triples : ℕ → ℕ
triples i = get_or (3 ∷ 4 ∷ 5 ∷ 0 ∷ 1 ∷ 2 ∷ []) i 0

triples-stay : T (turns 5 (pos 1) triples)
unfolding computing rule_terms in_rule_order turns unit_signs
triples-stay = tt

-- ════ one exchange

-- the neighbours at i and i + 1 exchanged
data Exchange : ℕ → List ℕ → List ℕ → Type 0 where
  first : {x y : ℕ} {l : List ℕ} → Exchange 0 (x ∷ y ∷ l) (y ∷ x ∷ l)
  next : {i x : ℕ} {k l : List ℕ} → Exchange i k l → Exchange (suc i) (x ∷ k) (x ∷ l)

exchange-at : {i : ℕ} {w v : List ℕ} → Exchange i w v → (j : ℕ) → get_or v j 0 ≡ get_or w (exchange i j) 0
unfolding exchange
exchange-at first zero = refl
exchange-at first (suc zero) = refl
exchange-at first (suc (suc j)) = refl
exchange-at (next e) zero = refl
exchange-at (next e) (suc j) = exchange-at e j

exchange-inside : {i : ℕ} {w v : List ℕ} → Exchange i w v → suc i < length w
exchange-inside first = omega arith
exchange-inside (next e) = omega (arith, exchange-inside e)

exchange-reorders : {i : ℕ} {w v : List ℕ} → Exchange i w v → Reordered w v
exchange-reorders first = exchanged
exchange-reorders (next e) = behind (exchange-reorders e)

exchange-before : {i : ℕ} {w v : List ℕ} → Exchange i w v → (l : List ℕ) → Exchange i (w ++ l) (v ++ l)
exchange-before first l = first
exchange-before (next e) l = next (exchange-before e l)

exchange-behind : (l : List ℕ) {i : ℕ} {w v : List ℕ} → Exchange i w v → Exchange (length l + i) (l ++ w) (l ++ v)
exchange-behind [] {i} {w} {v} e = let q : i ≡ 0 + i = omega arith in subst (λ (k : ℕ). Exchange k w v) q e
exchange-behind (x ∷ l) {i} {w} {v} e =
    let q : suc (length l + i) ≡ suc (length l) + i = omega arith in subst (λ (k : ℕ). Exchange k (x ∷ l ++ w) (x ∷ l ++ v)) q (next (exchange-behind l e))

-- a list in another order is reached by exchanges, and so is what they lead to
by-exchanges : (Q : List ℕ → List ℕ → Type 0) (n : ℕ) → ((l : List ℕ) → Q l l) → ((j k l : List ℕ) → Q j k → Q k l → Q j l)
    → ((i : ℕ) (k l : List ℕ) → length k ≡ n → Exchange i k l → Q k l) → {k l : List ℕ} → Reordered k l → length k ≡ n → Q k l
by-exchanges Q n one two turn (same {l = l}) e = one l
by-exchanges Q n one two turn (exchanged {x = x} {y = y} {l = l}) e = turn 0 (x ∷ y ∷ l) (y ∷ x ∷ l) e first
by-exchanges Q n one two turn (behind {x = x} {k = k} r) e =
    by-exchanges (λ k l. Q (x ∷ k) (x ∷ l)) (length k) (λ l. one (x ∷ l)) (λ j k l. two (x ∷ j) (x ∷ k) (x ∷ l))
    (λ i j l g c. turn (suc i) (x ∷ j) (x ∷ l) (ap suc g ∙ e) (next c)) r refl
by-exchanges Q n one two turn (further {j = j} {k = k} {l = l} r s) e =
    two j k l (by-exchanges Q n one two turn r e) (by-exchanges Q n one two turn s (sym (reordered-length r) ∙ e))

-- ════ letters that a rule takes for the same

-- but for the sign of what it adds
pub record Same (r : ℕ) (w v : List ℕ) : Type 0 where
  pub sign : ℤ
  pub unit : nat_abs sign ≡ 1
  pub times : Times r sign w v
  pub order : Reordered w v

same_self : (r : ℕ) (w : List ℕ) → Same r w w
same_self r w = record { sign = pos 1; unit = refl; times = λ m n. sym (R.one_*ℤ (adds r m n w)); order = same }

same_then : (r : ℕ) (w v u : List ℕ) → Same r w v → Same r v u → Same r w u
same_then r w v u a b = record {
  sign = b.sign *ℤ a.sign;
  unit = R.nat_abs_*ℤ b.sign a.sign ∙ (λ i. b.unit i * a.unit i);
  times = λ m n. b.times m n ∙ ap (λ (z : ℤ). b.sign *ℤ z) (a.times m n) ∙ sym (R.*ℤ_assoc b.sign a.sign (adds r m n w));
  order = further a.order b.order;
}

module _ (r : ℕ) (rule : T (is_rule r)) where
  exchange-turns : {i : ℕ} {w v : List ℕ} → Exchange i w v → length w ≡ rule_letters r → (suc i ≡ block_size r → ⊥) → Times r (negsuc 0) w v
  exchange-turns {i} {w} {v} e long inside =
      turned r rule (negsuc 0) (exchange i)
      (other (eqb (suc i) (block_size r)) (turns r (negsuc 0) (exchange i)) (eqb→eq (suc i) (block_size r))
      (each_T _ (rule_letters r - 1) (neighbours-turn r rule) i (omega (arith, exchange-inside e)))) w v
      (in_blocks r rule v ∙ (λ k. map (relabel (λ j. exchange-at e j k)) (base r)) ∙ in_blocks-twice r rule (λ j. get_or w j 0) (exchange i))
    where
      other : (a b : Bool) → (T a → suc i ≡ block_size r) → T (a || b) → T b
      other true b f t = absurd (inside (f tt))
      other false b f t = t

  same_turned : {i : ℕ} {w v : List ℕ} → Exchange i w v → length w ≡ rule_letters r → (suc i ≡ block_size r → ⊥) → Same r w v
  same_turned e long inside = record { sign = negsuc 0; unit = refl; times = exchange-turns e long inside; order = exchange-reorders e }

  -- the block in another order
  block_same : (x v y : List ℕ) → Reordered x v → length x ≡ block_size r → length (x ++ y) ≡ rule_letters r → Same r (x ++ y) (v ++ y)
  block_same x v y o size long =
      by-exchanges (λ k l. Same r (k ++ y) (l ++ y)) (length x) (λ l. same_self r (l ++ y)) (λ j k l. same_then r (j ++ y) (k ++ y) (l ++ y))
      (λ i k l e c. same_turned (exchange-before c y) (omega (arith, length-append k y, length-append x y, e, long)) (λ q. N.lt_irrefl (suc i) (omega (arith, exchange-inside c, e, size, q)))) o refl

  -- the others in another order
  others_same : (x y v : List ℕ) → Reordered y v → length x ≡ block_size r → length (x ++ y) ≡ rule_letters r → Same r (x ++ y) (x ++ v)
  others_same x y v o size long =
      by-exchanges (λ k l. Same r (x ++ k) (x ++ l)) (length y) (λ l. same_self r (x ++ l)) (λ j k l. same_then r (x ++ j) (x ++ k) (x ++ l))
      (λ i k l e c. same_turned (exchange-behind x c) (omega (arith, length-append x k, length-append x y, e, long)) (λ q. N.lt_irrefl (length x) (omega (arith, size, q)))) o refl

-- three letters
three : (P : List ℕ → Type 0) → ((a b c : ℕ) → P (a ∷ b ∷ c ∷ [])) → (l : List ℕ) → length l ≡ 3 → P l
three P h [] e = absurd (omega arith)
three P h (a ∷ []) e = absurd (omega arith)
three P h (a ∷ b ∷ []) e = absurd (omega arith)
three P h (a ∷ b ∷ c ∷ []) e = h a b c
three P h (a ∷ b ∷ c ∷ d ∷ l) e = absurd (omega arith)

-- the triples of rule 5 exchanged
triples_same : (x y : List ℕ) → length x ≡ 3 → length y ≡ 3 → Same 5 (x ++ y) (y ++ x)
unfolding rule_terms sides bracket rule5 in_rule_order is_rule
triples_same x y hx hy = record {
  sign = pos 1;
  unit = refl;
  times = turned 5 tt (pos 1) triples triples-stay (x ++ y) (y ++ x)
      (three (λ x. rule_terms 5 (y ++ x) ≡ map (relabel (λ i. get_or (x ++ y) i 0)) (map (relabel triples) (base 5)))
      (λ a b c. three (λ y. rule_terms 5 (y ++ a ∷ b ∷ c ∷ []) ≡ map (relabel (λ i. get_or (a ∷ b ∷ c ∷ y) i 0)) (map (relabel triples) (base 5))) (λ d g h. refl) y hy) x hx);
  order = reordered-turned x y;
}

-- ════ letters in ascending blocks

-- the block and the other letters, each ascending, the block with the first letter in rule 5
pub record InBlocks (r : ℕ) (w : List ℕ) : Type 0 where
  pub block : List ℕ
  pub others : List ℕ
  pub size : length block ≡ block_size r
  pub block_ascends : O.Asc nat-laws block
  pub others_ascend : O.Asc nat-laws others
  pub is_first : T (block_is_first r block others)
  pub alike : Same r w (block ++ others)

rule-sizes : (r : ℕ) → T (is_rule r) → block_size r ≤ rule_letters r
unfolding block_size rule_letters
rule-sizes = by-rule (λ (r : ℕ). block_size r ≤ rule_letters r) (omega arith) (omega arith) (omega arith) (omega arith) (omega arith)

-- two ascending blocks, exchanged in rule 5 where the other has the first letter
first_block : (r : ℕ) → T (is_rule r) → (w x y : List ℕ) → length x ≡ block_size r → length (x ++ y) ≡ rule_letters r
    → O.Asc nat-laws x → O.Asc nat-laws y → Same r w (x ++ y) → InBlocks r w
unfolding block_is_first block_size rule_letters
first_block =
    by-rule (λ (r : ℕ). (w x y : List ℕ) → length x ≡ block_size r → length (x ++ y) ≡ rule_letters r → O.Asc nat-laws x → O.Asc nat-laws y → Same r w (x ++ y) → InBlocks r w)
    (λ w x y s l. stay 1 w x y s tt) (λ w x y s l. stay 2 w x y s tt) (λ w x y s l. stay 3 w x y s tt) (λ w x y s l. stay 4 w x y s tt) by_first
  where
    stay : (r : ℕ) (w x y : List ℕ) → length x ≡ block_size r → T (block_is_first r x y) → O.Asc nat-laws x → O.Asc nat-laws y → Same r w (x ++ y) → InBlocks r w
    stay r w x y s f a b q = record { block = x; others = y; size = s; block_ascends = a; others_ascend = b; is_first = f; alike = q }

    by_first : (w x y : List ℕ) → length x ≡ 3 → length (x ++ y) ≡ 6 → O.Asc nat-laws x → O.Asc nat-laws y → Same 5 w (x ++ y) → InBlocks 5 w
    by_first w x y s l a b q = go (O.tri nat-laws (get_or x 0 0) (get_or y 0 0))
      where
        go : ((get_or x 0 0 < get_or y 0 0) ⊎ (get_or x 0 0 ≡ get_or y 0 0)) ⊎ (get_or y 0 0 < get_or x 0 0) → InBlocks 5 w
        go (inl h) = stay 5 w x y s (le→leb (get_or x 0 0) (get_or y 0 0) (le_of h)) a b q
          where
            le_of : (get_or x 0 0 < get_or y 0 0) ⊎ (get_or x 0 0 ≡ get_or y 0 0) → get_or x 0 0 ≤ get_or y 0 0
            le_of (inl h) = omega arith
            le_of (inr h) = omega arith
        go (inr h) =
            let long : length y ≡ 3 = omega (arith, length-append x y) in
            stay 5 w y x long (le→leb (get_or y 0 0) (get_or x 0 0) (omega arith)) b a (same_then 5 w (x ++ y) (y ++ x) q (triples_same x y s long))

-- every list of letters is put so
pub into-blocks : (r : ℕ) → T (is_rule r) → (w : List ℕ) → length w ≡ rule_letters r → InBlocks r w
into-blocks r rule w long =
    let k : List ℕ = take (block_size r) w in
    let l : List ℕ = drop (block_size r) w in
    let x : List ℕ = sorted order k in
    let y : List ℕ = sorted order l in
    let whole : k ++ l ≡ w = take-append-drop (block_size r) w in
    let size : length k ≡ block_size r = length-take-le (block_size r) w (omega (arith, rule-sizes r rule, long)) in
    let size' : length x ≡ block_size r = O.length-sorted order k ∙ size in
    let total : length (k ++ l) ≡ rule_letters r = ap length whole ∙ long in
    let total' : length (x ++ l) ≡ rule_letters r = omega (arith, length-append x l, length-append k l, size, size', total) in
    first_block r rule w x y size' (omega (arith, length-append x y, length-append x l, O.length-sorted order l, total')) (O.asc_sort nat-laws k) (O.asc_sort nat-laws l)
    (subst (λ (v : List ℕ). Same r v (x ++ y)) whole
    (same_then r (k ++ l) (x ++ l) (x ++ y) (block_same r rule k x l (reordered-sorted order k) size total) (others_same r rule x l y (reordered-sorted order l) size' total')))

-- ════ where the rule adds something

-- an exchange that changes nothing and turns the sign adds nothing
turned_zero : (z : ℤ) → z ≡ negsuc 0 *ℤ z → z ≡ pos 0
turned_zero z e = go z (e ∙ R.neg_one_*ℤ z)
  where
    go : (z : ℤ) → z ≡ neg_ℤ z → z ≡ pos 0
    go (pos zero) e = refl
    go (pos (suc n)) e = absurd (I.pos-ne-negsuc (suc n) n e)
    go (negsuc n) e = absurd (I.pos-ne-negsuc (suc n) n (sym e))

-- ascending letters none of whose exchanges leaves them as they are
strict-from : (l : List ℕ) → O.Asc nat-laws l → ((i : ℕ) (v : List ℕ) → Exchange i l v → v ≡ l → ⊥) → Strict l
strict-from [] a h = tt
strict-from (x ∷ []) a h = (tt, tt)
strict-from (x ∷ y ∷ l) a h =
    (less a.0, strict-from (y ∷ l) a.1 (λ i v e q. h (suc i) (x ∷ v) (next e) (ap (λ (k : List ℕ). x ∷ k) q)))
  where
    less : (x < y) ⊎ (x ≡ y) → x < y
    less (inl g) = g
    less (inr q) = absurd (h 0 (y ∷ x ∷ l) first (λ i. sym q i ∷ q i ∷ l))

module _ (r : ℕ) (rule : T (is_rule r)) (m : Term) (n : Monomial) (x y : List ℕ) (size : length x ≡ block_size r) (long : length (x ++ y) ≡ rule_letters r) (alive : NonZero (adds r m n (x ++ y))) where
  exchange-differs : {i : ℕ} {v : List ℕ} → Exchange i (x ++ y) v → (suc i ≡ block_size r → ⊥) → v ≡ x ++ y → ⊥
  exchange-differs e inside q =
      alive (turned_zero (adds r m n (x ++ y)) (ap (adds r m n) (sym q) ∙ exchange-turns r rule e long inside m n))

  -- the block ascends strictly
  pub block-strict : O.Asc nat-laws x → Strict x
  block-strict a =
      strict-from x a (λ i v e q. exchange-differs (exchange-before e y) (λ p. N.lt_irrefl (suc i) (omega (arith, exchange-inside e, size, p))) (ap (λ (k : List ℕ). k ++ y) q))

  -- and so do the others
  pub others-strict : O.Asc nat-laws y → Strict y
  others-strict a =
      strict-from y a (λ i v e q. exchange-differs (exchange-behind x e) (λ p. N.lt_irrefl (length x) (omega (arith, size, p))) (ap (λ (k : List ℕ). x ++ k) q))
