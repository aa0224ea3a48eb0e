-- The pieces of a printed term are read: names, numbers, triples, and a dot or a wedge of two names in parentheses. Assumes nothing.
use Rattle.std.specs.Prelude.{◌≡◌, Bool, not, ◌&&◌, ◌||◌, pos, T, ltb, leb}
use Rattle.std.proofs.Math.Path.{refl, ap}
use Rattle.std.proofs.Common.{sym, ◌∙◌, arith, length-append, length-drop, leb→le, eqb→eq}
use Rattle.std.proofs.Math.Bool.{true, false}
use mathlib.Core.List.{List, [], ◌∷◌, ◌++◌}
use Prim.Native.Nat.{ℕ, zero, suc, ◌+◌, ◌<◌, ◌≤◌}
use Rattle.std.proofs.Math.ListN.{length, get_or, drop}
use Rattle.std.proofs.Math.Dec.{eqb, eqb_refl}
use borrow.Author.Tests.{lt-ltb}
use Rattle.specification.specs.Results.{when◌then◌else◌}
use Rattle.specification.specs.Letters.{kind_of}
use Rattle.specification.specs.Expressions.{Expr, Letter, Constant, Triple, Dot, Wedge}
use Rattle.specification.specs.Printing.{decimal, name_of}
use Rattle.specification.specs.Text.{Placed, placed, ◌>>=◌, Tree, leaf, two, three, plain, Read, is_letter, is_digit, good_names, place_of, skip, next, is_triple, is_factor, is_sign, read_name, read_number, read_triple, closed, read_bracket, read_atom, read_lead, read_second, read_pair, read_wedge, read_dot, more_factors, read_product, more_terms, read_first, read_sum, read_nested}
use Rattle.theory.specs.Tests.{is_true, holds, and_split}
use Rattle.theory.specs.Text.Positions.{first, Sharp, stand-byte, stand_next, skip_none, next_one, next_stands, Reads}
use Rattle.theory.specs.Text.Names.{names_count, name-letter, name-place}
use Rattle.theory.specs.Text.Numbers.{Digits, horner, digits_read, digit-no_letter, decimal_some, decimal-digits, decimal_number}

-- ════ letters are no other bytes

eqb-other : (m n : ℕ) → (m ≡ n → ⊥) → eqb m n ≡ false
eqb-other m n h = go (eqb m n) (eqb→eq m n)
  where
    go : (b : Bool) → (T b → m ≡ n) → b ≡ false
    go true f = absurd (h (f tt))
    go false f = refl

or_cases : (P : Type 0) (a b : Bool) → T (a || b) → (T a → P) → (T b → P) → P
or_cases P true b t f g = f tt
or_cases P false b t f g = g t

-- a letter is at least `A`
pub letter-from : (x : ℕ) → is_letter x ≡ true → 65 ≤ x
unfolding is_letter
letter-from x e =
    or_cases (65 ≤ x) (leb 65 x && leb x 90) (leb 97 x && leb x 122) (holds (is_letter x) e)
    (λ t. leb→le 65 x (and_split (leb 65 x) (leb x 90) t).0)
    (λ t. let h = leb→le 97 x (and_split (leb 97 x) (leb x 122) t).0 in omega arith)

-- a letter is no byte below
pub letter-other : (x n : ℕ) → is_letter x ≡ true → n < 65 → eqb x n ≡ false
letter-other x n e h = let k = letter-from x e in eqb-other x n (λ q. omega arith)

-- nor is a digit one below
pub digit-other : (x n : ℕ) → T (is_digit x) → n < 48 → eqb x n ≡ false
unfolding is_digit
digit-other x n t h = let k = leb→le 48 x (and_split (leb 48 x) (leb x 57) t).0 in eqb-other x n (λ q. omega arith)

-- a letter is no `^`
pub letter-no_wedge : (x : ℕ) → is_letter x ≡ true → eqb x 94 ≡ false
unfolding is_letter
letter-no_wedge x e =
    eqb-other x 94 (λ q. or_cases ⊥ (leb 65 x && leb x 90) (leb 97 x && leb x 122) (holds (is_letter x) e)
    (λ t. let h = leb→le x 90 (and_split (leb 65 x) (leb x 90) t).1 in omega arith)
    (λ t. let h = leb→le 97 x (and_split (leb 97 x) (leb x 122) t).0 in omega arith))

-- nor a digit
pub letter-no_digit : (x : ℕ) → is_letter x ≡ true → is_digit x ≡ false
unfolding is_digit
letter-no_digit x e = go (is_digit x) (λ t. leb→le x 57 (and_split (leb 48 x) (leb x 57) t).1)
  where
    go : (b : Bool) → (T b → x ≤ 57) → b ≡ false
    go true f = absurd (omega (arith, f tt, letter-from x e))
    go false f = refl

-- what may stand behind a factor: no blank, no digit, no `^` and no `.`
pub record Ends (l : List ℕ) : Type 0 where
  pub sharp : Sharp l
  pub no_digit : is_digit (first l) ≡ false
  pub no_wedge : eqb (first l) 94 ≡ false
  pub no_dot : eqb (first l) 46 ≡ false

-- a letter may
pub letter-ends : (x : ℕ) (l : List ℕ) → is_letter x ≡ true → Ends (x ∷ l)
letter-ends x l e = record {
  sharp = letter-other x 32 e (omega arith);
  no_digit = letter-no_digit x e;
  no_wedge = letter-no_wedge x e;
  no_dot = letter-other x 46 e (omega arith);
}

module _ (names table s : List ℕ) where
  -- a text that stands somewhere is not longer
  pub text_short : (a : ℕ) (xs l : List ℕ) → drop a s ≡ xs ++ l → length xs ≤ length s
  text_short a xs l e = omega (arith, length-drop a s, simp length-append at (ap length e))

  -- ════ one operand or two

  module _ (mark : ℕ) (op : Expr → Expr → Expr) (left right : ℕ → Read) where
    -- no mark behind it
    pub pair_one : (a : ℕ) (e : Expr) (l : List ℕ) → Reads s (left a) e l → eqb (first l) mark ≡ false → Reads s (read_pair s mark op left right a) e l
    unfolding read_pair read_second
    pair_one a e l r h =
        let b : eqb (get_or s r.behind 0) mark ≡ false = ap (λ (x : ℕ). eqb x mark) (stand-byte s r.behind l r.rest) ∙ h in
        record { tree = r.tree; behind = r.behind; is = rw (r.is, b) refl; plain_is = r.plain_is; rest = r.rest }

    -- a mark, and a second operand
    pub pair_two : (a : ℕ) (e f : Expr) (k l : List ℕ) → Reads s (left a) e (mark ∷ k) → Sharp k
        → ((b : ℕ) → drop b s ≡ k → Reads s (right b) f l) → Reads s (read_pair s mark op left right a) (op e f) l
    unfolding read_pair read_second plain
    pair_two a e f k l r h g =
        let b : eqb (get_or s r.behind 0) mark ≡ true = ap (λ (x : ℕ). eqb x mark) (stand-byte s r.behind (mark ∷ k) r.rest) ∙ is_true (eqb mark mark) (eqb_refl mark) in
        let q = g (next s r.behind) (next_stands s r.behind mark k r.rest h) in
        record {
          tree = two r.behind op r.tree q.tree;
          behind = q.behind;
          is = rw (r.is, b, q.is) refl;
          plain_is = λ i. op (r.plain_is i) (q.plain_is i);
          rest = q.rest;
        }

  -- ════ where a product and a sum end

  pub factors-stop : (most : ℕ) (bracket : ℕ → Read) (x : Tree) (a : ℕ) (l : List ℕ) → drop a s ≡ l → is_factor (first l) ≡ false
      → more_factors names table s most bracket x a ≡ placed (x, a)
  unfolding more_factors
  factors-stop zero bracket x a l e h = refl
  factors-stop (suc most) bracket x a l e h = rw (ap is_factor (stand-byte s a l e) ∙ h)

  pub terms-stop : (most : ℕ) (bracket : ℕ → Read) (x : Tree) (a : ℕ) (l : List ℕ) → drop a s ≡ l → is_sign (first l) ≡ false
      → more_terms names table s most bracket x a ≡ placed (x, a)
  unfolding more_terms
  terms-stop zero bracket x a l e h = refl
  terms-stop (suc most) bracket x a l e h = rw (ap is_sign (stand-byte s a l e) ∙ h)

  module _ (bracket : ℕ → Read) where
    -- one factor is a product
    pub product-alone : (a : ℕ) (e : Expr) (l : List ℕ) → Reads s (read_dot names table s bracket a) e l → is_factor (first l) ≡ false
        → Reads s (read_product names table s bracket a) e l
    unfolding read_product
    product-alone a e l r h =
        record { tree = r.tree; behind = r.behind; is = rw r.is (factors-stop (length s) bracket r.tree r.behind l r.rest h); plain_is = r.plain_is; rest = r.rest }

    -- one product is a sum
    pub sum-alone : (a : ℕ) (e : Expr) (l : List ℕ) → Reads s (read_product names table s bracket a) e l → eqb (get_or s a 0) 45 ≡ false → eqb (get_or s a 0) 43 ≡ false → is_sign (first l) ≡ false
        → Reads s (read_sum names table s bracket a) e l
    unfolding read_sum read_first
    sum-alone a e l r h k g =
        record { tree = r.tree; behind = r.behind; is = rw (h, k, r.is) (terms-stop (length s) bracket r.tree r.behind l r.rest g); plain_is = r.plain_is; rest = r.rest }

    -- a number may lead a product
    pub number-lead : (a n : ℕ) (l : List ℕ) → n < 10000000000 → drop a s ≡ decimal n ++ l → is_digit (first l) ≡ false → Sharp l
        → Reads s (read_lead names table s bracket a) (Constant (pos n)) l
    unfolding read_lead read_number plain
    number-lead a n l h e no_digit sharp =
        let d = decimal_some n in
        let b : get_or s a 0 ≡ d.head = stand-byte s a (decimal n ++ l) e ∙ ap (λ (k : List ℕ). first (k ++ l)) d.is in
        let w = digits_read s (decimal n) l (length s) 0 a (decimal-digits n) no_digit (text_short a (decimal n) l e) e in
        record {
          tree = leaf a (Constant (pos n));
          behind = w.0;
          is = rw (b, is_true (is_digit d.head) d.digit, w.1, decimal_number n h, skip_none s w.0 l w.2 sharp) refl;
          plain_is = refl;
          rest = w.2;
        }

    -- and so may an atom, which begins with no digit
    pub atom-lead : (a : ℕ) (e : Expr) (k l : List ℕ) → drop a s ≡ k → is_digit (first k) ≡ false → Reads s (read_atom names table s bracket a) e l
        → Reads s (read_lead names table s bracket a) e l
    unfolding read_lead
    atom-lead a e k l h no_digit r =
        let b : is_digit (get_or s a 0) ≡ false = ap is_digit (stand-byte s a k h) ∙ no_digit in
        record { tree = r.tree; behind = r.behind; is = rw b r.is; plain_is = r.plain_is; rest = r.rest }

  module _ (good : T (good_names names table)) where
    -- a name is read
    pub name_read : (a n : ℕ) (l : List ℕ) → n < length names → drop a s ≡ name_of names n ∷ l
        → read_name names table s a ≡ placed (leaf a (Letter n (kind_of table n)), next s a)
    unfolding read_name
    name_read a n l h e =
        let b : get_or s a 0 ≡ name_of names n = stand-byte s a (name_of names n ∷ l) e in
        rw (b, name-place names table good n h, lt-ltb n (length names) h)

    -- it is an atom
    pub letter-atom : (bracket : ℕ → Read) (a n : ℕ) (l : List ℕ) → n < length names → drop a s ≡ name_of names n ∷ l → Sharp l
        → Reads s (read_atom names table s bracket a) (Letter n (kind_of table n)) l
    unfolding read_atom plain
    letter-atom bracket a n l h e sharp =
        let b : is_letter (get_or s a 0) ≡ true = ap is_letter (stand-byte s a (name_of names n ∷ l) e) ∙ name-letter names table good n h in
        record {
          tree = leaf a (Letter n (kind_of table n));
          behind = next s a;
          is = rw b (name_read a n l h e);
          plain_is = refl;
          rest = next_stands s a (name_of names n) l e sharp;
        }

    -- it may lead a product
    pub letter-lead : (bracket : ℕ → Read) (a n : ℕ) (l : List ℕ) → n < length names → drop a s ≡ name_of names n ∷ l → Sharp l
        → Reads s (read_lead names table s bracket a) (Letter n (kind_of table n)) l
    letter-lead bracket a n l h e sharp =
        atom-lead bracket a (Letter n (kind_of table n)) (name_of names n ∷ l) l e (letter-no_digit (name_of names n) (name-letter names table good n h))
        (letter-atom bracket a n l h e sharp)

    -- a triple in parentheses
    pub triple-nested : (depth a p q r : ℕ) (l : List ℕ) → p < length names → q < length names → r < length names
        → drop a s ≡ 40 ∷ name_of names p ∷ name_of names q ∷ name_of names r ∷ 41 ∷ l → Sharp l
        → Reads s (read_nested names table s (suc depth) a) (Triple (Letter p (kind_of table p)) (Letter q (kind_of table q)) (Letter r (kind_of table r))) l
    unfolding read_nested read_bracket is_triple read_triple plain
    triple-nested depth a p q r l hp hq hr e sharp =
        let letter : (n : ℕ) → n < length names → is_letter (name_of names n) ≡ true = name-letter names table good in
        let apart : (n : ℕ) (k : List ℕ) → n < length names → Sharp (name_of names n ∷ k) = λ n k h. letter-other (name_of names n) 32 (letter n h) (omega arith) in
        let e₁ = next_stands s a 40 (name_of names p ∷ name_of names q ∷ name_of names r ∷ 41 ∷ l) e (apart p (name_of names q ∷ name_of names r ∷ 41 ∷ l) hp) in
        let e₂ = next_stands s (next s a) (name_of names p) (name_of names q ∷ name_of names r ∷ 41 ∷ l) e₁ (apart q (name_of names r ∷ 41 ∷ l) hq) in
        let e₃ = next_stands s (next s (next s a)) (name_of names q) (name_of names r ∷ 41 ∷ l) e₂ (apart r (41 ∷ l) hr) in
        let e₄ = next_stands s (next s (next s (next s a))) (name_of names r) (41 ∷ l) e₃ refl in
        record {
          tree = three a (leaf (next s a) (Letter p (kind_of table p))) (leaf (next s (next s a)) (Letter q (kind_of table q))) (leaf (next s (next s (next s a))) (Letter r (kind_of table r)));
          behind = next s (next s (next s (next s (next s a))));
          is = rw (
            stand-byte s (next s a) (name_of names p ∷ name_of names q ∷ name_of names r ∷ 41 ∷ l) e₁,
            letter p hp,
            stand-byte s (next s (next s a)) (name_of names q ∷ name_of names r ∷ 41 ∷ l) e₂,
            letter q hq,
            stand-byte s (next s (next s (next s a))) (name_of names r ∷ 41 ∷ l) e₃,
            letter r hr,
            stand-byte s (next s (next s (next s (next s a)))) (41 ∷ l) e₄,
            name_read (next s a) p (name_of names q ∷ name_of names r ∷ 41 ∷ l) hp e₁,
            name_read (next s (next s a)) q (name_of names r ∷ 41 ∷ l) hq e₂,
            name_read (next s (next s (next s a))) r (41 ∷ l) hr e₃,
          ) refl;
          plain_is = refl;
          rest = next_stands s (next s (next s (next s (next s a)))) 41 l e₄ sharp;
        }

    -- a sum in parentheses that is no triple
    pub group-nested : (depth a : ℕ) (e : Expr) (k l : List ℕ) → drop a s ≡ 40 ∷ k → Sharp k → is_triple s (next s a) ≡ false
        → Reads s (read_sum names table s (read_nested names table s depth) (next s a)) e (41 ∷ l) → Sharp l → Reads s (read_nested names table s (suc depth) a) e l
    unfolding read_nested read_bracket closed
    group-nested depth a e k l h hk other r sharp = record {
      tree = r.tree;
      behind = next s r.behind;
      is = rw (other, r.is, stand-byte s r.behind (41 ∷ l) r.rest) refl;
      plain_is = r.plain_is;
      rest = next_stands s r.behind 41 l r.rest sharp;
    }

    -- a name and a byte that is no letter begin no triple
    no-triple : (a p mark : ℕ) (k : List ℕ) → p < length names → is_letter mark ≡ false → Sharp (mark ∷ k) → drop a s ≡ name_of names p ∷ mark ∷ k → is_triple s a ≡ false
    unfolding is_triple
    no-triple a p mark k h other sharp e =
        rw (
          stand-byte s a (name_of names p ∷ mark ∷ k) e,
          name-letter names table good p h,
          stand-byte s (next s a) (mark ∷ k) (next_stands s a (name_of names p) (mark ∷ k) e sharp),
          other,
        ) refl

    module _ (depth : ℕ) where
      -- two names with a mark between them, in parentheses
      pair-nested : (a p q mark : ℕ) (e : Expr) (l : List ℕ) → p < length names → q < length names → is_letter mark ≡ false → eqb mark 32 ≡ false
          → drop a s ≡ 40 ∷ name_of names p ∷ mark ∷ name_of names q ∷ 41 ∷ l → Sharp l
          → ((b : ℕ) → drop b s ≡ name_of names p ∷ mark ∷ name_of names q ∷ 41 ∷ l → Reads s (read_dot names table s (read_nested names table s depth) b) e (41 ∷ l))
          → Reads s (read_nested names table s (suc depth) a) e l
      unfolding is_factor is_sign is_letter is_digit
      pair-nested a p q mark e l hp hq other sharp_mark h sharp f =
          let k = name_of names p ∷ mark ∷ name_of names q ∷ 41 ∷ l in
          let c : is_letter (name_of names p) ≡ true = name-letter names table good p hp in
          let sharp_k : Sharp k = letter-other (name_of names p) 32 c (omega arith) in
          let h₁ : drop (next s a) s ≡ k = next_stands s a 40 k h sharp_k in
          let b : get_or s (next s a) 0 ≡ name_of names p = stand-byte s (next s a) k h₁ in
          group-nested depth a e k l h sharp_k (no-triple (next s a) p mark (name_of names q ∷ 41 ∷ l) hp other sharp_mark h₁)
          (sum-alone (read_nested names table s depth) (next s a) e (41 ∷ l)
          (product-alone (read_nested names table s depth) (next s a) e (41 ∷ l) (f (next s a) h₁) refl)
          (ap (λ (x : ℕ). eqb x 45) b ∙ letter-other (name_of names p) 45 c (omega arith))
          (ap (λ (x : ℕ). eqb x 43) b ∙ letter-other (name_of names p) 43 c (omega arith))
          refl)
          sharp

      -- a dot in parentheses
      pub dot-nested : (a p q : ℕ) (l : List ℕ) → p < length names → q < length names → drop a s ≡ 40 ∷ name_of names p ∷ 46 ∷ name_of names q ∷ 41 ∷ l → Sharp l
          → Reads s (read_nested names table s (suc depth) a) (Dot (Letter p (kind_of table p)) (Letter q (kind_of table q))) l
      unfolding read_dot read_wedge is_letter
      dot-nested a p q l hp hq h sharp =
          let bracket = read_nested names table s depth in
          let atom = read_atom names table s bracket in
          let lead = read_lead names table s bracket in
          pair-nested a p q 46 (Dot (Letter p (kind_of table p)) (Letter q (kind_of table q))) l hp hq refl refl h sharp (λ b e.
          pair_two 46 Dot (read_wedge names table s bracket lead) (read_wedge names table s bracket atom) b (Letter p (kind_of table p)) (Letter q (kind_of table q))
          (name_of names q ∷ 41 ∷ l) (41 ∷ l)
          (pair_one 94 Wedge lead atom b (Letter p (kind_of table p)) (46 ∷ name_of names q ∷ 41 ∷ l) (letter-lead bracket b p (46 ∷ name_of names q ∷ 41 ∷ l) hp e refl) refl)
          (letter-other (name_of names q) 32 (name-letter names table good q hq) (omega arith))
          (λ c g. pair_one 94 Wedge atom atom c (Letter q (kind_of table q)) (41 ∷ l) (letter-atom bracket c q (41 ∷ l) hq g refl) refl))

      -- a wedge in parentheses
      pub wedge-nested : (a p q : ℕ) (l : List ℕ) → p < length names → q < length names → drop a s ≡ 40 ∷ name_of names p ∷ 94 ∷ name_of names q ∷ 41 ∷ l → Sharp l
          → Reads s (read_nested names table s (suc depth) a) (Wedge (Letter p (kind_of table p)) (Letter q (kind_of table q))) l
      unfolding read_dot read_wedge is_letter
      wedge-nested a p q l hp hq h sharp =
          let bracket = read_nested names table s depth in
          let atom = read_atom names table s bracket in
          let lead = read_lead names table s bracket in
          pair-nested a p q 94 (Wedge (Letter p (kind_of table p)) (Letter q (kind_of table q))) l hp hq refl refl h sharp (λ b e.
          pair_one 46 Dot (read_wedge names table s bracket lead) (read_wedge names table s bracket atom) b (Wedge (Letter p (kind_of table p)) (Letter q (kind_of table q)))
          (41 ∷ l)
          (pair_two 94 Wedge lead atom b (Letter p (kind_of table p)) (Letter q (kind_of table q)) (name_of names q ∷ 41 ∷ l) (41 ∷ l)
          (letter-lead bracket b p (94 ∷ name_of names q ∷ 41 ∷ l) hp e refl)
          (letter-other (name_of names q) 32 (name-letter names table good q hq) (omega arith))
          (λ c g. letter-atom bracket c q (41 ∷ l) hq g refl))
          refl)
