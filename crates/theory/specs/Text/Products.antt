-- A printed term is read: the text of its coefficient, factors and vector part gives the tree of their product, left to right. Assumes nothing.
use Rattle.std.specs.Prelude.{◌≡◌, Bool, true, false, ◌&&◌, ◌||◌, ℤ, pos, length, T}
use Rattle.std.proofs.Math.Path.{refl, ap, subst}
use Rattle.std.proofs.Common.{sym, ◌∙◌, arith}
use Rattle.std.proofs.Math.Bool.{not}
use mathlib.Core.List.{List, [], ◌∷◌, ◌++◌, map, append_assoc}
use Prim.Native.Nat.{ℕ, zero, suc, ◌+◌, ◌<◌, ◌≤◌}
use Rattle.std.proofs.Math.IntN.{nat_abs}
use Rattle.std.proofs.Math.ListN.{get_or, drop, length-append}
use Rattle.std.proofs.Math.Dec.{eqb}
use Rattle.specification.specs.Results.{when◌then◌else◌}
use Rattle.specification.specs.Lists.{joined}
use Rattle.specification.specs.Letters.{kind_of}
use Rattle.specification.specs.Terms.{Term}
use Rattle.specification.specs.Expressions.{Expr, Letter, Constant, Times, Dot, Wedge, Triple}
use Rattle.specification.specs.Printing.{decimal, is_nothing, print_size, print_star, name_of, print_factor, print_part, print_term}
use Rattle.specification.specs.Text.{Placed, placed, ◌>>=◌, Tree, two, plain, Read, is_letter, is_digit, good_names, next, is_factor, read_atom, read_lead, read_wedge, read_dot, factor_at, more_factors, read_product, read_nested}
use Rattle.theory.specs.Tests.{and_split}
use Rattle.theory.specs.Elements.{All}
use Rattle.theory.specs.Text.Positions.{first, Sharp, stand-byte, next_stands, Reads}
use Rattle.theory.specs.Text.Names.{name-letter}
use Rattle.theory.specs.Text.Numbers.{decimal_some}
use Rattle.theory.specs.Text.Pieces.{letter-other, digit-other, letter-ends, Ends, text_short, pair_one, factors-stop, number-lead, atom-lead, letter-lead, triple-nested, dot-nested, wedge-nested}

-- ════ the trees

module _ (table : List ℕ) where
  -- a letter with its kind
  abbrev pub letter_expr : ℕ → Expr
  letter_expr n = Letter n (kind_of table n)

  -- the tree of a factor
  unfoldable pub factor_expr : List ℕ → Expr
  factor_expr [] = Constant (pos 0)
  factor_expr (a ∷ []) = letter_expr a
  factor_expr (a ∷ b ∷ []) = Dot (letter_expr a) (letter_expr b)
  factor_expr (a ∷ b ∷ c ∷ f) = Triple (letter_expr a) (letter_expr b) (letter_expr c)

  -- the tree of a vector part
  unfoldable pub part_expr : List ℕ → Expr
  part_expr [] = Constant (pos 0)
  part_expr (a ∷ []) = letter_expr a
  part_expr (a ∷ b ∷ p) = Wedge (letter_expr a) (letter_expr b)

  -- a tree times the vector part, if there is one
  unfoldable pub with_part : Expr → List ℕ → Expr
  with_part e [] = e
  with_part e (a ∷ p) = Times e (part_expr (a ∷ p))

  -- a tree times factors, then times the vector part
  unfoldable pub chain : Expr → List (List ℕ) → List ℕ → Expr
  chain e [] p = with_part e p
  chain e (f ∷ fs) p = chain (Times e (factor_expr f)) fs p

  -- factors and vector part alone
  unfoldable pub unsized : List (List ℕ) → List ℕ → Expr
  unsized [] p = part_expr p
  unsized (f ∷ fs) p = chain (factor_expr f) fs p

-- ════ the texts

module _ (names : List ℕ) where
  -- the factors
  unfoldable pub factors_text : List (List ℕ) → List ℕ
  factors_text fs = joined (map (print_factor names) fs)

  -- a vector part behind something
  unfoldable pub part_text : List ℕ → List ℕ
  part_text [] = []
  part_text (a ∷ p) = 42 ∷ print_part names (a ∷ p)

  -- what stands behind the first item of a product
  unfoldable pub tail_text : List (List ℕ) → List ℕ → List ℕ
  tail_text fs p = factors_text fs ++ part_text p

  -- a coefficient that is not written
  unfoldable pub left_out : (k : ℤ) (fs : List (List ℕ)) (p : List ℕ) → Bool
  left_out k fs p = eqb (nat_abs k) 1 && not (is_nothing (factors_text fs ++ print_part names p))

  -- letters that have names
  abbrev pub Named : List ℕ → Type 0
  Named f = All (λ (n : ℕ). n < length names) f

  -- factors that are there and whose letters have names
  abbrev pub NamedFactor : List ℕ → Type 0
  NamedFactor f = (1 ≤ length f) × Named f

  -- every letter of a term has a name
  pub record NamedTerm (t : Term) : Type 0 where
    pub factors : All NamedFactor t.factors
    pub part : Named t.part

-- the tree of a printed term, without its sign
unfoldable pub term_expr : (names table : List ℕ) (t : Term) → Expr
term_expr names table t =
    when left_out names t.coef t.factors t.part then unsized table t.factors t.part else chain table (Constant (pos (nat_abs t.coef))) t.factors t.part

star-part : (names before p : List ℕ) → is_nothing before ≡ false
    → print_star before (print_part names p) ++ print_part names p ≡ part_text names p
unfolding print_star print_part part_text is_nothing
star-part names before [] h = rw h
star-part names before (a ∷ []) h = rw h
star-part names before (a ∷ b ∷ p) h = rw h

-- what may stand behind a product
pub record EndsProduct (l : List ℕ) : Type 0 where
  pub ends : Ends l
  pub no_factor : is_factor (first l) ≡ false

-- how a term begins: with no blank and no sign
pub record Unsigned (xs : List ℕ) : Type 0 where
  pub head : ℕ
  pub tail : List ℕ
  pub is : xs ≡ head ∷ tail
  pub no_blank : eqb head 32 ≡ false
  pub no_minus : eqb head 45 ≡ false
  pub no_plus : eqb head 43 ≡ false

-- how a factor begins
record Begins (xs : List ℕ) : Type 0 where
  head : ℕ
  tail : List ℕ
  is : xs ≡ head ∷ tail
  ends : (l : List ℕ) → Ends (head ∷ l)
  factor : is_factor head ≡ true
  no_star : eqb head 42 ≡ false
  no_minus : eqb head 45 ≡ false
  no_plus : eqb head 43 ≡ false

begins-letter : (x : ℕ) (k : List ℕ) → is_letter x ≡ true → Begins (x ∷ k)
unfolding is_factor
begins-letter x k h = record {
  head = x;
  tail = k;
  is = refl;
  ends = λ l. letter-ends x l h;
  factor = rw (letter-other x 42 h (omega arith), h);
  no_star = letter-other x 42 h (omega arith);
  no_minus = letter-other x 45 h (omega arith);
  no_plus = letter-other x 43 h (omega arith);
}

begins-bracket : (k : List ℕ) → Begins (40 ∷ k)
unfolding is_factor is_letter is_digit
begins-bracket k = record { head = 40; tail = k; is = refl; ends = λ l. record { sharp = refl; no_digit = refl; no_wedge = refl; no_dot = refl }; factor = refl; no_star = refl; no_minus = refl; no_plus = refl }

module _ (names table s : List ℕ) (good : T (good_names names table)) (depth : ℕ) where
  -- parentheses with some depth left
  abbrev bracket : ℕ → Read
  bracket = read_nested names table s (suc depth)

  factor-begins : (f : List ℕ) → NamedFactor names f → Begins (print_factor names f)
  unfolding print_factor
  factor-begins [] h = absurd (omega (arith, h.0))
  factor-begins (a ∷ []) h = begins-letter (name_of names a) [] (name-letter names table good a h.1.0)
  factor-begins (a ∷ b ∷ []) h = begins-bracket (name_of names a ∷ 46 ∷ name_of names b ∷ 41 ∷ [])
  factor-begins (a ∷ b ∷ c ∷ f) h = begins-bracket (name_of names a ∷ name_of names b ∷ name_of names c ∷ 41 ∷ [])

  -- what stands behind a factor of a product may stand there
  ends_tail : (fs : List (List ℕ)) (p l : List ℕ) → All (NamedFactor names) fs → Ends l → Ends (tail_text names fs p ++ l)
  unfolding tail_text factors_text part_text joined is_digit
  ends_tail [] [] l h e = e
  ends_tail [] (a ∷ p) l h e = record { sharp = refl; no_digit = refl; no_wedge = refl; no_dot = refl }
  ends_tail (f ∷ fs) p l h e =
      let b = factor-begins f h.0 in
      subst Ends (ap (λ (k : List ℕ). ((k ++ joined (map (print_factor names) fs)) ++ part_text names p) ++ l) (sym b.is)) (b.ends (((b.tail ++ joined (map (print_factor names) fs)) ++ part_text names p) ++ l))

  -- what is read in parentheses may lead a product
  lead-bracket : (a : ℕ) (e : Expr) (k l : List ℕ) → drop a s ≡ 40 ∷ k → Reads s (bracket a) e l → Reads s (read_lead names table s bracket a) e l
  unfolding read_atom is_letter is_digit
  lead-bracket a e k l h r =
      atom-lead names table s bracket a e (40 ∷ k) l h refl
      (record { tree = r.tree; behind = r.behind; is = rw (stand-byte s a (40 ∷ k) h) r.is; plain_is = r.plain_is; rest = r.rest })

  -- with no mark behind it
  lead-dot : (a : ℕ) (e : Expr) (l : List ℕ) → Ends l → Reads s (read_lead names table s bracket a) e l → Reads s (read_dot names table s bracket a) e l
  unfolding read_dot read_wedge
  lead-dot a e l h r =
      let atom = read_atom names table s bracket in
      let lead = read_lead names table s bracket in
      pair_one names table s 46 Dot (read_wedge names table s bracket lead) (read_wedge names table s bracket atom) a e l
      (pair_one names table s 94 Wedge lead atom a e l r h.no_wedge) h.no_dot

  -- a factor
  factor_read : (a : ℕ) (f l : List ℕ) → NamedFactor names f → drop a s ≡ print_factor names f ++ l → Ends l → Reads s (read_dot names table s bracket a) (factor_expr table f) l
  unfolding print_factor factor_expr
  factor_read a [] l h e g = absurd (omega (arith, h.0))
  factor_read a (p ∷ []) l h e g = lead-dot a (letter_expr table p) l g (letter-lead names table s good bracket a p l h.1.0 e g.sharp)
  factor_read a (p ∷ q ∷ []) l h e g =
      lead-dot a (Dot (letter_expr table p) (letter_expr table q)) l g
      (lead-bracket a (Dot (letter_expr table p) (letter_expr table q)) (name_of names p ∷ 46 ∷ name_of names q ∷ 41 ∷ l) l e
      (dot-nested names table s good depth a p q l h.1.0 h.1.1.0 e g.sharp))
  factor_read a (p ∷ q ∷ r ∷ f) l h e g =
      lead-dot a (Triple (letter_expr table p) (letter_expr table q) (letter_expr table r)) l g
      (lead-bracket a (Triple (letter_expr table p) (letter_expr table q) (letter_expr table r)) (name_of names p ∷ name_of names q ∷ name_of names r ∷ 41 ∷ l) l e
      (triple-nested names table s good depth a p q r l h.1.0 h.1.1.0 h.1.1.1.0 e g.sharp))

  -- a vector part
  part_read : (a p : ℕ) (ps l : List ℕ) → Named names (p ∷ ps) → drop a s ≡ print_part names (p ∷ ps) ++ l → Ends l → Reads s (read_dot names table s bracket a) (part_expr table (p ∷ ps)) l
  unfolding print_part part_expr
  part_read a p [] l h e g = lead-dot a (letter_expr table p) l g (letter-lead names table s good bracket a p l h.0 e g.sharp)
  part_read a p (q ∷ ps) l h e g =
      lead-dot a (Wedge (letter_expr table p) (letter_expr table q)) l g
      (lead-bracket a (Wedge (letter_expr table p) (letter_expr table q)) (name_of names p ∷ 94 ∷ name_of names q ∷ 41 ∷ l) l e
      (wedge-nested names table s good depth a p q l h.0 h.1.0 e g.sharp))

  star-factor : is_factor 42 ≡ true
  unfolding is_factor
  star-factor = refl

  -- a factor behind a star
  star-there : (a : ℕ) → get_or s a 0 ≡ 42 → factor_at s a ≡ next s a
  unfolding factor_at
  star-there a e = rw e

  -- a factor side by side
  no_star-here : (a : ℕ) → eqb (get_or s a 0) 42 ≡ false → factor_at s a ≡ a
  unfolding factor_at
  no_star-here a e = rw e

  -- one factor more
  factors_more : (most a b : ℕ) (x : Tree) (e : Expr) (l : List ℕ) → is_factor (get_or s a 0) ≡ true → factor_at s a ≡ b → (r : Reads s (read_dot names table s bracket b) e l)
      → more_factors names table s (suc most) bracket x a ≡ more_factors names table s most bracket (two a Times x r.tree) r.behind
  unfolding more_factors
  factors_more most a b x e l h g r = rw (h, g, r.is) refl

  step_read : (most a b : ℕ) (x : Tree) (e : Expr) (k l : List ℕ) (fs : List (List ℕ)) (p : List ℕ) → is_factor (get_or s a 0) ≡ true → factor_at s a ≡ b
      → (r : Reads s (read_dot names table s bracket b) e k) → Reads s (more_factors names table s most bracket (two a Times x r.tree) r.behind) (chain table (Times (plain x) (plain r.tree)) fs p) l
      → Reads s (more_factors names table s (suc most) bracket x a) (chain table (Times (plain x) e) fs p) l
  step_read most a b x e k l fs p h g r q = record {
    tree = q.tree;
    behind = q.behind;
    is = factors_more most a b x e k h g r ∙ q.is;
    plain_is = q.plain_is ∙ ap (λ (y : Expr). chain table (Times (plain x) y) fs p) r.plain_is;
    rest = q.rest;
  }

  part-begins : (p : ℕ) (ps : List ℕ) → Named names (p ∷ ps) → Begins (print_part names (p ∷ ps))
  unfolding print_part
  part-begins p [] h = begins-letter (name_of names p) [] (name-letter names table good p h.0)
  part-begins p (q ∷ ps) h = begins-bracket (name_of names p ∷ 94 ∷ name_of names q ∷ 41 ∷ [])

  part-sharp : (p : ℕ) (ps l : List ℕ) → Named names (p ∷ ps) → Sharp (print_part names (p ∷ ps) ++ l)
  part-sharp p ps l h = let b = part-begins p ps h in rw b.is (b.ends l).sharp

  some_length : (xs : List ℕ) → Begins xs → 1 ≤ length xs
  some_length xs b = rw b.is (omega arith)

  -- further factors and the vector part
  tail-read : (fs : List (List ℕ)) (p : List ℕ) (most a : ℕ) (x : Tree) (l : List ℕ) → All (NamedFactor names) fs → Named names p → length (tail_text names fs p) ≤ most
      → drop a s ≡ tail_text names fs p ++ l → EndsProduct l → Reads s (more_factors names table s most bracket x a) (chain table (plain x) fs p) l
  unfolding tail_text factors_text part_text joined chain with_part plain
  tail-read [] [] most a x l h k m e g =
      record { tree = x; behind = a; is = factors-stop names table s most bracket x a l e g.no_factor; plain_is = refl; rest = e }
  tail-read [] (p ∷ ps) zero a x l h k m e g = absurd (omega (arith, m))
  tail-read [] (p ∷ ps) (suc most) a x l h k m e g =
      let text = print_part names (p ∷ ps) ++ l in
      let byte : get_or s a 0 ≡ 42 = stand-byte s a (42 ∷ text) e in
      let r = part_read (next s a) p ps l k (next_stands s a 42 text e (part-sharp p ps l k)) g.ends in
      record {
        tree = two a Times x r.tree;
        behind = r.behind;
        is = factors_more most a (next s a) x (part_expr table (p ∷ ps)) l (ap is_factor byte ∙ star-factor) (star-there a byte) r ∙ factors-stop names table s most bracket (two a Times x r.tree) r.behind l r.rest g.no_factor;
        plain_is = λ i. Times (plain x) (r.plain_is i);
        rest = r.rest;
      }
  tail-read (f ∷ fs) p zero a x l h k m e g = absurd (omega (arith, m, some_length (print_factor names f) (factor-begins f h.0), length-append (print_factor names f ++ factors_text names fs) (part_text names p), length-append (print_factor names f) (factors_text names fs)))
  tail-read (f ∷ fs) p (suc most) a x l h k m e g =
      let pf = print_factor names f in
      let b = factor-begins f h.0 in
      let e₁ : drop a s ≡ pf ++ (tail_text names fs p ++ l) = e ∙ simp append_assoc in
      let byte : get_or s a 0 ≡ b.head = stand-byte s a (pf ++ (tail_text names fs p ++ l)) e₁ ∙ ap (λ (k : List ℕ). first (k ++ (tail_text names fs p ++ l))) b.is in
      let r = factor_read a f (tail_text names fs p ++ l) h.0 e₁ (ends_tail fs p l h.1 g.ends) in
      let q = tail-read fs p most r.behind (two a Times x r.tree) l h.1 k
      (omega (arith, m, some_length pf b, length-append (pf ++ factors_text names fs) (part_text names p), length-append pf (factors_text names fs), length-append (factors_text names fs) (part_text names p)))
      r.rest g in
      step_read most a a x (factor_expr table f) (tail_text names fs p ++ l) l fs p (ap is_factor byte ∙ b.factor) (no_star-here a (ap (λ (x : ℕ). eqb x 42) byte ∙ b.no_star)) r q

  -- ════ a product

  -- its first item, then the others
  product-from : (a : ℕ) (e : Expr) (fs : List (List ℕ)) (p l : List ℕ) → All (NamedFactor names) fs → Named names p → EndsProduct l
      → Reads s (read_dot names table s bracket a) e (tail_text names fs p ++ l) → Reads s (read_product names table s bracket a) (chain table e fs p) l
  unfolding read_product
  product-from a e fs p l h k g r =
      go (tail-read fs p (length s) r.behind r.tree l h k (text_short names table s r.behind (tail_text names fs p) l r.rest) r.rest g)
    where
      go : Reads s (more_factors names table s (length s) bracket r.tree r.behind) (chain table (plain r.tree) fs p) l → Reads s (read_product names table s bracket a) (chain table e fs p) l
      go q = record {
        tree = q.tree;
        behind = q.behind;
        is = rw r.is q.is;
        plain_is = q.plain_is ∙ ap (λ (y : Expr). chain table y fs p) r.plain_is;
        rest = q.rest;
      }

  begins-something : (xs k : List ℕ) → Begins xs → is_nothing (xs ++ k) ≡ false
  unfolding is_nothing
  begins-something xs k b = rw b.is

  number-something : (n : ℕ) (k : List ℕ) → is_nothing (decimal n ++ k) ≡ false
  unfolding is_nothing
  number-something n k = rw (decimal_some n).is

  star-joined : (before p : List ℕ) → is_nothing before ≡ false → before ++ print_star before (print_part names p) ++ print_part names p ≡ before ++ part_text names p
  star-joined before p h = append_assoc before (print_star before (print_part names p)) (print_part names p) ∙ ap (λ (q : List ℕ). before ++ q) (star-part names before p h)

  -- with its coefficient
  pub sized_read : (a n : ℕ) (fs : List (List ℕ)) (p l : List ℕ) → n < 10000000000 → All (NamedFactor names) fs → Named names p → EndsProduct l
      → drop a s ≡ (decimal n ++ factors_text names fs ++ print_star (decimal n ++ factors_text names fs) (print_part names p) ++ print_part names p) ++ l
      → Reads s (read_product names table s bracket a) (chain table (Constant (pos n)) fs p) l
  unfolding tail_text
  sized_read a n fs p l small h k g e =
      let c : drop a s ≡ decimal n ++ (tail_text names fs p ++ l) =
      e ∙ ap (λ (q : List ℕ). q ++ l) (star-joined (decimal n ++ factors_text names fs) p (number-something n (factors_text names fs))) ∙ simp append_assoc in
      let d = ends_tail fs p l h g.ends in
      product-from a (Constant (pos n)) fs p l h k g
      (lead-dot a (Constant (pos n)) (tail_text names fs p ++ l) d (number-lead names table s bracket a n (tail_text names fs p ++ l) small c d.no_digit d.sharp))

  -- without
  unsized_read : (a : ℕ) (fs : List (List ℕ)) (p l : List ℕ) → T (not (is_nothing (factors_text names fs ++ print_part names p))) → All (NamedFactor names) fs → Named names p → EndsProduct l
      → drop a s ≡ (factors_text names fs ++ print_star (factors_text names fs) (print_part names p) ++ print_part names p) ++ l
      → Reads s (read_product names table s bracket a) (unsized table fs p) l
  unfolding factors_text tail_text part_text joined unsized is_nothing print_star print_part chain with_part
  unsized_read a [] [] l o h k g e = absurd o
  unsized_read a [] (p ∷ []) l o h k g e = product-from a (part_expr table (p ∷ [])) [] [] l tt tt g (part_read a p [] l k e g.ends)
  unsized_read a [] (p ∷ q ∷ ps) l o h k g e = product-from a (part_expr table (p ∷ q ∷ ps)) [] [] l tt tt g (part_read a p (q ∷ ps) l k e g.ends)
  unsized_read a (f ∷ fs) p l o h k g e =
      let pf = print_factor names f in
      let c : drop a s ≡ pf ++ (tail_text names fs p ++ l) =
      e ∙ ap (λ (q : List ℕ). q ++ l) (star-joined (pf ++ factors_text names fs) p (begins-something pf (factors_text names fs) (factor-begins f h.0))) ∙ simp append_assoc in
      product-from a (factor_expr table f) fs p l h.1 k g (factor_read a f (tail_text names fs p ++ l) h.0 c (ends_tail fs p l h.1 g.ends))

  -- a printed term gives the tree of its product
  pub term_read : (a : ℕ) (t : Term) (l : List ℕ) → nat_abs t.coef < 10000000000 → NamedTerm names t → EndsProduct l
      → drop a s ≡ print_term names t ++ l → Reads s (read_product names table s bracket a) (term_expr names table t) l
  unfolding print_term print_size term_expr left_out factors_text
  term_read a t l small h g e =
      go (eqb (nat_abs t.coef) 1 && not (is_nothing (factors_text names t.factors ++ print_part names t.part)))
      (λ o. (and_split (eqb (nat_abs t.coef) 1) (not (is_nothing (factors_text names t.factors ++ print_part names t.part))) o).1) e
    where
      n : ℕ
      n = nat_abs t.coef

      fs : List (List ℕ)
      fs = t.factors

      part : List ℕ
      part = print_part names t.part

      size : Bool → List ℕ
      size b = when b then [] else decimal n

      go : (b : Bool) → (T b → T (not (is_nothing (factors_text names fs ++ part)))) → drop a s ≡ (size b ++ factors_text names fs ++ print_star (size b ++ factors_text names fs) part ++ part) ++ l
          → Reads s (read_product names table s bracket a) (when b then unsized table fs t.part else chain table (Constant (pos n)) fs t.part) l
      go true o e = unsized_read a fs t.part l (o tt) h.factors h.part g e
      go false o e = sized_read a n fs t.part l small h.factors h.part g e

  -- ════ how it begins

  begins-unsigned : (xs k : List ℕ) → Begins xs → Unsigned (xs ++ k)
  begins-unsigned xs k b = record {
    head = b.head;
    tail = b.tail ++ k;
    is = ap (λ (l : List ℕ). l ++ k) b.is;
    no_blank = (b.ends []).sharp;
    no_minus = b.no_minus;
    no_plus = b.no_plus;
  }

  number-unsigned : (n : ℕ) (k : List ℕ) → Unsigned (decimal n ++ k)
  number-unsigned n k =
      let d = decimal_some n in record {
        head = d.head;
        tail = d.tail ++ k;
        is = ap (λ (l : List ℕ). l ++ k) d.is;
        no_blank = digit-other d.head 32 d.digit (omega arith);
        no_minus = digit-other d.head 45 d.digit (omega arith);
        no_plus = digit-other d.head 43 d.digit (omega arith);
      }

  unsized-begins : (fs : List (List ℕ)) (p : List ℕ) → T (not (is_nothing (factors_text names fs ++ print_part names p))) → All (NamedFactor names) fs → Named names p
      → Unsigned (factors_text names fs ++ print_star (factors_text names fs) (print_part names p) ++ print_part names p)
  unfolding factors_text joined is_nothing print_star print_part
  unsized-begins [] [] o h k = absurd o
  unsized-begins [] (p ∷ []) o h k = begins-unsigned (print_part names (p ∷ [])) [] (part-begins p [] k)
  unsized-begins [] (p ∷ q ∷ ps) o h k = begins-unsigned (print_part names (p ∷ q ∷ ps)) [] (part-begins p (q ∷ ps) k)
  unsized-begins (f ∷ fs) p o h k =
      let pf = print_factor names f in
      let part = print_part names p in
      let star = print_star (pf ++ factors_text names fs) part in
      subst Unsigned (simp append_assoc) (begins-unsigned pf (factors_text names fs ++ (star ++ part)) (factor-begins f h.0))

  -- a printed term begins with no blank and no sign
  pub term-begins : (t : Term) → NamedTerm names t → Unsigned (print_term names t)
  unfolding print_term print_size factors_text
  term-begins t h =
      go (eqb (nat_abs t.coef) 1 && not (is_nothing (factors_text names t.factors ++ print_part names t.part)))
      (λ o. (and_split (eqb (nat_abs t.coef) 1) (not (is_nothing (factors_text names t.factors ++ print_part names t.part))) o).1)
    where
      n : ℕ
      n = nat_abs t.coef

      fs : List (List ℕ)
      fs = t.factors

      part : List ℕ
      part = print_part names t.part

      size : Bool → List ℕ
      size b = when b then [] else decimal n

      go : (b : Bool) → (T b → T (not (is_nothing (factors_text names fs ++ part)))) → Unsigned (size b ++ factors_text names fs ++ print_star (size b ++ factors_text names fs) part ++ part)
      go true o = unsized-begins fs t.part (o tt) h.factors h.part
      go false o = subst Unsigned (simp append_assoc) (number-unsigned n (factors_text names fs ++ (print_star (decimal n ++ factors_text names fs) part ++ part)))
