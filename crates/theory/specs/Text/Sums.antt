-- A printed form is read: its text gives the tree of its sum, terms left to right. Assumes nothing.
use Rattle.std.specs.Prelude.{◌≡◌, Bool, true, false, ℤ, pos, negsuc, nat_abs, T, leb}
use Rattle.std.proofs.Math.Path.{refl, ap, subst}
use Rattle.std.proofs.Common.{sym, ◌∙◌, length-drop, le→leb}
use mathlib.Core.List.{List, [], ◌∷◌, ◌++◌, append_assoc, append-nil}
use Prim.Native.Nat.{ℕ, zero, suc, ◌+◌, ◌<◌, ◌≤◌}
use native.Mathlib.Omega.{arith}
use Rattle.std.proofs.Math.ListN.{length, get_or, drop, length-append}
use Rattle.std.proofs.Math.Dec.{eqb}
use Rattle.specification.specs.Results.{when◌then◌else◌}
use Rattle.specification.specs.Terms.{Term}
use Rattle.specification.specs.Expressions.{Expr, Constant, Sum, Difference, Negation}
use Rattle.specification.specs.Printing.{print_first_sign, print_sign, name_of, print_term, print_terms, print_form}
use Rattle.specification.specs.Text.{Placed, placed, ◌>>=◌, Tree, two, turned, plain, Read, is_letter, is_digit, good_names, skip, next, is_factor, is_sign, signed, read_product, more_terms, turned_at, read_first, read_sum, read_nested, whole_text, read_text}
use Rattle.theory.specs.Tests.{is_true}
use Rattle.theory.specs.Elements.{All}
use Rattle.theory.specs.Text.Positions.{first, Sharp, stand-byte, skip_none, next_stands, Reads}
use Rattle.theory.specs.Text.Pieces.{Ends, text_short, terms-stop}
use Rattle.theory.specs.Text.Products.{NamedTerm, EndsProduct, Unsigned, term_expr, term_read, term-begins}

-- ════ the trees

-- a term joined by its sign
unfoldable pub joined_expr : ℤ → Expr → Expr → Expr
joined_expr (pos n) e f = Sum e f
joined_expr (negsuc n) e f = Difference e f

-- the first term with its sign
unfoldable pub first_expr : ℤ → Expr → Expr
first_expr (pos n) e = e
first_expr (negsuc n) e = Negation e

module _ (names table : List ℕ) where
  -- terms joined one after the other
  unfoldable pub sum_expr : Expr → List Term → Expr
  sum_expr e [] = e
  sum_expr e (t ∷ ts) = sum_expr (joined_expr t.coef e (term_expr names table t)) ts

  -- the tree of a printed form
  unfoldable pub form_expr : List Term → Expr
  form_expr [] = Constant (pos 0)
  form_expr (t ∷ ts) = sum_expr (first_expr t.coef (term_expr names table t)) ts

-- a term that can be printed and read
pub record Readable (names : List ℕ) (t : Term) : Type 0 where
  pub named : NamedTerm names t
  pub small : nat_abs t.coef < 10000000000

-- what may stand behind a sum
pub record EndsSum (l : List ℕ) : Type 0 where
  pub product : EndsProduct l
  pub no_sign : is_sign (first l) ≡ false

-- nothing may
pub ends-nothing : EndsSum []
unfolding is_factor is_sign is_letter is_digit
ends-nothing = record { product = record { ends = record { sharp = refl; no_digit = refl; no_wedge = refl; no_dot = refl }; no_factor = refl }; no_sign = refl }

-- a sign is one byte, and its operator joins
record SignText (k : ℤ) : Type 0 where
  byte : ℕ
  is : print_sign k ≡ byte ∷ []
  sign : is_sign byte ≡ true
  joins : signed byte ≡ joined_expr k
  ends : (l : List ℕ) → EndsProduct (byte ∷ l)

sign_text : (k : ℤ) → SignText k
unfolding print_sign is_sign signed joined_expr is_factor is_letter is_digit
sign_text (pos n) = record { byte = 43; is = refl; sign = refl; joins = refl; ends = λ l. record { ends = record { sharp = refl; no_digit = refl; no_wedge = refl; no_dot = refl }; no_factor = refl } }
sign_text (negsuc n) = record { byte = 45; is = refl; sign = refl; joins = refl; ends = λ l. record { ends = record { sharp = refl; no_digit = refl; no_wedge = refl; no_dot = refl }; no_factor = refl } }

unsigned-sharp : (xs l : List ℕ) → Unsigned xs → Sharp (xs ++ l)
unsigned-sharp xs l b = rw b.is b.no_blank

module _ (names table s : List ℕ) (good : T (good_names names table)) (depth : ℕ) where
  abbrev bracket : ℕ → Read
  bracket = read_nested names table s (suc depth)

  -- what stands behind a term of a sum may stand there
  ends-terms : (ts : List Term) (l : List ℕ) → EndsSum l → EndsProduct (print_terms names ts ++ l)
  unfolding print_terms
  ends-terms [] l h = h.product
  ends-terms (t ∷ ts) l h =
      let w = sign_text t.coef in
      subst EndsProduct (ap (λ (k : List ℕ). ((k ++ print_term names t) ++ print_terms names ts) ++ l) (sym w.is))
      (w.ends ((print_term names t ++ print_terms names ts) ++ l))

  -- one term more
  terms_more : (most a : ℕ) (k : ℤ) (w : SignText k) (x : Tree) (e : Expr) (l : List ℕ) → get_or s a 0 ≡ w.byte → (r : Reads s (read_product names table s bracket (next s a)) e l)
      → more_terms names table s (suc most) bracket x a ≡ more_terms names table s most bracket (two a (joined_expr k) x r.tree) r.behind
  unfolding more_terms
  terms_more most a k w x e l h r = rw (h, w.sign, r.is, w.joins) refl

  terms-step : (most a : ℕ) (k : ℤ) (w : SignText k) (x : Tree) (e : Expr) (m l : List ℕ) (ts : List Term) → get_or s a 0 ≡ w.byte → (r : Reads s (read_product names table s bracket (next s a)) e m)
      → Reads s (more_terms names table s most bracket (two a (joined_expr k) x r.tree) r.behind) (sum_expr names table (joined_expr k (plain x) (plain r.tree)) ts) l
      → Reads s (more_terms names table s (suc most) bracket x a) (sum_expr names table (joined_expr k (plain x) e) ts) l
  terms-step most a k w x e m l ts h r q = record {
    tree = q.tree;
    behind = q.behind;
    is = terms_more most a k w x e m h r ∙ q.is;
    plain_is = q.plain_is ∙ ap (λ (y : Expr). sum_expr names table (joined_expr k (plain x) y) ts) r.plain_is;
    rest = q.rest;
  }

  -- further terms
  terms_read : (ts : List Term) (most a : ℕ) (x : Tree) (l : List ℕ) → All (Readable names) ts → length (print_terms names ts) ≤ most
      → drop a s ≡ print_terms names ts ++ l → EndsSum l → Reads s (more_terms names table s most bracket x a) (sum_expr names table (plain x) ts) l
  unfolding print_terms sum_expr plain
  terms_read [] most a x l h m e g =
      record { tree = x; behind = a; is = terms-stop names table s most bracket x a l e g.no_sign; plain_is = refl; rest = e }
  terms_read (t ∷ ts) zero a x l h m e g =
      absurd (omega (
        arith,
        m,
        ap length (sign_text t.coef).is,
        length-append (print_sign t.coef) (print_term names t),
        length-append (print_sign t.coef ++ print_term names t) (print_terms names ts),
      ))
  terms_read (t ∷ ts) (suc most) a x l h m e g =
      let w = sign_text t.coef in
      let text = print_term names t ++ (print_terms names ts ++ l) in
      let c : drop a s ≡ w.byte ∷ text = e ∙ ap (λ (k : List ℕ). ((k ++ print_term names t) ++ print_terms names ts) ++ l) w.is ∙ simp append_assoc in
      let r = term_read names table s good depth (next s a) t (print_terms names ts ++ l) h.0.small h.0.named (ends-terms ts l g)
      (next_stands s a w.byte text c (unsigned-sharp (print_term names t) (print_terms names ts ++ l) (term-begins names table s good depth t h.0.named))) in
      terms-step most a t.coef w x (term_expr names table t) (print_terms names ts ++ l) l ts (stand-byte s a (w.byte ∷ text) c) r
      (terms_read ts most r.behind (two a (joined_expr t.coef) x r.tree) l h.1
      (omega (
        arith,
        m,
        ap length (sign_text t.coef).is,
        length-append (print_sign t.coef) (print_term names t),
        length-append (print_sign t.coef ++ print_term names t) (print_terms names ts),
      ))
      r.rest g)

  -- the first term
  first_read : (a : ℕ) (k : ℤ) (t : Term) (l : List ℕ) → Readable names t → EndsProduct l → drop a s ≡ print_first_sign k ++ print_term names t ++ l
      → Reads s (read_first names table s bracket a) (first_expr k (term_expr names table t)) l
  unfolding print_first_sign first_expr read_first turned_at plain
  first_read a (pos n) t l h g e =
      let u = term-begins names table s good depth t h.named in
      let b : get_or s a 0 ≡ u.head = stand-byte s a (print_term names t ++ l) e ∙ ap (λ (k : List ℕ). first (k ++ l)) u.is in
      let r = term_read names table s good depth a t l h.small h.named g e in
      record { tree = r.tree; behind = r.behind; is = rw (ap (λ (x : ℕ). eqb x 45) b ∙ u.no_minus, ap (λ (x : ℕ). eqb x 43) b ∙ u.no_plus) r.is; plain_is = r.plain_is; rest = r.rest }
  first_read a (negsuc n) t l h g e =
      let text = print_term names t ++ l in
      let b : get_or s a 0 ≡ 45 = stand-byte s a (45 ∷ text) e in
      let r = term_read names table s good depth (next s a) t l h.small h.named g (next_stands s a 45 text e (unsigned-sharp (print_term names t) l (term-begins names table s good depth t h.named))) in
      record { tree = turned a r.tree; behind = r.behind; is = rw (b, r.is) refl; plain_is = ap Negation r.plain_is; rest = r.rest }

  -- a printed form gives the tree of its sum
  pub sum_read : (a : ℕ) (t : Term) (ts : List Term) (l : List ℕ) → All (Readable names) (t ∷ ts) → EndsSum l → drop a s ≡ print_form names (t ∷ ts) ++ l
      → Reads s (read_sum names table s bracket a) (form_expr names table (t ∷ ts)) l
  unfolding read_sum print_form form_expr
  sum_read a t ts l h g e =
      go (first_read a t.coef t (print_terms names ts ++ l) h.0 (ends-terms ts l g) (e ∙ simp append_assoc))
    where
      go : Reads s (read_first names table s bracket a) (first_expr t.coef (term_expr names table t)) (print_terms names ts ++ l)
          → Reads s (read_sum names table s bracket a) (form_expr names table (t ∷ ts)) l
      go r =
          let q = terms_read ts (length s) r.behind r.tree l h.1 (text_short names table s r.behind (print_terms names ts) l r.rest) r.rest g in
          record {
            tree = q.tree;
            behind = q.behind;
            is = rw r.is q.is;
            plain_is = q.plain_is ∙ ap (λ (y : Expr). sum_expr names table y ts) r.plain_is;
            rest = q.rest;
          }

-- ════ the whole_text text

-- a text is read to a tree
pub record ReadsTo (names table s : List ℕ) (e : Expr) : Type 0 where
  pub tree : Tree
  pub is : read_text names table s ≡ placed tree
  pub plain_is : plain tree ≡ e

pub nothing_left_lem : (s : List ℕ) (b : ℕ) → drop b s ≡ [] → leb (length s) b ≡ true
nothing_left_lem s b e = is_true (leb (length s) b) (le→leb (length s) b (omega (arith, length-drop b s, ap length e)))

-- where a sum is read and nothing is left
pub whole_read : (names table s : List ℕ) (e : Expr) → length s ≤ 4096 → Sharp s → Reads s (read_sum names table s (read_nested names table s 16) 0) e [] → ReadsTo names table s e
unfolding read_text whole_text
whole_read names table s e short sharp r = record {
  tree = r.tree;
  is = rw (is_true (leb (length s) 4096) (le→leb (length s) 4096 short), skip_none s 0 s refl sharp, r.is, nothing_left_lem s r.behind r.rest) refl;
  plain_is = r.plain_is;
}

pub form-sharp : (names table s : List ℕ) → T (good_names names table) → (k : ℤ) (t : Term) (l : List ℕ) → Readable names t → Sharp (print_first_sign k ++ print_term names t ++ l)
unfolding print_first_sign
form-sharp names table s good (pos n) t l h = unsigned-sharp (print_term names t) l (term-begins names table s good 15 t h.named)
form-sharp names table s good (negsuc n) t l h = refl

-- a printed form that is not empty is read to the tree of its sum
pub form_text_read : (names table : List ℕ) → T (good_names names table) → (t : Term) (ts : List Term) → All (Readable names) (t ∷ ts) → length (print_form names (t ∷ ts)) ≤ 4096
    → ReadsTo names table (print_form names (t ∷ ts)) (form_expr names table (t ∷ ts))
unfolding print_form
form_text_read names table good t ts h short =
    let s = print_form names (t ∷ ts) in
    whole_read names table s (form_expr names table (t ∷ ts)) short
    (form-sharp names table s good t.coef t (print_terms names ts) h.0)
    (sum_read names table s good 15 0 t ts [] h ends-nothing (sym (append-nil s)))
