-- A text keeps its letters and its value: the letters of the tree that is read are in the table, and the form has the tree's value. Assumes nothing.
use Rattle.std.specs.Prelude.{◌≡◌, Bool, List, length, get_or, T, ltb, leb}
use Rattle.std.proofs.Math.Path.{refl, subst}
use Rattle.std.proofs.Common.{◌∙◌, arith, lt-ltb}
use Rattle.std.proofs.Math.Bool.{true, false}
use Prim.Native.Nat.{ℕ, zero, suc, ◌≤◌, ◌<◌}
use Rattle.std.proofs.Math.Dec.{eqb, ltb→lt, eqb_refl}
use Rattle.specification.specs.Results.{Result, refused, given, when◌then◌else◌}
use Rattle.specification.specs.Values.{Vec}
use Rattle.specification.specs.Letters.{good_table, kind_of, test_letter}
use Rattle.specification.specs.Terms.{Form}
use Rattle.specification.specs.Records.{test_terms}
use Rattle.specification.specs.Expressions.{Expr, Sum, Difference, Times, Dot, Wedge}
use Rattle.specification.specs.Reduction.{work}
use Rattle.specification.specs.Evaluation.{value, expr_value}
use Rattle.specification.specs.Text.{Placed, refused_at, placed, ◌>>=◌, Tree, leaf, turned, two, three, plain, at_column, blamed, worked, Read, next, skip, is_letter}
use Rattle.specification.specs.Text.{is_digit, is_triple, is_factor, is_sign, signed, place_of, read_name, read_number, read_triple, closed, read_bracket, read_atom, read_lead}
use Rattle.specification.specs.Text.{read_second, read_pair, read_wedge, read_dot, factor_at, more_factors, read_product, more_terms, turned_at, read_first, read_sum, read_nested}
use Rattle.specification.specs.Text.{whole_text, read_text, text_form}
use Rattle.theory.specs.Tests.{is_true}
use Rattle.theory.specs.Shape.Forms.{FormInShape}
use Rattle.theory.specs.Shape.Letters.{good_kind, known_terms}
use Rattle.theory.specs.Reduction.Letters.{LetterIn, LettersIn}
use Rattle.theory.proofs.Reduction.Work.{work_denotes}
use Rattle.theory.specs.Text.Columns.{placed_same, refused≢placed}

-- what a text gives: the form of a tree that was read, with its value under every assignment, in shape, its letters in the table
pub record TextKept (names table s : List ℕ) (f : Form) : Type 0 where
  pub tree : Tree
  pub read : read_text names table s ≡ placed tree
  pub same_value : (σ : ℕ → Vec) → value σ f ≡ expr_value σ (plain tree)
  pub in_shape : FormInShape f
  pub letters_tested : test_terms table f.terms ≡ given tt

module _ (names table s : List ℕ) (good : T (good_table table)) (fit : length names ≤ length table) where
  -- the letters of what was read are in the table
  abbrev ReadKnown : Read → Type 0
  ReadKnown (refused_at n c) = Unit {0}
  ReadKnown (placed r) = LettersIn table (plain r.0)

  -- an operator keeps its operands' letters
  abbrev Keeps : (Expr → Expr → Expr) → Type 0
  Keeps op = (e f : Expr) → LettersIn table e → LettersIn table f → LettersIn table (op e f)

  either : (b : Bool) (r q : Read) → (T b → ReadKnown r) → ReadKnown q → ReadKnown (when b then r else q)
  either true r q h k = h tt
  either false r q h k = k

  follow : (r : Read) (k : Tree × ℕ → Read) → ReadKnown r → ((q : Tree × ℕ) → LettersIn table (plain q.0) → ReadKnown (k q)) → ReadKnown (r >>= k)
  follow (refused_at n c) k h f = tt
  follow (placed q) k h f = f q h

  -- ════ leaves and brackets

  letter_known : (n : ℕ) → n < length table → LetterIn table n (kind_of table n)
  unfolding test_letter
  letter_known n h = (rw (lt-ltb n (length table) h, is_true (eqb (kind_of table n) (kind_of table n)) (eqb_refl (kind_of table n))), good_kind table good n)

  name_known : (at : ℕ) → ReadKnown (read_name names table s at)
  unfolding read_name plain
  name_known at =
      either (ltb (place_of names (get_or s at 0)) (length names)) _ (refused_at 5 at)
      (λ t. letter_known (place_of names (get_or s at 0)) (let h = ltb→lt (place_of names (get_or s at 0)) (length names) t in omega arith)) tt

  number_known : (at : ℕ) → ReadKnown (read_number s at)
  unfolding read_number plain
  number_known at = tt

  triple_known : (at : ℕ) → ReadKnown (read_triple names table s at)
  unfolding read_triple plain
  triple_known at =
      follow (read_name names table s (next s at)) _ (name_known (next s at)) λ x a.
      follow (read_name names table s x.1) _ (name_known x.1) λ y b.
      follow (read_name names table s y.1) _ (name_known y.1) λ z c. (a, b, c)

  closed_known : (q : Tree × ℕ) → LettersIn table (plain q.0) → ReadKnown (closed s q)
  unfolding closed
  closed_known q h = either (eqb (get_or s q.1 0) 41) (placed (q.0, next s q.1)) (refused_at 4 q.1) (λ t. h) tt

  bracket_known : (sum : ℕ → Read) → ((at : ℕ) → ReadKnown (sum at)) → (at : ℕ) → ReadKnown (read_bracket names table s sum at)
  unfolding read_bracket
  bracket_known sum h at =
      either (is_triple s (next s at)) (read_triple names table s at) (sum (next s at) >>= closed s) (λ t. triple_known at)
      (follow (sum (next s at)) (closed s) (h (next s at)) closed_known)

  pair_known : (mark : ℕ) (op : Expr → Expr → Expr) (first second : ℕ → Read) → Keeps op → ((at : ℕ) → ReadKnown (first at)) → ((at : ℕ) → ReadKnown (second at))
      → (at : ℕ) → ReadKnown (read_pair s mark op first second at)
  unfolding read_pair read_second plain
  pair_known mark op first second keeps f g at =
      follow (first at) (read_second s mark op second) (f at) λ x a.
      either (eqb (get_or s x.1 0) mark) (second (next s x.1) >>= (λ q. placed (two x.1 op x.0 q.0, q.1))) (placed x)
      (λ t. follow (second (next s x.1)) (λ q. placed (two x.1 op x.0 q.0, q.1)) (g (next s x.1)) (λ y b. keeps (plain x.0) (plain y.0) a b)) a

  signed_keeps : (b : ℕ) → Keeps (signed b)
  unfolding signed
  signed_keeps b = go (eqb b 45)
    where
      go : (t : Bool) → Keeps (when t then Difference else Sum)
      go true e f h k = (h, k)
      go false e f h k = (h, k)

  -- ════ the levels

  module _ (bracket : ℕ → Read) (inner : (at : ℕ) → ReadKnown (bracket at)) where
    atom_known : (at : ℕ) → ReadKnown (read_atom names table s bracket at)
    unfolding read_atom
    atom_known at =
        either (is_letter (get_or s at 0)) (read_name names table s at) (when eqb (get_or s at 0) 40 then bracket at else refused_at 4 at) (λ t. name_known at)
        (either (eqb (get_or s at 0) 40) (bracket at) (refused_at 4 at) (λ t. inner at) tt)

    lead_known : (at : ℕ) → ReadKnown (read_lead names table s bracket at)
    unfolding read_lead
    lead_known at = either (is_digit (get_or s at 0)) (read_number s at) (read_atom names table s bracket at) (λ t. number_known at) (atom_known at)

    wedge_known : (first : ℕ → Read) → ((at : ℕ) → ReadKnown (first at)) → (at : ℕ) → ReadKnown (read_wedge names table s bracket first at)
    unfolding read_wedge
    wedge_known first h = pair_known 94 Wedge first (read_atom names table s bracket) (λ e f a b. (a, b)) h atom_known

    dot_known : (at : ℕ) → ReadKnown (read_dot names table s bracket at)
    unfolding read_dot
    dot_known =
        pair_known 46 Dot (read_wedge names table s bracket (read_lead names table s bracket)) (read_wedge names table s bracket (read_atom names table s bracket))
        (λ e f a b. (a, b)) (wedge_known (read_lead names table s bracket) lead_known) (wedge_known (read_atom names table s bracket) atom_known)

    factors_known : (most : ℕ) (x : Tree) (at : ℕ) → LettersIn table (plain x) → ReadKnown (more_factors names table s most bracket x at)
    unfolding more_factors plain
    factors_known zero x at h = h
    factors_known (suc most) x at h =
        either (is_factor (get_or s at 0)) (read_dot names table s bracket (factor_at s at) >>= (λ r. more_factors names table s most bracket (two at Times x r.0) r.1))
        (placed (x, at))
        (λ t. follow (read_dot names table s bracket (factor_at s at)) (λ r. more_factors names table s most bracket (two at Times x r.0) r.1)
        (dot_known (factor_at s at)) (λ r k. factors_known most (two at Times x r.0) r.1 (h, k))) h

    product_known : (at : ℕ) → ReadKnown (read_product names table s bracket at)
    unfolding read_product
    product_known at =
        follow (read_dot names table s bracket at) (λ r. more_factors names table s (length s) bracket r.0 r.1) (dot_known at)
        (λ r h. factors_known (length s) r.0 r.1 h)

    terms_known : (most : ℕ) (x : Tree) (at : ℕ) → LettersIn table (plain x) → ReadKnown (more_terms names table s most bracket x at)
    unfolding more_terms plain
    terms_known zero x at h = h
    terms_known (suc most) x at h =
        either (is_sign (get_or s at 0))
        (read_product names table s bracket (next s at) >>= (λ r. more_terms names table s most bracket (two at (signed (get_or s at 0)) x r.0) r.1)) (placed (x, at))
        (λ t. follow (read_product names table s bracket (next s at)) (λ r. more_terms names table s most bracket (two at (signed (get_or s at 0)) x r.0) r.1)
        (product_known (next s at))
        (λ r k. terms_known most (two at (signed (get_or s at 0)) x r.0) r.1 (signed_keeps (get_or s at 0) (plain x) (plain r.0) h k))) h

    first_known_lem : (at : ℕ) → ReadKnown (read_first names table s bracket at)
    unfolding read_first turned_at plain
    first_known_lem at =
        either (eqb (get_or s at 0) 45) (read_product names table s bracket (next s at) >>= turned_at at) _
        (λ t. follow (read_product names table s bracket (next s at)) (turned_at at) (product_known (next s at)) (λ r h. h))
        (either (eqb (get_or s at 0) 43) (read_product names table s bracket (next s at)) (read_product names table s bracket at) (λ t. product_known (next s at))
        (product_known at))

    sum_known : (at : ℕ) → ReadKnown (read_sum names table s bracket at)
    unfolding read_sum
    sum_known at =
        follow (read_first names table s bracket at) (λ r. more_terms names table s (length s) bracket r.0 r.1) (first_known_lem at)
        (λ r h. terms_known (length s) r.0 r.1 h)

  nested_known : (depth at : ℕ) → ReadKnown (read_nested names table s depth at)
  unfolding read_nested
  nested_known zero at = tt
  nested_known (suc depth) at = bracket_known (read_sum names table s (read_nested names table s depth)) (sum_known (read_nested names table s depth) (nested_known depth)) at

  -- ════ the text

  -- the letters of the tree of a text are in the table
  pub text-letters : (t : Tree) → read_text names table s ≡ placed t → LettersIn table (plain t)
  unfolding read_text whole_text
  text-letters t = long (leb (length s) 4096)
    where
      rest : (q : Tree × ℕ) (b : Bool) → LettersIn table (plain q.0) → (when b then placed q.0 else refused_at 4 q.1) ≡ placed t → LettersIn table (plain t)
      rest q true h e = subst (λ (x : Tree). LettersIn table (plain x)) (placed_same e) h
      rest q false h e = absurd (refused≢placed e)

      whole : (r : Read) → ReadKnown r → (r >>= whole_text s) ≡ placed t → LettersIn table (plain t)
      whole (refused_at n c) h e = absurd (refused≢placed e)
      whole (placed q) h e = rest q (leb (length s) q.1) h e

      long : (b : Bool) → (when b then read_sum names table s (read_nested names table s 16) (skip s 0) >>= whole_text s else refused_at 3 4096) ≡ placed t
          → LettersIn table (plain t)
      long true e = whole (read_sum names table s (read_nested names table s 16) (skip s 0)) (sum_known (read_nested names table s 16) (nested_known 16) (skip s 0)) e
      long false e = absurd (refused≢placed e)

  -- a text that has a form keeps its value: the form is in shape and its letters are in the table
  pub text_keeps_value : (f : Form) → text_form names table s ≡ placed f → TextKept names table s f
  unfolding text_form worked at_column
  text_keeps_value f = go (read_text names table s) refl
    where
      kept : (t : Tree) → read_text names table s ≡ placed t → (r : Result Form) → work (plain t) ≡ r → at_column (blamed t) r ≡ placed f → TextKept names table s f
      kept t h (refused n) w e = absurd (refused≢placed e)
      kept t h (given g) w e =
          let d = work_denotes table (plain t) (text-letters t h) f (w ∙ (λ i. given (placed_same e i))) in
          record { tree = t; read = h; same_value = d.value_is; in_shape = d.in_shape; letters_tested = known_terms table f.terms d.known }

      go : (r : Placed Tree) → read_text names table s ≡ r → (r >>= worked) ≡ placed f → TextKept names table s f
      go (refused_at n c) h e = absurd (refused≢placed e)
      go (placed t) h e = kept t h (work (plain t)) refl e

  -- the letters of the form of a text are in the table
  pub text-letters_tested : (f : Form) → text_form names table s ≡ placed f → test_terms table f.terms ≡ given tt
  text-letters_tested f e = (text_keeps_value f e).letters_tested
