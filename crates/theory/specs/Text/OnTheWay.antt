-- A reader that works on the way and keeps no tree gives the form of the text: what code computes, level by level. Assumes nothing.
--
-- An answer is what reading refused with its column, or what working gave (a form, or its refusal with its column) and the position behind.
use Rattle.std.specs.Prelude.{◌≡◌, Bool, ◌&&◌, ◌||◌, List, pos, length, ltb, leb, eqb}
use Rattle.std.proofs.Math.Path.{refl, sym, ap}
use Rattle.std.proofs.Common.{◌∙◌}
use Rattle.std.proofs.Math.Bool.{true, false}
use Prim.Native.Nat.{ℕ, zero, suc}
use Rattle.std.proofs.Math.ListN.{get_or}
use Rattle.specification.specs.Results as S
use Rattle.specification.specs.Results.{Result, when◌then◌else◌}
use Rattle.specification.specs.Letters.{kind_of}
use Rattle.specification.specs.Terms.{Form}
use Rattle.specification.specs.Expressions.{Expr, Letter, Constant, Sum, Difference, Times, Dot, Wedge}
use Rattle.specification.specs.Reduction.{negate_form, sum_forms, times_forms, dot_forms, wedge_forms, triple_forms, letter_form, constant_form, work_with, work}
use Rattle.specification.specs.Text.{Placed, refused_at, placed, ◌>>=◌, Tree, leaf, turned, two, three, at_column, worked, Read, skip, next, is_letter, is_digit, is_triple}
use Rattle.specification.specs.Text.{is_factor, is_sign, signed, place_of, read_digits, read_name, read_number, read_triple, closed, read_bracket, read_atom, read_lead, read_second}
use Rattle.specification.specs.Text.{read_pair, read_wedge, read_dot, factor_at, more_factors, read_product, more_terms, turned_at, read_first, read_sum, read_nested, whole_text}
use Rattle.specification.specs.Text.{read_text, text_form}
use Rattle.theory.specs.Text.Columns.{worked_two, worked-three, worked-turned, worked-name, worked-number}

-- ════ the reader

-- an answer on the way
abbrev pub Way : Type 0
Way = Placed (Placed Form × ℕ)

-- two operands: the left refusal, the right one, or the operator's at its column
unfoldable pub join_at : (c : ℕ) (forms : Form → Form → Result Form) (v w : Placed Form) → Placed Form
join_at c forms v w = v >>= (λ x. w >>= (λ y. at_column c (forms x y)))

-- three operands
unfoldable pub triple_at : (c : ℕ) (u v w : Placed Form) → Placed Form
triple_at c u v w = u >>= (λ x. v >>= (λ y. w >>= (λ z. at_column c (triple_forms x y z))))

-- the sign turned
unfoldable pub turned_form : Placed Form → Placed Form
turned_form v = v >>= (λ x. placed (negate_form x))

-- Levels: 0 a name, a number or parentheses, 1 wedges, 2 dots, 3 products, 4 sums.

-- an operator of a level stands here
unfoldable pub goes_on : (level b : ℕ) → Bool
goes_on level b = when eqb level 1 then eqb b 94 else when eqb level 2 then eqb b 46 else when eqb level 3 then is_factor b else is_sign b

-- how many of them there are at most, in a text of so many bytes
unfoldable pub most_of : (level n : ℕ) → ℕ
most_of level n = when leb level 2 then 1 else n

-- what an operator of a level does with two forms
unfoldable pub operates : (level b : ℕ) (f g : Form) → Result Form
operates level b f g =
    when eqb level 1 then wedge_forms f g else
    when eqb level 2 then dot_forms f g else
    when eqb level 3 then times_forms f g else
    when eqb b 45 then sum_forms f (negate_form g) else
    sum_forms f g

-- a sign in front
unfoldable pub isFront : (level b : ℕ) → Bool
isFront level b = eqb level 4 && is_sign b

-- a minus in front turns the signs
unfoldable pub fronted : (level b : ℕ) → Placed Form → Placed Form
fronted level b v = when eqb level 4 && eqb b 45 then turned_form v else v

module _ (s : List ℕ) where
  -- where the right operand of an operator begins
  unfoldable pub operand_at : (level at : ℕ) → ℕ
  operand_at level at = when eqb level 3 then factor_at s at else next s at

  -- where the first operand begins
  unfoldable pub front_at : (level at : ℕ) → ℕ
  front_at level at = when isFront level (get_or s at 0) then next s at else at

  -- operators of a level, at most so many, each with an operand behind it
  unfoldable pub way_chain : (level most : ℕ) (operand : ℕ → Way) (v : Placed Form) (at : ℕ) → Way
  way_chain level zero operand v at = placed (v, at)
  way_chain level (suc most) operand v at =
      let more : Way = operand (operand_at level at) >>= (λ r. way_chain level most operand (join_at at (operates level (get_or s at 0)) v r.0) r.1) in
      when goes_on level (get_or s at 0) then more else placed (v, at)

  -- a number
  unfoldable pub way_number : (at : ℕ) → Way
  way_number at = let r = read_digits (length s) 0 s at in placed (at_column at (constant_form (pos r.0)), skip s r.1)

  -- a closing parenthesis
  unfoldable pub way_closed : Placed Form × ℕ → Way
  way_closed r = when eqb (get_or s r.1 0) 41 then placed (r.0, next s r.1) else refused_at 4 r.1

  -- nothing may be left
  unfoldable pub way_whole : Placed Form × ℕ → Placed Form
  way_whole r = when leb (length s) r.1 then r.0 else refused_at 4 r.1

module _ (names table s : List ℕ) where
  -- a name
  unfoldable pub way_name : (at : ℕ) → Way
  way_name at =
      let n = place_of names (get_or s at 0) in
      when ltb n (length names) then placed (placed (letter_form n (kind_of table n)), next s at) else refused_at 5 at

  -- a triple
  unfoldable pub way_triple : (at : ℕ) → Way
  way_triple at =
      way_name (next s at) >>= (λ x. way_name x.1 >>= (λ y. way_name y.1 >>= (λ z. placed (triple_at at x.0 y.0 z.0, next s z.1))))

  -- what stands in parentheses
  unfoldable pub way_bracket : (sum : ℕ → Way) (at : ℕ) → Way
  way_bracket sum at =
      let triple : Way = way_triple at in
      let group : Way = sum (next s at) >>= way_closed s in
      when is_triple s (next s at) then triple else group

  -- a name or parentheses; a number where one may stand
  unfoldable pub way_atom : (bracket : ℕ → Way) (number : Bool) (at : ℕ) → Way
  way_atom bracket number at =
      let b = get_or s at 0 in
      let group : Way = bracket at in
      when number && is_digit b then way_number s at else when is_letter b then way_name at else when eqb b 40 then group else refused_at 4 at

  -- the reader at a level; behind an operator a number may stand from level 3 on
  unfoldable pub way_level : (bracket : ℕ → Way) (level : ℕ) (number : Bool) (at : ℕ) → Way
  way_level bracket zero number at = way_atom bracket number at
  way_level bracket (suc k) number at =
      way_level bracket k number (front_at s (suc k) at)
      >>= (λ r. way_chain s (suc k) (most_of (suc k) (length s)) (way_level bracket k (leb 3 (suc k))) (fronted (suc k) (get_or s at 0) r.0) r.1)

  -- parentheses with so much depth left
  unfoldable pub way_nested : (depth at : ℕ) → Way
  way_nested zero at = refused_at 3 at
  way_nested (suc depth) at = way_bracket (way_level (way_nested depth) 4 true) at

  -- the whole text
  unfoldable pub way_text : Placed Form
  way_text =
      let read : Placed Form = way_level (way_nested 16) 4 true (skip s 0) >>= way_whole s in
      when leb (length s) 4096 then read else refused_at 3 4096

-- ════ it gives what the tree gives

-- a tree worked
unfoldable pub on_the_way : Read → Way
on_the_way (refused_at n c) = refused_at n c
on_the_way (placed r) = placed (worked r.0, r.1)

either_way_lem : (b : Bool) (r q : Read) (v w : Way) → on_the_way r ≡ v → on_the_way q ≡ w → on_the_way (when b then r else q) ≡ (when b then v else w)
either_way_lem true r q v w h k = h
either_way_lem false r q v w h k = k

follow-way : (r : Read) (v : Way) (k : Tree × ℕ → Read) (m : Placed Form × ℕ → Way) → on_the_way r ≡ v
    → ((q : Tree × ℕ) → on_the_way (k q) ≡ m (worked q.0, q.1)) → on_the_way (r >>= k) ≡ (v >>= m)
unfolding on_the_way
follow-way r v k m h f = go r ∙ ap (λ (u : Way). u >>= m) h
  where
    go : (r : Read) → on_the_way (r >>= k) ≡ (on_the_way r >>= m)
    go (refused_at n c) = refl
    go (placed q) = f q

-- an operator that works by a function of forms
abbrev Operates : (Expr → Expr → Expr) → (Form → Form → Result Form) → Type 0
Operates op forms = (e f : Expr) → work (op e f) ≡ S.◌>>=◌ (work e) (λ u. S.◌>>=◌ (work f) (λ v. forms u v))

two_way : (c : ℕ) (op : Expr → Expr → Expr) (forms : Form → Form → Result Form) → Operates op forms → (x y : Tree)
    → worked (two c op x y) ≡ join_at c forms (worked x) (worked y)
unfolding join_at
two_way c op forms law x y = worked_two c op forms law x y

wedge-operates : (b : ℕ) → Operates Wedge (operates 1 b)
unfolding work_with operates
wedge-operates b e f = refl

dot-operates : (b : ℕ) → Operates Dot (operates 2 b)
unfolding work_with operates
dot-operates b e f = refl

times-operates : (b : ℕ) → Operates Times (operates 3 b)
unfolding work_with operates
times-operates b e f = refl

signed-operates : (b : ℕ) → Operates (signed b) (operates 4 b)
unfolding work_with signed operates
signed-operates b e f = go (eqb b 45)
  where
    go : (t : Bool) → work ((when t then Difference else Sum) e f)
        ≡ S.◌>>=◌ (work e) (λ u. S.◌>>=◌ (work f) (λ v. when t then sum_forms u (negate_form v) else sum_forms u v))
    go true = refl
    go false = refl

module _ (s : List ℕ) where
  number-way : (at : ℕ) → on_the_way (read_number s at) ≡ way_number s at
  unfolding read_number way_number on_the_way
  number-way at = ap (λ (v : Placed Form). placed (v, skip s (read_digits (length s) 0 s at).1)) (worked-number at (read_digits (length s) 0 s at).0)

  closed-way : (q : Tree × ℕ) → on_the_way (closed s q) ≡ way_closed s (worked q.0, q.1)
  unfolding closed way_closed on_the_way
  closed-way q =
      either_way_lem (eqb (get_or s q.1 0) 41) (placed (q.0, next s q.1)) (refused_at 4 q.1) (placed (worked q.0, next s q.1)) (refused_at 4 q.1) refl refl

  -- a second operand behind a mark is a chain of at most one operator
  second_way : (level mark : ℕ) (op : Expr → Expr → Expr) → ((b : ℕ) → goes_on level b ≡ eqb b mark) → ((at : ℕ) → operand_at s level at ≡ next s at)
      → ((b : ℕ) → Operates op (operates level b)) → (operand : ℕ → Read) (way : ℕ → Way) → ((at : ℕ) → on_the_way (operand at) ≡ way at)
      → (q : Tree × ℕ) → on_the_way (read_second s mark op operand q) ≡ way_chain s level 1 way (worked q.0) q.1
  unfolding read_second way_chain on_the_way
  second_way level mark op marks place law operand way h q =
      let b = get_or s q.1 0 in
      either_way_lem (eqb b mark) (operand (next s q.1) >>= (λ r. placed (two q.1 op q.0 r.0, r.1))) (placed q)
      (way (next s q.1) >>= (λ r. placed (join_at q.1 (operates level b) (worked q.0) r.0, r.1))) (placed (worked q.0, q.1))
      (follow-way (operand (next s q.1)) (way (next s q.1)) (λ r. placed (two q.1 op q.0 r.0, r.1))
      (λ r. placed (join_at q.1 (operates level b) (worked q.0) r.0, r.1)) (h (next s q.1))
      (λ r. ap (λ (v : Placed Form). placed (v, r.1)) (two_way q.1 op (operates level b) (law b) q.0 r.0)))
      refl
      ∙ (λ i. when sym (marks b) i then way (sym (place q.1) i) >>= (λ r. placed (join_at q.1 (operates level b) (worked q.0) r.0, r.1))
      else placed (worked q.0, q.1))

module _ (names table s : List ℕ) where
  name-way : (at : ℕ) → on_the_way (read_name names table s at) ≡ way_name names table s at
  unfolding read_name way_name on_the_way
  name-way at =
      let n = place_of names (get_or s at 0) in
      either_way_lem (ltb n (length names)) (placed (leaf at (Letter n (kind_of table n)), next s at)) (refused_at 5 at)
      (placed (placed (letter_form n (kind_of table n)), next s at)) (refused_at 5 at)
      (ap (λ (v : Placed Form). placed (v, next s at)) (worked-name at n (kind_of table n))) refl

  triple-way : (at : ℕ) → on_the_way (read_triple names table s at) ≡ way_triple names table s at
  unfolding read_triple way_triple on_the_way triple_at
  triple-way at =
      follow-way (read_name names table s (next s at)) (way_name names table s (next s at)) _ _ (name-way (next s at)) (λ x.
      follow-way (read_name names table s x.1) (way_name names table s x.1) _ _ (name-way x.1) (λ y.
      follow-way (read_name names table s y.1) (way_name names table s y.1) (λ z. placed (three at x.0 y.0 z.0, next s z.1))
      (λ z. placed (triple_at at (worked x.0) (worked y.0) z.0, next s z.1)) (name-way y.1) (λ z.
      ap (λ (v : Placed Form). placed (v, next s z.1)) (worked-three at x.0 y.0 z.0))))

  bracket-way : (sum : ℕ → Read) (way : ℕ → Way) → ((at : ℕ) → on_the_way (sum at) ≡ way at)
      → (at : ℕ) → on_the_way (read_bracket names table s sum at) ≡ way_bracket names table s way at
  unfolding read_bracket way_bracket
  bracket-way sum way h at =
      either_way_lem (is_triple s (next s at)) (read_triple names table s at) (sum (next s at) >>= closed s) (way_triple names table s at) (way (next s at) >>= way_closed s)
      (triple-way at) (follow-way (sum (next s at)) (way (next s at)) (closed s) (way_closed s) (h (next s at)) (closed-way s))

  module _ (bracket : ℕ → Read) (way : ℕ → Way) (inner : (at : ℕ) → on_the_way (bracket at) ≡ way at) where
    atom-way : (at : ℕ) → on_the_way (read_atom names table s bracket at) ≡ way_level names table s way 0 false at
    unfolding read_atom way_level way_atom on_the_way
    atom-way at =
        let b = get_or s at 0 in
        either_way_lem (is_letter b) (read_name names table s at) _ (way_name names table s at) _ (name-way at)
        (either_way_lem (eqb b 40) (bracket at) (refused_at 4 at) (way at) (refused_at 4 at) (inner at) refl)

    lead-way : (at : ℕ) → on_the_way (read_lead names table s bracket at) ≡ way_level names table s way 0 true at
    unfolding read_lead way_level way_atom
    lead-way at =
        either_way_lem (is_digit (get_or s at 0)) (read_number s at) (read_atom names table s bracket at) (way_number s at) (way_level names table s way 0 false at)
        (number-way s at) (atom-way at)

    -- what leads, and wedges of it
    wedge-way : (number : Bool) (left : ℕ → Read) → ((at : ℕ) → on_the_way (left at) ≡ way_level names table s way 0 number at)
        → (at : ℕ) → on_the_way (read_wedge names table s bracket left at) ≡ way_level names table s way 1 number at
    unfolding read_wedge read_pair way_level goes_on operand_at most_of front_at isFront fronted
    wedge-way number left h at =
        follow-way (left at) (way_level names table s way 0 number at) (read_second s 94 Wedge (read_atom names table s bracket))
        (λ r. way_chain s 1 1 (way_level names table s way 0 false) r.0 r.1) (h at)
        (second_way s 1 94 Wedge (λ b. refl) (λ p. refl) wedge-operates (read_atom names table s bracket) (way_level names table s way 0 false) atom-way)

    dot-way : (at : ℕ) → on_the_way (read_dot names table s bracket at) ≡ way_level names table s way 2 true at
    unfolding read_dot read_pair way_level goes_on operand_at most_of front_at isFront fronted
    dot-way at =
        let lead = read_wedge names table s bracket (read_lead names table s bracket) in
        let atom = read_wedge names table s bracket (read_atom names table s bracket) in
        follow-way (lead at) (way_level names table s way 1 true at) (read_second s 46 Dot atom) (λ r. way_chain s 2 1 (way_level names table s way 1 false) r.0 r.1)
        (wedge-way true (read_lead names table s bracket) lead-way at)
        (second_way s 2 46 Dot (λ b. refl) (λ p. refl) dot-operates atom (way_level names table s way 1 false)
        (wedge-way false (read_atom names table s bracket) atom-way))

    factors-way : (most : ℕ) (x : Tree) (at : ℕ)
        → on_the_way (more_factors names table s most bracket x at) ≡ way_chain s 3 most (way_level names table s way 2 true) (worked x) at
    unfolding more_factors way_chain goes_on operand_at on_the_way
    factors-way zero x at = refl
    factors-way (suc most) x at =
        let b = get_or s at 0 in
        let dot = way_level names table s way 2 true in
        either_way_lem (is_factor b)
        (read_dot names table s bracket (factor_at s at) >>= (λ r. more_factors names table s most bracket (two at Times x r.0) r.1)) (placed (x, at))
        (dot (factor_at s at) >>= (λ r. way_chain s 3 most dot (join_at at (operates 3 b) (worked x) r.0) r.1)) (placed (worked x, at))
        (follow-way (read_dot names table s bracket (factor_at s at)) (dot (factor_at s at)) (λ r. more_factors names table s most bracket (two at Times x r.0) r.1)
        (λ r. way_chain s 3 most dot (join_at at (operates 3 b) (worked x) r.0) r.1) (dot-way (factor_at s at)) (λ r.
        factors-way most (two at Times x r.0) r.1
        ∙ ap (λ (v : Placed Form). way_chain s 3 most dot v r.1) (two_way at Times (operates 3 b) (times-operates b) x r.0)))
        refl

    product-way : (at : ℕ) → on_the_way (read_product names table s bracket at) ≡ way_level names table s way 3 true at
    unfolding read_product way_level most_of front_at isFront fronted
    product-way at =
        follow-way (read_dot names table s bracket at) (way_level names table s way 2 true at) (λ r. more_factors names table s (length s) bracket r.0 r.1)
        (λ r. way_chain s 3 (length s) (way_level names table s way 2 true) r.0 r.1) (dot-way at) (λ r. factors-way (length s) r.0 r.1)

    terms-way : (most : ℕ) (x : Tree) (at : ℕ)
        → on_the_way (more_terms names table s most bracket x at) ≡ way_chain s 4 most (way_level names table s way 3 true) (worked x) at
    unfolding more_terms way_chain goes_on operand_at on_the_way
    terms-way zero x at = refl
    terms-way (suc most) x at =
        let b = get_or s at 0 in
        let product = way_level names table s way 3 true in
        either_way_lem (is_sign b)
        (read_product names table s bracket (next s at) >>= (λ r. more_terms names table s most bracket (two at (signed b) x r.0) r.1)) (placed (x, at))
        (product (next s at) >>= (λ r. way_chain s 4 most product (join_at at (operates 4 b) (worked x) r.0) r.1)) (placed (worked x, at))
        (follow-way (read_product names table s bracket (next s at)) (product (next s at)) (λ r. more_terms names table s most bracket (two at (signed b) x r.0) r.1)
        (λ r. way_chain s 4 most product (join_at at (operates 4 b) (worked x) r.0) r.1) (product-way (next s at)) (λ r.
        terms-way most (two at (signed b) x r.0) r.1
        ∙ ap (λ (v : Placed Form). way_chain s 4 most product v r.1) (two_way at (signed b) (operates 4 b) (signed-operates b) x r.0)))
        refl

    sum-way : (at : ℕ) → on_the_way (read_sum names table s bracket at) ≡ way_level names table s way 4 true at
    unfolding read_sum read_first way_level most_of front_at fronted isFront is_sign turned_at turned_form on_the_way
    sum-way at = front (eqb (get_or s at 0) 45) (eqb (get_or s at 0) 43)
      where
        product : ℕ → Read
        product = read_product names table s bracket

        rest : Placed Form × ℕ → Way
        rest r = way_chain s 4 (length s) (way_level names table s way 3 true) r.0 r.1

        behind : Tree × ℕ → Read
        behind r = more_terms names table s (length s) bracket r.0 r.1

        turn : Placed Form × ℕ → Placed Form × ℕ
        turn r = (turned_form r.0, r.1)

        bound : (v : Way) → ((v >>= (λ r. placed (turn r))) >>= rest) ≡ (v >>= (λ r. rest (turn r)))
        bound (refused_at n c) = refl
        bound (placed r) = refl

        -- without a sign, or behind one that does nothing
        plain : (a : ℕ) → on_the_way (product a >>= behind) ≡ (way_level names table s way 3 true a >>= rest)
        plain a = follow-way (product a) (way_level names table s way 3 true a) behind rest (product-way a) (λ r. terms-way (length s) r.0 r.1)

        -- behind a minus
        turned-way : (a : ℕ) → on_the_way ((product a >>= turned_at at) >>= behind) ≡ (way_level names table s way 3 true a >>= (λ r. rest (turn r)))
        turned-way a =
            follow-way (product a >>= turned_at at) (way_level names table s way 3 true a >>= (λ r. placed (turn r))) behind rest
            (follow-way (product a) (way_level names table s way 3 true a) (turned_at at) (λ r. placed (turn r)) (product-way a)
            (λ r. ap (λ (v : Placed Form). placed (v, r.1)) (worked-turned at r.0)))
            (λ r. terms-way (length s) r.0 r.1)
            ∙ bound (way_level names table s way 3 true a)

        front : (minus plus : Bool) → on_the_way ((when minus then product (next s at) >>= turned_at at else when plus then product (next s at) else product at) >>= behind)
            ≡ (way_level names table s way 3 true (when plus || minus then next s at else at) >>= (λ r. rest (when minus then turned_form r.0 else r.0, r.1)))
        front true true = turned-way (next s at)
        front true false = turned-way (next s at)
        front false true = plain (next s at)
        front false false = plain at

  nested-way : (depth at : ℕ) → on_the_way (read_nested names table s depth at) ≡ way_nested names table s depth at
  unfolding read_nested way_nested on_the_way
  nested-way zero at = refl
  nested-way (suc depth) at =
      bracket-way (read_sum names table s (read_nested names table s depth)) (way_level names table s (way_nested names table s depth) 4 true)
      (sum-way (read_nested names table s depth) (way_nested names table s depth) (nested-way depth)) at

  whole-way : (r : Read) → ((r >>= whole_text s) >>= worked) ≡ (on_the_way r >>= way_whole s)
  unfolding whole_text way_whole on_the_way
  whole-way (refused_at n c) = refl
  whole-way (placed q) = go (leb (length s) q.1)
    where
      go : (b : Bool) → ((when b then placed q.0 else refused_at 4 q.1) >>= worked) ≡ (when b then worked q.0 else refused_at 4 q.1)
      go true = refl
      go false = refl

  -- the reader that works on the way gives the form of the text, or its refusal and column
  pub way_text_lem : way_text names table s ≡ text_form names table s
  unfolding way_text text_form read_text
  way_text_lem = go (leb (length s) 4096)
    where
      read : Read
      read = read_sum names table s (read_nested names table s 16) (skip s 0)

      way : Way
      way = way_level names table s (way_nested names table s 16) 4 true (skip s 0)

      same : on_the_way read ≡ way
      same = sum-way (read_nested names table s 16) (way_nested names table s 16) (nested-way 16) (skip s 0)

      go : (b : Bool) → (when b then way >>= way_whole s else refused_at 3 4096) ≡ ((when b then read >>= whole_text s else refused_at 3 4096) >>= worked)
      go true = ap (λ (w : Way). w >>= way_whole s) (sym same) ∙ sym (whole-way read)
      go false = refl
