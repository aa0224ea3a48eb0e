-- Refusals of a text: reading refuses with 3, 4 or 5, and every column, working's too, is at most the length of the text. Assumes nothing.
use Rattle.std.proofs.Math.Path.{◌≡◌}
use Rattle.std.specs.Prelude.{refl, Bool, not, ◌&&◌, ◌||◌, List, [], ◌∷◌, pos, T, eqb, ltb, leb}
use Rattle.std.proofs.Common.{sym, ◌∙◌, ap, subst, eqb→eq, ltb→lt, nltb→le}
use Rattle.std.proofs.Math.Bool.{true, false}
use Prim.Native.Nat.{ℕ, zero, suc, ◌+◌, ◌*◌, ◌-◌, ◌<◌, ◌≤◌}
use native.Mathlib.Omega.{arith}
use Rattle.std.proofs.Math.ListN.{length, get_or, get_or-eq_default}
use Rattle.std.proofs.Math.Dec.{leb→le, nleb→lt}
use Rattle.specification.specs.Results.{Result, refused, given, when◌then◌else◌}
use Rattle.specification.specs.Letters.{kind_of}
use Rattle.specification.specs.Terms.{Form}
use Rattle.specification.specs.Expressions.{Expr, Letter, Times, Dot, Wedge}
use Rattle.specification.specs.Reduction.{work}
use Rattle.specification.specs.Text.{Placed, refused_at, placed, ◌>>=◌, Tree, leaf, turned, two, three, plain, at_column, is_refused, blamed, worked, Read, past_blanks, skip, next, is_letter, is_digit, is_triple, is_factor, is_sign, signed, place_of, read_digits, read_name, read_number, read_triple, closed, read_bracket, read_atom, read_lead, read_second, read_pair, read_wedge, read_dot, factor_at, more_factors, read_product, more_terms, turned_at, read_first, read_sum, read_nested, whole_text, read_text, text_form}
use Rattle.theory.specs.Tests.{is_true, and_split}
use Rattle.theory.specs.Text.Pieces.{letter-from}

-- every column of a tree is at most n
unfoldable pub TreeWithin : (n : ℕ) → Tree → Type 0
TreeWithin n (leaf c e) = c ≤ n
TreeWithin n (turned c x) = (c ≤ n) × TreeWithin n x
TreeWithin n (two c op x y) = (c ≤ n) × TreeWithin n x × TreeWithin n y
TreeWithin n (three c x y z) = (c ≤ n) × TreeWithin n x × TreeWithin n y × TreeWithin n z

-- what reading gives: 3, 4 or 5 at a column, or a tree and a position, all at most n
unfoldable pub ReadWithin : (n : ℕ) → Read → Type 0
ReadWithin n (refused_at k c) = (3 ≤ k) × (k ≤ 5) × (c ≤ n)
ReadWithin n (placed r) = TreeWithin n r.0 × (r.1 ≤ n)

pick : (P : ℕ → Type 0) (b : Bool) (x y : ℕ) → P x → P y → P (when b then x else y)
pick P true x y h k = h
pick P false x y h k = k

-- the operator blamed is in the tree
blamed-within : (n : ℕ) (t : Tree) → TreeWithin n t → blamed t ≤ n
unfolding TreeWithin blamed
blamed-within n (leaf c e) h = h
blamed-within n (turned c x) h = blamed-within n x h.1
blamed-within n (two c op x y) h =
    pick (λ (m : ℕ). m ≤ n) (is_refused (work (plain x))) (blamed x) (when is_refused (work (plain y)) then blamed y else c) (blamed-within n x h.1)
    (pick (λ (m : ℕ). m ≤ n) (is_refused (work (plain y))) (blamed y) c (blamed-within n y h.2) h.0)
blamed-within n (three c x y z) h =
    pick (λ (m : ℕ). m ≤ n) (is_refused (work (plain x))) (blamed x) (when is_refused (work (plain y)) then blamed y else when is_refused (work (plain z)) then blamed z else c) (blamed-within n x h.1)
    (pick (λ (m : ℕ). m ≤ n) (is_refused (work (plain y))) (blamed y) (when is_refused (work (plain z)) then blamed z else c) (blamed-within n y h.2)
    (pick (λ (m : ℕ). m ≤ n) (is_refused (work (plain z))) (blamed z) c (blamed-within n z h.3) h.0))

either : (n : ℕ) (b : Bool) (r q : Read) → (T b → ReadWithin n r) → ReadWithin n q → ReadWithin n (when b then r else q)
either n true r q h k = h tt
either n false r q h k = k

follow : (n : ℕ) (r : Read) (k : Tree × ℕ → Read) → ReadWithin n r → ((q : Tree × ℕ) → TreeWithin n q.0 → q.1 ≤ n → ReadWithin n (k q)) → ReadWithin n (r >>= k)
unfolding ReadWithin
follow n (refused_at m c) k h f = h
follow n (placed q) k h f = f q h.0 h.1

torn : (n at : ℕ) → at ≤ n → ReadWithin n (refused_at 4 at)
unfolding ReadWithin
torn n at h = (omega arith, omega arith, h)

module _ (s : List ℕ) where
  -- a byte that is not 0 stands in the text
  pub there : (at : ℕ) → 1 ≤ get_or s at 0 → at < length s
  there at h = go (ltb at (length s)) (ltb→lt at (length s)) (nltb→le at (length s))
    where
      go : (t : Bool) → (T t → at < length s) → (T (not t) → length s ≤ at) → at < length s
      go true f g = f tt
      go false f g = absurd (omega (arith, get_or-eq_default s 0 (g tt)))

  pub there-byte : (at b : ℕ) → 1 ≤ b → T (eqb (get_or s at 0) b) → at < length s
  there-byte at b h t = let e = eqb→eq (get_or s at 0) b t in there at (omega arith)

  -- a letter stands in the text
  pub there-letter : (at : ℕ) → T (is_letter (get_or s at 0)) → at < length s
  there-letter at t = let h = letter-from (get_or s at 0) (is_true (is_letter (get_or s at 0)) t) in there at (omega arith)

  pub there-digit : (at : ℕ) → T (is_digit (get_or s at 0)) → at < length s
  unfolding is_digit
  there-digit at t = let h = leb→le 48 (get_or s at 0) (and_split (leb 48 (get_or s at 0)) (leb (get_or s at 0) 57) t).0 in there at (omega arith)

  there-either : (at : ℕ) (a b : Bool) → (T a → at < length s) → (T b → at < length s) → T (a || b) → at < length s
  there-either at true b f g t = f tt
  there-either at false b f g t = g t

  there-factor : (at : ℕ) → T (is_factor (get_or s at 0)) → at < length s
  unfolding is_factor
  there-factor at t =
      let b = get_or s at 0 in
      there-either at (eqb b 42 || is_letter b) (eqb b 40) (there-either at (eqb b 42) (is_letter b) (there-byte at 42 (omega arith)) (there-letter at))
      (there-byte at 40 (omega arith)) t

  there-sign : (at : ℕ) → T (is_sign (get_or s at 0)) → at < length s
  unfolding is_sign
  there-sign at t = there-either at (eqb (get_or s at 0) 43) (eqb (get_or s at 0) 45) (there-byte at 43 (omega arith)) (there-byte at 45 (omega arith)) t

  blanks-within : (most at : ℕ) → at ≤ length s → past_blanks most s at ≤ length s
  unfolding past_blanks
  blanks-within zero at h = h
  blanks-within (suc most) at h = go (eqb (get_or s at 0) 32) (there-byte at 32 (omega arith)) (λ l. blanks-within most (at + 1) (omega arith))
    where
      go : (b : Bool) → (T b → at < length s) → (at < length s → past_blanks most s (at + 1) ≤ length s) → (when b then past_blanks most s (at + 1) else at) ≤ length s
      go true f g = g (f tt)
      go false f g = h

  pub skip_within : (at : ℕ) → at ≤ length s → skip s at ≤ length s
  unfolding skip
  skip_within at h = blanks-within (length s) at h

  pub next_within : (at : ℕ) → at < length s → next s at ≤ length s
  unfolding next
  next_within at h = skip_within (at + 1) (omega arith)

  digits-within : (most v at : ℕ) → at ≤ length s → (read_digits most v s at).1 ≤ length s
  unfolding read_digits
  digits-within zero v at h = h
  digits-within (suc most) v at h = go (is_digit (get_or s at 0)) (there-digit at) (λ l. digits-within most (v * 10 + (get_or s at 0 - 48)) (at + 1) (omega arith))
    where
      go : (b : Bool) → (T b → at < length s) → (at < length s → (read_digits most (v * 10 + (get_or s at 0 - 48)) s (at + 1)).1 ≤ length s)
          → (when b then read_digits most (v * 10 + (get_or s at 0 - 48)) s (at + 1) else (v, at)).1 ≤ length s
      go true f g = g (f tt)
      go false f g = h

  module _ (names table : List ℕ) where
    -- a name, and what comes behind it
    name-then : (at : ℕ) (k : Tree × ℕ → Read) → at ≤ length s → (TreeWithin (length s) (leaf at (Letter (place_of names (get_or s at 0)) (kind_of table (place_of names (get_or s at 0))))) → ReadWithin (length s) (k (leaf at (Letter (place_of names (get_or s at 0)) (kind_of table (place_of names (get_or s at 0)))), next s at)))
        → ReadWithin (length s) (read_name names table s at >>= k)
    unfolding read_name ReadWithin TreeWithin
    name-then at k h f = go (ltb (place_of names (get_or s at 0)) (length names))
      where
        go : (b : Bool) → ReadWithin (length s) ((when b then placed (leaf at (Letter (place_of names (get_or s at 0)) (kind_of table (place_of names (get_or s at 0)))), next s at) else refused_at 5 at) >>= k)
        go true = f h
        go false = (omega arith, omega arith, h)

    name-within : (at : ℕ) → at < length s → ReadWithin (length s) (read_name names table s at)
    unfolding read_name ReadWithin TreeWithin
    name-within at h = go (ltb (place_of names (get_or s at 0)) (length names))
      where
        go : (b : Bool) → ReadWithin (length s) (when b then placed (leaf at (Letter (place_of names (get_or s at 0)) (kind_of table (place_of names (get_or s at 0)))), next s at) else refused_at 5 at)
        go true = (omega arith, next_within at h)
        go false = (omega arith, omega arith, omega arith)

    number-within : (at : ℕ) → at ≤ length s → ReadWithin (length s) (read_number s at)
    unfolding read_number ReadWithin TreeWithin
    number-within at h = (h, skip_within (read_digits (length s) 0 s at).1 (digits-within (length s) 0 at h))

    triple-within : (at : ℕ) → at < length s → T (is_triple s (next s at)) → ReadWithin (length s) (read_triple names table s at)
    unfolding read_triple is_triple ReadWithin TreeWithin
    triple-within at h t =
        let p = next s at in
        let q = next s p in
        let r = next s q in
        let w₃ = and_split (is_letter (get_or s p 0) && is_letter (get_or s q 0) && is_letter (get_or s r 0)) (eqb (get_or s (next s r) 0) 41) t in
        let w₂ = and_split (is_letter (get_or s p 0) && is_letter (get_or s q 0)) (is_letter (get_or s r 0)) w₃.0 in
        let w₁ = and_split (is_letter (get_or s p 0)) (is_letter (get_or s q 0)) w₂.0 in
        let hp = there-letter p w₁.0 in
        let hq = there-letter q w₁.1 in
        let hr = there-letter r w₂.1 in
        name-then p _ (omega arith) (λ a. name-then q _ (omega arith) (λ b. name-then r _ (omega arith) (λ c. ((omega arith, a, b, c), next_within (next s r) (there-byte (next s r) 41 (omega arith) w₃.1)))))

    closed-within : (q : Tree × ℕ) → TreeWithin (length s) q.0 → q.1 ≤ length s → ReadWithin (length s) (closed s q)
    unfolding closed ReadWithin
    closed-within q h k =
        either (length s) (eqb (get_or s q.1 0) 41) (placed (q.0, next s q.1)) (refused_at 4 q.1) (λ t. (h, next_within q.1 (there-byte q.1 41 (omega arith) t))) (torn (length s) q.1 k)

    bracket-within : (sum : ℕ → Read) → ((at : ℕ) → at ≤ length s → ReadWithin (length s) (sum at)) → (at : ℕ) → at < length s → ReadWithin (length s) (read_bracket names table s sum at)
    unfolding read_bracket
    bracket-within sum f at h =
        either (length s) (is_triple s (next s at)) (read_triple names table s at) (sum (next s at) >>= closed s) (triple-within at h)
        (follow (length s) (sum (next s at)) (closed s) (f (next s at) (next_within at h)) closed-within)

    module _ (bracket : ℕ → Read) (inner : (at : ℕ) → at < length s → ReadWithin (length s) (bracket at)) where
      atom-within : (at : ℕ) → at ≤ length s → ReadWithin (length s) (read_atom names table s bracket at)
      unfolding read_atom
      atom-within at h =
          let b = get_or s at 0 in
          either (length s) (is_letter b) (read_name names table s at) _ (λ t. name-within at (there-letter at t))
          (either (length s) (eqb b 40) (bracket at) (refused_at 4 at) (λ t. inner at (there-byte at 40 (omega arith) t)) (torn (length s) at h))

      lead-within : (at : ℕ) → at ≤ length s → ReadWithin (length s) (read_lead names table s bracket at)
      unfolding read_lead
      lead-within at h =
          either (length s) (is_digit (get_or s at 0)) (read_number s at) (read_atom names table s bracket at) (λ t. number-within at h) (atom-within at h)

      -- a reader whose columns and position are in the text
      abbrev Within : (ℕ → Read) → Type 0
      Within f = (at : ℕ) → at ≤ length s → ReadWithin (length s) (f at)

      pair-within : (mark : ℕ) (op : Expr → Expr → Expr) (left right : ℕ → Read) → 1 ≤ mark → Within left → Within right → Within (read_pair s mark op left right)
      unfolding read_pair read_second ReadWithin TreeWithin
      pair-within mark op left right m f g at h =
          follow (length s) (left at) (read_second s mark op right) (f at h) (λ q t k.
          either (length s) (eqb (get_or s q.1 0) mark) (right (next s q.1) >>= (λ r. placed (two q.1 op q.0 r.0, r.1))) (placed q)
          (λ o. follow (length s) (right (next s q.1)) (λ r. placed (two q.1 op q.0 r.0, r.1))
          (g (next s q.1) (next_within q.1 (there-byte q.1 mark m o))) (λ r u l. ((k, t, u), l)))
          (t, k))

      wedge-within : (left : ℕ → Read) → Within left → Within (read_wedge names table s bracket left)
      unfolding read_wedge
      wedge-within left f = pair-within 94 Wedge left (read_atom names table s bracket) (omega arith) f atom-within

      dot-within : (at : ℕ) → at ≤ length s → ReadWithin (length s) (read_dot names table s bracket at)
      unfolding read_dot
      dot-within =
          let atom = read_atom names table s bracket in
          let lead = read_lead names table s bracket in
          pair-within 46 Dot (read_wedge names table s bracket lead) (read_wedge names table s bracket atom) (omega arith) (wedge-within lead lead-within)
          (wedge-within atom atom-within)

      factor-within : (at : ℕ) → at < length s → factor_at s at ≤ length s
      unfolding factor_at
      factor-within at h = pick (λ (m : ℕ). m ≤ length s) (eqb (get_or s at 0) 42) (next s at) at (next_within at h) (omega arith)

      factors-within : (most : ℕ) (x : Tree) (at : ℕ) → TreeWithin (length s) x → at ≤ length s → ReadWithin (length s) (more_factors names table s most bracket x at)
      unfolding more_factors ReadWithin TreeWithin
      factors-within zero x at t h = (t, h)
      factors-within (suc most) x at t h =
          either (length s) (is_factor (get_or s at 0)) (read_dot names table s bracket (factor_at s at) >>= (λ r. more_factors names table s most bracket (two at Times x r.0) r.1)) (placed (x, at))
          (λ o. follow (length s) (read_dot names table s bracket (factor_at s at)) (λ r. more_factors names table s most bracket (two at Times x r.0) r.1)
          (dot-within (factor_at s at) (factor-within at (there-factor at o))) (λ r u l. factors-within most (two at Times x r.0) r.1 (h, t, u) l))
          (t, h)

      product_within : (at : ℕ) → at ≤ length s → ReadWithin (length s) (read_product names table s bracket at)
      unfolding read_product
      product_within at h =
          follow (length s) (read_dot names table s bracket at) (λ r. more_factors names table s (length s) bracket r.0 r.1) (dot-within at h) (λ r t k. factors-within (length s) r.0 r.1 t k)

      terms_within : (most : ℕ) (x : Tree) (at : ℕ) → TreeWithin (length s) x → at ≤ length s → ReadWithin (length s) (more_terms names table s most bracket x at)
      unfolding more_terms ReadWithin TreeWithin
      terms_within zero x at t h = (t, h)
      terms_within (suc most) x at t h =
          either (length s) (is_sign (get_or s at 0)) (read_product names table s bracket (next s at) >>= (λ r. more_terms names table s most bracket (two at (signed (get_or s at 0)) x r.0) r.1)) (placed (x, at))
          (λ o. follow (length s) (read_product names table s bracket (next s at)) (λ r. more_terms names table s most bracket (two at (signed (get_or s at 0)) x r.0) r.1)
          (product_within (next s at) (next_within at (there-sign at o))) (λ r u l. terms_within most (two at (signed (get_or s at 0)) x r.0) r.1 (h, t, u) l))
          (t, h)

      first_within : (at : ℕ) → at ≤ length s → ReadWithin (length s) (read_first names table s bracket at)
      unfolding read_first turned_at ReadWithin TreeWithin
      first_within at h =
          either (length s) (eqb (get_or s at 0) 45) (read_product names table s bracket (next s at) >>= turned_at at) _
          (λ o. follow (length s) (read_product names table s bracket (next s at)) (turned_at at) (product_within (next s at) (next_within at (there-byte at 45 (omega arith) o))) (λ r u l. ((h, u), l)))
          (either (length s) (eqb (get_or s at 0) 43) (read_product names table s bracket (next s at)) (read_product names table s bracket at)
          (λ o. product_within (next s at) (next_within at (there-byte at 43 (omega arith) o))) (product_within at h))

      sum-within : (at : ℕ) → at ≤ length s → ReadWithin (length s) (read_sum names table s bracket at)
      unfolding read_sum
      sum-within at h =
          follow (length s) (read_first names table s bracket at) (λ r. more_terms names table s (length s) bracket r.0 r.1) (first_within at h) (λ r t k. terms_within (length s) r.0 r.1 t k)

    -- parentheses, however deep
    nested-within : (depth at : ℕ) → at < length s → ReadWithin (length s) (read_nested names table s depth at)
    unfolding read_nested ReadWithin
    nested-within zero at h = (omega arith, omega arith, omega arith)
    nested-within (suc depth) at h = bracket-within (read_sum names table s (read_nested names table s depth)) (sum-within (read_nested names table s depth) (nested-within depth)) at h

    -- a text: 3, 4 or 5 at a column of the text, or a tree with columns of the text
    unfoldable pub TextWithin : Placed Tree → Type 0
    TextWithin (refused_at n c) = (3 ≤ n) × (n ≤ 5) × (c ≤ length s)
    TextWithin (placed t) = TreeWithin (length s) t

    whole_within : (r : Read) → ReadWithin (length s) r → TextWithin (r >>= whole_text s)
    unfolding ReadWithin TextWithin whole_text
    whole_within (refused_at n c) h = h
    whole_within (placed q) h = go (leb (length s) q.1)
      where
        go : (b : Bool) → TextWithin (when b then placed q.0 else refused_at 4 q.1)
        go true = h.0
        go false = (omega arith, omega arith, h.1)

    pub text-within : TextWithin (read_text names table s)
    unfolding read_text TextWithin
    text-within =
        go (leb (length s) 4096) (nleb→lt (length s) 4096) (whole_within (read_sum names table s (read_nested names table s 16) (skip s 0)) (sum-within (read_nested names table s 16) (nested-within 16) (skip s 0) (skip_within 0 (omega arith))))
      where
        go : (b : Bool) → (T (not b) → 4096 < length s) → TextWithin (read_sum names table s (read_nested names table s 16) (skip s 0) >>= whole_text s)
            → TextWithin (when b then read_sum names table s (read_nested names table s 16) (skip s 0) >>= whole_text s else refused_at 3 4096)
        go true f h = h
        go false f h = let l = f tt in (omega arith, omega arith, omega arith)

    -- every refusal of a text, working's too, is at a column of the text
    pub column_within : (n c : ℕ) → text_form names table s ≡ refused_at n c → c ≤ length s
    unfolding text_form worked at_column TextWithin
    column_within n c e = go (read_text names table s) text-within e
      where
        same : (m d : ℕ) → ◌≡◌ {A = Placed Form} (refused_at m d) (refused_at n c) → d ≡ c
        same m d q = cc

        at : (d : ℕ) (r : Result Form) → at_column d r ≡ refused_at n c → d ≡ c
        at d (refused m) q = same m d q
        at d (given f) q = let z : ◌≡◌ {A = ℕ} 0 1 = cc in absurd (omega (arith, z))

        go : (r : Placed Tree) → TextWithin r → (r >>= worked) ≡ refused_at n c → c ≤ length s
        go (refused_at m d) h q = let z = same m d q in omega (arith, h.2)
        go (placed t) h q = let z = at (blamed t) (work (plain t)) q in omega (arith, blamed-within (length s) t h)
