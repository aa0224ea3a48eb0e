-- One level of the reader: an operand of the level below, and the operators behind it; what stands in parentheses. Assumes nothing.
use mathlib.Core.Path.{◌≡◌, refl, sym, ◌∙◌, ap, subst}
use mathlib.Core.Bool.{Bool, true, false, ◌&&◌}
use mathlib.Core.List.{List}
use Prim.Native.Nat.{ℕ, zero, suc, ◌-◌, ◌≤◌, ◌<◌}
use native.Mathlib.Omega.{arith}
use native.Mathlib.Numerals.{sub-one}
use borrow.Author.Tests.{eq-eqb, ne_eqb}
use lib.Dec.{leb}
use lib.IntN.{ℤ}
use lib.ListN.{length, get_or}
use Rattle.specification.specs.Results.{when◌then◌else◌}
use Rattle.specification.specs.Terms.{Form}
use Rattle.specification.specs.Text.{Placed, placed, ◌>>=◌, at_column, is_letter, is_digit, is_triple, next}
use Rattle.theory.specs.Text.OnTheWay.{Way, join_at, goes_on, most_of, operates, fronted, operand_at, front_at, way_chain, way_number, way_name, way_triple, way_bracket, way_closed}
use Rattle.theory.specs.Text.OnTheWay.{way_atom, way_level, way_nested}
use Rattle.theory.specs.Text.Turns.{byte-there}
use Rattle.formulas.specs.declared.joining.Reading.{Reading}
use Rattle.std.specs.Prelude.{Ok, Err}
use Rattle.std.specs.Prelude as Std
use Rattle.refusal.specs.declared.Refusal.TheVariants.{TooLong, Torn}
use Rattle.texts.specs.declared.Unread.{Unread}
use Rattle.formulas.specs.declared.atoms.Name.{Name}
use Rattle.formulas.specs.Readings.{worked_at, Read, WayGives, Joined, Fronted, NameRead, ClosedAs}
use Rattle.formulas.proofs.Results.{gives_refused, gives_read, gives_as, then_refused, then_read}

-- a level that is not 0
pub some_level : (level : ℕ) → (level ≡ 0 → ⊥) → 1 ≤ level
some_level level n = omega arith

-- an operator stands here
pub goes-here : (s : List ℕ) (level at : ℕ) {b : ℕ} {t : Bool} → b ≡ get_or s at 0 → t ≡ goes_on level b → t ≡ true → goes_on level (get_or s at 0) ≡ true
goes-here s level at p q e = ap (goes_on level) (sym p) ∙ sym q ∙ e

-- one operator more may be read
pub some_operator : (most k : ℕ) {end : ℕ} → k < end → end ≡ most → 0 < most - k
some_operator most k h e = omega arith

-- ════ operators of a level

module _ (s : List ℕ) (level : ℕ) (operand : ℕ → Way) where
  -- none stands here
  chain_none : (left : ℕ) (v : Placed Form) (at : ℕ) → goes_on level (get_or s at 0) ≡ false → way_chain s level left operand v at ≡ placed (v, at)
  unfolding way_chain
  chain_none zero v at e = refl
  chain_none (suc left) v at e = rw e

  -- one stands here, and one more may
  chain_one : (left : ℕ) (v : Placed Form) (at : ℕ) → 0 < left → goes_on level (get_or s at 0) ≡ true
      → way_chain s level left operand v at
      ≡ (operand (operand_at s level at) >>= (λ r. way_chain s level (left - 1) operand (join_at at (operates level (get_or s at 0)) v r.0) r.1))
  unfolding way_chain
  chain_one zero v at h e = absurd (omega arith)
  chain_one (suc left) v at h e = rw (e, sub-one)

  module _ (a : Reading) (rows : List (List ℕ)) (coefs : List ℤ) (h : Read a rows coefs) where
    -- what stands before the operators of the level
    abbrev before : ℕ → Way
    before left = way_chain s level left operand (worked_at a.work a.column rows coefs) a.next

    -- it is all
    pub chain-stops : (left b : ℕ) (t : Bool) → b ≡ get_or s a.next 0 → t ≡ goes_on level b → t ≡ false → WayGives (before left) (Ok a) rows coefs
    chain-stops left b t p q e =
        gives_read (before left) _ a.next a rows coefs (chain_none left _ a.next (ap (goes_on level) (sym p) ∙ sym q ∙ e)) refl refl h

    -- no more are read
    pub chain-ends : (left : ℕ) → left ≤ 0 → WayGives (before left) (Ok a) rows coefs
    unfolding way_chain
    chain-ends left z =
        let e : left ≡ 0 = omega arith in
        gives_read (before left) _ a.next a rows coefs (ap (λ (n : ℕ). before n) e) refl refl h

    module _ (left b second : ℕ) (t : Bool) (some : 0 < left) (p : b ≡ get_or s a.next 0) (q : t ≡ goes_on level b) (e : t ≡ true) (at : second ≡ operand_at s level a.next)
        (right : List (List ℕ)) (rights : List ℤ) where
      goes : goes_on level (get_or s a.next 0) ≡ true
      goes = ap (goes_on level) (sym p) ∙ sym q ∙ e

      here : (y : Std.Result Reading Unread) → WayGives (operand second) y right rights → WayGives (operand (operand_at s level a.next)) y right rights
      here y g = subst (λ (n : ℕ). WayGives (operand n) y right rights) at g

      -- its right operand is not read
      pub chain_refused : (u : Unread) → WayGives (operand second) (Err u) right rights → (rows' : List (List ℕ)) (coefs' : List ℤ) → WayGives (before left) (Err u) rows' coefs'
      chain_refused u g rows' coefs' = gives_as _ _ _ rows' coefs' (chain_one left _ a.next some goes) (then_refused _ u right rights (here _ g) _ rows' coefs')

      -- it is joined, and the rest goes on
      pub chain-joined : (y r : Reading) (rows' : List (List ℕ)) (coefs' : List ℤ) → WayGives (operand second) (Ok y) right rights
          → Joined level b a rows coefs y right rights r rows' coefs'
          → before left ≡ way_chain s level (left - 1) operand (worked_at r.work r.column rows' coefs') r.next
      chain-joined y r rows' coefs' g j =
          chain_one left _ a.next some goes
          ∙ then_read _ y right rights (here _ g) _
          ∙ ap (λ (c : ℕ). way_chain s level (left - 1) operand
          (join_at a.next (operates level c) (worked_at a.work a.column rows coefs) (worked_at y.work y.column right rights)) y.next) (sym p)
          ∙ (λ i. way_chain s level (left - 1) operand (sym j.is i) (sym j.next i))

-- the loop over operators: what is left to be read behind what was read is the whole; what was read is a form in shape
pub record ChainAt (s : List ℕ) (level : ℕ) (operand : ℕ → Way) (first : Way) (a : Reading) (rows : List (List ℕ)) (coefs : List ℤ) (left : ℕ) : Type 0 where
  pub same : first ≡ way_chain s level left operand (worked_at a.work a.column rows coefs) a.next
  pub read : Read a rows coefs

-- ════ a level

module _ (names table s : List ℕ) (bracket : ℕ → Way) (level : ℕ) (number : Bool) (at : ℕ) where
  -- the lowest
  pub level-atom : (r : Std.Result Reading Unread) (rows : List (List ℕ)) (coefs : List ℤ) → level ≡ 0 → WayGives (way_atom names table s bracket number at) r rows coefs
      → WayGives (way_level names table s bracket level number at) r rows coefs
  unfolding way_level
  level-atom r rows coefs e h = gives_as _ _ r rows coefs (ap (λ (l : ℕ). way_level names table s bracket l number at) e) h

  -- the operators of the level behind an operand
  abbrev behind : Placed Form × ℕ → Way
  behind r = way_chain s level (most_of level (length s)) (way_level names table s bracket (level - 1) (leb 3 level)) (fronted level (get_or s at 0) r.0) r.1

  level-up : (level ≡ 0 → ⊥) → way_level names table s bracket level number at ≡ (way_level names table s bracket (level - 1) number (front_at s level at) >>= behind)
  unfolding way_level
  level-up n = up level n
    where
      up : (l : ℕ) → (l ≡ 0 → ⊥) → way_level names table s bracket l number at
          ≡ (way_level names table s bracket (l - 1) number (front_at s l at)
          >>= (λ r. way_chain s l (most_of l (length s)) (way_level names table s bracket (l - 1) (leb 3 l)) (fronted l (get_or s at 0) r.0) r.1))
      up zero n = absurd (n refl)
      up (suc k) n =
          λ i. way_level names table s bracket (sym (sub-one (suc k)) i) number (front_at s (suc k) at)
          >>= (λ r. way_chain s (suc k) (most_of (suc k) (length s)) (way_level names table s bracket (sym (sub-one (suc k)) i) (leb 3 (suc k))) (fronted (suc k) (get_or s at 0) r.0) r.1)

  module _ (n : level ≡ 0 → ⊥) (start : ℕ) (hs : start ≡ front_at s level at) (rows : List (List ℕ)) (coefs : List ℤ) where
    first : (x : Std.Result Reading Unread) → WayGives (way_level names table s bracket (level - 1) number start) x rows coefs
        → WayGives (way_level names table s bracket (level - 1) number (front_at s level at)) x rows coefs
    first x hx = subst (λ (k : ℕ). WayGives (way_level names table s bracket (level - 1) number k) x rows coefs) hs hx

    -- the operand is not read
    pub level-unread : (e : Unread) → WayGives (way_level names table s bracket (level - 1) number start) (Err e) rows coefs
        → WayGives (way_level names table s bracket level number at) (Err e) rows coefs
    level-unread e hx = gives_as _ _ _ rows coefs (level-up n) (then_refused _ e rows coefs (first _ hx) behind rows coefs)

    module _ (x : Reading) (hx : WayGives (way_level names table s bracket (level - 1) number start) (Ok x) rows coefs)
        (b : ℕ) (hb : b ≡ get_or s at 0) (coefs' : List ℤ) (f : Fronted level b x rows coefs coefs') where
      level_read : way_level names table s bracket level number at
          ≡ way_chain s level (most_of level (length s)) (way_level names table s bracket (level - 1) (leb 3 level)) (worked_at x.work x.column rows coefs') x.next
      level_read =
          level-up n
          ∙ then_read _ x rows coefs (first _ hx) behind
          ∙ ap (λ (c : ℕ). way_chain s level (most_of level (length s)) (way_level names table s bracket (level - 1) (leb 3 level))
          (fronted level c (worked_at x.work x.column rows coefs)) x.next) (sym hb)
          ∙ (λ i. way_chain s level (most_of level (length s)) (way_level names table s bracket (level - 1) (leb 3 level)) (sym f.is i) x.next)

      -- no operator of the level behind it
      pub level-alone : (c : ℕ) (t : Bool) → c ≡ get_or s x.next 0 → t ≡ goes_on level c → t ≡ false
          → WayGives (way_level names table s bracket level number at) (Ok x) rows coefs'
      level-alone c t p q e = gives_as _ _ _ rows coefs' level_read (chain-stops s level _ x rows coefs' f.read _ c t p q e)

      -- operators behind it
      pub level-chain : (r : Std.Result Reading Unread) (rows' : List (List ℕ)) (coefs'' : List ℤ)
          → WayGives (way_chain s level (most_of level (length s)) (way_level names table s bracket (level - 1) (leb 3 level))
          (worked_at x.work x.column rows coefs') x.next) r rows' coefs''
          → WayGives (way_level names table s bracket level number at) r rows' coefs''
      level-chain r rows' coefs'' h = gives_as _ _ r rows' coefs'' level_read h

-- ════ a name, a number or parentheses

module _ (names table s : List ℕ) (depth : ℕ) (number : Bool) (at b : ℕ) (digit : Bool) (hb : b ≡ get_or s at 0) (hd : digit ≡ (number && is_digit b)) where
  -- what stands here
  abbrev atom : Way
  atom = way_atom names table s (way_nested names table s depth) number at

  digit_is : (number && is_digit (get_or s at 0)) ≡ digit
  digit_is = ap (λ (c : ℕ). number && is_digit c) (sym hb) ∙ sym hd

  -- a number
  pub atom-number : (r : Std.Result Reading Unread) (rows : List (List ℕ)) (coefs : List ℤ) → digit ≡ true → WayGives (way_number s at) r rows coefs
      → WayGives atom r rows coefs
  unfolding way_atom
  atom-number r rows coefs e h = gives_as _ _ r rows coefs (rw (digit_is ∙ e)) h

  module _ (d : digit ≡ false) (letter : Bool) (hl : letter ≡ is_letter b) where
    letter_is : is_letter (get_or s at 0) ≡ letter
    letter_is = ap is_letter (sym hb) ∙ sym hl

    name_is : letter ≡ true → atom ≡ way_name names table s at
    unfolding way_atom
    name_is e = rw (digit_is ∙ d, letter_is ∙ e)

    -- a name that is not declared
    pub atom-unread : (e : Unread) (rows : List (List ℕ)) (coefs : List ℤ) → letter ≡ true → NameRead (way_name names table s at) (Err e) rows coefs
        → WayGives atom (Err e) rows coefs
    atom-unread e rows coefs l h = gives_refused atom e rows coefs (name_is l ∙ h.is)

    -- a name
    pub atom-name : (n : Name) (rows : List (List ℕ)) (coefs : List ℤ) → letter ≡ true → NameRead (way_name names table s at) (Ok n) rows coefs
        → WayGives atom (Ok (record { column = at; next = n.next; work = Ok n.work })) rows coefs
    unfolding at_column
    atom-name n rows coefs l h = gives_read atom _ n.next _ rows coefs (name_is l ∙ h.is) refl refl (record { form = h.formed.form })

    module _ (l : letter ≡ false) where
      -- something else
      pub atom-torn : (rows : List (List ℕ)) (coefs : List ℤ) → (b ≡ 40 → ⊥) → WayGives atom (Err (record { why = Torn; column = at })) rows coefs
      unfolding way_atom
      atom-torn rows coefs n = gives_refused atom _ rows coefs (rw (digit_is ∙ d, letter_is ∙ l, ne_eqb (get_or s at 0) 40 (λ z. n (hb ∙ z))))

      module _ (m : b ≡ 40) where
        nested : atom ≡ way_nested names table s depth at
        unfolding way_atom
        nested = rw (digit_is ∙ d, letter_is ∙ l, eq-eqb (get_or s at 0) 40 (sym hb ∙ m))

        -- no depth is left
        pub atom-deep : (rows : List (List ℕ)) (coefs : List ℤ) → depth ≡ 0 → WayGives atom (Err (record { why = TooLong; column = at })) rows coefs
        unfolding way_nested
        atom-deep rows coefs z = gives_refused atom _ rows coefs (nested ∙ ap (λ (k : ℕ). way_nested names table s k at) z)

        -- the parenthesis is inside the text
        pub bracket-inside : at < length s
        bracket-inside = byte-there s at 39 (sym hb ∙ m)

        module _ (deep : depth ≡ 0 → ⊥) (inner : ℕ) (three : Bool) (hi : inner ≡ next s at) (ht : three ≡ is_triple s inner) where
          three_is : is_triple s (next s at) ≡ three
          three_is = ap (is_triple s) (sym hi) ∙ sym ht

          opened : atom ≡ way_bracket names table s (way_level names table s (way_nested names table s (depth - 1)) 4 true) at
          unfolding way_nested
          opened = nested ∙ enter depth deep
            where
              enter : (d : ℕ) → (d ≡ 0 → ⊥) → way_nested names table s d at ≡ way_bracket names table s (way_level names table s (way_nested names table s (d - 1)) 4 true) at
              enter zero n = absurd (n refl)
              enter (suc d) n = λ i. way_bracket names table s (way_level names table s (way_nested names table s (sym (sub-one (suc d)) i)) 4 true) at

          -- a triple
          pub atom-triple : (r : Std.Result Reading Unread) (rows : List (List ℕ)) (coefs : List ℤ) → three ≡ true → WayGives (way_triple names table s at) r rows coefs
              → WayGives atom r rows coefs
          unfolding way_bracket
          atom-triple r rows coefs e h = gives_as _ _ r rows coefs (opened ∙ rw (three_is ∙ e)) h

          -- it is one
          pub atom-is_triple : three ≡ true → is_triple s (next s at) ≡ true
          atom-is_triple e = three_is ∙ e

          module _ (two : three ≡ false) where
            group_is : atom ≡ (way_level names table s (way_nested names table s (depth - 1)) 4 true inner >>= way_closed s)
            unfolding way_bracket
            group_is =
                opened
                ∙ (λ i. when (three_is ∙ two) i then way_triple names table s at
                else way_level names table s (way_nested names table s (depth - 1)) 4 true (next s at) >>= way_closed s)
                ∙ ap (λ (p : ℕ). way_level names table s (way_nested names table s (depth - 1)) 4 true p >>= way_closed s) (sym hi)

            -- a sum, and what stands behind it; or what is not read
            pub atom-group : (r q : Std.Result Reading Unread) (rows : List (List ℕ)) (coefs : List ℤ)
                → WayGives (way_level names table s (way_nested names table s (depth - 1)) 4 true inner) r rows coefs → ClosedAs s r q → WayGives atom q rows coefs
            atom-group r q rows coefs h k = gives_as _ _ q rows coefs group_is (k.is _ rows coefs h)
