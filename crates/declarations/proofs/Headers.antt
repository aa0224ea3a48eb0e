-- The lines in front of a text that declare names, one after the other. Assumes nothing.
use mathlib.Core.Path.{◌≡◌, refl, sym, ◌∙◌, ap, subst}
use mathlib.Core.Bool.{Bool, true, false, true≢false, not, ◌||◌}
use mathlib.Core.List.{List, []}
use Prim.Native.Nat.{ℕ, zero, suc, ◌+◌, ◌-◌, ◌≤◌, ◌<◌}
use native.Mathlib.Omega.{arith}
use native.Mathlib.Numerals.{sub-one}
use borrow.Author.Tests.{le-leb, lt-leb}
use lib.Dec.{leb, ltb, ltb→lt, nltb→le, T}
use lib.ListN.{length, take, drop, drop_of_length-le}
use lib.Seq.{length-take-le}
use Rattle.std.specs.Prelude.{Ok, Err}
use Rattle.std.specs.Prelude as Std
use Rattle.specification.specs.Results.{when◌then◌else◌}
use Rattle.specification.specs.Words.{bytes}
use Rattle.specification.specs.Text.{Placed, refused_at, placed, past_blanks, skip}
use Rattle.specification.specs.Lines as L
use Rattle.specification.specs.Lines.{first_line, line_of, next_line, to_line, Lined, refused_in, lined, in_line, ◌>>>◌, Named, same_bytes, is_word_at, is_declaration, declared}
use Rattle.specification.specs.Lines.{read_declared, some_names, read_header}
use Rattle.texts.specs.declared.Unread.{Unread}
use Rattle.lines.specs.declared.places.Place.{Place}
use Rattle.lines.specs.declared.places.UnreadLine.{UnreadLine}
use Rattle.lines.specs.Places.{place_of, Inside, Reached}
use Rattle.declarations.specs.declared.Header.{Header}
use Rattle.declarations.specs.Names.{named_of, NamesRead, LineRead, SomeNames, HeaderRead}

-- nothing declares no names
no_declaration : is_declaration (first_line []) ≡ false
unfolding is_declaration first_line is_word_at same_bytes bytes skip past_blanks
no_declaration = refl

-- one line more
one_line : (left : ℕ) (p : L.Place) (n : Named) (t : Bool) → 0 < left → t ≡ is_declaration (line_of p)
    → read_declared left p n ≡ (when t then in_line p (declared (line_of p) n) >>> (λ m. read_declared (left - 1) (to_line (next_line p)) m) else lined (n, p))
unfolding read_declared
one_line zero p n t h e = absurd (omega arith)
one_line (suc left) p n t h e = rw (← e, sub-one (suc left))

-- a line that declares names is not behind the text
pub declares-inside : (s : List ℕ) (p : Place) (t : Bool) → t ≡ is_declaration (line_of (place_of s p)) → t ≡ true → p.at < length s
declares-inside s p t q e = go (ltb p.at (length s)) (ltb→lt p.at (length s)) (nltb→le p.at (length s))
  where
    go : (b : Bool) → (T b → p.at < length s) → (T (not b) → length s ≤ p.at) → p.at < length s
    go true f g = f tt
    go false f g = absurd (true≢false (sym e ∙ q ∙ ap (λ (r : List ℕ). is_declaration (first_line r)) (drop_of_length-le s (g tt)) ∙ no_declaration))

-- a line that is read
module _ (s names table : List ℕ) (p : Place) (x : Named) {line : List ℕ} where
  pub line_read : (n : ℕ) → Inside s p → line ≡ line_of (place_of s p) → NamesRead (declared line x) (Ok n) names table → LineRead s p x (Ok n) names table
  unfolding in_line
  line_read n i e h = record { is = ap (λ (l : List ℕ). in_line (place_of s p) (declared l x)) (sym e) ∙ ap (in_line (place_of s p)) h.is; few = h.few; here = i }

  -- a line that is refused
  pub line_unread : (r : Unread) → line ≡ line_of (place_of s p) → NamesRead (declared line x) (Err r) names table
      → LineRead s p x (Err (record { why = r.why; column = r.column; place = p })) names table
  unfolding in_line
  line_unread r e h = record { is = ap (λ (l : List ℕ). in_line (place_of s p) (declared l x)) (sym e) ∙ ap (in_line (place_of s p)) h.is; few = tt; here = refl }

-- what is left to be read is the whole
pub record HeaderFrom (s names table : List ℕ) (left : ℕ) (p : Place) (n : ℕ) : Type 0 where
  pub same : read_header s ≡ (read_declared left (place_of s p) (named_of n names table) >>> some_names)
  pub few : n ≤ 24
  pub inside : Inside s p

-- at first
pub header-begins : (s names table : List ℕ) (p : Place) (left : ℕ) → Reached s (to_line (1, s)) p → left ≡ length s → HeaderFrom s names table left p 0
unfolding read_header
header-begins s names table p left h e = record {
  same = λ i. read_declared (sym e i) (sym h.is i) ([], []) >>> some_names;
  few = omega arith;
  inside = h.inside;
}

-- names, or none
some_names_lem : (s names table : List ℕ) (p : Place) (n : ℕ) (r : Std.Result Header UnreadLine) → n ≤ 24 → 24 ≤ length names → Inside s p → SomeNames n p r
    → read_header s ≡ some_names (named_of n names table, place_of s p) → HeaderRead s r names table
unfolding some_names
some_names_lem s names table p zero r few room i h e =
    subst (λ (r : Std.Result Header UnreadLine). HeaderRead s r names table) (sym (h.none refl)) (record { is = e; few = tt; inside = i })
some_names_lem s names table p (suc n) r few room i h e =
    let m : 1 ≤ length (take (suc n) names) = omega (arith, length-take-le (suc n) names (omega arith)) in
    subst (λ (r : Std.Result Header UnreadLine). HeaderRead s r names table) (sym (h.some (omega arith))) (record {
      is = e
          ∙ ap (λ (b : Bool). when b then lined (named_of (suc n) names table, place_of s p) else refused_in 1 p.number 0 (line_of (place_of s p))) (le-leb 1 (length (take (suc n) names)) m);
      few = few;
      inside = i;
    })

module _ (s names table : List ℕ) (left : ℕ) (p : Place) (n : ℕ) (room : 24 ≤ length names) (h : HeaderFrom s names table left p n) where
  -- no more lines
  pub header-done : (r : Std.Result Header UnreadLine) → left ≡ 0 → SomeNames n p r → HeaderRead s r names table
  unfolding read_declared
  header-done r e q =
      some_names_lem s names table p n r h.few room h.inside q
      (h.same ∙ ap (λ (k : ℕ). read_declared k (place_of s p) (named_of n names table) >>> some_names) e)

  module _ (k : 0 < left) (t : Bool) (d : t ≡ is_declaration (line_of (place_of s p))) where
    turn : read_declared left (place_of s p) (named_of n names table)
        ≡ (when t then in_line (place_of s p) (declared (line_of (place_of s p)) (named_of n names table)) >>> (λ m. read_declared (left - 1) (to_line (next_line (place_of s p))) m)
        else lined (named_of n names table, place_of s p))
    turn = go left k
      where
        go : (l : ℕ) → 0 < l → read_declared l (place_of s p) (named_of n names table)
            ≡ (when t then in_line (place_of s p) (declared (line_of (place_of s p)) (named_of n names table)) >>> (λ m. read_declared (l - 1) (to_line (next_line (place_of s p))) m)
            else lined (named_of n names table, place_of s p))
        go l z = one_line l (place_of s p) (named_of n names table) t z d

    -- another line
    pub header-stops : (r : Std.Result Header UnreadLine) → t ≡ false → SomeNames n p r → HeaderRead s r names table
    header-stops r z q =
        some_names_lem s names table p n r h.few room h.inside q
        (h.same ∙ ap (λ (x : Lined (Named × L.Place)). x >>> some_names) (turn
        ∙ ap (λ (b : Bool). when b then in_line (place_of s p) (declared (line_of (place_of s p)) (named_of n names table)) >>> (λ m. read_declared (left - 1) (to_line (next_line (place_of s p))) m)
        else lined (named_of n names table, place_of s p)) z))

    module _ (z : t ≡ true) (names' table' : List ℕ) where
      taken : read_header s
          ≡ ((in_line (place_of s p) (declared (line_of (place_of s p)) (named_of n names table)) >>> (λ m. read_declared (left - 1) (to_line (next_line (place_of s p))) m)) >>> some_names)
      taken =
          h.same ∙ ap (λ (x : Lined (Named × L.Place)). x >>> some_names) (turn
          ∙ ap (λ (b : Bool). when b then in_line (place_of s p) (declared (line_of (place_of s p)) (named_of n names table)) >>> (λ m. read_declared (left - 1) (to_line (next_line (place_of s p))) m)
          else lined (named_of n names table, place_of s p)) z)

      -- its names are refused
      pub header_refused : (r : UnreadLine) → LineRead s p (named_of n names table) (Err r) names' table' → HeaderRead s (Err r) names' table'
      header_refused r g = record {
        is = taken ∙ ap (λ (x : Lined Named). (x >>> (λ m. read_declared (left - 1) (to_line (next_line (place_of s p))) m)) >>> some_names) g.is;
        few = tt;
        inside = subst (Inside s) (sym g.here) h.inside;
      }

      -- they are taken
      pub header_more : (q : Place) (m less : ℕ) → LineRead s p (named_of n names table) (Ok m) names' table' → left ≡ suc less → Reached s (to_line (next_line (place_of s p))) q
          → HeaderFrom s names' table' less q m
      header_more q m less g e reached = record {
        same = taken
            ∙ ap (λ (x : Lined Named). (x >>> (λ m. read_declared (left - 1) (to_line (next_line (place_of s p))) m)) >>> some_names) g.is
            ∙ (λ i. read_declared (lower e i) (sym reached.is i) (named_of m names' table') >>> some_names);
        few = g.few;
        inside = reached.inside;
      }
        where
          lower : left ≡ suc less → left - 1 ≡ less
          lower e = omega arith
