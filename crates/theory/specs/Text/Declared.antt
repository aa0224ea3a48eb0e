-- The line of names is read back: the names in their order and the table of their kinds. Assumes nothing.
use Rattle.std.specs.Prelude.{◌≡◌, Bool, false, not, ◌&&◌, get_or, eqb, leb}
use Rattle.std.proofs.Math.Path.{refl, sym, ap, subst}
use Rattle.std.proofs.Common.{◌∙◌, arith, length-append, drop-drop, leb→le}
use Rattle.std.proofs.Math.Bool.{true}
use mathlib.Core.List.{List, [], ◌∷◌, ◌++◌, append-nil, append_assoc}
use Prim.Native.Nat.{ℕ, zero, suc, pred, ◌+◌, ◌<◌, ◌≤◌}
use Rattle.std.proofs.Math.Nat as N
use Rattle.std.proofs.Math.ListN.{length, drop}
use Rattle.std.proofs.Math.Seq.{append_snoc}
use Rattle.std.proofs.Math.Dec.{T}
use borrow.Author.Tests.{lt-leb, le-ltb, eq-eqb, eqb-true}
use Rattle.specification.specs.Results.{when◌then◌else◌}
use Rattle.specification.specs.Lists.{all}
use Rattle.specification.specs.Letters.{scalar, vector, is_kind, good_table}
use Rattle.specification.specs.Words.{bytes}
use Rattle.specification.specs.Text.{placed, is_letter, distinct, good_names, place_of, past_blanks, skip, next}
use Rattle.specification.specs.Lines.{same_bytes, is_word_at, read_names, declared, is_declaration}
use Rattle.specification.specs.LogTexts.{kinds_word, write_names}
use Rattle.theory.specs.Tests.{is_true, and_split, and-false}
use Rattle.theory.specs.Elements.{All, all_T, all_split}
use Rattle.theory.specs.Shape.Letters.{good_short}
use Rattle.theory.specs.Text.Positions.{Sharp, stand-byte, stand_next, skip_none}
use Rattle.theory.specs.Text.Names.{is_false, names_count}
use Rattle.theory.specs.Text.Pieces.{letter-other}
use Rattle.theory.specs.Text.Sums.{nothing_left_lem}
use Rattle.theory.specs.Text.OneLine.{OneLine, Begins, good_line}
use Rattle.theory.specs.Text.Words.{stands-inside, skip_blank, word_here}

-- ════ a name behind others

-- a name that is not among those before is at no place of theirs
place_none : (done : List ℕ) (n : ℕ) (names : List ℕ) → T (distinct (done ++ n ∷ names)) → place_of done n ≡ length done
unfolding distinct place_of
place_none [] n names d = refl
place_none (m ∷ done) n names d =
    let w = and_split (all (λ (x : ℕ). not (eqb m x)) (done ++ n ∷ names)) (distinct (done ++ n ∷ names)) d in
    let o : T (not (eqb m n)) = (all_split (λ (x : ℕ). T (not (eqb m x))) done (n ∷ names) (all_T (λ (x : ℕ). not (eqb m x)) (done ++ n ∷ names) w.0)).1.0 in
    rw (is_false (eqb m n) o) (ap suc (place_none done n names w.1))

-- nothing, or a blank in front
data Blank : List ℕ → Type 0 where
  nothing : Blank []
  blank : (l : List ℕ) → Blank (32 ∷ l)

-- so a name before it does not begin the word `vectors`
no-vectors : (n : ℕ) (l : List ℕ) → Blank l → is_word_at (bytes "vectors") (n ∷ l) 0 ≡ false
unfolding is_word_at same_bytes bytes
no-vectors n l nothing = rw (and-false (eqb n 118))
no-vectors n l (blank k) = rw (and-false (eqb n 118))

-- nor `scalars`
no-scalars : (n : ℕ) (l : List ℕ) → Blank l → is_word_at (bytes "scalars") (n ∷ l) 0 ≡ false
unfolding is_word_at same_bytes bytes
no-scalars n l nothing = rw (and-false (eqb n 115))
no-scalars n l (blank k) = rw (and-false (eqb n 115))

-- it is a word of one letter
letter-word : (n : ℕ) (l : List ℕ) → Blank l → eqb n n ≡ true → is_word_at (n ∷ []) (n ∷ l) 0 ≡ true
unfolding is_word_at same_bytes
letter-word n l nothing e = rw e
letter-word n l (blank k) e = rw e

-- names that are written begin with a blank, where there are any
names-blank : (kind : ℕ) (names table : List ℕ) → Blank (write_names kind names table)
unfolding write_names
names-blank kind [] table = nothing
names-blank kind (n ∷ names) [] = nothing
names-blank kind (n ∷ names) (k ∷ table) = go (eqb k kind)
  where
    go : (b : Bool) → Blank ((when b then [] else 32 ∷ kinds_word k) ++ 32 ∷ n ∷ write_names k names table)
    go true = blank (n ∷ write_names k names table)
    go false = blank (kinds_word k ++ 32 ∷ n ∷ write_names k names table)

-- ════ a word

-- one of the two words, and what stands behind it
words_are : (P : List ℕ → Type 0) (k : ℕ) (l : List ℕ) → P (bytes "scalars" ++ l) → P (bytes "vectors" ++ l) → P (kinds_word k ++ l)
unfolding kinds_word
words_are P k l f g = go (eqb k scalar)
  where
    go : (b : Bool) → P ((when b then bytes "scalars" else bytes "vectors") ++ l)
    go true = f
    go false = g

-- no blank stands in front of a word
word-sharp : (k : ℕ) (l : List ℕ) → Sharp (kinds_word k ++ l)
unfolding bytes
word-sharp k l = words_are Sharp k l refl refl

-- nor a newline
word-begins : (k : ℕ) (l : List ℕ) → Begins (kinds_word k ++ l)
unfolding bytes
word-begins k l = words_are Begins k l (record { no_newline = refl; no_blank = refl }) (record { no_newline = refl; no_blank = refl })

-- a word has no newline
word_line : (k : ℕ) (l : List ℕ) → OneLine l → OneLine (kinds_word k ++ l)
unfolding bytes
word_line k l h =
    words_are OneLine k l (refl, (refl, (refl, (refl, (refl, (refl, (refl, h))))))) (refl, (refl, (refl, (refl, (refl, (refl, (refl, h)))))))

-- names that are written have none
write-line : (kind : ℕ) (names table : List ℕ) → OneLine names → OneLine (write_names kind names table)
unfolding write_names
write-line kind [] table h = tt
write-line kind (n ∷ names) [] h = tt
write-line kind (n ∷ names) (k ∷ table) h = go (eqb k kind) (refl, (h.0, write-line k names table h.1))
  where
    go : (b : Bool) → OneLine (32 ∷ n ∷ write_names k names table) → OneLine ((when b then [] else 32 ∷ kinds_word k) ++ 32 ∷ n ∷ write_names k names table)
    go true w = w
    go false w = (refl, word_line k (32 ∷ n ∷ write_names k names table) w)

-- a line that begins with a word declares names
words_declare : (k : ℕ) (l : List ℕ) → is_declaration (kinds_word k ++ 32 ∷ l) ≡ true
unfolding is_declaration is_word_at same_bytes skip past_blanks bytes
words_declare k l = words_are (λ (w : List ℕ). is_declaration w ≡ true) k (32 ∷ l) refl refl

module _ (line : List ℕ) where
  -- a turn that reads a name
  name-turn : (most kind a n : ℕ) (l done kinds : List ℕ) → drop a line ≡ n ∷ l → Blank l → is_letter n ≡ true → place_of done n ≡ length done → length done < 24
      → length line ≤ a + most
      → read_names most kind line a (done, kinds) ≡ read_names (pred most) kind line (skip line (a + 1)) (done ++ n ∷ [], kinds ++ kind ∷ [])
  unfolding read_names next
  name-turn zero kind a n l done kinds e b i p few m = absurd (omega (arith, stands-inside line a n l e))
  name-turn (suc most) kind a n l done kinds e b i p few m =
      rw (
        lt-leb (length line) a (stands-inside line a n l e),
        word_here line (bytes "vectors") a (n ∷ l) e,
        no-vectors n l b,
        word_here line (bytes "scalars") a (n ∷ l) e,
        no-scalars n l b,
        stand-byte line a (n ∷ l) e,
        i,
        word_here line (n ∷ []) a (n ∷ l) e,
        letter-word n l b (eq-eqb n n refl),
        p,
        le-ltb (length done) (length done) (N.le_refl (length done)),
        lt-leb 24 (length done) few,
      )
      refl

  -- a turn that reads a word
  word-turn : (most kind a k : ℕ) (l done kinds : List ℕ) → k ≤ 1 → drop a line ≡ kinds_word k ++ 32 ∷ l
      → length line ≤ a + most → read_names most kind line a (done, kinds) ≡ read_names (pred most) k line (skip line (a + 7)) (done, kinds)
  unfolding read_names kinds_word is_word_at same_bytes bytes
  word-turn zero kind a k l done kinds h e m = refl
  word-turn (suc most) kind a zero l done kinds h e m =
      rw (lt-leb (length line) a (stands-inside line a _ _ e), word_here line (bytes "vectors") a _ e, word_here line (bytes "scalars") a _ e) refl
  word-turn (suc most) kind a (suc zero) l done kinds h e m =
      rw (lt-leb (length line) a (stands-inside line a _ _ e), word_here line (bytes "vectors") a _ e) refl
  word-turn (suc most) kind a (suc (suc k)) l done kinds h e m = absurd (omega arith)

  -- a word has seven bytes
  word-behind : (a k : ℕ) (l : List ℕ) → drop a line ≡ kinds_word k ++ l → drop (a + 7) line ≡ l
  unfolding bytes
  word-behind a k l e = sym (drop-drop 7 a line) ∙ ap (drop 7) e ∙ words_are (λ (w : List ℕ). drop 7 w ≡ l) k l refl refl

  -- one name more
  names_more : (most kind a n : ℕ) (names table done kinds : List ℕ) → drop a line ≡ 32 ∷ n ∷ write_names kind names table → is_letter n ≡ true
      → T (distinct (done ++ n ∷ names)) → length (done ++ n ∷ names) ≤ 24 → length line ≤ a + most
      → read_names most kind line (skip line a) (done, kinds) ≡ read_names (pred most) kind line (skip line (a + 1 + 1)) (done ++ n ∷ [], kinds ++ kind ∷ [])
  names_more most kind a n names table done kinds e i d few m =
      ap (λ (p : ℕ). read_names most kind line p (done, kinds)) (skip_blank line a (n ∷ write_names kind names table) e (letter-other n 32 i (omega arith)))
      ∙ name-turn most kind (a + 1) n (write_names kind names table) done kinds (stand_next line a 32 (n ∷ write_names kind names table) e)
      (names-blank kind names table)
      i (place_none done n names d) (omega (arith, length-append done (n ∷ names))) (omega arith)

  -- where the blank before a name is reached, past the word of its kind
  record AtName (most kind a k : ℕ) (l done kinds : List ℕ) : Type 0 where
    at : ℕ
    left : ℕ
    enough : length line ≤ at + left
    stands : drop at line ≡ 32 ∷ l
    is : read_names most kind line (skip line a) (done, kinds) ≡ read_names left k line (skip line at) (done, kinds)

  -- it is reached
  to_name : (most kind a k : ℕ) (l done kinds : List ℕ) → k ≤ 1 → length line ≤ a + most → drop a line ≡ (when eqb k kind then [] else 32 ∷ kinds_word k) ++ 32 ∷ l
      → AtName most kind a k l done kinds
  to_name most kind a k l done kinds h m e = go (eqb k kind) refl e
    where
      go : (b : Bool) → eqb k kind ≡ b → drop a line ≡ (when b then [] else 32 ∷ kinds_word k) ++ 32 ∷ l → AtName most kind a k l done kinds
      go true q e = record {
        at = a;
        left = most;
        enough = m;
        stands = e;
        is = ap (λ (x : ℕ). read_names most x line (skip line a) (done, kinds)) (sym (eqb-true k kind q));
      }
      go false q e =
          let e₁ : drop (a + 1) line ≡ kinds_word k ++ 32 ∷ l = stand_next line a 32 (kinds_word k ++ 32 ∷ l) e in
          record {
            at = a + 1 + 7;
            left = pred most;
            enough = omega arith;
            stands = word-behind (a + 1) k (32 ∷ l) e₁;
            is = ap (λ (p : ℕ). read_names most kind line p (done, kinds)) (skip_blank line a (kinds_word k ++ 32 ∷ l) e (word-sharp k (32 ∷ l)))
                ∙ word-turn most kind (a + 1) k l done kinds h e₁ (omega arith);
          }

  -- where the line ends nothing more is read
  names-end : (most kind a : ℕ) (done kinds : List ℕ) → drop a line ≡ [] → read_names most kind line (skip line a) (done, kinds) ≡ placed (done, kinds)
  names-end most kind a done kinds e = ap (λ (p : ℕ). read_names most kind line p (done, kinds)) (skip_none line a [] e refl) ∙ go most
    where
      go : (left : ℕ) → read_names left kind line a (done, kinds) ≡ placed (done, kinds)
      go zero = unfold read_names in refl
      go (suc left) = unfold read_names in rw (nothing_left_lem line a e)

  -- names that are written behind others are read
  names_read : (names table : List ℕ) (most kind a : ℕ) (done kinds : List ℕ) → All (λ (n : ℕ). T (is_letter n)) names → All (λ (k : ℕ). T (is_kind k)) table
      → length names ≡ length table → T (distinct (done ++ names)) → length (done ++ names) ≤ 24 → length line ≤ a + most
      → drop a line ≡ write_names kind names table → read_names most kind line (skip line a) (done, kinds) ≡ placed (done ++ names, kinds ++ table)
  unfolding write_names is_kind
  names_read [] [] most kind a done kinds h g c d few m e =
      names-end most kind a done kinds e ∙ sym (λ i. placed (append-nil done i, append-nil kinds i))
  names_read [] (k ∷ table) most kind a done kinds h g c d few m e = absurd (omega arith)
  names_read (n ∷ names) [] most kind a done kinds h g c d few m e = absurd (omega arith)
  names_read (n ∷ names) (k ∷ table) most kind a done kinds h g c d few m e =
      let w = to_name most kind a k (n ∷ write_names k names table) done kinds (leb→le k 1 g.0) m e in
      let j : (done ++ n ∷ []) ++ names ≡ done ++ n ∷ names = append_snoc done n names in
      w.is
      ∙ names_more w.left k w.at n names table done kinds w.stands (is_true (is_letter n) h.0) d few w.enough
      ∙ names_read names table (pred w.left) k (w.at + 1 + 1) (done ++ n ∷ []) (kinds ++ k ∷ []) h.1 g.1 (omega arith)
      (subst (λ (l : List ℕ). T (distinct l)) (sym j) d) (subst (λ (l : List ℕ). length l ≤ 24) (sym j) few) (omega (arith, w.enough))
      (stand_next line (w.at + 1) n (write_names k names table) (stand_next line w.at 32 (n ∷ write_names k names table) w.stands))
      ∙ (λ i. placed (j i, append_snoc kinds k table i))

-- ════ the line

-- the line that declares names, without its newline
unfoldable pub names_text : (names table : List ℕ) → List ℕ
names_text names table = kinds_word (get_or table 0 0) ++ write_names (get_or table 0 0) names table

-- names with a table that they fit
record Declares (names table : List ℕ) : Type 0 where
  letters : All (λ (n : ℕ). T (is_letter n)) names
  kinds : All (λ (k : ℕ). T (is_kind k)) table
  count : length names ≡ length table
  apart : T (distinct names)
  some : 1 ≤ length names
  few : length names ≤ 24

-- good names fit a good table
declares : (names table : List ℕ) → T (good_table table) → T (good_names names table) → Declares names table
unfolding good_table good_names
declares names table t g =
    let w = and_split (leb 1 (length table) && leb (length table) 24) (all is_kind table) t in
    let y = and_split (eqb (length names) (length table) && all is_letter names) (distinct names) g in
    let z = and_split (eqb (length names) (length table)) (all is_letter names) y.0 in
    let c = names_count names table g in
    record {
      letters = all_T is_letter names z.1;
      kinds = all_T is_kind table w.1;
      count = c;
      apart = y.1;
      some = omega (arith, leb→le 1 (length table) (and_split (leb 1 (length table)) (leb (length table) 24) w.0).0);
      few = omega (arith, good_short table t);
    }

-- no word stands before the first name but the one in front of the line
first_name : (n k : ℕ) (names table : List ℕ) → write_names k (n ∷ names) (k ∷ table) ≡ 32 ∷ n ∷ write_names k names table
unfolding write_names
first_name n k names table = rw (eq-eqb k k refl)

-- the line of names that fit their table is read
names-by : (names table : List ℕ) → Declares names table → declared (names_text names table) ([], []) ≡ placed (names, table)
unfolding declared names_text is_kind
names-by [] table h = absurd (omega (arith, h.some))
names-by (n ∷ names) [] h = absurd (omega (arith, h.count))
names-by (n ∷ names) (k ∷ table) h =
    let text = write_names k (n ∷ names) (k ∷ table) in
    let line = kinds_word k ++ text in
    ap (λ (p : ℕ). read_names (length line) vector line p ([], [])) (skip_none line 0 line refl (word-sharp k text))
    ∙ word-turn line (length line) vector 0 k (n ∷ write_names k names table) [] [] (leb→le k 1 h.kinds.0)
    (ap (λ (l : List ℕ). kinds_word k ++ l) (first_name n k names table)) (omega arith)
    ∙ names_read line (n ∷ names) (k ∷ table) (pred (length line)) k (0 + 7) [] [] h.letters h.kinds h.count h.apart h.few (omega arith)
    (word-behind line 0 k text refl)

module _ (names table : List ℕ) (t : T (good_table table)) (g : T (good_names names table)) where
  -- the line is read to the names and the table
  pub names-read_back : declared (names_text names table) ([], []) ≡ placed (names, table)
  names-read_back = names-by names table (declares names table t g)

  -- there are names
  pub names_some : 1 ≤ length names
  names_some = (declares names table t g).some

  -- the line is a declaration
  pub names_declare : is_declaration (names_text names table) ≡ true
  unfolding names_text
  names_declare = go names table (declares names table t g)
    where
      go : (ns ks : List ℕ) → Declares ns ks → is_declaration (kinds_word (get_or ks 0 0) ++ write_names (get_or ks 0 0) ns ks) ≡ true
      go [] ks h = absurd (omega (arith, h.some))
      go (n ∷ ns) [] h = absurd (omega (arith, h.count))
      go (n ∷ ns) (k ∷ ks) h = rw (first_name n k ns ks) (words_declare k (n ∷ write_names k ns ks))

  -- has no newline
  pub names_line_lem : OneLine (names_text names table)
  unfolding names_text
  names_line_lem = word_line (get_or table 0 0) (write_names (get_or table 0 0) names table) (write-line (get_or table 0 0) names table (good_line names table g))

  -- and begins with a letter
  pub names-begin : (l : List ℕ) → Begins (names_text names table ++ 10 ∷ l)
  unfolding names_text
  names-begin l =
      let text = write_names (get_or table 0 0) names table ++ 10 ∷ l in
      subst Begins (sym (append_assoc (kinds_word (get_or table 0 0)) (write_names (get_or table 0 0) names table) (10 ∷ l))) (word-begins (get_or table 0 0) text)
