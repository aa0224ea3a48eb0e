-- One turn of reading names: the end, a word, a name, or a refusal. Assumes nothing.
use mathlib.Core.Path.{◌≡◌, refl, sym, ◌∙◌, ap, subst}
use mathlib.Core.Bool.{Bool, true, false, ◌&&◌, ◌||◌}
use mathlib.Core.List.{List, [], ◌∷◌, ◌++◌}
use Prim.Native.Nat.{ℕ, zero, suc, ◌+◌, ◌-◌, ◌≤◌, ◌<◌}
use native.Mathlib.Omega.{arith}
use native.Mathlib.Numerals.{add-one}
use borrow.Author.Tests.{le-leb, lt-leb, lt-ltb, le-ltb}
use lib.Dec.{ltb, leb, eqb}
use lib.ListN.{length, get_or, take, set}
use lib.Seq.{take-suc-set, length-take-le}
use Rattle.std.specs.Prelude.{Ok, Err}
use Rattle.specification.specs.Results.{when◌then◌else◌}
use Rattle.specification.specs.Letters.{scalar, vector}
use Rattle.specification.specs.Words.{bytes}
use Rattle.specification.specs.Text.{Placed, refused_at, placed, is_letter, place_of, skip, next}
use Rattle.specification.specs.Lines.{Named, is_word_at, read_names, declared, is_declaration}
use Rattle.refusal.specs.declared.Refusal.{Refusal}
use Rattle.refusal.specs.declared.Refusal.TheVariants.{Torn, BadTable}
use Rattle.refusal.specs.Numbers.{number_of}
use Rattle.texts.specs.declared.Unread.{Unread}
use Rattle.declarations.specs.declared.NameStep.{NameStep}
use Rattle.declarations.specs.Names.{named_of, NameTurn, NamesRead}

-- at the end no more names are read
pub names-end : (most kind : ℕ) (line : List ℕ) (at : ℕ) (n : Named) → length line ≤ at → read_names most kind line at n ≡ placed n
unfolding read_names
names-end zero kind line at n h = refl
names-end (suc most) kind line at n h = rw (le-leb (length line) at h)

module _ (line : List ℕ) (p : NameStep) (names table : List ℕ) (few : p.count ≤ 24) where
  -- the end
  pub turn_end : length line ≤ p.at → NameTurn line p names table (Ok p) names table
  turn_end h = record {
    is = λ most. names-end (suc most) p.kind line p.at _ h ∙ sym (names-end most p.kind line p.at _ h);
    few = few;
  }

  module _ (l : p.at < length line) (w : Bool) (hw : w ≡ is_word_at (bytes "vectors") line p.at) where
    -- `vectors`
    pub turn-vectors : (after : ℕ) → w ≡ true → after ≡ skip line (p.at + 7)
        → NameTurn line p names table (Ok (record { at = after; kind = 1; count = p.count })) names table
    unfolding read_names
    turn-vectors after e a = record {
      is = λ most. rw (lt-leb (length line) p.at l, sym hw ∙ e, a);
      few = few;
    }

    module _ (ow : w ≡ false) (v : Bool) (hv : v ≡ is_word_at (bytes "scalars") line p.at) where
      -- `scalars`
      pub turn-scalars : (after : ℕ) → v ≡ true → after ≡ skip line (p.at + 7)
          → NameTurn line p names table (Ok (record { at = after; kind = 0; count = p.count })) names table
      unfolding read_names
      turn-scalars after e a = record {
        is = λ most. rw (lt-leb (length line) p.at l, sym hw ∙ ow, sym hv ∙ e, a);
        few = few;
      }

      module _ (ov : v ≡ false) (b : ℕ) (hb : b ≡ get_or line p.at 0) (t : Bool) (ht : t ≡ is_letter b) where
        letter : is_letter (get_or line p.at 0) ≡ t
        letter = ap is_letter (sym hb) ∙ sym ht

        refuses_with : (why : Refusal) → ((most : ℕ) → read_names (suc most) p.kind line p.at (named_of p.count names table) ≡ refused_at (number_of why) p.at)
            → NameTurn line p names table (Err (record { why = why; column = p.at })) names table
        refuses_with why h = record { is = h; few = tt }

        -- no letter
        pub turn-torn : t ≡ false → NameTurn line p names table (Err (record { why = Torn; column = p.at })) names table
        unfolding read_names
        turn-torn e = refuses_with Torn (λ most. rw (lt-leb (length line) p.at l, sym hw ∙ ow, sym hv ∙ ov, letter ∙ e))

        module _ (e : t ≡ true) (o : Bool) (ho : o ≡ is_word_at (b ∷ []) line p.at) where
          alone : is_word_at (get_or line p.at 0 ∷ []) line p.at ≡ o
          alone = ap (λ (x : ℕ). is_word_at (x ∷ []) line p.at) (sym hb) ∙ sym ho

          -- not alone
          pub turn-long : o ≡ false → NameTurn line p names table (Err (record { why = Torn; column = p.at })) names table
          unfolding read_names
          turn-long f = refuses_with Torn (λ most. rw (lt-leb (length line) p.at l, sym hw ∙ ow, sym hv ∙ ov, letter ∙ e, alone ∙ f))

          module _ (f : o ≡ true) (room : 24 ≤ length names) (beside : 24 ≤ length table) where
            counted : length (take p.count names) ≡ p.count
            counted = length-take-le p.count names (omega arith)

            -- the tests of a name
            abbrev tests : Bool
            tests = ltb (place_of (take p.count names) (get_or line p.at 0)) (length (take p.count names)) || leb 24 (length (take p.count names))

            turn-name : (most : ℕ) → read_names (suc most) p.kind line p.at (named_of p.count names table)
                ≡ (when tests then refused_at 1 p.at else read_names most p.kind line (next line p.at) (take p.count names ++ get_or line p.at 0 ∷ [], take p.count table ++ p.kind ∷ []))
            unfolding read_names
            turn-name most = rw (lt-leb (length line) p.at l, sym hw ∙ ow, sym hv ∙ ov, letter ∙ e, alone ∙ f)

            or-true : (x : Bool) → (x || true) ≡ true
            or-true true = refl
            or-true false = refl

            -- more than 24
            pub turn_many : 24 ≤ p.count → NameTurn line p names table (Err (record { why = BadTable; column = p.at })) names table
            turn_many h =
                let m : 24 ≤ length (take p.count names) = omega (arith, counted) in
                refuses_with BadTable (λ most. turn-name most
                ∙ ap (λ (x : Bool). when x then refused_at 1 p.at else read_names most p.kind line (next line p.at) (take p.count names ++ get_or line p.at 0 ∷ [], take p.count table ++ p.kind ∷ []))
                (ap (λ (x : Bool). ltb (place_of (take p.count names) (get_or line p.at 0)) (length (take p.count names)) || x) (le-leb 24 (length (take p.count names)) m)
                ∙ or-true (ltb (place_of (take p.count names) (get_or line p.at 0)) (length (take p.count names)))))

            module _ (h : p.count < 24) (place : ℕ) (hp : place ≡ place_of (take p.count names) b) where
              place_is_lem : place_of (take p.count names) (get_or line p.at 0) ≡ place
              place_is_lem = ap (place_of (take p.count names)) (sym hb) ∙ sym hp

              -- declared before
              pub turn_twice : place < p.count → NameTurn line p names table (Err (record { why = BadTable; column = p.at })) names table
              turn_twice k =
                  refuses_with BadTable (λ most. turn-name most
                  ∙ ap (λ (x : Bool). when x then refused_at 1 p.at else read_names most p.kind line (next line p.at) (take p.count names ++ get_or line p.at 0 ∷ [], take p.count table ++ p.kind ∷ []))
                  (ap (λ (x : Bool). x || leb 24 (length (take p.count names))) (lt-ltb (place_of (take p.count names) (get_or line p.at 0)) (length (take p.count names)) (omega (arith, place_is_lem, counted)))))

              -- a name more
              pub turn_more : (after : ℕ) → p.count ≤ place → after ≡ next line p.at
                  → NameTurn line p names table (Ok (record { at = after; kind = p.kind; count = p.count + 1 })) (set names p.count b) (set table p.count p.kind)
              turn_more after k a =
                  let m : length (take p.count names) < 24 = omega (arith, counted) in
                  let not-before : ltb (place_of (take p.count names) (get_or line p.at 0)) (length (take p.count names)) ≡ false =
                  le-ltb (place_of (take p.count names) (get_or line p.at 0)) (length (take p.count names)) (omega (arith, place_is_lem, counted)) in
                  let passed : tests ≡ false = (λ i. not-before i || lt-leb 24 (length (take p.count names)) m i) in
                  let more : (l : List ℕ) (x : ℕ) → 24 ≤ length l → take (p.count + 1) (set l p.count x) ≡ take p.count l ++ x ∷ [] =
                  λ l x r. ap (λ (j : ℕ). take j (set l p.count x)) (add-one p.count) ∙ take-suc-set l p.count x (omega arith) in
                  record {
                    is = λ most. turn-name most
                        ∙ ap (λ (x : Bool). when x then refused_at 1 p.at else read_names most p.kind line (next line p.at) (take p.count names ++ get_or line p.at 0 ∷ [], take p.count table ++ p.kind ∷ [])) passed
                        ∙ (λ i. read_names most p.kind line (sym a i) (take p.count names ++ sym hb i ∷ [], take p.count table ++ p.kind ∷ []))
                        ∙ (λ i. read_names most p.kind line after (sym (more names b room) i, sym (more table p.kind beside) i));
                    few = omega arith;
                  }

-- ════ the names of a line

-- what is left to be read is the whole; there are at most 24 names
pub record NamesFrom (line : List ℕ) (x : Placed Named) (names table : List ℕ) (left : ℕ) (p : NameStep) : Type 0 where
  pub same : x ≡ read_names left p.kind line p.at (named_of p.count names table)
  pub few : p.count ≤ 24

-- at first
pub names-begin : (line names table : List ℕ) (at count left : ℕ) → count ≤ 24 → at ≡ skip line 0 → left ≡ length line
    → NamesFrom line (declared line (named_of count names table)) names table left (record { at = at; kind = 1; count = count })
unfolding declared
names-begin line names table at count left h e l = record { same = λ i. read_names (sym l i) 1 line (sym e i) (named_of count names table); few = h }

module _ (line : List ℕ) (x : Placed Named) (names table : List ℕ) (left less : ℕ) (p : NameStep) (h : NamesFrom line x names table left p) (e : left ≡ suc less)
    (names' table' : List ℕ) where
  -- a refusal
  pub names_refused : (r : Unread) → NameTurn line p names table (Err r) names' table' → NamesRead x (Err r) names' table'
  names_refused r t = record { is = h.same ∙ ap (λ (j : ℕ). read_names j p.kind line p.at (named_of p.count names table)) e ∙ t.is less; few = tt }

  -- one more turn
  pub names_more : (q : NameStep) → NameTurn line p names table (Ok q) names' table' → NamesFrom line x names' table' less q
  names_more q t = record { same = h.same ∙ ap (λ (j : ℕ). read_names j p.kind line p.at (named_of p.count names table)) e ∙ t.is less; few = t.few }

-- all are read
pub names-done : (line : List ℕ) (x : Placed Named) (names table : List ℕ) (left : ℕ) (p : NameStep) → NamesFrom line x names table left p → left ≡ 0
    → NamesRead x (Ok p.count) names table
unfolding read_names
names-done line x names table left p h e =
    record { is = h.same ∙ ap (λ (j : ℕ). read_names j p.kind line p.at (named_of p.count names table)) e; few = h.few }

-- ════ whether a line declares names

module _ (line : List ℕ) (at : ℕ) (w : Bool) (e : at ≡ skip line 0) (hw : w ≡ is_word_at (bytes "vectors") line at) where
  vectors_is : is_word_at (bytes "vectors") line (skip line 0) ≡ w
  vectors_is = ap (is_word_at (bytes "vectors") line) (sym e) ∙ sym hw

  -- by the first word
  pub declares-vectors : w ≡ true → true ≡ is_declaration line
  unfolding is_declaration
  declares-vectors z = rw (vectors_is ∙ z)

  -- by the other
  pub declares-scalars : (v : Bool) → w ≡ false → v ≡ is_word_at (bytes "scalars") line at → v ≡ is_declaration line
  unfolding is_declaration
  declares-scalars v z hv = hv ∙ ap (is_word_at (bytes "scalars") line) e ∙ rw (vectors_is ∙ z)
