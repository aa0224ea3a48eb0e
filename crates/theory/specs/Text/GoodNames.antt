-- The names that are declared in front of a text fit the table of their kinds: each a letter, none twice, 1 to 24 of them. Assumes nothing.
use Rattle.std.specs.Prelude.{◌≡◌, refl, Bool, true, false, not, ◌&&◌, ◌||◌, List, [], ◌∷◌, ◌++◌, ℕ, zero, suc, ◌+◌, ◌≤◌, ◌<◌, length, get_or, T, ltb, leb, eqb}
use Rattle.std.proofs.Common.{subst, arith, length-append, leb→le, nltb→le, le→leb}
use Rattle.std.proofs.Math.Dec.{nleb→lt}
use Rattle.specification.specs.Results.{when◌then◌else◌}
use Rattle.specification.specs.Lists.{all}
use Rattle.specification.specs.Letters.{scalar, vector, is_kind, good_table}
use Rattle.specification.specs.Words.{bytes}
use Rattle.specification.specs.Text.{Placed, refused_at, placed, is_letter, distinct, good_names, place_of, skip, next}
use Rattle.specification.specs.Lines.{Place, line_of, next_line, to_line, Lined, refused_in, lined, in_line, ◌>>>◌, is_word_at, Named, read_names, is_declaration, declared, read_declared, some_names, read_header}
use Rattle.theory.specs.Tests.{and_split, and_both, eqb_T}
use Rattle.theory.specs.Text.Columns.{placed_same, refused≢placed}

-- names and their kinds, so far
pub record GoodSoFar (n : Named) : Type 0 where
  pub many : length n.0 ≡ length n.1
  pub few : length n.0 ≤ 24
  pub letters : T (all is_letter n.0)
  pub apart : T (distinct n.0)
  pub kinds : T (all is_kind n.1)

-- one more of which a test holds
all_more : (f : ℕ → Bool) (l : List ℕ) (b : ℕ) → T (all f l) → T (f b) → T (all f (l ++ b ∷ []))
unfolding all
all_more f [] b h k = and_both (f b) true k tt
all_more f (x ∷ l) b h k = let w = and_split (f x) (all f l) h in and_both (f x) (all f (l ++ b ∷ [])) w.0 (all_more f l b w.1 k)

not-true : (b : Bool) → (T b → ⊥) → T (not b)
not-true true h = absurd (h tt)
not-true false h = tt

-- one more that is not among them
distinct_more : (l : List ℕ) (b : ℕ) → T (distinct l) → length l ≤ place_of l b → T (distinct (l ++ b ∷ []))
unfolding distinct all place_of
distinct_more [] b h k = tt
distinct_more (n ∷ l) b h k =
    let w = and_split (all (λ m. not (eqb n m)) l) (distinct l) h in
    let v = other (eqb n b) k in
    and_both (all (λ m. not (eqb n m)) (l ++ b ∷ [])) (distinct (l ++ b ∷ [])) (all_more (λ m. not (eqb n m)) l b w.0 v.0) (distinct_more l b w.1 v.1)
  where
    other : (t : Bool) → suc (length l) ≤ (when t then 0 else suc (place_of l b)) → T (not t) × (length l ≤ place_of l b)
    other true k = absurd (omega arith)
    other false k = (tt, omega arith)

lined_same : {A : Type 0} {a b : A} → lined a ≡ lined b → a ≡ b
lined_same e = cc

never-lined : {A : Type 0} {n k c : ℕ} {t : List ℕ} {a : A} → refused_in n k c t ≡ lined a → ⊥
never-lined e = let z : ◌≡◌ {A = ℕ} 0 1 = cc in omega (arith, z)

vector-kind : T (is_kind vector)
unfolding is_kind
vector-kind = tt

scalar-kind : T (is_kind scalar)
unfolding is_kind
scalar-kind = tt

-- names read are good
names_good_lem : (most kind : ℕ) (line : List ℕ) (at : ℕ) (n m : Named) → T (is_kind kind) → GoodSoFar n → read_names most kind line at n ≡ placed m → GoodSoFar m
unfolding read_names
names_good_lem zero kind line at n m k h e = subst GoodSoFar (placed_same e) h
names_good_lem (suc most) kind line at n m k h e =
    go (leb (length line) at) (is_word_at (bytes "vectors") line at) (is_word_at (bytes "scalars") line at) (is_letter b) (is_word_at (b ∷ []) line at)
    (ltb (place_of n.0 b) (length n.0)) (leb 24 (length n.0)) (λ t. t) (nltb→le (place_of n.0 b) (length n.0)) (nleb→lt 24 (length n.0))
    (λ kind at x. names_good_lem most kind line at x m) e
  where
    b : ℕ
    b = get_or line at 0

    more : Named
    more = (n.0 ++ b ∷ [], n.1 ++ kind ∷ [])

    add : T (is_letter b) → length n.0 ≤ place_of n.0 b → length n.0 < 24 → GoodSoFar more
    add t p f = record {
      many = omega (arith, h.many, length-append n.0 (b ∷ []), length-append n.1 (kind ∷ []));
      few = omega (arith, length-append n.0 (b ∷ []));
      letters = all_more is_letter n.0 b h.letters t;
      apart = distinct_more n.0 b h.apart p;
      kinds = all_more is_kind n.1 kind h.kinds k;
    }

    go : (end w v l o p f : Bool) → (T l → T (is_letter b)) → (T (not p) → length n.0 ≤ place_of n.0 b) → (T (not f) → length n.0 < 24)
        → ((kind at : ℕ) (x : Named) → T (is_kind kind) → GoodSoFar x → read_names most kind line at x ≡ placed m → GoodSoFar m)
        → (when end then placed n else
        when w then read_names most vector line (skip line (at + 7)) n else
        when v then read_names most scalar line (skip line (at + 7)) n else
        when l && o then (when p || f then refused_at 1 at else read_names most kind line (next line at) more) else refused_at 4 at) ≡ placed m
        → GoodSoFar m
    go true w v l o p f hl hp hf again e = subst GoodSoFar (placed_same e) h
    go false true v l o p f hl hp hf again e = again vector (skip line (at + 7)) n vector-kind h e
    go false false true l o p f hl hp hf again e = again scalar (skip line (at + 7)) n scalar-kind h e
    go false false false true true true f hl hp hf again e = absurd (refused≢placed e)
    go false false false true true false true hl hp hf again e = absurd (refused≢placed e)
    go false false false true true false false hl hp hf again e = again kind (next line at) more k (add (hl tt) (hp tt) (hf tt)) e
    go false false false true false p f hl hp hf again e = absurd (refused≢placed e)
    go false false false false o p f hl hp hf again e = absurd (refused≢placed e)

-- those of a line
pub declared_good : (line : List ℕ) (n m : Named) → GoodSoFar n → declared line n ≡ placed m → GoodSoFar m
unfolding declared
declared_good line n m h e = names_good_lem (length line) vector line (skip line 0) n m vector-kind h e

-- the line of a text and those behind it
header-so_far : (most : ℕ) (p : Place) (n : Named) (r : Named × Place) → GoodSoFar n → read_declared most p n ≡ lined r → GoodSoFar r.0
unfolding read_declared in_line
header-so_far zero p n r h e = subst (λ (x : Named × Place). GoodSoFar x.0) (lined_same e) h
header-so_far (suc most) p n r h e = go (is_declaration (line_of p)) (λ m. header-so_far most (to_line (next_line p)) m r) e
  where
    line : ((m : Named) → GoodSoFar m → read_declared most (to_line (next_line p)) m ≡ lined r → GoodSoFar r.0) → (x : Placed Named) → declared (line_of p) n ≡ x
        → (in_line p x >>> (λ m. read_declared most (to_line (next_line p)) m)) ≡ lined r → GoodSoFar r.0
    line again (refused_at k c) q e = absurd (never-lined e)
    line again (placed m) q e = again m (declared_good (line_of p) n m h q) e

    go : (t : Bool) → ((m : Named) → GoodSoFar m → read_declared most (to_line (next_line p)) m ≡ lined r → GoodSoFar r.0) → (when t then in_line p (declared (line_of p) n) >>> (λ m. read_declared most (to_line (next_line p)) m) else lined (n, p)) ≡ lined r → GoodSoFar r.0
    go true again e = line again (declared (line_of p) n) refl e
    go false again e = subst (λ (x : Named × Place). GoodSoFar x.0) (lined_same e) h

-- names that are declared fit the table
pub record HeaderGood (names table : List ℕ) : Type 0 where
  pub table_good : T (good_table table)
  pub names_good : T (good_names names table)

-- none yet
pub none_good : GoodSoFar ([], [])
unfolding all distinct
none_good = record { many = refl; few = omega arith; letters = tt; apart = tt; kinds = tt }

-- at least one name
pub some_good : (names table : List ℕ) → GoodSoFar (names, table) → 1 ≤ length names → HeaderGood names table
unfolding good_table good_names
some_good names table g one =
    let low : 1 ≤ length table = omega (arith, g.many) in
    let high : length table ≤ 24 = omega (arith, g.many, g.few) in
    record {
      table_good = and_both (leb 1 (length table) && leb (length table) 24) (all is_kind table)
          (and_both (leb 1 (length table)) (leb (length table) 24) (le→leb 1 (length table) low) (le→leb (length table) 24 high)) g.kinds;
      names_good = and_both (eqb (length names) (length table) && all is_letter names) (distinct names)
          (and_both (eqb (length names) (length table)) (all is_letter names) (eqb_T (length names) (length table) g.many) g.letters) g.apart;
    }

-- the names of a text are good
pub header_good : (s : List ℕ) (names table : List ℕ) (p : Place) → read_header s ≡ lined ((names, table), p) → HeaderGood names table
unfolding read_header some_names
header_good s names table p e = first (read_declared (length s) (to_line (1, s)) ([], [])) refl e
  where
    good : (r : Named × Place) → GoodSoFar r.0 → (b : Bool) → (T b → 1 ≤ length r.0.0) → (when b then lined r else refused_in 1 r.1.0 0 (line_of r.1)) ≡ lined ((names, table), p)
        → HeaderGood names table
    good r h true f e =
        let q : r ≡ ((names, table), p) = lined_same e in
        let g : GoodSoFar (names, table) = subst (λ (x : Named × Place). GoodSoFar x.0) q h in
        some_good names table g (subst (λ (x : Named × Place). 1 ≤ length x.0.0) q (f tt))
    good r h false f e = absurd (never-lined e)

    first : (x : Lined (Named × Place)) → read_declared (length s) (to_line (1, s)) ([], []) ≡ x → (x >>> some_names) ≡ lined ((names, table), p) → HeaderGood names table
    first (refused_in n k c t) q e = absurd (never-lined e)
    first (lined r) q e = good r (header-so_far (length s) (to_line (1, s)) ([], []) r none_good q) (leb 1 (length r.0.0)) (leb→le 1 (length r.0.0)) e
