-- What a reader knows of an assignment that was read: its numbers are an assignment of the table, and the line is not empty. Assumes nothing.
use mathlib.Core.Path.{◌≡◌, refl, sym, ◌∙◌, ap}
use mathlib.Core.Bool.{Bool, true, false, true≢false, ◌&&◌}
use mathlib.Core.List.{List, []}
use Prim.Native.Nat.{ℕ, zero, suc, ◌*◌}
use native.Mathlib.Omega.{arith}
use lib.Dec.{eqb, leb, ltb}
use lib.ListN.{length, get_or}
use Rattle.specification.specs.Results.{when◌then◌else◌}
use Rattle.specification.specs.Lists.{all, each}
use Rattle.specification.specs.Letters.{kind_of}
use Rattle.specification.specs.Evaluation.{six_or_less, rest_is_zero, good_assignment}
use Rattle.specification.specs.Text.{Placed, refused_at, placed, ◌>>=◌, is_letter, place_of, skip, next}
use Rattle.specification.specs.LogTexts.{mark}
use Rattle.specification.specs.AssignmentTexts.{read_value, put_three, none_yet, read_assigned}
use Rattle.std.specs.Prelude.{Ok}
use Rattle.assignment_texts.specs.Assigned.{AssignedRead}

-- a refusal gives nothing
nothing : {A : Type 0} (n c : ℕ) (a : A) → refused_at n c ≡ placed a → ⊥
nothing n c a e = let z : ◌≡◌ {A = ℕ} 0 1 = cc in omega arith

-- what was placed came through each part
through : {A B : Type 0} (x : Placed A) (k : A → Placed B) (P : Type 0) (b : B) → ((a : A) → k a ≡ placed b → P) → (x >>= k) ≡ placed b → P
through (refused_at n c) k P b f e = absurd (nothing n c b e)
through (placed a) k P b f e = f a e

same_placed : {A : Type 0} (a b : A) → placed a ≡ placed b → a ≡ b
same_placed a b e = cc

module _ (names table line : List ℕ) (most n : ℕ) (so : List ℕ) where
  -- what comes behind a value
  abbrev behind : List ℕ × ℕ → Placed (List ℕ)
  behind r =
      when leb (length line) r.1 then (when good_assignment table (put_three n r.0 so) then placed (put_three n r.0 so) else refused_at 12 r.1)
      else (mark 44 line r.1 >>= λ name. read_assigned most names table line name (put_three n r.0 so))

  behind_good_lem : (out : List ℕ) → ((name : ℕ) (all : List ℕ) → read_assigned most names table line name all ≡ placed out → good_assignment table out ≡ true)
      → (r : List ℕ × ℕ) → behind r ≡ placed out → good_assignment table out ≡ true
  behind_good_lem out again r = go (leb (length line) r.1) (good_assignment table put) refl
    where
      put : List ℕ
      put = put_three n r.0 so

      go : (a b : Bool) → good_assignment table put ≡ b
          → (when a then (when b then placed put else refused_at 12 r.1)
          else (mark 44 line r.1 >>= λ name. read_assigned most names table line name put)) ≡ placed out
          → good_assignment table out ≡ true
      go true true g e = ap (good_assignment table) (sym (same_placed put out e)) ∙ g
      go true false g e = absurd (nothing 12 r.1 out e)
      go false b g e =
          through (mark 44 line r.1) (λ name. read_assigned most names table line name put) (good_assignment table out ≡ true) out (λ name. again name put) e

  name_good : (at : ℕ) (out : List ℕ) → ((name : ℕ) (all : List ℕ) → read_assigned most names table line name all ≡ placed out → good_assignment table out ≡ true)
      → (a b c : Bool)
      → (when a then (when b then (when c then (mark 61 line (next line at) >>= λ value. read_value (kind_of table n) line value >>= behind)
      else refused_at 12 at) else refused_at 5 at) else refused_at 4 at) ≡ placed out → good_assignment table out ≡ true
  name_good at out again true true true e =
      through (mark 61 line (next line at)) (λ value. read_value (kind_of table n) line value >>= behind) (good_assignment table out ≡ true) out
      (λ value f. through (read_value (kind_of table n) line value) behind (good_assignment table out ≡ true) out (behind_good_lem out again) f) e
  name_good at out again true true false e = absurd (nothing 12 at out e)
  name_good at out again true false c e = absurd (nothing 5 at out e)
  name_good at out again false b c e = absurd (nothing 4 at out e)

-- what was read is an assignment of the table
pub assigned_good : (names table line : List ℕ) (most at : ℕ) (so out : List ℕ) → read_assigned most names table line at so ≡ placed out
    → good_assignment table out ≡ true
unfolding read_assigned
assigned_good names table line zero at so out e = absurd (nothing 4 at out e)
assigned_good names table line (suc most) at so out e =
    let n = place_of names (get_or line at 0) in
    name_good names table line most n so at out (λ name all. assigned_good names table line most name all out)
    (is_letter (get_or line at 0)) (ltb n (length names)) (eqb (get_or so (3 * n) 0) 127) e

and_left : (a b : Bool) → (a && b) ≡ true → a ≡ true
and_left true b e = refl
and_left false b e = e

and_right : (a b : Bool) → (a && b) ≡ true → b ≡ true
and_right true b e = e
and_right false b e = absurd (true≢false (sym e))

module _ (names table line so : List ℕ) (u : Unit {0})
    (h : AssignedRead (read_assigned (length line) names table line (skip line 0) (none_yet table)) (Ok u) so) where
  -- the numbers are an assignment of the table
  pub read_good : good_assignment table so ≡ true
  read_good = assigned_good names table line (length line) (skip line 0) (none_yet table) so (h.is)

  -- each is from -6 to 6
  pub read_small : all six_or_less so ≡ true
  unfolding good_assignment
  read_small =
      and_right (eqb (length so) (3 * length table)) (all six_or_less so)
      (and_left (eqb (length so) (3 * length table) && all six_or_less so) (each (length table) (rest_is_zero table so)) read_good)

  -- the line is not empty
  pub read_some : line ≡ [] → ⊥
  unfolding read_assigned
  read_some e =
      nothing 4 (skip [] 0) so (sym (ap (λ (l : List ℕ). read_assigned (length l) names table l (skip l 0) (none_yet table)) e) ∙ h.is)
