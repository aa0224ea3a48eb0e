-- Numbers in lent bytes: none at first, then three at a letter's place. Assumes nothing.
use mathlib.Core.Path.{◌≡◌, refl, sym, ◌∙◌, ap}
use mathlib.Core.List.{List, [], ◌∷◌, ◌++◌}
use Prim.Native.Nat.{ℕ, suc, ◌+◌, ◌*◌, ◌≤◌, ◌<◌}
use native.Mathlib.Omega.{arith}
use native.Mathlib.Numerals.{add-one}
use lib.ListN.{length, take, set, replicate, replicate-append-replicate}
use lib.Seq.{sets-eq, take-suc-set, take_all}
use Rattle.specification.specs.AssignmentTexts.{put_three, none_yet}

-- as many as three to a letter
pub none_yet_lem : (table : List ℕ) (n : ℕ) → n ≡ 3 * length table → replicate n 127 ≡ none_yet table
unfolding none_yet
none_yet_lem [] n e = ap (λ (k : ℕ). replicate k 127) e
none_yet_lem (k ∷ table) n e =
    let more : 3 * suc (length table) ≡ suc (suc (suc (3 * length table))) = omega arith in
    ap (λ (m : ℕ). replicate m 127) (e ∙ more) ∙ ap (λ (l : List ℕ). 127 ∷ 127 ∷ 127 ∷ l) (none_yet_lem table (3 * length table) refl)

-- three stores one behind the other
pub three-stored : (n x y z : ℕ) (l : List ℕ) → 3 * n + 3 ≤ length l
    → set (set (set l (3 * n) x) (3 * n + 1) y) (3 * n + 2) z ≡ put_three n (x ∷ y ∷ z ∷ []) l
unfolding put_three
three-stored n x y z l h =
    let second : 3 * n + 1 ≡ suc (3 * n) = omega arith in
    let third : 3 * n + 2 ≡ suc (suc (3 * n)) = omega arith in
    (λ i. set (set (set l (3 * n) x) (second i) y) (third i) z) ∙ sets-eq (x ∷ y ∷ z ∷ []) l (3 * n) h
