-- A text under way: what is written of it, and what is left. Assumes nothing.
use mathlib.Core.Path.{◌≡◌, refl, ◌∙◌}
use mathlib.Core.List.{List, [], ◌++◌}
use Prim.Native.Nat.{ℕ, ◌+◌, ◌≤◌}
use native.Mathlib.Omega.{arith}
use lib.ListN.{length}
use Rattle.record_writing.specs.Written.{Written}
use Rattle.record_writing.proofs.Writes.{written_none, written_then, written_length}

-- from the bytes l on, the bytes m are reached at a position k: whoever writes the rest there has written all
pub record UnderWay (l m : List ℕ) (at k : ℕ) (all rest : List ℕ) : Type 0 where
  pub kept : length m ≡ length l
  pub ends : (n : List ℕ) (next : ℕ) → Written m n k next rest → Written l n at next all

-- nothing is written yet
pub begins : (l : List ℕ) (at : ℕ) (all : List ℕ) → UnderWay l l at at all all
begins l at all = record { kept = refl; ends = λ n next w. w }

-- what is written may be said another way
pub written_as_lem : (l m : List ℕ) (at next : ℕ) (xs ys : List ℕ) → ys ≡ xs → Written l m at next xs → Written l m at next ys
written_as_lem l m at next xs ys e w = rw e w

-- a part of what is left is written
pub goes_on_lem : (l m n : List ℕ) (at k next : ℕ) (all rest xs ys : List ℕ) → rest ≡ xs ++ ys → k + length xs ≤ length m → UnderWay l m at k all rest → Written m n k next xs
    → UnderWay l n at next all ys
goes_on_lem l m n at k next all rest xs ys e h u w = record {
  kept = written_length m n k next xs h w ∙ u.kept;
  ends = λ o end v. u.ends o end (written_as_lem m o k end (xs ++ ys) rest e (written_then m n o k next end xs ys (omega arith) w v));
}

-- nothing is left
pub ended : (l m : List ℕ) (at k : ℕ) (all rest : List ℕ) → rest ≡ [] → UnderWay l m at k all rest → Written l m at k all
ended l m at k all rest e u = u.ends m k (written_none m k rest e)
