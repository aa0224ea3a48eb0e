-- Bytes written over others: nothing, stores in a row, and writes one after the other. Assumes nothing.
use mathlib.Core.Path.{◌≡◌, refl, ◌∙◌}
use mathlib.Core.List.{List, [], ◌∷◌, ◌++◌, append_assoc}
use Prim.Native.Nat.{ℕ, ◌+◌, ◌≤◌, ◌<◌}
use native.Mathlib.Omega.{arith}
use lib.ListN.{length, set, length-append}
use lib.Seq.{sets}
use Rattle.integers.specs.Over.{over}
use Rattle.integers.proofs.Over.{length_over, take_over, drop_over-start, sets_over, set-over, over-nil, over-then}
use Rattle.record_writing.specs.Written.{Written}

-- nothing written
pub written_none : (l : List ℕ) (at : ℕ) (xs : List ℕ) → xs ≡ [] → Written l l at at xs
written_none l at xs e = rw e (record { ends = omega arith; bytes = over-nil l at })

-- a single store
pub written_store : (l : List ℕ) (at x : ℕ) → at < length l → Written l (set l at x) at (at + 1) (x ∷ [])
written_store l at x h = record { ends = refl; bytes = set-over l at x h }

-- stores in a row
pub written_stores : (l m : List ℕ) (at next : ℕ) (xs ys : List ℕ) → ys ≡ xs → at + length ys ≤ length l → next ≡ at + length xs → m ≡ sets l at xs → Written l m at next ys
written_stores l m at next xs ys e h p q = rw e (record { ends = p; bytes = q ∙ sets_over l at xs (rw e at h) })

-- two writes, one after the other
pub written_then : (l m n : List ℕ) (at k next : ℕ) (xs ys : List ℕ) → at ≤ length l → Written l m at k xs → Written m n k next ys → Written l n at next (xs ++ ys)
written_then l m n at k next xs ys h p q =
    record {
      ends = simp length-append (omega (arith, p.ends, q.ends));
      bytes = over-then l m n at k xs ys h p.bytes p.ends q.bytes;
    }

-- a write that fits keeps the length
pub written_length : (l m : List ℕ) (at next : ℕ) (xs : List ℕ) → at + length xs ≤ length l → Written l m at next xs → length m ≡ length l
written_length l m at next xs h p = rw p.bytes (length_over l at xs h)

-- a byte stored in front of what was written
pub written_front : (l m : List ℕ) (at next x : ℕ) (xs : List ℕ) → at + 1 + length xs ≤ length l → Written l m (at + 1) next xs → Written l (set m at x) at next (x ∷ xs)
unfolding over
written_front l m at next x xs h p =
    let e : length m ≡ length l = written_length l m (at + 1) next xs h p in
    let d : at + 1 + length xs ≡ at + length (x ∷ xs) = omega arith in
    record {
      ends = omega (arith, p.ends);
      bytes = set-over m at x (omega arith)
          ∙ rw (p.bytes, take_over at l (at + 1) xs (omega arith) (omega arith), drop_over-start l (at + 1) xs (omega arith), d) (simp append_assoc);
    }
