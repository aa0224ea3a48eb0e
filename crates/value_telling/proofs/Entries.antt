-- The names of an assignment in words, one behind the other. Assumes nothing.
use mathlib.Core.Path.{◌≡◌, refl, sym, ◌∙◌, ap}
use mathlib.Core.List.{List, [], ◌∷◌, ◌++◌, append_assoc, append-nil}
use Prim.Native.Nat.{ℕ, ◌+◌, ◌-◌, ◌*◌, ◌≤◌, ◌<◌}
use native.Mathlib.Omega.{arith}
use native.Mathlib.Numerals.{add-one}
use borrow.Author.Tests.{eq-eqb, ne_eqb}
use lib.ListN.{length, get_or, drop, length-drop, drop_of_length-le}
use lib.Dec.{eqb}
use lib.Seq.{drop-cons, drop-drop, get_or-drop}
use Rattle.specification.specs.Results.{when◌then◌else◌}
use Rattle.specification.specs.Values.{Vec}
use Rattle.specification.specs.Words.{bytes}
use Rattle.specification.specs.Evaluation.{signed_byte, assignment}
use Rattle.specification.specs.Commands.{value_text, assignment_text}
use Rattle.theory.specs.Values.Vectors.{by-components}
use Rattle.telling.specs.Told.{Tells}
use Rattle.telling.proofs.Pieces.{tells-then, tells_as, tells-nothing}
use Rattle.value_telling.specs.Entries.{entry_text}

-- ════ one name

module _ (name kind : ℕ) (v : Vec) (left : ℕ) where
  -- the last
  pub entry-last : left ≡ 0 → (name ∷ []) ++ bytes " = " ++ value_text kind v ++ [] ≡ entry_text name kind v left
  unfolding entry_text
  entry-last e = rw (eq-eqb left 0 e)

  -- another
  pub entry_before : (left ≡ 0 → ⊥) → (name ∷ []) ++ bytes " = " ++ value_text kind v ++ bytes ", " ≡ entry_text name kind v left
  unfolding entry_text
  entry_before n = rw (ne_eqb left 0 n)

-- ════ all names

-- the letters of bytes dropped
letter-behind : (s : List ℕ) (i : ℕ) → assignment (drop (3 * i) s) 0 ≡ assignment s i
unfolding assignment
letter-behind s i =
    by-components (ap signed_byte (get_or-drop (3 * i) s 0 0 ∙ ap (λ (k : ℕ). get_or s k 0) (none (3 * i)))) (ap signed_byte (get_or-drop (3 * i) s 1 0))
    (ap signed_byte (get_or-drop (3 * i) s 2 0))
  where
    none : (n : ℕ) → n + 0 ≡ n
    none n = omega arith

-- so many names are told, and those that are left follow
pub record EntriesTold (l m : List ℕ) (at next : ℕ) (names table s : List ℕ) (i : ℕ) : Type 0 where
  pub few : i ≤ length names
  pub text : List ℕ
  pub told : Tells l m at next text
  pub rest : assignment_text names table s ≡ text ++ assignment_text (drop i names) (drop i table) (drop (3 * i) s)

-- none is told yet
pub entries-begin : (l : List ℕ) (at : ℕ) (names table s : List ℕ) → EntriesTold l l at at names table s 0
entries-begin l at names table s = record { few = omega arith; text = []; told = tells-nothing l at; rest = refl }

module _ {l m : List ℕ} {at next : ℕ} (names table s : List ℕ) (i : ℕ) (h : EntriesTold l m at next names table s i) where
  -- one more
  pub entries-more : {n : List ℕ} {after : ℕ} (v : Vec) → i < length names → length names ≤ length table → v ≡ assignment s i
      → Tells m n next after (entry_text (get_or names i 0) (get_or table i 0) v (length names - i - 1))
      → EntriesTold l n at after names table s (i + 1)
  unfolding assignment_text entry_text
  entries-more v k fit e t = record {
    few = omega arith;
    text = h.text ++ entry_text (get_or names i 0) (get_or table i 0) v (length names - i - 1);
    told = tells-then h.told t;
    rest = h.rest
        ∙ ap (λ (r : List ℕ). h.text ++ r) cut
        ∙ sym (append_assoc h.text (entry_text (get_or names i 0) (get_or table i 0) v (length names - i - 1))
        (assignment_text (drop (i + 1) names) (drop (i + 1) table) (drop (3 * (i + 1)) s)));
  }
    where
      comma : ℕ → List ℕ
      comma n = when eqb n 0 then [] else bytes ", "

      rest : List ℕ
      rest = assignment_text (drop (i + 1) names) (drop (i + 1) table) (drop (3 * (i + 1)) s)

      left : length (drop (i + 1) names) ≡ length names - i - 1
      left = length-drop (i + 1) names ∙ minus (length names) i
        where
          minus : (n i : ℕ) → n - (i + 1) ≡ n - i - 1
          minus n i = omega arith

      behind : drop 3 (drop (3 * i) s) ≡ drop (3 * (i + 1)) s
      behind = drop-drop 3 (3 * i) s ∙ ap (λ (n : ℕ). drop n s) (three i)
        where
          three : (i : ℕ) → 3 * i + 3 ≡ 3 * (i + 1)
          three i = omega arith

      here : assignment_text (drop i names) (drop i table) (drop (3 * i) s)
          ≡ get_or names i 0 ∷ bytes " = " ++ value_text (get_or table i 0) (assignment (drop (3 * i) s) 0) ++ comma (length (drop (i + 1) names))
          ++ assignment_text (drop (i + 1) names) (drop (i + 1) table) (drop 3 (drop (3 * i) s))
      here = let g : i < length table = omega arith in rw (drop-cons names i 0 k, drop-cons table i 0 g, add-one)

      cut : assignment_text (drop i names) (drop i table) (drop (3 * i) s) ≡ entry_text (get_or names i 0) (get_or table i 0) v (length names - i - 1) ++ rest
      cut =
          here
          ∙ (λ j. get_or names i 0 ∷ bytes " = " ++ value_text (get_or table i 0) ((letter-behind s i ∙ sym e) j) ++ comma (left j)
          ++ assignment_text (drop (i + 1) names) (drop (i + 1) table) (behind j))

  -- all
  pub entries-end : length names ≤ i → Tells l m at next (assignment_text names table s)
  unfolding assignment_text
  entries-end k =
      tells_as _
      (sym (h.rest ∙ ap (λ (r : List ℕ). h.text ++ assignment_text r (drop i table) (drop (3 * i) s)) (drop_of_length-le names k) ∙ append-nil h.text))
      h.told
