-- A text copied in front of lent bytes, and the answer of the call. Assumes nothing.
use mathlib.Core.Path.{◌≡◌, refl, sym, ◌∙◌, ap, subst}
use mathlib.Core.Bool.{Bool, true, false, ◌&&◌}
use mathlib.Core.List.{List, [], ◌∷◌, ◌++◌}
use Prim.Native.Nat.{ℕ, zero, suc, ◌+◌, ◌≤◌, ◌<◌}
use native.Mathlib.Omega.{arith}
use native.Mathlib.Numerals.{add-one}
use borrow.Author.Tests.{le-leb, lt-leb}
use lib.Dec.{leb}
use lib.ListN.{length, get_or, take, drop, set, length-append, length-drop}
use lib.Seq.{take_all, length-take-le}
use Rattle.specification.specs.Results.{Result, refused, given, when◌then◌else◌}
use Rattle.specification.specs.Records.{write_into}
use Rattle.specification.specs.Commands.{Commanded, answer_bytes, tell_into, CommandAnswered}
use Rattle.theory.specs.Tests.{refused≢given, given_same}
use Rattle.records.proofs.Inside.{written_inside}
use Rattle.std.specs.Prelude.{Ok}
use Rattle.std.specs.Prelude as Std
use Rattle.refusal.specs.declared.Refusal.{Refusal}
use Rattle.printer_call.specs.Answers.{length_of}
use Rattle.telling.specs.Told.{Told, AnswerTold}

-- ════ the answer

-- its bytes are no more than those lent
pub part_fits_lem : (n : ℕ) (told out : List ℕ) → 65536 ≡ length told → n ≤ 65536 → n ≤ length out → length (take n told) ≤ length out
part_fits_lem n told out room l h = omega (arith, length-take-le n told (omega arith))

module _ (word s out told : List ℕ) (n : ℕ) (room : 65536 ≡ length told) (a : AnswerTold (Commanded word s) told n) where
  -- it has more bytes than an answer may have
  pub too_long : length told < n → CommandAnswered word s out (refused 2) out
  unfolding tell_into
  too_long h = record {
    text = a.text;
    commanded = a.right;
    told = sym (rw (lt-leb (length a.text) 65536 (omega (arith, a.told.short h))));
  }

  module _ (l : n ≤ length told) where
    long : n ≡ length a.text
    long = a.told.ends l

    -- it has more than were lent
    pub no_room : length out < n → CommandAnswered word s out (refused 2) out
    unfolding tell_into
    no_room h = record {
      text = a.text;
      commanded = a.right;
      told = sym (rw (le-leb (length a.text) 65536 (omega (arith, long)), lt-leb (length a.text) (length out) (omega (arith, long))));
    }

    -- it is written
    pub written : n ≤ length out → (out' : List ℕ) → out' ≡ write_into (take n told) out → CommandAnswered word s out (given n) out'
    unfolding tell_into
    written h out' e = record {
      text = a.text;
      commanded = a.right;
      told = (λ i. (given (long i), (e ∙ ap (λ (t : List ℕ). write_into t out) (a.told.stands l)) i))
          ∙ sym (rw (le-leb (length a.text) 65536 (omega (arith, long)), le-leb (length a.text) (length out) (omega (arith, long))));
    }

-- an answer that was written lies inside the bytes lent
pub answered-inside : (word s out out' : List ℕ) (r : Std.Result ℕ Refusal) (n : ℕ) → CommandAnswered word s out (length_of r) out' → r ≡ Ok n → n ≤ length out'
unfolding tell_into
answered-inside word s out out' r n a g =
    go (leb (length a.text) answer_bytes && leb (length a.text) (length out)) ((λ i. (length_of (sym g i), out')) ∙ a.told)
  where
    go : (b : Bool) → ◌≡◌ {A = Result ℕ × List ℕ} (given n, out') (when b then (given (length a.text), write_into a.text out) else (refused 2, out)) → n ≤ length out'
    go true e = written_inside a.text out out' n (given_same (ap (λ (p : Result ℕ × List ℕ). p.0) e)) (ap (λ (p : Result ℕ × List ℕ). p.1) e)
    go false e = absurd (refused≢given (sym (ap (λ (p : Result ℕ × List ℕ). p.0) e)))
