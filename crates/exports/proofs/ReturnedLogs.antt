-- What the shortening call for C returns and leaves, from the tests that it makes. Assumes nothing.
use mathlib.Core.Path.{◌≡◌, refl, ap, sym, subst, ◌∙◌}
use mathlib.Core.List.{List, [], ◌∷◌}
use Prim.Native.Nat.{ℕ, ◌≤◌, ◌<◌}
use native.Mathlib.Omega.{arith}
use lib.IntN.{ℤ}
use lib.ListN.{length, drop, set}
use borrow.Author.Tests.{le-leb, lt-leb}
use Rattle.specification.specs.Shortening.{shortening_bytes, log_length, shortened, unshortened, shorten_tested, ShortenedBy, Shortened}
use Rattle.specification.specs.Results.{Result, refused, given}
use Rattle.specification.specs.Letters.{test_table}
use Rattle.specification.specs.Terms.{Form}
use Rattle.std.specs.Prelude.{Ok, Err}
use Rattle.refusal.specs.declared.Refusal.{Refusal}
use Rattle.refusal.specs.declared.Refusal.TheVariants.{NoRoom}
use Rattle.refusal.specs.Numbers.{number_of}
use Rattle.refusal.specs.Tests.{test_of}
use Rattle.shortening.specs.declared.Written.{Written}
use Rattle.shortening.specs.Answers.{shortening_of}
use Rattle.specification.specs.Returns.{returned, shorten_asked, ShortenReturnedBy, ShortenReturned}

-- one store puts the number of steps in front
pub step-stored : (l : List ℕ) (k : ℕ) → 1 ≤ length l → set l 0 k ≡ k ∷ drop 1 l
step-stored [] k h = absurd (omega arith)
step-stored (x ∷ l) k h = refl

-- a log that was written is short
pub written_short : (w : Written) → log_length (shortening_of (Ok w)) ≤ shortening_bytes → w.size ≤ shortening_bytes
unfolding log_length shortening_of
written_short w h = h

module _ (table form out steps : List ℕ) where
  by_tests : (t : Result Form) (r : ℤ) (out' steps' : List ℕ) → shorten_asked table form out steps ≡ t → ShortenReturnedBy t table form out steps r out' steps'
      → ShortenReturned table form out steps r out' steps'
  unfolding ShortenReturned
  by_tests t r out' steps' e w = subst (λ (t : Result Form). ShortenReturnedBy t table form out steps r out' steps') (sym e) w

  -- 1 comes first
  pub shorten-table : (e : Refusal) → test_of (Err e) ≡ test_table table → (n : ℕ) → n ≡ number_of e → (r : ℤ) → r ≡ returned (refused n) → ShortenReturned table form out steps r out steps
  unfolding ShortenReturnedBy shorten_asked
  shorten-table e et n q r p = by_tests (refused n) r out steps (rw (← et, q) refl) (record { is = p; out_stands = refl; steps_stand = refl })

  module _ (u : Unit {0}) (et : test_of (Ok u) ≡ test_table table) where
    -- then 2
    pub shorten_short : length steps < 1 → (n : ℕ) → n ≡ number_of NoRoom → (r : ℤ) → r ≡ returned (refused n) → ShortenReturned table form out steps r out steps
    unfolding ShortenReturnedBy shorten_asked
    shorten_short h n q r p = by_tests (refused n) r out steps (rw (← et, lt-leb 1 (length steps) h, q)) (record { is = p; out_stands = refl; steps_stand = refl })

    module _ (enough : 1 ≤ length steps) (out' : List ℕ) where
      tests-are : shorten_asked table form out steps ≡ shorten_tested table form out
      unfolding shorten_asked
      tests-are = rw (← et, le-leb 1 (length steps) enough)

      -- then shortening's own refusals
      pub shorten_refused : (e : Refusal) → Shortened table form out (shortening_of (Err e)) out' → (n : ℕ) → n ≡ number_of e → (r : ℤ) → r ≡ returned (refused n)
          → ShortenReturned table form out steps r out' steps
      unfolding shortening_of Shortened ShortenedBy ShortenReturnedBy
      shorten_refused e w n q r p = by_tests (shorten_tested table form out) r out' steps tests-are (go (shorten_tested table form out) w)
        where
          go : (t : Result Form) → ShortenedBy t table form out (unshortened (number_of e)) out' → ShortenReturnedBy t table form out steps r out' steps
          go (refused x) v = record { is = p ∙ ap (λ (y : ℕ). returned (refused y)) (q ∙ v.0); out_stands = v.1; steps_stand = refl }
          go (given f) v = absurd v

      -- or the log
      pub shorten_given : (l : Written) → Shortened table form out (shortening_of (Ok l)) out' → (r : ℤ) → r ≡ returned (given l.size) → (steps' : List ℕ) → steps' ≡ l.steps ∷ drop 1 steps
          → ShortenReturned table form out steps r out' steps'
      unfolding shortening_of Shortened ShortenedBy ShortenReturnedBy
      shorten_given l w r p steps' q = by_tests (shorten_tested table form out) r out' steps' tests-are (go (shorten_tested table form out) w)
        where
          go : (t : Result Form) → ShortenedBy t table form out (shortened l.size l.steps) out' → ShortenReturnedBy t table form out steps r out' steps'
          go (refused x) v = absurd v
          go (given f) v = record { size = l.size; count = l.steps; is = p; shortened = v; steps_written = q }
