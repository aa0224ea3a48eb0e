-- The checker's answer in words. Assumes nothing.
use mathlib.Core.Path.{◌≡◌, ap, sym, subst, ◌∙◌}
use mathlib.Core.List.{List, [], ◌++◌}
use Prim.Native.Nat.{ℕ}
use borrow.Author.Tests.{ne_eqb, eq-eqb}
use Rattle.specification.specs.Words.{bytes}
use Rattle.specification.specs.Logs as C
use Rattle.specification.specs.Commands.{step_reason, count_text, checked_text, numeral}
use Rattle.telling.specs.Told.{Told}
use Rattle.std.specs.Prelude.{Ok, Err}
use Rattle.std.specs.Prelude as Std
use Rattle.refusal.specs.Numbers.{number_of}
use Rattle.logs.specs.declared.steps.RefusedAt.{RefusedAt}
use Rattle.logs.specs.Steps.{found_of}
use Rattle.checker.specs.declared.Accepted.{Accepted}
use Rattle.checker.specs.Answers.{checked_of}
use Rattle.verdicts.specs.Numbered.{numbered_of}

-- the last reason
pub reason-else : (n : ℕ) → (n ≡ 5 → ⊥) → (n ≡ 6 → ⊥) → (n ≡ 8 → ⊥) → (n ≡ 9 → ⊥) → (n ≡ 10 → ⊥) → (n ≡ 11 → ⊥) → (n ≡ 13 → ⊥) → (n ≡ 14 → ⊥)
    → bytes "a table that is none" ≡ step_reason n
unfolding step_reason
reason-else n a b c d e f g h = rw (ne_eqb n 5 a, ne_eqb n 6 b, ne_eqb n 8 c, ne_eqb n 9 d, ne_eqb n 10 e, ne_eqb n 11 f, ne_eqb n 13 g, ne_eqb n 14 h)

-- one, and more than one
pub one_text : (n : ℕ) (word : List ℕ) → n ≡ 1 → numeral n ++ bytes " " ++ word ++ [] ≡ count_text n word
unfolding count_text
one_text n word e = rw (eq-eqb n 1 e)

pub many-text : (n : ℕ) (word : List ℕ) → (n ≡ 1 → ⊥) → numeral n ++ bytes " " ++ word ++ bytes "s" ≡ count_text n word
unfolding count_text
many-text n word e = rw (ne_eqb n 1 e)

-- an answer of the checker by its numbers
pub accepted_numbered : (c : Std.Result Accepted RefusedAt) (a : Accepted) → c ≡ Ok a → numbered_of (Ok a) ≡ checked_of c
unfolding found_of numbered_of
accepted_numbered c a e = ap checked_of (sym e)

pub refused_numbered : (c : Std.Result Accepted RefusedAt) (e : RefusedAt) → c ≡ Err e → (n : ℕ) → n ≡ number_of e.why → numbered_of (Err (n, e.step)) ≡ checked_of c
unfolding found_of numbered_of
refused_numbered c e h n m = ap (λ (k : ℕ). C.refused_at k e.step) m ∙ ap checked_of (sym h)

module _ (first last : ℕ) (out : List ℕ) (end : ℕ) (c : Std.Result Accepted (ℕ × ℕ)) where
  pub refused_told : (n step : ℕ) → c ≡ Err (n, step) → Told out end (checked_text 0 0 (C.refused_at n step)) → Told out end (checked_text first last (numbered_of c))
  unfolding checked_text numbered_of
  refused_told n step h t = subst (λ (x : Std.Result Accepted (ℕ × ℕ)). Told out end (checked_text first last (numbered_of x))) (sym h) t

  pub accepted-told : (a : Accepted) → c ≡ Ok a → Told out end (checked_text first last (C.accepted 0 0 a.steps)) → Told out end (checked_text first last (numbered_of c))
  unfolding checked_text numbered_of
  accepted-told a e t = subst (λ (x : Std.Result Accepted (ℕ × ℕ)). Told out end (checked_text first last (numbered_of x))) (sym e) t
