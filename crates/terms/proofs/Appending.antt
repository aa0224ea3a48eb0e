-- A factor put behind others. Assumes nothing.
use mathlib.Core.Path.{◌≡◌}
use mathlib.Core.List.{[], ◌∷◌, ◌++◌, map}
use Prim.Native.Nat.{ℕ, ◌+◌, ◌<◌}
use native.Mathlib.Omega.{arith}
use lib.ListN.{length, take, set}
use Rattle.theory.specs.Elements.{all_append}
use Rattle.terms.specs.declared.types.Term.{Term}
use Rattle.terms.specs.Numbers.{letters_of}
use Rattle.terms.specs.Abstraction.{part_of, term_of, Counted}
use Rattle.terms.specs.Build.{behind, Appended}
use Rattle.terms.proofs.Arrays.{stored-behind, mapped-behind}

-- one behind those of a term
pub appended_one : (t r : Term) (k : ℕ) → Counted t → t.factor_count < 7 → k < 16843008 → length t.factors ≡ 7
    → r.coef ≡ t.coef → r.factors ≡ set t.factors t.factor_count k → r.factor_count ≡ t.factor_count + 1 → r.part ≡ t.part
    → Appended (letters_of k ∷ []) 1 t r
unfolding term_of behind
appended_one t r k h n b l ec ef en ep = record {
  is = λ i. record { coef = ec i; factors = factors i; part = part_of (ep i) };
  counted = record { few = rw en (omega arith); small = rw (en, ef, numbers) (all_append (λ (x : ℕ). x < 16843008) (take t.factor_count t.factors) (k ∷ []) h.small (b, tt)) };
  count = en;
}
  where
    numbers : take (t.factor_count + 1) (set t.factors t.factor_count k) ≡ take t.factor_count t.factors ++ k ∷ []
    numbers = stored-behind t.factors t.factor_count k (omega arith)

    factors : map letters_of (take r.factor_count r.factors) ≡ map letters_of (take t.factor_count t.factors) ++ letters_of k ∷ []
    factors = rw (en, ef, numbers) (mapped-behind letters_of (take t.factor_count t.factors) k)
