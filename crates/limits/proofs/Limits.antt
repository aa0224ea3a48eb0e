-- The limits of a run of rows tested. Assumes nothing.
use mathlib.Core.Path.{◌≡◌, refl, ap, sym, subst, ◌∙◌}
use mathlib.Core.Bool.{Bool, true, false, ◌&&◌}
use mathlib.Core.List.{List, [], ◌∷◌}
use Prim.Native.Nat.{ℕ, ◌+◌, ◌<◌, ◌≤◌}
use native.Mathlib.Omega.{arith}
use lib.Dec.{T, leb→le, le→leb}
use lib.IntN.{ℤ, pos, nat_abs}
use lib.ListN.{length, take, drop, get_or, drop_of_length-le}
use lib.Seq.{length-take-le}
use Rattle.specification.specs.Lists.{all}
use Rattle.specification.specs.Results.{given, refused}
use Rattle.specification.specs.Terms.{coef_within, term_within, within}
use Rattle.specification.specs.Terms as S
use Rattle.theory.specs.Elements.{All, all_implies, all_T, T_all}
use Rattle.terms.specs.declared.types.Term.{Term}
use Rattle.theory.specs.Tests.{is_true}
use Rattle.terms.proofs.Arrays.{rest_at}
use Rattle.rows.specs.Rows.{term_by, terms_by, run_of, Light}
use Rattle.std.specs.Prelude.{Ok, Err}
use Rattle.refusal.specs.declared.Refusal.TheVariants.{LargeCoefficient, ManyTerms}
use Rattle.limits.specs.Limits.{RunTested, limited_of}
use Rattle.rows.proofs.Runs.{run_length}
use borrow.Author.Tests.{le-leb, lt-leb}

-- ════ the limits of terms

-- a coefficient is beyond
pub within_9 : (kind : ℕ) (ts : List S.Term) → all term_within ts ≡ false → within kind ts ≡ refused 9
unfolding within
within_9 kind ts e = rw e

-- none is, but there are too many terms
pub within_10 : (kind : ℕ) (ts : List S.Term) → all term_within ts ≡ true → 48 < length ts → within kind ts ≡ refused 10
unfolding within
within_10 kind ts e h = rw (e, lt-leb (length ts) 48 h)

-- neither
pub within_both : (kind : ℕ) (ts : List S.Term) → all term_within ts ≡ true → length ts ≤ 48 → within kind ts ≡ given (record { kind = kind; terms = ts })
unfolding within
within_both kind ts e h = rw (e, le-leb (length ts) 48 h)

-- ════ the limits

terms_within : (rs : List (List ℕ)) (cs : List ℤ) → length rs ≡ length cs → all term_within (terms_by rs cs) ≡ all coef_within cs
unfolding terms_by term_by all term_within
terms_within [] [] h = refl
terms_within [] (c ∷ cs) h = absurd (omega arith)
terms_within (r ∷ rs) [] h = absurd (omega arith)
terms_within (r ∷ rs) (c ∷ cs) h = ap (λ (b : Bool). coef_within c && b) (terms_within rs cs (omega arith))

within-light : (cs : List ℤ) → all coef_within cs ≡ true → All (λ (z : ℤ). nat_abs z ≤ 2147483647) cs
unfolding coef_within
within-light cs e =
    all_implies (λ (z : ℤ). T (coef_within z)) (λ (z : ℤ). nat_abs z ≤ 2147483647) (λ z h. leb→le (nat_abs z) 2147483647 h) cs (all_T coef_within cs (subst T (sym
    e) tt))

-- and back
pub light-within : (coefs : List ℤ) (n b : ℕ) → b ≤ 2147483647 → Light b n coefs → all coef_within (take n coefs) ≡ true
unfolding coef_within Light
light-within coefs n b h l =
    is_true (all coef_within (take n coefs))
    (T_all coef_within (take n coefs) (all_implies (λ (z : ℤ). nat_abs z ≤ b) (λ (z : ℤ). T (coef_within z)) (λ z g. le→leb (nat_abs z) 2147483647 (omega arith))
    (take n coefs) l))

module _ (coefs : List ℤ) (n : ℕ) (hc : n ≤ length coefs) where
  run_within : (rows : List (List ℕ)) → n ≤ length rows → all term_within (run_of n rows coefs) ≡ all coef_within (take n coefs)
  unfolding run_of
  run_within rows hr = terms_within (take n rows) (take n coefs) (length-take-le n rows hr ∙ sym (length-take-le n coefs hc))

  pub tested_9 : all coef_within (take n coefs) ≡ false → RunTested n coefs (Err LargeCoefficient)
  unfolding limited_of
  tested_9 e = record {
    is = λ rows hr kind. within_9 kind (run_of n rows coefs) (run_within rows hr ∙ e);
    few = tt;
    light = tt;
  }

  pub tested_10 : all coef_within (take n coefs) ≡ true → 48 < n → RunTested n coefs (Err ManyTerms)
  unfolding limited_of
  tested_10 e h = record {
    is = λ rows hr kind. within_10 kind (run_of n rows coefs) (run_within rows hr ∙ e) (omega (arith, run_length rows coefs n hr hc));
    few = tt;
    light = tt;
  }

  pub tested_none : all coef_within (take n coefs) ≡ true → n ≤ 48 → RunTested n coefs (Ok tt)
  unfolding limited_of Light
  tested_none e h = record {
    is = λ rows hr kind. within_both kind (run_of n rows coefs) (run_within rows hr ∙ e) (omega (arith, run_length rows coefs n hr hc));
    few = h;
    light = within-light (take n coefs) e;
  }

  module _ (i : ℕ) (h : i < n) (inv : all coef_within (take n coefs) ≡ all coef_within (drop i (take n coefs))) (b : Bool)
      (q : b ≡ coef_within (get_or coefs i (pos 0))) where
    here : all coef_within (take n coefs) ≡ (b && all coef_within (drop (i + 1) (take n coefs)))
    unfolding all
    here = inv ∙ ap (all coef_within) (rest_at coefs n i (pos 0) hc h) ∙ ap (λ (x : Bool). x && all coef_within (drop (i + 1) (take n coefs))) (sym q)

    pub beyond-at : b ≡ false → all coef_within (take n coefs) ≡ false
    beyond-at e = here ∙ rw e

    pub inside-at : b ≡ true → all coef_within (take n coefs) ≡ all coef_within (drop (i + 1) (take n coefs))
    inside-at e = here ∙ rw e

  pub inside-to_end : (i : ℕ) → n ≤ i → all coef_within (take n coefs) ≡ all coef_within (drop i (take n coefs)) → all coef_within (take n coefs) ≡ true
  unfolding all
  inside-to_end i h inv = inv ∙ rw (drop_of_length-le (take n coefs) {i = i} (omega (arith, length-take-le n coefs hc)))
