-- Where names are as many as the letters of a table or more, a form whose letters are in it can be printed. Assumes nothing.
use mathlib.Core.Path.{◌≡◌}
use mathlib.Core.List.{List, [], ◌∷◌, map}
use Prim.Native.Nat.{ℕ, ◌<◌, ◌≤◌}
use native.Mathlib.Omega.{arith}
use lib.ListN.{length, take}
use Rattle.specification.specs.Results.{given}
use Rattle.specification.specs.Records.{test_terms}
use Rattle.theory.specs.Elements.{All, all_implies}
use Rattle.theory.specs.Order.{monomial}
use Rattle.theory.specs.Shape.Letters.{Known, FactorKnown, MonomialKnown, AllKnown, known_is, terms_known}
use Rattle.terms.specs.declared.types.Term.{Term}
use Rattle.terms.specs.declared.types.Form.{Form}
use Rattle.terms.specs.Abstraction.{term_of, form_of}
use Rattle.terms.specs.Valid.{FormValid}
use Rattle.symbols.specs.Printable.{Printed, TermPrinted, Printable}

module _ (table names : List ℕ) (many : length table ≤ length names) where
  letter-named : (kind n : ℕ) → Known table kind n → n < length names
  letter-named kind n k = omega (arith, (known_is table kind n k).0)

  -- known letters
  pub letters-named : (kind : ℕ) (l : List ℕ) → All (Known table kind) l → Printed names l
  letters-named kind l h = all_implies (Known table kind) (λ (n : ℕ). n < length names) (letter-named kind) l h

  -- those of a term
  pub term-named : (t : Term) → MonomialKnown table (monomial (term_of t)) → TermPrinted names (term_of t)
  term-named t k = record {
    factors = all_implies (FactorKnown table) (Printed names) (λ f h. letters-named _ f h) (term_of t).factors k.factors;
    part = letters-named _ (term_of t).part k.part;
  }

  terms-named : (ts : List Term) → AllKnown table (map term_of ts) → All (λ (t : Term). TermPrinted names (term_of t)) ts
  terms-named [] h = tt
  terms-named (t ∷ ts) h = (term-named t h.0, terms-named ts h.1)

  -- a form in shape whose letters passed their test
  pub printable : (f : Form) → FormValid f → test_terms table (form_of f).terms ≡ given tt → Printable names f
  unfolding form_of
  printable f v e = record { valid = v; letters = terms-named (take f.count f.terms) (terms_known table (form_of f).terms e) }
