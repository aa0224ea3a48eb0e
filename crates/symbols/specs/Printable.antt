-- The named invariant of a form that can be printed with the names of letters given. Assumes nothing.
use Rattle.std.specs.Prelude.{List, ℕ, ◌<◌, length, take}
use Rattle.specification.specs.Terms as S
use Rattle.theory.specs.Elements.{All}
use Rattle.terms.specs.declared.types.Term.{Term}
use Rattle.terms.specs.declared.types.Form.{Form}
use Rattle.terms.specs.Abstraction.{term_of}
use Rattle.terms.specs.Valid.{TermValid, FormValid}

-- each letter has a name
abbrev pub Printed : (names : List ℕ) → List ℕ → Type 0
Printed names l = All (λ (n : ℕ). n < length names) l

-- and so has each letter of a term
pub record TermPrinted (names : List ℕ) (t : S.Term) : Type 0 where
  pub factors : All (Printed names) t.factors
  pub part : Printed names t.part

-- a term in shape whose letters have names
pub record TermPrintable (names : List ℕ) (t : Term) : Type 0 where
  pub valid : TermValid t
  pub letters : TermPrinted names (term_of t)

-- a form in shape whose letters have names
pub record Printable (names : List ℕ) (f : Form) : Type 0 where
  pub valid : FormValid f
  pub letters : All (λ (t : Term). TermPrinted names (term_of t)) (take f.count f.terms)
