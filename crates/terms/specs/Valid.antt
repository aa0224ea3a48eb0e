-- The named invariants: what one crate of ours may ask of another's terms and forms. Assumes nothing.
use Rattle.std.specs.Prelude.{◌≡◌, ℕ, ◌≤◌, T, take, IfOk}
use Rattle.std.specs.Prelude as Std
use Rattle.specification.specs.Results.{Result}
use Rattle.specification.specs.Terms.{term_in_shape}
use Rattle.specification.specs.Terms as S
use Rattle.theory.specs.Elements.{All}
use Rattle.theory.specs.Shape.Forms.{FormInShape}
use Rattle.terms.specs.declared.types.Term.{Term}
use Rattle.terms.specs.declared.types.Form.{Form}
use Rattle.refusal.specs.declared.Refusal.{Refusal}
use Rattle.refusal.specs.Tests.{answer_of}
use Rattle.terms.specs.Abstraction.{term_of, form_of, Counted}

-- a term in shape
pub record TermValid (t : Term) : Type 0 where
  pub counted : Counted t
  pub in_shape : T (term_in_shape (term_of t))

-- a form that a reader can go on with
pub record Readable (n : ℕ) (f : Form) : Type 0 where
  pub few : f.count ≤ n
  pub counted : All Counted (take f.count f.terms)

-- a form in shape
pub record FormValid (f : Form) : Type 0 where
  pub few : f.count ≤ 48
  pub counted : All Counted (take f.count f.terms)
  pub in_shape : FormInShape (form_of f)

-- the result of taking or working a form; where it is one, a valid one
pub record Gives (x : Result S.Form) (r : Std.Result Form Refusal) : Type 0 where
  pub is : answer_of form_of r ≡ x
  pub valid : IfOk r FormValid
