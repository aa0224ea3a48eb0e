-- The structs as the specification's terms and forms: each array up to its count. Assumes nothing.
use Rattle.std.specs.Prelude.{Bool, true, false, List, [], ◌∷◌, map, take}
use Prim.Native.Nat.{ℕ, Ordering, ◌≤◌, ◌<◌}
use Rattle.specification.specs.Terms as S
use Rattle.theory.specs.Elements.{All}
use Rattle.terms.specs.declared.types.Part.{Part}
use Rattle.terms.specs.declared.types.Part.TheVariants.{Nothing, Letter, Wedge}
use Rattle.terms.specs.declared.factors.Factor.{Factor}
use Rattle.terms.specs.declared.factors.Factor.TheVariants.{Scalar, Dot, Triple}
use Rattle.terms.specs.declared.types.Term.{Term}
use Rattle.terms.specs.declared.types.Form.{Form}
use Rattle.std.specs.declared.cmp.Ordering as Std
use Rattle.std.specs.declared.cmp.Ordering.TheVariants.{Less, Equal, Greater}
use Rattle.terms.specs.Numbers.{letters_of}

-- the letters of a vector part
unfoldable pub part_of : Part → List ℕ
part_of Nothing = []
part_of (Letter x) = x ∷ []
part_of (Wedge x y) = x ∷ y ∷ []

-- the letters of a factor
unfoldable pub factor_of : Factor → List ℕ
factor_of (Scalar x) = x ∷ []
factor_of (Dot x y) = x ∷ y ∷ []
factor_of (Triple x y z) = x ∷ y ∷ z ∷ []

-- a term
unfoldable pub term_of : Term → S.Term
term_of t = record { coef = t.coef; factors = map letters_of (take t.factor_count t.factors); part = part_of t.part }

-- a form
unfoldable pub form_of : Form → S.Form
form_of f = record { kind = f.kind; terms = map term_of (take f.count f.terms) }

-- the terms of a form
unfoldable pub terms_of : Form → List S.Term
terms_of f = map term_of (take f.count f.terms)

-- what a comparison found
unfoldable pub ordering_of : Std.Ordering → Ordering
ordering_of Less = Ordering.lt
ordering_of Equal = Ordering.eq
ordering_of Greater = Ordering.gt

-- strictly behind
abbrev pub is_more : Ordering → Bool
is_more Ordering.lt = false
is_more Ordering.eq = false
is_more Ordering.gt = true

-- a term's count is within its array, and its factors' letters are bytes
pub record Counted (t : Term) : Type 0 where
  pub few : t.factor_count ≤ 7
  pub small : All (λ (k : ℕ). k < 16843008) (take t.factor_count t.factors)
