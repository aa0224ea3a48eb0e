-- The summands of a component of a form, and of the difference of two forms: what the functions ask and promise. Assumes nothing.
use Rattle.std.specs.Prelude.{◌≡◌, List, ◌++◌, map, ℕ, ◌+◌, ◌*◌, ◌≤◌, ◌<◌, ℤ, pos, negsuc, nat_abs, length, take}
use Rattle.specification.specs.Lists.{joined}
use Rattle.specification.specs.Terms as S
use Rattle.theory.specs.Elements.{All}
use Rattle.terms.specs.declared.types.Form.{Form}
use Rattle.terms.specs.Abstraction.{form_of}
use Rattle.terms.specs.Valid.{FormValid}
use Rattle.polynomials.specs.Summands.{Summand, Weakly, substituted}
use Rattle.polynomials.specs.Sorting.{Rearranged}
use Rattle.polynomials.specs.Expansion.{LettersBelow, expand_term}

-- the component i of terms, times a sign
unfoldable pub expand_terms : (i : ℕ) (sign : ℤ) (ts : List S.Term) → List Summand
expand_terms i sign ts = joined (map (expand_term i sign) ts)

-- the letters of a term are below 24
pub record TermBelow (t : S.Term) : Type 0 where
  pub factors : All LettersBelow t.factors
  pub part : LettersBelow t.part

-- a form's component can be expanded
pub record FormExpandable (start : ℕ) (f : Form) (i : ℕ) (sign : ℤ) (ms : List Summand) : Type 0 where
  pub room : start + 36 * f.count ≤ length ms
  pub valid : FormValid f
  pub below : All TermBelow (form_of f).terms
  pub component : i < 3
  pub unit : nat_abs sign ≤ 1

-- the summands of a component of the difference of two forms
unfoldable pub difference : (i : ℕ) (f g : S.Form) → List Summand
difference i f g = expand_terms i (pos 1) f.terms ++ expand_terms i (negsuc 0) g.terms

-- the component of the difference of two forms can be gathered
pub record Comparable (f g : Form) (i : ℕ) (ms : List Summand) : Type 0 where
  pub room : 3456 ≤ length ms
  pub valid_first : FormValid f
  pub valid_second : FormValid g
  pub below_first : All TermBelow (form_of f).terms
  pub below_second : All TermBelow (form_of g).terms
  pub component : i < 3

-- it is gathered: sorted, like neighbours added, r are left in front
pub record Compared (es : List Summand) (r : ℕ) (ms ns : List Summand) : Type 0 where
  pub before : List Summand
  pub sorted : List Summand
  pub expanded : take (length es) before ≡ es
  pub reordered : Rearranged (length es) before sorted
  pub ascending : Weakly 0 (take (length es) sorted)
  pub is : take r ns ≡ substituted 255 1 (take (length es) sorted)
  pub few : r ≤ length es
  pub same : length ns ≡ length ms
