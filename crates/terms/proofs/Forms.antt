-- The terms of a valid form. Assumes nothing.
use mathlib.Core.Path.{◌≡◌, ◌∙◌}
use native.Mathlib.Omega.{arith}
use lib.ListN.{length, length-map, take}
use lib.Seq.{length-take-le}
use Rattle.terms.specs.declared.types.Form.{Form}
use Rattle.terms.specs.Abstraction.{term_of, form_of}
use Rattle.terms.specs.Valid.{FormValid}

module _ (f : Form) (v : FormValid f) (places : length f.terms ≡ 48) where
  -- a form has as many terms as it counts
  pub form-long : length (form_of f).terms ≡ f.count
  unfolding form_of
  form-long = length-map (take f.count f.terms) term_of ∙ length-take-le f.count f.terms (omega (arith, v.few, places))
