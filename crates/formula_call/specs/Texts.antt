-- The form of a text by value, or its refusal at its column. Assumes nothing.
use Rattle.std.specs.Prelude.{◌≡◌, IfOk}
use Rattle.std.specs.Prelude as Std
use Rattle.specification.specs.Terms as S
use Rattle.specification.specs.Text.{Placed}
use Rattle.terms.specs.declared.types.Form.{Form}
use Rattle.terms.specs.Abstraction.{form_of}
use Rattle.terms.specs.Valid.{FormValid}
use Rattle.texts.specs.declared.Unread.{Unread}
use Rattle.texts.specs.Readings.{placed_of}

-- the form of a text or its refusal; where it is one, a valid one
pub record TextGives (x : Placed S.Form) (r : Std.Result Form Unread) : Type 0 where
  pub is : placed_of form_of r ≡ x
  pub valid : IfOk r FormValid
