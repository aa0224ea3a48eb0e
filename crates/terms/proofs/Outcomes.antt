-- Results: refused, given, the same in other words. Assumes nothing.
use mathlib.Core.Path.{◌≡◌, sym, ◌∙◌}
use Rattle.std.specs.Prelude.{Ok, Err}
use Rattle.std.specs.Prelude as Std
use Rattle.specification.specs.Results.{Result, given, refused}
use Rattle.specification.specs.Terms as S
use Rattle.refusal.specs.declared.Refusal.{Refusal}
use Rattle.refusal.specs.Numbers.{number_of}
use Rattle.terms.specs.declared.types.Form.{Form}
use Rattle.terms.specs.Abstraction.{form_of}
use Rattle.terms.specs.Valid.{FormValid, Gives}

-- a refusal is that refusal
pub refuses : (x : Result S.Form) (e : Refusal) → x ≡ refused (number_of e) → Gives x (Err e)
refuses x e p = record { is = sym p; valid = tt }

-- a form is that form
pub gives : (x : Result S.Form) (f : Form) → x ≡ given (form_of f) → FormValid f → Gives x (Ok f)
gives x f p v = record { is = sym p; valid = v }

-- the same result in other words
pub works_as : (x y : Result S.Form) (r : Std.Result Form Refusal) → x ≡ y → Gives x r → Gives y r
works_as x y r e w = record { is = w.is ∙ e; valid = w.valid }

-- a result that was given
pub worked_given : (x : Result S.Form) (f : Form) → Gives x (Ok f) → x ≡ given (form_of f)
worked_given x f w = sym w.is

-- a result that was refused
pub worked_refused : (x : Result S.Form) (e : Refusal) → Gives x (Err e) → x ≡ refused (number_of e)
worked_refused x e w = sym w.is
