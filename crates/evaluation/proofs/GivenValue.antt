-- What the value call gives is the value of the form that the bytes are, under the assignment that the bytes give, and 64 bits hold it. Assumes nothing.
use mathlib.Core.Path.{◌≡◌, ap, sym, ◌∙◌}
use mathlib.Core.List.{List}
use Prim.Native.Nat.{ℕ, ◌*◌, ◌^◌}
use native.Mathlib.Omega.{arith}
use lib.Dec.{T}
use lib.ListN.{length}
use Rattle.specification.specs.Results.{given}
use Rattle.specification.specs.Letters.{test_table}
use Rattle.specification.specs.Values.{Vec}
use Rattle.specification.specs.Terms.{Form, term_in_shape}
use Rattle.specification.specs.Records.{read_form, test_terms, take_form}
use Rattle.specification.specs.Evaluation.{good_assignment, assignment, terms_value, value, value_call}
use Rattle.theory.specs.Elements.{all_T}
use Rattle.theory.specs.Records.Positions.{Bytes}
use Rattle.theory.specs.Records.Forms.{form_one_record}
use Rattle.theory.specs.Tests.{is_true, given_same, required, tested, bound}
use Rattle.std.specs.Prelude as Std
use Rattle.refusal.specs.declared.Refusal.{Refusal}
use Rattle.evaluation.specs.declared.vectors.Vector.{Vector}
use Rattle.evaluation.specs.Vectors.{Within}
use Rattle.evaluation.specs.Answers.{valued_of}
use Rattle.evaluation.proofs.Bounds.{within_more, assignment-small, terms-small}
use Rattle.evaluation.proofs.Answering.{good_small}

-- the table, the form and the assignment are taken, and v is the form's value
pub record ValueOf (table form s : List ℕ) (v : Vec) : Type 0 where
  pub f : Form
  pub table_taken : test_table table ≡ given tt
  pub form_taken : take_form table form ≡ given f
  pub assignment_taken : T (good_assignment table s)
  pub is : v ≡ value (assignment s) f

module _ (table form s : List ℕ) (r : Std.Result Vector Refusal) (contract : valued_of r ≡ value_call table form s) where
  -- what the call gives
  pub value_at-call : (v : Vec) → valued_of r ≡ given v → ValueOf table form s v
  unfolding value_call
  value_at-call v e =
      let w₁ = tested (test_table table) _ v (sym contract ∙ e) in
      let w₂ = bound (take_form table form) _ v w₁.1 in
      let w₃ = required (good_assignment table s) 12 _ v w₂.2 in
      record { f = w₂.0; table_taken = w₁.0; form_taken = w₂.1; assignment_taken = w₃.0; is = given_same (sym w₃.1) }

  -- and it gives it wherever nothing is refused
  pub call_at_value : (v : Vec) → ValueOf table form s v → valued_of r ≡ given v
  unfolding value_call
  call_at_value v w = contract ∙ rw (w.table_taken, w.form_taken, is_true (good_assignment table s) w.assignment_taken, w.is)

-- no component is larger than 48 · 2 ^ 57 in size
pub value_small : (table form s : List ℕ) (v : Vec) → Bytes form → ValueOf table form s v → Within (48 * 2 ^ 57) v
unfolding take_form value
value_small table form s v bs w =
    let w₁ = bound (read_form form) _ w.f w.form_taken in
    let w₂ = tested (test_terms table w₁.0.terms) (given w₁.0) w.f w₁.2 in
    let o = (form_one_record form w₁.0 bs w₁.1).in_shape in
    let e : v ≡ terms_value (assignment s) w₁.0.terms = w.is ∙ ap (λ (f : Form). terms_value (assignment s) f.terms) (sym (given_same w₂.1)) in
    let small = assignment-small s (good_small table s (is_true (good_assignment table s) w.assignment_taken)) in
    rw e
    (within_more (length w₁.0.terms * 2 ^ 57) (48 * 2 ^ 57) _ (omega (arith, o.count))
    (terms-small (assignment s) small w₁.0.terms (all_T term_in_shape w₁.0.terms o.terms)))
