-- What insertion takes from its sender (K1): two forms in shape with letters of the table, a vector letter of the table, and a vector form. Assumes nothing.
use Rattle.std.specs.Prelude.{◌≡◌, List, ℕ, eqb}
use Rattle.std.proofs.Common.{subst, eqb→eq}
use Rattle.specification.specs.Results.{given}
use Rattle.specification.specs.Letters.{vector, test_letter}
use Rattle.specification.specs.Terms.{Form}
use Rattle.specification.specs.Records.{take_both}
use Rattle.specification.specs.Insertion.{take_insertion}
use Rattle.theory.specs.Tests.{given_same, required, tested, into}
use Rattle.theory.specs.Shape.Forms.{FormInShape}
use Rattle.theory.specs.Records.Positions.{Bytes}
use Rattle.theory.specs.Records.Forms.{form_one_record}
use Rattle.theory.specs.Records.Taken.{FormTaken, both_taken}

-- what insertion takes: the old form, the form put in, which is a vector, both in shape, and a vector letter of the table
pub record InsertionTaken (table form : List ℕ) (letter : ℕ) (inserted : List ℕ) (f g : Form) : Type 0 where
  pub old : FormTaken table form f
  pub put : FormTaken table inserted g
  pub old_in_shape : FormInShape f
  pub put_in_shape : FormInShape g
  pub letter_tested : test_letter table vector letter ≡ given tt
  pub put_is_vector : g.kind ≡ vector

-- K1: what was taken passed every test
pub insertion_taken : (table form : List ℕ) (letter : ℕ) (inserted : List ℕ) (f g : Form) → Bytes form → Bytes inserted
    → take_insertion table form letter inserted ≡ given (f, g) → InsertionTaken table form letter inserted f g
unfolding take_insertion
insertion_taken table form letter inserted f g bf bi e =
    into (take_both table form inserted) _ (f, g) e λ p b e₁.
    let l = tested (test_letter table vector letter) _ (f, g) e₁ in
    let k = required (eqb p.1.kind vector) 6 _ (f, g) l.1 in
    let both = both_taken table form inserted p b in
    subst (λ (q : Form × Form). InsertionTaken table form letter inserted q.0 q.1) (given_same k.1)
    (record {
      old = both.0;
      put = both.1;
      old_in_shape = (form_one_record form p.0 bf both.0.is_read).in_shape;
      put_in_shape = (form_one_record inserted p.1 bi both.1.is_read).in_shape;
      letter_tested = l.0;
      put_is_vector = eqb→eq p.1.kind vector k.0;
    })
