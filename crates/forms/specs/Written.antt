-- What the writer of forms leaves in the bytes lent. Assumes nothing.
use Rattle.std.specs.Prelude.{◌≡◌, List, ℕ, length}
use Rattle.specification.specs.Terms.{Form}
use Rattle.specification.specs.Records.{write_form, write_into}

-- the record of a form in front of the bytes lent, and its length
pub record FormWritten (before after : List ℕ) (count : ℕ) (f : Form) : Type 0 where
  pub ends : count ≡ length (write_form f)
  pub bytes : after ≡ write_into (write_form f) before
