-- What the writer of logs leaves in the bytes lent. Assumes nothing.
use Rattle.std.specs.Prelude.{◌≡◌, List, ℕ, length}
use Rattle.specification.specs.Terms.{Form}
use Rattle.specification.specs.Records.{write_into}
use Rattle.specification.specs.Rules.{Step}
use Rattle.specification.specs.Logs.{write_log}

-- the log in front of the bytes lent, and its length
pub record LogWritten (before after : List ℕ) (size : ℕ) (first : Form) (steps : List Step) (last : Form) : Type 0 where
  pub ends : size ≡ length (write_log first steps last)
  pub bytes : after ≡ write_into (write_log first steps last) before
