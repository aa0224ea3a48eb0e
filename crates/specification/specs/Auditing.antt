-- Demand 3 as one call: a form is shortened, the checker is given the log, and the log's ends are decided. Assumes nothing.
use Rattle.std.specs.Prelude.{◌≡◌, ◌&&◌, List, ℕ, leb, length, take, drop}
use Rattle.specification.specs.Results.{Result, refused, given, ◌>>◌, require}
use Rattle.specification.specs.Letters.{test_table}
use Rattle.specification.specs.Terms.{Form}
use Rattle.specification.specs.Decision.{buffer_bytes, work_bytes, holds, Decided}
use Rattle.specification.specs.Shortening.{shorten_tested, ShortenedTo}

-- shortening, the checker and the decision agree on a log of so many bytes and steps; or refused with its number; or they do not agree
pub data Verdict : Type 0 where
  agreed : ℕ → ℕ → Verdict
  unaudited : ℕ → Verdict
  apart : Verdict

-- the tests in their order: 1; 2 for any of the three memories; then shortening's of the contents
unfoldable pub audit_tested : (table form out buffer work : List ℕ) → Result Form
audit_tested table form out buffer work = do
  test_table table
  require (leb buffer_bytes (length buffer) && leb work_bytes (length work)) 2
  shorten_tested table form out

-- refused: all lent memory stands
pub record AllStands (answer : Verdict) (n : ℕ) (out buffer work out' buffer' work' : List ℕ) : Type 0 where
  pub is : answer ≡ unaudited n
  pub out_stands : out' ≡ out
  pub buffer_stands : buffer' ≡ buffer
  pub work_stands : work' ≡ work

-- what demand 3 says of a form to which no refusal applies: the log as shortening promises it, accepted with the steps reported, and the decision of its ends
pub record AllAgree (table form : List ℕ) (first : Form) (answer : Verdict) (out buffer work out' buffer' work' : List ℕ) : Type 0 where
  pub size : ℕ
  pub steps : ℕ
  pub is : answer ≡ agreed size steps
  pub shortened : ShortenedTo table form first out size steps out'
  pub decided : Decided table (take (length form) (take size out')) (drop shortened.last_start (take size out')) buffer work holds buffer' work'

-- one or the other, by the tests
unfoldable pub AuditedBy : (tested : Result Form) (table form out buffer work : List ℕ) (answer : Verdict) (out' buffer' work' : List ℕ) → Type 0
AuditedBy (refused n) table form out buffer work answer out' buffer' work' = AllStands answer n out buffer work out' buffer' work'
AuditedBy (given first) table form out buffer work answer out' buffer' work' = AllAgree table form first answer out buffer work out' buffer' work'

-- the call: table, form, memory for the log, buffer, work bytes; the answer, and all memory lent, afterwards
unfoldable pub Audited : (table form out buffer work : List ℕ) (answer : Verdict) (out' buffer' work' : List ℕ) → Type 0
Audited table form out buffer work answer out' buffer' work' =
    AuditedBy (audit_tested table form out buffer work) table form out buffer work answer out' buffer' work'
