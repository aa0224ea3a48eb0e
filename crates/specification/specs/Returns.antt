-- What C gets of the calls: one signed number, and all memory lent, afterwards. Assumes nothing.
use Rattle.std.specs.Prelude.{◌≡◌, List, ◌∷◌, ℕ, ◌+◌, ◌*◌, ℤ, pos, neg_ℤ, leb, length, drop}
use Rattle.specification.specs.Results.{Result, refused, given, ◌>>◌, require}
use Rattle.specification.specs.Letters.{test_table}
use Rattle.specification.specs.Values.{Vec}
use Rattle.specification.specs.Reduction.{reduce_call}
use Rattle.specification.specs.Insertion.{insert_call}
use Rattle.specification.specs.Evaluation.{value_call}
use Rattle.specification.specs.Logs.{Checked, refused_at, accepted, at_step, check_call}
use Rattle.specification.specs.Terms.{Form}
use Rattle.specification.specs.Decision as D
use Rattle.specification.specs.OpenLogs.{open_call, add_call, look_call, DecidedOpen, close_call}
use Rattle.specification.specs.Shortening.{shorten_tested, ShortenedTo}
use Rattle.specification.specs.Auditing.{agreed, audit_tested, AllAgree}
use Rattle.specification.specs.Text.{text_call, print_named_call}

-- what is given, or minus the number of the refusal
unfoldable pub returned : Result ℕ → ℤ
returned (refused n) = neg_ℤ (pos n)
returned (given n) = pos n

-- a call's answer: the number returned, and the memory lent, afterwards
unfoldable pub handed : {A : Type 0} → Result ℕ × List A → ℤ × List A
handed a = (returned a.0, a.1)

-- three numbers in front of the memory lent: further ones stand
unfoldable pub three_into : Vec → (memory : List ℤ) → List ℤ
three_into v memory = v.x ∷ v.y ∷ v.z ∷ drop 3 memory

-- 0 and the three numbers written, or the number, and the memory stands
unfoldable pub answer_vec : Result Vec → (memory : List ℤ) → Result ℕ × List ℤ
answer_vec (refused n) memory = (refused n, memory)
answer_vec (given v) memory = (given 0, three_into v memory)

-- 1, then 2, then contents
unfoldable pub value_tested : (table form s : List ℕ) (values : List ℤ) → Result Vec
value_tested table form s values = do
  test_table table
  require (leb 3 (length values)) 2
  value_call table form s

-- the value call with memory for its three numbers
unfoldable pub value_returned : (table form s : List ℕ) (values : List ℤ) → ℤ × List ℤ
value_returned table form s values = handed (answer_vec (value_tested table form s values) values)

-- the reduction call
unfoldable pub reduce_returned : (table expr out : List ℕ) → ℤ × List ℕ
reduce_returned table expr out = handed (reduce_call table expr out)

-- the insertion call
unfoldable pub insert_returned : (table form : List ℕ) (letter : ℕ) (inserted out : List ℕ) → ℤ × List ℕ
insert_returned table form letter inserted out = handed (insert_call table form letter inserted out)

-- ════ texts

-- three parts of an answer: the number returned, and the memory lent, afterwards
unfoldable pub handed_both : {A B : Type 0} → Result ℕ × List A × List B → ℤ × List A × List B
handed_both a = (returned a.0, a.1, a.2)

-- the call that reads a text
unfoldable pub read_text_returned : (table names s out columns : List ℕ) → ℤ × List ℕ × List ℕ
read_text_returned table names s out columns = handed_both (text_call table names s out columns)

-- the call that prints a form with names
unfoldable pub print_returned : (table names form out : List ℕ) → ℤ × List ℕ
print_returned table names form out = handed (print_named_call table names form out)

-- ════ the checker

-- minus (number · 256 + step)
unfoldable pub returned_at : (number step : ℕ) → ℤ
returned_at n k = neg_ℤ (pos (n * 256 + k))

-- where the first form ends, where the last begins and the steps in front of the memory lent: further numbers stand
unfoldable pub places_into : (a b n : ℕ) (memory : List ℕ) → List ℕ
places_into a b n memory = a ∷ b ∷ n ∷ drop 3 memory

-- 0 and the three numbers written, or the number and its step, and the memory stands
unfoldable pub answer_log : Checked → (memory : List ℕ) → ℤ × List ℕ
answer_log (refused_at n k) memory = (returned_at n k, memory)
answer_log (accepted a b n) memory = (pos 0, places_into a b n memory)

-- the checker's call with memory for its three numbers: 1, then 2, then contents
unfoldable pub check_returned : (table log places : List ℕ) → ℤ × List ℕ
check_returned table log places =
    answer_log (at_step 0 (test_table table) λ _. at_step 0 (require (leb 3 (length places)) 2) λ _. check_call table log) places

-- ════ the decision

-- 0 for holds, 1 for differs, minus the number of a refusal
unfoldable pub decision_returned : D.Decision → ℤ
decision_returned D.holds = pos 0
decision_returned D.differs = pos 1
decision_returned (D.undecided n) = neg_ℤ (pos n)

-- the decision call: the number returned is that of an answer which is decided
pub record DecideReturned (table first second buffer work : List ℕ) (r : ℤ) (buffer' work' : List ℕ) : Type 0 where
  pub answer : D.Decision
  pub is : r ≡ decision_returned answer
  pub decided : D.Decided table first second buffer work answer buffer' work'

-- ════ a log that stays open

-- the call that opens a log
unfoldable pub open_returned : (table form state : List ℕ) → ℤ × List ℕ
open_returned table form state = handed (open_call table form state)

-- the call that adds a step
unfoldable pub add_returned : (state step next : List ℕ) → ℤ × List ℕ
add_returned state step next = handed (add_call state step next)

-- the call that looks at the form reached
unfoldable pub look_returned : (state out : List ℕ) → ℤ × List ℕ
look_returned state out = handed (look_call state out)

-- the call that decides the form reached against another: the number returned is that of an answer which is decided
pub record DecideOpenReturned (state form buffer work : List ℕ) (r : ℤ) (buffer' work' : List ℕ) : Type 0 where
  pub answer : D.Decision
  pub is : r ≡ decision_returned answer
  pub decided : DecidedOpen state form buffer work answer buffer' work'

-- the call that closes a log: 0 where it is accepted
unfoldable pub close_returned : (state form : List ℕ) → ℤ
close_returned state form = returned (close_call state form >> given 0)

-- ════ shortening

-- 1, then 2 for memory without a place for the steps, then shortening's own tests
unfoldable pub shorten_asked : (table form out steps : List ℕ) → Result Form
shorten_asked table form out steps = do
  test_table table
  require (leb 1 (length steps)) 2
  shorten_tested table form out

-- a refusal: minus its number, and all lent memory stands
pub record ShortenRefused (n : ℕ) (out steps : List ℕ) (r : ℤ) (out' steps' : List ℕ) : Type 0 where
  pub is : r ≡ returned (refused n)
  pub out_stands : out' ≡ out
  pub steps_stand : steps' ≡ steps

-- a log: its length, what shortening promises of it, and its steps in front of the memory lent for them
pub record ShortenGiven (table form : List ℕ) (first : Form) (out steps : List ℕ) (r : ℤ) (out' steps' : List ℕ) : Type 0 where
  pub size : ℕ
  pub count : ℕ
  pub is : r ≡ returned (given size)
  pub shortened : ShortenedTo table form first out size count out'
  pub steps_written : steps' ≡ count ∷ drop 1 steps

-- one or the other, by the tests
unfoldable pub ShortenReturnedBy : (tested : Result Form) (table form out steps : List ℕ) (r : ℤ) (out' steps' : List ℕ) → Type 0
ShortenReturnedBy (refused n) table form out steps r out' steps' = ShortenRefused n out steps r out' steps'
ShortenReturnedBy (given first) table form out steps r out' steps' = ShortenGiven table form first out steps r out' steps'

-- the shortening call with memory for the number of its steps
unfoldable pub ShortenReturned : (table form out steps : List ℕ) (r : ℤ) (out' steps' : List ℕ) → Type 0
ShortenReturned table form out steps r out' steps' = ShortenReturnedBy (shorten_asked table form out steps) table form out steps r out' steps'

-- ════ the audit

-- 1, then 2 for memory without a place for the steps, then the audit's own tests
unfoldable pub audit_asked : (table form out buffer work steps : List ℕ) → Result Form
audit_asked table form out buffer work steps = do
  test_table table
  require (leb 1 (length steps)) 2
  audit_tested table form out buffer work

-- a refusal: minus its number, and all lent memory stands
pub record AuditRefused (n : ℕ) (out buffer work steps : List ℕ) (r : ℤ) (out' buffer' work' steps' : List ℕ) : Type 0 where
  pub is : r ≡ returned (refused n)
  pub out_stands : out' ≡ out
  pub buffer_stands : buffer' ≡ buffer
  pub work_stands : work' ≡ work
  pub steps_stand : steps' ≡ steps

-- a log on which shortening, the checker and the decision agree: its length, what the audit says of it, and its steps in front of the memory lent for them
pub record AuditGiven (table form : List ℕ) (first : Form) (out buffer work steps : List ℕ) (r : ℤ) (out' buffer' work' steps' : List ℕ) : Type 0 where
  pub size : ℕ
  pub count : ℕ
  pub is : r ≡ returned (given size)
  pub agree : AllAgree table form first (agreed size count) out buffer work out' buffer' work'
  pub steps_written : steps' ≡ count ∷ drop 1 steps

-- one or the other, by the tests; that they do not agree never comes
unfoldable pub AuditReturnedBy : (tested : Result Form) (table form out buffer work steps : List ℕ) (r : ℤ) (out' buffer' work' steps' : List ℕ) → Type 0
AuditReturnedBy (refused n) table form out buffer work steps r out' buffer' work' steps' = AuditRefused n out buffer work steps r out' buffer' work' steps'
AuditReturnedBy (given first) table form out buffer work steps r out' buffer' work' steps' =
    AuditGiven table form first out buffer work steps r out' buffer' work' steps'

-- the audit with memory for the number of its steps
unfoldable pub AuditReturned : (table form out buffer work steps : List ℕ) (r : ℤ) (out' buffer' work' steps' : List ℕ) → Type 0
AuditReturned table form out buffer work steps r out' buffer' work' steps' =
    AuditReturnedBy (audit_asked table form out buffer work steps) table form out buffer work steps r out' buffer' work' steps'
