-- What is promised of the calls beyond their definitions: P2, P3, P6 and P7 (demands 2 and 3), the value of K1 and the bytes of K2,
-- of what a call gave or wrote; K5 of every list of calls. Assumes nothing.
use Rattle.std.specs.Prelude.{◌≡◌, List, map, ℕ, ◌+◌, ◌*◌, T, length, take, drop}
use Rattle.specification.specs.Results.{Result, refused, given, when◌then◌else◌}
use Rattle.specification.specs.Values.{Vec}
use Rattle.specification.specs.Terms.{Form}
use Rattle.specification.specs.Records.{write_into, form_tested, read_form, take_form}
use Rattle.specification.specs.Expressions.{Expr, read_expr}
use Rattle.specification.specs.Insertion.{replaced}
use Rattle.specification.specs.Evaluation.{value, expr_value, value_call}
use Rattle.specification.specs.Rules.{Step}
use Rattle.specification.specs.Logs.{Log, Checked, accepted, refused_at, write_step, read_log, same_form, take_steps, within_limits}
use Rattle.specification.specs.Decision.{Decision, holds, differs, decide_tested, Decided}
use Rattle.specification.specs.OpenLogs.{write_state, OpenLog}

-- P2: the bytes written are the record of a form that has the value of the expression under every assignment of integers
pub record KeepsValue (table expr written : List ℕ) : Type 0 where
  pub tree : Expr
  pub form : Form
  pub is_read : read_expr table expr ≡ given tree
  pub is_form : take_form table written ≡ given form
  pub same_value : (σ : ℕ → Vec) → value σ form ≡ expr_value σ tree

-- K1: of the bytes that insertion wrote: they are the record of a form whose value, under every assignment of integers, is the old form's where the letter
-- has the inserted form's value
pub record Inserts (table form : List ℕ) (letter : ℕ) (inserted written : List ℕ) : Type 0 where
  pub old : Form
  pub put : Form
  pub new : Form
  pub is_old : take_form table form ≡ given old
  pub is_put : take_form table inserted ≡ given put
  pub is_new : take_form table written ≡ given new
  pub same_value : (σ : ℕ → Vec) → value σ new ≡ value (replaced σ letter (value σ put)) old

-- ════ P3: records

-- a form taken from its sender and written again: the very bytes that were read, and as many; 1, then 2, then contents
unfoldable pub rewrite_tested : (table form out : List ℕ) → Result Form
rewrite_tested table form out = form_tested table out (take_form table form)

-- the length and the bytes of the form itself in front of the memory lent, or the number, and all memory stands
unfoldable pub rewrite_answer : Result Form → (form out : List ℕ) → Result ℕ × List ℕ
rewrite_answer (refused n) form out = (refused n, out)
rewrite_answer (given f) form out = (given (length form), write_into form out)

-- what reading and then writing gives
unfoldable pub rewrite_call : (table form out : List ℕ) → Result ℕ × List ℕ
rewrite_call table form out = rewrite_answer (rewrite_tested table form out) form out

-- ════ P7: logs

-- two forms have the same kind, and equal values under every assignment
pub record EndsAgree (first last : Form) : Type 0 where
  pub same_kind : first.kind ≡ last.kind
  pub same_value : (σ : ℕ → Vec) → value σ first ≡ value σ last

-- the first form's bytes are those up to the position reported, the last form's those from the position reported on
pub record EndsRead (s : List ℕ) (a b : ℕ) (first last : Form) : Type 0 where
  pub first_is : read_form (take a s) ≡ given first
  pub last_is : read_form (drop b s) ≡ given last

-- the ends of an accepted log, read as its parts, agree
pub record AcceptedEnds (s : List ℕ) (a b : ℕ) : Type 0 where
  pub first : Form
  pub last : Form
  pub are_read : EndsRead s a b first last
  pub agree : EndsAgree first last

-- of a log within the limits: its steps reach a form; it is accepted where that is the last form, else the answer is 13 at steps + 1
pub record WithinLimits (s : List ℕ) (answer : Checked) : Type 0 where
  pub log : Log
  pub reached : Form
  pub is_read : read_log s ≡ given log
  pub reaches : take_steps log.first log.steps ≡ given reached
  pub is : answer ≡ (when same_form log.last reached then accepted log.first_end log.last_start (length log.steps) else refused_at 13 (length log.steps + 1))

-- the answer for a log, whoever wrote it
pub record LogPromise (s : List ℕ) (answer : Checked) : Type 0 where
  pub ends : (a b n : ℕ) → answer ≡ accepted a b n → AcceptedEnds s a b
  pub limits : T (within_limits answer) → WithinLimits s answer

-- ════ P6: the decision

-- the value call refuses neither form, and what it gives for the two is different
pub record ValuesDiffer (table s t bytes : List ℕ) : Type 0 where
  pub first : Vec
  pub second : Vec
  pub first_given : value_call table s bytes ≡ given first
  pub second_given : value_call table t bytes ≡ given second
  pub different : ¬ (first ≡ second)

-- of two forms that the decision takes: "holds" exactly where they are equal under every assignment; where it says "differs", the value call on the
-- bytes handed over tells them apart, and (K2) whoever decides the same forms, whatever is lent, hands over the same bytes
pub record DecisionPromise (table s t buffer work : List ℕ) (answer : Decision) (buffer' : List ℕ) : Type 0 where
  pub holds_only : (f g : Form) → decide_tested table s t buffer work ≡ given (f, g) → answer ≡ holds → (σ : ℕ → Vec) → value σ f ≡ value σ g
  pub holds_always : (f g : Form) → decide_tested table s t buffer work ≡ given (f, g) → ((σ : ℕ → Vec) → value σ f ≡ value σ g) → answer ≡ holds
  pub tells_apart : answer ≡ differs → ValuesDiffer table s t (take (3 * length table) buffer')
  pub same_bytes : answer ≡ differs → (b w b' w' : List ℕ) → Decided table s t b w differs b' w' → take (3 * length table) b' ≡ take (3 * length table) buffer'

-- ════ K5: every list of calls on a log that was opened with a table and the bytes of a first form

-- the steps that were taken lead from the first form to one, and the state has the table, their number and that form
pub record Replayed (table form : List ℕ) (log : OpenLog) : Type 0 where
  pub first : Form
  pub steps : List Step
  pub reached : Form
  pub is_first : take_form table form ≡ given first
  pub are_steps : map write_step steps ≡ log.steps
  pub reaches : take_steps first steps ≡ given reached
  pub is_state : write_state (record { table = table; count = length steps; form = reached }) ≡ log.state
