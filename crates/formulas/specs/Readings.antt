-- What was read, as an answer on the way: reading's refusal with its column, or what working gave in lent rows and the position behind. Assumes nothing.
use Rattle.std.specs.Prelude.{◌≡◌, List, ℕ, ◌≤◌, ℤ, length, IfOk}
use Rattle.std.specs.Prelude as Std
use Rattle.specification.specs.Terms.{Form}
use Rattle.specification.specs.Text.{Placed, placed, ◌>>=◌, at_column, next}
use Rattle.theory.specs.Text.OnTheWay.{Way, join_at, triple_at, operates, fronted, way_closed}
use Rattle.refusal.specs.declared.Refusal.{Refusal}
use Rattle.refusal.specs.Tests.{answer_of}
use Rattle.rows.specs.declared.Worked.{Worked}
use Rattle.rows.specs.Rows.{form_by, FormRun}
use Rattle.texts.specs.declared.Unread.{Unread}
use Rattle.texts.specs.Readings.{placed_of}
use Rattle.formulas.specs.declared.atoms.Name.{Name}
use Rattle.formulas.specs.declared.joining.Reading.{Reading}

-- names for letters of a table
pub record Named (names table : List ℕ) : Type 0 where
  pub fit : length names ≤ length table
  pub few : length table ≤ 24

-- what working gave: a form in rows, or its refusal at a column
abbrev pub worked_at : (w : Std.Result Worked Refusal) (column : ℕ) (rows : List (List ℕ)) (coefs : List ℤ) → Placed Form
worked_at w column rows coefs = at_column column (answer_of (λ x. form_by x.kind x.count rows coefs) w)

-- the answer
abbrev pub way_of : (r : Std.Result Reading Unread) (rows : List (List ℕ)) (coefs : List ℤ) → Way
way_of r rows coefs = placed_of (λ x. (worked_at x.work x.column rows coefs, x.next)) r

-- a form that working gave is in shape
pub record Read (r : Reading) (rows : List (List ℕ)) (coefs : List ℤ) : Type 0 where
  pub form : IfOk r.work (λ w. FormRun w.kind w.count rows coefs)

-- it is this answer; a form that working gave is in shape
pub record WayGives (x : Way) (r : Std.Result Reading Unread) (rows : List (List ℕ)) (coefs : List ℤ) : Type 0 where
  pub is : x ≡ way_of r rows coefs
  pub read : IfOk r (λ a. Read a rows coefs)

-- two operands joined by an operator of a level
pub record Joined (level b : ℕ) (x : Reading) (rows : List (List ℕ)) (coefs : List ℤ) (y : Reading) (right : List (List ℕ)) (rights : List ℤ) (r : Reading)
    (rows' : List (List ℕ)) (coefs' : List ℤ) : Type 0 where
  pub is : worked_at r.work r.column rows' coefs'
      ≡ join_at x.next (operates level b) (worked_at x.work x.column rows coefs) (worked_at y.work y.column right rights)
  pub next : r.next ≡ y.next
  pub read : Read r rows' coefs'

-- a minus in front
pub record Fronted (level b : ℕ) (a : Reading) (rows : List (List ℕ)) (coefs : List ℤ) (coefs' : List ℤ) : Type 0 where
  pub is : worked_at a.work a.column rows coefs' ≡ fronted level b (worked_at a.work a.column rows coefs)
  pub read : Read a rows coefs'

-- the letter of a name
abbrev pub named : (n : Name) (rows : List (List ℕ)) (coefs : List ℤ) → Form
named n rows coefs = form_by n.work.kind n.work.count rows coefs

-- its form is in shape
pub record Formed (n : Name) (rows : List (List ℕ)) (coefs : List ℤ) : Type 0 where
  pub form : FormRun n.work.kind n.work.count rows coefs

-- a name that was read is worked
pub record NameRead (x : Way) (r : Std.Result Name Unread) (rows : List (List ℕ)) (coefs : List ℤ) : Type 0 where
  pub is : x ≡ placed_of (λ n. (placed (named n rows coefs), n.next)) r
  pub formed : IfOk r (λ n. Formed n rows coefs)

-- the triple of three names, at a column, and the closing parenthesis behind them passed
pub record TripleRead (s : List ℕ) (at : ℕ) (x : Name) (rows : List (List ℕ)) (coefs : List ℤ) (y : Name) (right : List (List ℕ)) (rights : List ℤ)
    (z : Name) (third : List (List ℕ)) (thirds : List ℤ) (r : Reading) (rows' : List (List ℕ)) (coefs' : List ℤ) : Type 0 where
  pub is : worked_at r.work r.column rows' coefs'
      ≡ triple_at at (placed (named x rows coefs)) (placed (named y right rights)) (placed (named z third thirds))
  pub next_is : r.next ≡ next s z.next
  pub read : Read r rows' coefs'

-- behind what was read stands a closing parenthesis, or it is refused
pub record ClosedAs (s : List ℕ) (r q : Std.Result Reading Unread) : Type 0 where
  pub is : (x : Way) (rows : List (List ℕ)) (coefs : List ℤ) → WayGives x r rows coefs → WayGives (x >>= way_closed s) q rows coefs

-- the whole text: what reading or working refused with its column, or the form in rows, which is in shape
pub record TextRead (x : Placed Form) (r : Std.Result Worked Unread) (rows : List (List ℕ)) (coefs : List ℤ) : Type 0 where
  pub is : x ≡ placed_of (λ w. form_by w.kind w.count rows coefs) r
  pub form : IfOk r (λ w. FormRun w.kind w.count rows coefs)
