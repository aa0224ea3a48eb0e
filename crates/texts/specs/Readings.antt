-- What is read of a text, as the specification has it: the refusal at its column, or what was read. Assumes nothing.
use Rattle.std.specs.Prelude.{Ok, Err}
use Rattle.std.specs.Prelude as Std
use Rattle.specification.specs.Text.{Placed, refused_at, placed}
use Rattle.refusal.specs.Numbers.{number_of}
use Rattle.texts.specs.declared.Unread.{Unread}

-- what was read seen as the specification has it, or the refusal
abbrev pub placed_of : {A B : Type 0} → (A → B) → Std.Result A Unread → Placed B
placed_of see (Ok a) = placed (see a)
placed_of see (Err e) = refused_at (number_of e.why) e.column
