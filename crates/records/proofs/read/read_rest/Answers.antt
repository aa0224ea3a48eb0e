use Rattle.std.proofs.Common.{rules}
use mathlib.Core.Bool.{true}
use mathlib.Core.Path.{◌≡◌, sym, ◌∙◌}
use Prim.Native.Nat.{◌+◌, ◌≤◌}
use native.Mathlib.Omega.{arith}
use borrow.Author.Tests.{not-true, not-false, leb-true}
use lib.Dec.{leb}
use lib.ListN.{length}
use Rattle.integers.proofs.Machine.{back, back_is}
use Rattle.records.specs.Reading.{listed}
use Rattle.records.proofs.Readers.{rest_short, rest-bad, rest_given}
use Rattle.records.proofs.read.read_rest.Goals.{After-struct_told-1, Else-not-room, Start}
use Rattle.records.proofs.read.read_rest.Goals as goal

-- there is room for the letters
there : (c : Else-not-room) → leb (c.args.r.next + c.args.n) (length c.args.s.now) ≡ true
there c = sym c.room.ensures ∙ c.if-not-room.false

roomy : (c : Else-not-room) → c.args.r.next + c.args.n ≤ length c.args.s.now
roomy c = leb-true _ _ (there c)

-- the coefficient is read back as it was stored
own : (c : After-struct_told-1) → back c.args.r.coef ≡ c.args.r.coef
own c = back_is (record { sfits = search rules })

many : (c : Start) → c.args.r.count ≤ 7
unfolding listed
many c = c.requires.0.few

pub returns-then-not-room : goal.returns-then-not-room
returns-then-not-room c = rest_short c.args.s.now c.args.f.now c.args.r c.args.n (sym c.room.ensures ∙ c.if-not-room.true)

pub part_at-part-requires : goal.part_at-part-requires
part_at-part-requires c = (c.requires.1, roomy (goal.at.part_at-part-requires c).Else-not-room)

pub in_shape-requires : goal.in_shape-requires
in_shape-requires c = (many (goal.at.in_shape-requires c).Start, c.requires.2)

pub returns-then-not-in_shape : goal.returns-then-not-in_shape
returns-then-not-in_shape c = rest-bad c.args.s.now c.args.f.now c.args.r c.args.n _ _ (there (goal.at.returns-then-not-in_shape c).Else-not-room) c.part_at-part.ensures (own (goal.at.returns-then-not-in_shape c).After-struct_told-1) (sym c.in_shape.ensures ∙ c.if-not-in_shape.true)

pub returns : goal.returns
returns c = rest_given c.args.s.now c.args.f.now c.args.r c.args.n _ _ (there (goal.at.returns c).Else-not-room) c.part_at-part.ensures (own (goal.at.returns c).After-struct_told-1) (sym c.in_shape.ensures ∙ c.if-not-in_shape.false) c.requires.0
