use Rattle.std.proofs.Common.{rules}
use mathlib.Core.Path.{◌≡◌, refl, sym, ap, ◌∙◌}
use mathlib.Core.List.{[]}
use Prim.Native.Nat.{◌+◌, ◌≤◌}
use native.Mathlib.Omega.{arith}
use borrow.Author.Tests.{not-true, not-false, leb-true}
use lib.IntN.{ℤ}
use lib.ListN.{length}
use Rattle.integers.proofs.Machine.{back, back_is}
use Rattle.specification.specs.Results.{given}
use Rattle.specification.specs.Terms.{with_coef, plus}
use Rattle.specification.specs.Records.{is_one, four_bytes_at}
use Rattle.records.proofs.Readers.{coef-absent, coef_short, coef_one, coef_given, coef-goes, coef-refuses}
use Rattle.records.proofs.read.read_coef.Goals.{After-four_bytes_at-coef, After-is_one, Else-not-room}
use Rattle.records.proofs.read.read_coef.Goals as goal

-- there is room for four bytes
four : (c : Else-not-room) → c.args.at + 4 ≤ length c.args.s.now
four c = leb-true _ _ (sym c.room.ensures ∙ c.if-not-room.false)

-- what they spell
spelt : (c : After-four_bytes_at-coef) → back c.four_bytes_at-coef.result ≡ four_bytes_at c.args.s.now c.args.at
spelt c = back_is (record { sfits = c.four_bytes_at-coef.type_inv }) ∙ c.four_bytes_at-coef.ensures.value

one : (c : After-is_one) → c.is_one.result ≡ is_one (four_bytes_at c.args.s.now c.args.at)
one c = c.is_one.ensures ∙ ap is_one (back_is (record { sfits = c.four_bytes_at-coef.type_inv }) ∙ c.four_bytes_at-coef.ensures.value)

pub returns-then-not-there : goal.returns-then-not-there
returns-then-not-there c = coef-goes _ _ _ _ refl (coef-absent _ _ _ _ c.if-not-there.true)

pub returns-then-not-room : goal.returns-then-not-room
returns-then-not-room c = coef-refuses _ _ _ (coef_short _ _ _ _ c.if-not-there.false (sym c.room.ensures ∙ c.if-not-room.true))

pub four_bytes_at-coef-requires : goal.four_bytes_at-coef-requires
four_bytes_at-coef-requires c = four (goal.at.four_bytes_at-coef-requires c).Else-not-room

pub returns-then-is_one : goal.returns-then-is_one
returns-then-is_one c = coef-refuses _ _ _ (coef_one _ _ _ _ c.if-not-there.false (sym c.room.ensures ∙ c.if-not-room.false) (sym (one (goal.at.returns-then-is_one c).After-is_one) ∙ c.if-is_one.true))

pub overflow_add-result : goal.overflow_add-result
overflow_add-result c = omega (arith, four (goal.at.overflow_add-result c).Else-not-room)

pub returns : goal.returns
returns c = coef-goes _ _ _ _ refl (coef_given _ _ _ _ c.if-not-there.false (sym c.room.ensures ∙ c.if-not-room.false) (sym (one (goal.at.returns c).After-is_one) ∙ c.if-is_one.false) ∙ ap (λ (k : ℤ). given (with_coef k (plus [] []), c.args.at + 4)) (sym (spelt (goal.at.returns c).After-four_bytes_at-coef)))
