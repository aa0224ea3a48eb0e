-- `texts::none_twice` meets its contract. The loop: none stands twice exactly if none of those from i on does. Assumes nothing.
use Rattle.std.proofs.Common.{rules}
use mathlib.Core.Path.{◌≡◌, refl, sym, ◌∙◌}
use Prim.Native.Nat.{◌-◌}
use native.Mathlib.Omega.{arith}
use lib.ListN.{length, drop}
use Rattle.specification.specs.Text.{distinct}
use Rattle.texts.proofs.Naming.{found-behind, none_behind, distinct-end}
use Rattle.texts.proofs.none_twice.Goals as goal

pub loop-i-init : goal.loop-i-init
loop-i-init c = refl

pub returns-then-place_of-rest : goal.returns-then-place_of-rest
returns-then-place_of-rest c =
    sym
    (c.loop-i.invariant ∙ found-behind c.args.names.now
    c.loop-i.i _ c.loop-i-test.true c.place_of.ensures
    c.if-place_of-rest.true)

pub loop-i-preserved : goal.loop-i-preserved
loop-i-preserved c =
    c.loop-i.invariant ∙ none_behind c.args.names.now
    c.loop-i.i _ c.loop-i-test.true c.place_of.ensures
    c.if-place_of-rest.false

pub returns : goal.returns
returns c = sym (c.loop-i.invariant ∙ distinct-end c.args.names.now c.loop-i.i c.loop-i-test.false)
