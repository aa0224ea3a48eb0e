use Rattle.std.proofs.Common.{rules}
use mathlib.Core.Path.{◌≡◌, refl, sym, ◌∙◌}
use Prim.Native.Nat.{◌+◌, ◌-◌, ◌≤◌}
use native.Mathlib.Omega.{arith}
use lib.ListN.{length, drop}
use Rattle.specification.specs.Text.{place_of}
use Rattle.texts.proofs.Standing.{place_found, place-passed, place_none}
use Rattle.texts.proofs.place_of.Goals as goal

pub returns-then-names-i : goal.returns-then-names-i
returns-then-names-i c =
    let c3 = c in
    let c4 = c in
    sym (place_found c4.args.names.now c3.loop-i.i c4.args.b (omega arith) c.if-names-i.true) ∙ c3.loop-i.invariant

pub loop-i-preserved : goal.loop-i-preserved
loop-i-preserved c =
    let c3 = c in
    let c4 = c in
    sym (place-passed c4.args.names.now c3.loop-i.i c4.args.b (omega arith) c.if-names-i.false) ∙ c3.loop-i.invariant

pub returns : goal.returns
returns c =
    let e : c.loop-i.i ≡ length c.args.names.now = omega arith in
    sym e ∙ sym (place_none c.args.names.now c.loop-i.i c.args.b (omega arith)) ∙ c.loop-i.invariant
