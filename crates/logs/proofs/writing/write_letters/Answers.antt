-- `logs::writing::write_letters` meets its contract: after i turns the first i letters stand. Assumes nothing.
use Rattle.std.proofs.Common.{rules}
use mathlib.Core.Path.{◌≡◌, refl, ap, subst, ◌∙◌}
use Prim.Native.Nat.{ℕ, ◌+◌, ◌-◌, ◌≤◌}
use native.Mathlib.Omega.{arith}
use lib.Seq.{take-length}
use lib.ListN.{length, length-set, take}
use Rattle.record_writing.specs.Written.{Written}
use Rattle.logs.proofs.WrittenLogs.{letters_none, letter_written}
use Rattle.logs.proofs.writing.write_letters.Goals as goal

pub loop-i-init : goal.loop-i-init
loop-i-init c = (omega arith, refl, letters_none c.args.letters.now _ _)

pub loop-i-preserved : goal.loop-i-preserved
loop-i-preserved c =
    let v = c.loop-i in
    let s = c in (
      omega arith,
      length-set v.out _ _ ∙ v.invariant.1,
      letter_written s.args.letters.now v.i _ _ _ (omega arith) (omega (arith, s.requires)) v.invariant.2,
    )

pub shape_of-out : goal.shape_of-out
shape_of-out c = c.loop-i.invariant.1

pub returns : goal.returns
returns c =
    let v = c.loop-i in
    let l = c.args.letters.now in
    let e : v.i ≡ length l = omega (arith, v.invariant.0) in
    let whole : take v.i l ≡ l = ap (λ (n : ℕ). take n l) e ∙ take-length l in
    rw (← e) (subst (Written _ v.out _ _) whole v.invariant.2)
