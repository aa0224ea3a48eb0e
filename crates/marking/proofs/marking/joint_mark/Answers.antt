use mathlib.Core.Path.{refl, sym}
use mathlib.Core.Logic.{inl, inr}
use Rattle.marking.proofs.marking.joint_mark.Goals as goal

pub returns-then-w-eq0 : goal.returns-then-w-eq0
returns-then-w-eq0 c = record { own = inl refl; others = inl c.if-w-eq0.true }

pub returns-then-w-v : goal.returns-then-w-v
returns-then-w-v c = record { own = inl refl; others = inr (inl (sym c.if-w-v.true)) }

pub returns : goal.returns
returns c = record { own = inr refl; others = inr (inr refl) }
