-- `decision::components` meets its contract. Assumes nothing.
use mathlib.Core.Path.{refl}
use mathlib.Core.Logic.{inl, inr}
use Rattle.decision.specs.Settling.{Components}
use Rattle.decision.proofs.components.Goals as goal

pub returns-then-kind-eq0 : goal.returns-then-kind-eq0
unfolding Components
returns-then-kind-eq0 c = inl (refl, c.if-kind-eq0.true)

pub returns-else-kind-eq0 : goal.returns-else-kind-eq0
unfolding Components
returns-else-kind-eq0 c = inr refl
