use Rattle.std.proofs.Common.{rules}
use mathlib.Core.Path.{◌≡◌, ◌∙◌}
use mathlib.Core.Logic.{⊎_elim}
use mathlib.Core.Bool.{◌&&◌}
use Rattle.pair_limits.proofs.Fitting.{and-where-true, and-where-false}
use Rattle.pair_limits.proofs.both.Goals.{else-a, then-a, Joined-a}
use Rattle.pair_limits.proofs.both.Goals as goal

letters : (c : Joined-a) → c.if-a.result ≡ (c.args.a.letters && c.args.b.letters)
letters c =
    elim c.if-a.branch [
      | then-a w ↦ w.result-is ∙ and-where-true _ _ w.if-a.true
      | else-a w ↦ w.result-is ∙ and-where-false _ _ w.if-a.false
    ]

pub returns-then-a-2 : goal.returns-then-a-2
returns-then-a-2 c = (letters (goal.at.returns-then-a-2 c).Joined-a, and-where-true _ _ c.if-a-2.true)

pub returns-else-a-2 : goal.returns-else-a-2
returns-else-a-2 c = (letters (goal.at.returns-else-a-2 c).Joined-a, and-where-false _ _ c.if-a-2.false)
