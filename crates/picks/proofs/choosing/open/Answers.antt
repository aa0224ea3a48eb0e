use mathlib.Core.Path.{ap, sym, ◌∙◌}
use Rattle.terms.specs.Abstraction.{term_of}
use Rattle.specification.specs.Terms as S
use Rattle.theory.specs.Shortening.Candidates.{multiplier}
use Rattle.picks.proofs.Openings.{opened-by, fails_by, shut_by}
use Rattle.picks.proofs.choosing.open.Goals as goal

pub can_pass-requires : goal.can_pass-requires
unfolding term_of multiplier
can_pass-requires c = let w = c in let m = c.unit_multiplier-m.ensures in (
  w.requires.0,
  m.counted,
  ap (λ (t : S.Term). t.coef) m.is,
)

pub returns-then-n-rule_letters : goal.returns-then-n-rule_letters
returns-then-n-rule_letters c = let w = c in shut_by w.args.kind w.args.rule w.args.k w.args.t
    _ _ _ c.fill_pool-n.ensures c.unit_multiplier-m.ensures (λ e. c.if-n-rule_letters.true (e
    ∙ sym c.rule_letters.ensures.0))

pub returns-then-not-can_pass : goal.returns-then-not-can_pass
returns-then-not-can_pass c = let w = c in fails_by w.args.kind w.args.rule w.args.k w.args.t
    _ _ _ c.fill_pool-n.ensures c.unit_multiplier-m.ensures _ c.can_pass.ensures c.if-not-can_pass.true

pub returns : goal.returns
returns c = let w = c in opened-by w.args.kind w.args.rule w.args.k w.args.t
    _ _ _ c.fill_pool-n.ensures c.unit_multiplier-m.ensures _ c.can_pass.ensures (c.if-n-rule_letters.false
    ∙ c.rule_letters.ensures.0) c.if-not-can_pass.false
