-- `log_lines::lines::print_step` meets its contract: the rule, its letters and M stand one behind the other. Assumes nothing.
use mathlib.Core.Path.{◌≡◌, ap, ◌∙◌}
use Prim.Native.Nat.{◌+◌, ◌≤◌}
use native.Mathlib.Omega.{arith}
use lib.ListN.{length}
use Rattle.log_lines.proofs.Texts.{rule_is, rule-small, letters_short, step_written}
use Rattle.log_lines.proofs.lines.print_step.Goals.{After-print_letters-behind, After-print_rule-first, Start}
use Rattle.log_lines.proofs.lines.print_step.Goals as goal

-- the rule's number is small
small : (c : Start) → c.args.s.rule ≤ 5
small c = rule-small c.args.s.rule c.requires.0.valid.rule

-- the rule takes seven bytes
rule_end : (c : After-print_rule-first) → c.print_rule-first.result ≡ c.args.at + 7
rule_end c = omega (arith, c.print_rule-first.ensures.ends, ap length (rule_is c.args.s.rule (rule-small c.args.s.rule c.requires.0.valid.rule)))

-- each call keeps the length
letters-kept : (c : After-print_letters-behind) → length c.print_letters-behind.new.out ≡ length c.args.out.now
letters-kept c = c.print_letters-behind.auto.out ∙ c.print_rule-first.auto.out

pub print_rule-first-requires : goal.print_rule-first-requires
print_rule-first-requires c = (small (goal.at.print_rule-first-requires c).Start, omega (arith, c.requires.1))

pub print_letters-behind-requires : goal.print_letters-behind-requires
print_letters-behind-requires c =
    let n = c.rule_letters-n.ensures in
    let e = rule_end (goal.at.print_letters-behind-requires c).After-print_rule-first in
    (n.1, rw n.0 c.requires.0.letters, omega (arith, n.1, c.requires.1, e, c.print_rule-first.auto.out))

pub print_multiplier-requires : goal.print_multiplier-requires
print_multiplier-requires c =
    let n = c.rule_letters-n in
    let h = letters_short c.args.names.now n.result c.args.s.letters in
    let e = rule_end (goal.at.print_multiplier-requires c).After-print_rule-first in
    let k = letters-kept (goal.at.print_multiplier-requires c).After-print_letters-behind in (
      record { valid = c.requires.0.valid.m; letters = c.requires.0.m },
      omega (arith, n.ensures.1, c.requires.1, e, c.print_letters-behind.ensures.ends, h, k),
    )

pub shape_of-out : goal.shape_of-out
shape_of-out c = c.print_multiplier.auto.out ∙ letters-kept (goal.at.shape_of-out c).After-print_letters-behind

pub returns : goal.returns
returns c =
    step_written c.args.names.now c.args.s _ _ _ _ _ _ _ _ _ c.rule_letters-n.ensures.0 (omega (arith, c.requires.1))
    c.print_rule-first.ensures c.print_letters-behind.ensures c.print_multiplier.ensures
