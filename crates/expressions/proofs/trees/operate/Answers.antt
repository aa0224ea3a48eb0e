-- `expressions::trees::operate` meets its contract by the token. Assumes nothing.
use Rattle.expressions.proofs.Levels.{operates-sum, operates-difference, operates-times, operates-dot, operates-wedge, operates_none}
use native.Mathlib.Omega.{arith}
use Rattle.expressions.proofs.trees.operate.Goals as goal

pub sum-requires : goal.sum-requires
sum-requires c = let p = c.requires in (p.0, p.1, p.2, p.3)

pub difference-requires : goal.difference-requires
difference-requires c = let p = c.requires in (p.0, p.1, p.2, p.3)

pub times-requires : goal.times-requires
times-requires c = let p = c.requires in (p.0, p.1, p.2, p.3)

pub dot-requires : goal.dot-requires
dot-requires c = let p = c.requires in (p.0, p.1, p.2, p.3)

pub wedge-requires : goal.wedge-requires
wedge-requires c = let p = c.requires in (p.0, p.1, p.2, p.3)

pub returns-in-3 : goal.returns-in-3
returns-in-3 c = operates-sum _ _ _ _ _ _ c.in-3.is c.sum.ensures

pub returns-in-4 : goal.returns-in-4
returns-in-4 c =
    operates-difference _ _ _ _ _ _ c.in-4.is c.difference.ensures

pub returns-in-6 : goal.returns-in-6
returns-in-6 c = operates-times _ _ _ _ _ _ c.in-6.is c.times.ensures

pub returns-in-7 : goal.returns-in-7
returns-in-7 c = operates-dot _ _ _ _ _ _ c.in-7.is c.dot.ensures

pub returns-in-8 : goal.returns-in-8
returns-in-8 c = operates-wedge _ _ _ _ _ _ c.in-8.is c.wedge.ensures

pub returns-in-0-to-2 : goal.returns-in-0-to-2
returns-in-0-to-2 c = operates_none _ _ _ _ _ (λ e. omega arith) (λ e. omega arith) (λ e. omega arith) (λ e. omega arith) (λ e. omega arith)

pub returns-in-0-to-2-2 : goal.returns-in-0-to-2-2
returns-in-0-to-2-2 c = operates_none _ _ _ _ _ (λ e. omega arith) (λ e. omega arith) (λ e. omega arith) (λ e. omega arith) (λ e. omega arith)
