-- `sides::pair` meets its contract. Assumes nothing.
use Rattle.std.proofs.Common.{rules}
use mathlib.Core.Path.{◌≡◌}
use lib.ListN.{length}
use Rattle.sides.proofs.Pairs.{first-empty, second_empty, kinds_same, kinds-other}
use Rattle.sides.proofs.pair.Goals.{Start}
use Rattle.sides.proofs.pair.Goals as goal

-- there are 48 places of terms in each
firsts : (c : Start) → length c.args.f.terms ≡ 48
firsts c = search rules

seconds : (c : Start) → length c.args.g.terms ≡ 48
seconds c = search rules

pub returns-then-f-eq0 : goal.returns-then-f-eq0
returns-then-f-eq0 c =
    let a = c.args in
    first-empty a.at a.f a.g c.requires.0 c.requires.1
    (firsts (goal.at.returns-then-f-eq0 c).Start) (seconds (goal.at.returns-then-f-eq0 c).Start) c.if-f-eq0.true

pub returns-then-g-eq0 : goal.returns-then-g-eq0
returns-then-g-eq0 c =
    let a = c.args in
    second_empty a.at a.f a.g c.requires.0 c.requires.1
    (firsts (goal.at.returns-then-g-eq0 c).Start) (seconds (goal.at.returns-then-g-eq0 c).Start) c.if-f-eq0.false c.if-g-eq0.true

pub returns-then-f-g : goal.returns-then-f-g
returns-then-f-g c =
    let a = c.args in
    kinds-other a.at a.f a.g c.requires.0 c.requires.1
    (firsts (goal.at.returns-then-f-g c).Start) (seconds (goal.at.returns-then-f-g c).Start)
    c.if-f-eq0.false c.if-g-eq0.false c.if-f-g.true

pub returns : goal.returns
returns c =
    let a = c.args in
    kinds_same a.at a.f a.g c.requires.0 c.requires.1
    (firsts (goal.at.returns c).Start) (seconds (goal.at.returns c).Start) c.if-f-eq0.false c.if-g-eq0.false c.if-f-g.false
