-- `log_texts::kinds::of_kind` meets its contract. Assumes nothing.
use Rattle.std.proofs.Common.{rules}
use mathlib.Core.Path.{◌≡◌}
use lib.ListN.{length}
use Rattle.log_texts.proofs.Told.{kind-told, kind-other, kind_same}
use Rattle.log_texts.proofs.kinds.of_kind.Goals.{Start}
use Rattle.log_texts.proofs.kinds.of_kind.Goals as goal

-- there are 48 places
places : (c : Start) → length c.args.f.terms ≡ 48
places c = search rules

pub returns-then-f-eq0 : goal.returns-then-f-eq0
returns-then-f-eq0 c =
    let a = c.args in
    kind-told a.kind a.at a.f c.requires.0 (places (goal.at.returns-then-f-eq0 c).Start) c.requires.1 c.if-f-eq0.true

pub returns-then-f-kind : goal.returns-then-f-kind
returns-then-f-kind c =
    let a = c.args in
    kind-other a.kind a.at a.f c.requires.0 (places (goal.at.returns-then-f-kind c).Start) c.if-f-eq0.false c.if-f-kind.true

pub returns : goal.returns
returns c =
    let a = c.args in
    kind_same a.kind a.at a.f c.requires.0 (places (goal.at.returns c).Start) c.if-f-eq0.false c.if-f-kind.false
