-- `log_texts::kinds::one_term` meets its contract. Assumes nothing.
use Rattle.std.proofs.Common.{rules}
use mathlib.Core.Path.{◌≡◌}
use lib.ListN.{length}
use Rattle.log_texts.proofs.Told.{terms-many, terms_one}
use Rattle.log_texts.proofs.kinds.one_term.Goals.{Start}
use Rattle.log_texts.proofs.kinds.one_term.Goals as goal

-- there are 48 places
places : (c : Start) → length c.args.f.terms ≡ 48
places c = search rules

pub returns-then-f-ne1 : goal.returns-then-f-ne1
returns-then-f-ne1 c =
    let a = c.args in
    terms-many a.at a.f c.requires (places (goal.at.returns-then-f-ne1 c).Start) c.if-f-ne1.true

pub returns : goal.returns
returns c =
    let a = c.args in
    terms_one a.at a.f c.requires (places (goal.at.returns c).Start) _ c.if-f-ne1.false
