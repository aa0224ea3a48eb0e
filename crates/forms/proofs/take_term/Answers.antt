-- `forms::take_term` meets its contract. Assumes nothing.
use Rattle.std.proofs.Common.{rules}
use mathlib.Core.Path.{sym, ◌∙◌}
use Rattle.refusal.proofs.Passing.{passed_up}
use Rattle.records.specs.Reading.{read_of}
use Rattle.forms.proofs.Takers.{behind-unread, behind-other-kind, behind-not, behind_given}
use Rattle.forms.proofs.take_term.Goals as goal

pub returns-in_err-t : goal.returns-in_err-t
returns-in_err-t c = rw (passed_up _ _ c.from_residual.ensures.1) (record { is = behind-unread _ _ _ _ _ _ c.in_err-t.ensures.is; counted = tt })

pub returns-then-not-kind_fits : goal.returns-then-not-kind_fits
unfolding read_of
returns-then-not-kind_fits c = record { is = behind-other-kind _ _ _ _ _ _ _ c.in_ok-t.ensures.is (sym c.kind_fits.ensures ∙ c.if-not-kind_fits.true); counted = tt }

pub follows_last-requires : goal.follows_last-requires
follows_last-requires c = (c.requires, c.in_ok-t.ensures.counted)

pub returns-then-not-follows_last : goal.returns-then-not-follows_last
unfolding read_of
returns-then-not-follows_last c = record {
  is = behind-not _ _ _ _ _ _ _ c.in_ok-t.ensures.is (sym c.kind_fits.ensures ∙ c.if-not-kind_fits.false) (sym c.follows_last.ensures ∙ c.if-not-follows_last.true);
  counted = tt;
}

pub returns : goal.returns
returns c = record {
  is = behind_given _ _ _ _ _ _ _ c.in_ok-t.ensures.is (sym c.kind_fits.ensures ∙ c.if-not-kind_fits.false) (sym c.follows_last.ensures ∙ c.if-not-follows_last.false);
  counted = c.in_ok-t.ensures.counted;
}
