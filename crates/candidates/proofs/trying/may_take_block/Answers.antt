use mathlib.Core.Path.{subst}
use mathlib.Core.Logic.{inl, inr}
use borrow.Author.Tests.{eqb-false}
use lib.Dec.{T}
use Rattle.picks.proofs.Masks.{even}
use Rattle.candidates.proofs.trying.may_take_block.Goals as goal

pub returns-then-digits-j : goal.returns-then-digits-j
returns-then-digits-j c = λ e. inl c.if-digits-j.true

pub returns-then-first : goal.returns-then-first
returns-then-first c = λ e. absurd (subst T e tt)

pub returns : goal.returns
returns c = λ e. inr (c.if-first.false, even c.args.j (eqb-false _ _ e))
