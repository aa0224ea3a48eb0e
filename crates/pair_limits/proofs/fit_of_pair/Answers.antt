-- `pair_limits::fit_of_pair` meets its contract: where a term stays, the pair is tested for it. Assumes nothing.
use Rattle.std.proofs.Common.{rules}
use mathlib.Core.List.{[], ◌∷◌}
use Prim.Native.Nat.{◌≤◌}
use lib.IntN.{nat_abs}
use Rattle.theory.specs.Shape.Terms.{in_limit}
use borrow.Author.Tests.{not-true, not-false}
use Rattle.terms.specs.Abstraction.{term_of}
use Rattle.pair_limits.specs.Limits.{MostOf, MostSmall}
use Rattle.pair_limits.specs.declared.Most.{Most}
use Rattle.pair_limits.proofs.Largest.{most-small, limited}
use Rattle.pair_limits.proofs.Fitting.{paired-together, none_stays, some_stays, fit-empty, fit_found}
use Rattle.pair_limits.proofs.fit_of_pair.Goals.{Start}
use Rattle.pair_limits.proofs.fit_of_pair.Goals as goal

left-size : (c : Start) → nat_abs c.args.t.coef ≤ 2147483647
unfolding term_of
left-size c = in_limit _ c.requires.2.left_shape

right-size : (c : Start) → nat_abs c.args.u.coef ≤ 2147483647
unfolding term_of
right-size c = in_limit _ c.requires.2.right_shape

left-small : (c : Start) (r : Most) → MostOf (term_of c.args.t ∷ []) r → MostSmall r
left-small c r m = most-small _ r (limited _ c.requires.2.left_shape, tt) m

right-small : (c : Start) (r : Most) → MostOf (term_of c.args.u ∷ []) r → MostSmall r
right-small c r m = most-small _ r (limited _ c.requires.2.right_shape, tt) m

pub stays-requires : goal.stays-requires
unfolding term_of
stays-requires c = paired-together _ _ _ c.requires.2

pub returns-then-not-stays : goal.returns-then-not-stays
unfolding term_of
returns-then-not-stays c = fit-empty _ (none_stays _ _ _ c.requires.2 _ c.stays.ensures c.if-not-stays.true)

pub one_term-a-requires : goal.one_term-a-requires
one_term-a-requires c = let a = c in (a.requires.0, left-size (goal.at.one_term-a-requires c).Start)

pub one_term-b-requires : goal.one_term-b-requires
one_term-b-requires c = let a = c in (a.requires.1, right-size (goal.at.one_term-b-requires c).Start)

pub letters_fit-requires : goal.letters_fit-requires
letters_fit-requires c =
    let a = c in (left-small (goal.at.letters_fit-requires c).Start _ c.one_term-a.ensures, right-small (goal.at.letters_fit-requires c).Start _ c.one_term-b.ensures)

pub coefs_fit-requires : goal.coefs_fit-requires
coefs_fit-requires c =
    let a = c in (left-small (goal.at.coefs_fit-requires c).Start _ c.one_term-a.ensures, right-small (goal.at.coefs_fit-requires c).Start _ c.one_term-b.ensures)

pub returns : goal.returns
unfolding term_of
returns c =
    let l = c in
    let a = c in
    fit_found _ _ _ a.requires.2 (some_stays _ _ _ a.requires.2 _ l.stays.ensures l.if-not-stays.false) _ _ c.one_term-a.ensures
    c.one_term-b.ensures _ c.letters_fit.ensures c.coefs_fit.ensures
