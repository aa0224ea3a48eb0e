-- `operators::products::pair_terms` meets its contract: where a term stays, the pair passed the tests, and its factors have room. Assumes nothing.
use Rattle.std.proofs.Common.{rules}
use mathlib.Core.Path.{◌≡◌}
use Prim.Native.Nat.{◌+◌, ◌≤◌}
use native.Mathlib.Omega.{arith}
use lib.Dec.{T}
use lib.ListN.{length}
use Rattle.theory.specs.Reduction.Pairs.{pair_coef_fits}
use Rattle.terms.specs.Abstraction.{term_of}
use Rattle.gathering.specs.Bringing.{Bringable}
use Rattle.pair_limits.proofs.Fitting.{paired-together}
use Rattle.operators.proofs.Pairs.{Base, letters-passed, coef-passed, pair-few, joins-counts, joins-fits, joins_part, base}
use Rattle.operators.proofs.Pairs.{piece-counts, piece-fits, piece-part, piece_is, piece_size, made_none, made-few, made_two}
use Rattle.operators.proofs.products.pair_terms.Goals.{After-join-b, Else-n-eq0, Start}
use Rattle.operators.proofs.products.pair_terms.Goals as goal

-- a term stays: few factors
few_factors_lem : (c : Else-n-eq0) → c.args.t.factor_count + c.args.u.factor_count ≤ 5
few_factors_lem c =
    let a = c.before.before in
    pair-few a.args.t a.args.u (omega (arith, left a, a.requires.left.few)) (omega (arith, right a, a.requires.right.few))
    (letters-passed _ _ _ a.requires _ c.parts-few.ensures c.if-n-eq0.false)
  where
    left : (c : Start) → length c.args.t.factors ≡ 7
    left c = search rules

    right : (c : Start) → length c.args.u.factors ≡ 7
    right c = search rules

-- and a coefficient within
coef_within_lem : (c : Else-n-eq0) → T (pair_coef_fits (term_of c.args.t, term_of c.args.u))
coef_within_lem c = coef-passed _ _ _ c.requires _ c.parts-few.ensures c.if-n-eq0.false

-- the scalar parts joined
joined : (c : After-join-b) → Base c.args.t c.args.u c.join-b.result
joined c =
    let s = c.before.before.before in
    base _ _ _ _ (coef_within_lem s) c.scalars.ensures c.scalars-2.ensures (few_factors_lem s) _ c.join-b.ensures

pub parts-few-requires : goal.parts-few-requires
unfolding term_of
parts-few-requires c = paired-together _ _ _ c.requires.fits.paired

pub returns-then-n-eq0 : goal.returns-then-n-eq0
returns-then-n-eq0 c = let a = c.requires in made_none _ _ _ a.fits.paired _ c.parts-few.ensures c.if-n-eq0.true a.left

pub join-b-requires : goal.join-b-requires
join-b-requires c =
    let s = c in
    let h = c.scalars.ensures in
    let k = c.scalars-2.ensures in
    let w = coef_within_lem (goal.at.join-b-requires c).Else-n-eq0 in
    let f = few_factors_lem (goal.at.join-b-requires c).Else-n-eq0 in
    record { counts = joins-counts _ _ _ _ w h k f; fits = joins-fits _ _ _ _ w h k f; part = joins_part _ _ _ _ w h k f }

pub join-x-requires : goal.join-x-requires
join-x-requires c =
    let b = joined (goal.at.join-x-requires c).After-join-b in
    let s = c.parts-few.ensures.first in
    record { counts = piece-counts _ _ _ _ b s; fits = piece-fits _ _ _ _ b s; part = piece-part _ _ _ _ b s }

pub returns-then-n-lt2 : goal.returns-then-n-lt2
returns-then-n-lt2 c =
    let m = c.parts-few.ensures in
    let b = joined (goal.at.returns-then-n-lt2 c).After-join-b in
    let j = c.join-x.ensures in
    let x : Bringable c.join-x.result = record { counted = j.counted; light = piece_size _ _ _ _ b m.first _ j } in
    record {
      is = made-few _ _ _ c.requires.fits.paired _ m _ (piece_is _ _ _ _ b m.first _ j) _
          c.if-n-lt2.true;
      few = m.few;
      first = x;
      second = x;
    }

pub join-y-requires : goal.join-y-requires
join-y-requires c =
    let b = joined (goal.at.join-y-requires c).After-join-b in
    let s = c.parts-few.ensures.second in
    record { counts = piece-counts _ _ _ _ b s; fits = piece-fits _ _ _ _ b s; part = piece-part _ _ _ _ b s }

pub returns : goal.returns
returns c =
    let e = c in
    let m = e.parts-few.ensures in
    let b = joined (goal.at.returns c).After-join-b in
    let j = c.join-x.ensures in
    record {
      is = made_two _ _ _ e.requires.fits.paired _ m _ (piece_is _ _ _ _ b m.first _ j) _
          (piece_is _ _ _ _ b m.second _ c.join-y.ensures) c.if-n-lt2.false;
      few = m.few;
      first = record { counted = j.counted; light = piece_size _ _ _ _ b m.first _ j };
      second = record { counted = c.join-y.ensures.counted; light = piece_size _ _ _ _ b m.second _ c.join-y.ensures };
    }
