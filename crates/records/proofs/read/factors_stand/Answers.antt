use Rattle.std.proofs.Common.{rules}
use native.Mathlib.Omega.{arith}
use Rattle.records.proofs.Readers.{stand-behind, stand_zero, stand-many, stand-there, small_product}
use Rattle.records.proofs.read.factors_stand.Goals as goal

pub returns-then-at-s : goal.returns-then-at-s
returns-then-at-s c = stand-behind c.args.s.now c.args.at c.args.most c.args.size c.if-at-s.true

pub overflow_cast-n : goal.overflow_cast-n
overflow_cast-n c = omega (arith, c.type_inv.s c.args.at)

pub returns-then-n-lt1 : goal.returns-then-n-lt1
returns-then-n-lt1 c = let w = c in stand_zero w.args.s.now w.args.at w.args.most w.args.size c.if-at-s.false c.if-n-lt1.true

pub returns-then-n-most : goal.returns-then-n-most
returns-then-n-most c =
    let w = c in
    stand-many w.args.s.now w.args.at w.args.most w.args.size c.if-at-s.false c.if-n-lt1.false c.if-n-most.true

pub overflow_mul-n : goal.overflow_mul-n
overflow_mul-n c =
    record {
      fits = small_product _ _ (c.type_inv.s c.args.at).fits
          c.requires;
    }

pub returns : goal.returns
returns c =
    let w = c in
    stand-there w.args.s.now w.args.at w.args.most w.args.size c.if-at-s.false c.if-n-lt1.false
    c.if-n-most.false _ c.room.ensures
