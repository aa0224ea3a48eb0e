-- `expressions::trees::leaf` meets its contract: a letter, or a constant. Assumes nothing.
use mathlib.Core.Path.{refl}
use Prim.Native.Nat.{◌+◌}
use Rattle.expressions.proofs.Heads.{starts}
use Rattle.expressions.proofs.Levels.{letter-bytes, letter_in, leaf-letter, constant-bytes, leaf-constant, constant-read_back}
use native.Mathlib.Omega.{arith}
use Rattle.expressions.proofs.trees.leaf.Goals as goal

pub bounds-s-at : goal.bounds-s-at
bounds-s-at c = omega (arith, starts _ _ _ c.requires.0.bytes)

pub bounds-s-at-then-token-eq1 : goal.bounds-s-at-then-token-eq1
bounds-s-at-then-token-eq1 c = omega (arith, letter-bytes _ _ _ c.requires.0 c.if-token-eq1.true)

pub overflow_cast-n : goal.overflow_cast-n
overflow_cast-n c = omega (arith, c.type_inv.s (c.args.at + 1))

pub kind_of-k-requires : goal.kind_of-k-requires
kind_of-k-requires c = omega (arith, letter_in _ _ _ c.requires.0 c.if-token-eq1.true)

pub letter-w-requires : goal.letter-w-requires
letter-w-requires c = (omega arith, omega arith)

pub returns-then-token-eq1 : goal.returns-then-token-eq1
returns-then-token-eq1 c =
    leaf-letter _ _ _ c.requires.0 _ _ _ _
    c.if-token-eq1.true c.kind_of-k.ensures
    c.letter-w.ensures

pub four_bytes_at-requires : goal.four_bytes_at-requires
four_bytes_at-requires c = omega (arith, constant-bytes _ _ _ c.requires.0 c.if-token-eq1.false)

pub constant-work-requires : goal.constant-work-requires
constant-work-requires c = (omega arith, omega arith)

pub returns : goal.returns
returns c =
    leaf-constant _ _ _ c.requires.0 _ _ _
    c.if-token-eq1.false
    (constant-read_back _ _ _ _ _ (c.four_bytes_at.ensures.value, c.four_bytes_at.ensures.bound) c.constant-work.ensures)
