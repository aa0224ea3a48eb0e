use Rattle.expressions.proofs.Heads.{starts, bytes-letter, token-letter, token_known, low_known, token_zero, token-high}
use mathlib.Core.Path.{refl}
use native.Mathlib.Omega.{arith}
use Rattle.expressions.proofs.tokens.test_token.Goals as goal

pub bounds-s-at : goal.bounds-s-at
bounds-s-at c = omega (arith, starts _ _ _ c.requires)

pub overflow_add-at : goal.overflow_add-at
overflow_add-at c = omega (arith, c.requires, (bytes-letter _ c.in-1.is).0)

pub bounds-s-at-in-1 : goal.bounds-s-at-in-1
bounds-s-at-in-1 c = omega (arith, c.requires, (bytes-letter _ c.in-1.is).0)

pub returns-in-1 : goal.returns-in-1
returns-in-1 c = token-letter _ _ _ _ _ c.in-1.is refl c.test_in_table.ensures

pub returns-in-2-to-9 : goal.returns-in-2-to-9
returns-in-2-to-9 c = token_known _ _ _ (low_known _ c.in-2-to-9.in_default-own.rest.1 c.in-2-to-9.in_default-own.rest.0.1) c.in-2-to-9.if-token-lt10-own.true

pub returns-in-0 : goal.returns-in-0
returns-in-0 c = token_zero _ _ _ c.in-0.in-0-own.keys2

pub returns-in-0-2 : goal.returns-in-0-2
returns-in-0-2 c = token-high _ _ _ c.in-0.if-token-lt10-own.false
