use native.Mathlib.Omega.{arith}
use Rattle.expressions.proofs.Heads.{bytes-letter, bytes-constant, bytes-operator}
use Rattle.expressions.proofs.tokens.token_bytes.Goals as goal

pub returns-in-1 : goal.returns-in-1
returns-in-1 c = bytes-letter _ c.in-1.is

pub returns-in-2 : goal.returns-in-2
returns-in-2 c = bytes-constant _ c.in-2.is

pub returns-in-0 : goal.returns-in-0
returns-in-0 c = bytes-operator _ (λ e. omega (arith, c.in-0.in-0-own.keys3)) (λ e. omega (arith, c.in-0.in-0-own.keys3))

pub returns-in-0-2 : goal.returns-in-0-2
returns-in-0-2 c = bytes-operator _ c.in-0.in-0-own.rest.0.0.1 c.in-0.in-0-own.rest.0.1
