-- `record_writing::write_coef` meets its contract: nothing for 1, else four bytes, which hold the coefficient of a valid term. Assumes nothing.
use Rattle.std.proofs.Common.{rules}
use mathlib.Core.Path.{◌≡◌, ap, ◌∙◌}
use native.Mathlib.Omega.{arith}
use mir.Syntax.{w64}
use mir.Val.{SFits}
use Rattle.specification.specs.Records.{is_one}
use Rattle.integers.proofs.Machine.{back_is}
use Rattle.record_writing.proofs.Writes.{written_none}
use Rattle.record_writing.proofs.Terms.{coef-left_out, coef-four, coef_written, coef_size_lem}
use Rattle.record_writing.proofs.write_coef.Goals.{After-is_one, After-struct_told-1}
use Rattle.record_writing.proofs.write_coef.Goals as goal

-- the coefficient is of 64 bits
coef-fits : (c : After-struct_told-1) → SFits w64 c.args.t.coef
coef-fits c = record { sfits = c.type_inv.t.0.1 }

-- the test is whether it is 1
tested : (c : After-is_one) → c.is_one.result ≡ is_one c.args.t.coef
tested c = c.is_one.ensures ∙ ap is_one (back_is (record { sfits = c.type_inv.t.0.1 }))

pub returns-then-is_one : goal.returns-then-is_one
returns-then-is_one c = written_none _ _ _ (coef-left_out _ _ (tested (goal.at.returns-then-is_one c).After-is_one) c.if-is_one.true)

pub write_four_bytes-requires : goal.write_four_bytes-requires
write_four_bytes-requires c =
    let w = c in
    let s = c in
    (rw (back_is (coef-fits (goal.at.write_four_bytes-requires c).After-struct_told-1)) (coef_size_lem s.args.t s.requires.0), omega (arith, s.requires.1, coef-four _ _ (tested (goal.at.write_four_bytes-requires c).After-is_one) w.if-is_one.false))

pub returns : goal.returns
returns c =
    let w = c in
    coef_written _ _ (tested (goal.at.returns c).After-is_one) _ _ _ _ w.if-is_one.false (back_is (coef-fits (goal.at.returns c).After-struct_told-1)) c.write_four_bytes.ensures
