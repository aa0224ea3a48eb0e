-- `replacing::working::times_part` meets its contract: nothing to be done, or the vector part worked, then the product. Assumes nothing.
use Rattle.std.proofs.Common.{rules}
use mathlib.Core.Path.{sym, ◌∙◌}
use native.Mathlib.Omega.{arith}
use Rattle.specification.specs.Reduction.{times_forms}
use Rattle.refusal.proofs.Passing.{passed_up}
use Rattle.replacing.proofs.Multiplied.{refused_on, given_on, no_part-stands, part-times}
use Rattle.replacing.proofs.working.times_part.Goals as goal

pub returns-then-part_letters-eq0 : goal.returns-then-part_letters-eq0
returns-then-part_letters-eq0 c = let p = c.requires in no_part-stands _ _ _ _ _ (sym c.part_letters.ensures ∙ c.if-part_letters-eq0.true) p.1

pub work_part-requires : goal.work_part-requires
work_part-requires c = let p = c.requires in record { form = p.0.form; room = omega arith; beside = omega arith }

pub returns-in_err-y : goal.returns-in_err-y
returns-in_err-y c = rw (passed_up _ _ c.from_residual.ensures.1)
    (part-times _ _ _ _ _ _ (λ z. c.if-part_letters-eq0.false (c.part_letters.ensures ∙ z)) (refused_on (times_forms _) _ _ _ _ c.in_err-y.ensures _ _))

pub times-requires : goal.times-requires
times-requires c = let p = c.requires in (p.1, c.in_ok-y.ensures.form, p.0.room, p.0.beside)

pub returns : goal.returns
returns c =
    part-times _ _ _ _ _ _ (λ z. c.if-part_letters-eq0.false (c.part_letters.ensures ∙ z))
    (given_on (times_forms _) _ _ _ _ c.in_ok-y.ensures _ _ _ c.times.ensures)
