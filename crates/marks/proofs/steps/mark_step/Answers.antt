use Rattle.terms.specs.Abstraction.{term_of}
use Rattle.marks.proofs.steps.mark_step.Goals as goal

pub returns : goal.returns
unfolding term_of
returns c = record {
  factors = c.factors_mark.ensures.0;
  part = c.part_mark.ensures.0;
  letters = c.letter_marks.ensures;
  few_factors = c.factors_mark.ensures.1;
  small_part = c.part_mark.ensures.1;
}
