-- `derivation_word::reading::step_line` meets its contract. Assumes nothing.
use mathlib.Core.Path.{sym}
use native.Mathlib.Omega.{arith}
use lib.Seq.{length-take-le}
use Rattle.derivation_word.specs.Derivations.{names_of, kinds_of}
use Rattle.derivation_word.proofs.Answers.{names_fit, state-valid, count_small, step_unread, step-column, add-room, add_refused_lem, reached-printable, add_taken}
use Rattle.derivation_word.proofs.reading.step_line.Goals as goal

pub slice_bounds-read_one_step-end : goal.slice_bounds-read_one_step-end
slice_bounds-read_one_step-end c =
    let v = c.requires.0 in sym (length-take-le _ _ (omega (arith, v.few, v.named)))

pub slice_bounds-read_one_step-end-2 : goal.slice_bounds-read_one_step-end-2
slice_bounds-read_one_step-end-2 c =
    let v = c.requires.0 in sym (length-take-le _ _ (omega (arith, v.few, v.kinds)))

pub read_one_step-requires : goal.read_one_step-requires
unfolding names_of kinds_of
read_one_step-requires c = names_fit c.args.d c.requires.0

pub tell_refusal-end-requires : goal.tell_refusal-end-requires
unfolding names_of kinds_of
tell_refusal-end-requires c = step-column c.args.d c.requires.0 c.requires.1 c.args.k c.args.line.now _ c.in-Err.ensures

pub returns-in-Err : goal.returns-in-Err
unfolding names_of kinds_of
returns-in-Err c =
    step_unread c.args.d c.requires.0 c.requires.1 c.args.k c.args.line.now _ c.in-Err.ensures _ c.number.ensures _ _ _ _ c.tell_refusal-end.ensures

pub add_typed-a-requires : goal.add_typed-a-requires
add_typed-a-requires c =
    (state-valid c.args.d c.requires.0 c.requires.1, c.in-Ok.ensures.valid)

pub overflow_add-before : goal.overflow_add-before
overflow_add-before c =
    omega (arith, count_small c.args.d c.requires.0 c.requires.1)

pub slice_bounds-names-end-in-Ok-answer : goal.slice_bounds-names-end-in-Ok-answer
slice_bounds-names-end-in-Ok-answer c =
    let v = c.requires.0 in omega (arith, v.few, v.named)

pub slice_bounds-tell_form-end : goal.slice_bounds-tell_form-end
slice_bounds-tell_form-end c =
    let v = c.requires.0 in sym (length-take-le _ _ (omega (arith, v.few, v.named)))

pub tell_form-end-requires : goal.tell_form-end-requires
unfolding names_of kinds_of
tell_form-end-requires c =
    reached-printable c.args.d c.requires.0 c.requires.1 c.args.k c.args.line.now _ c.in-Ok.ensures _
    c.add_typed-a.ensures _ c.in-Ok-answer.is

pub stepped-next-requires : goal.stepped-next-requires
unfolding names_of kinds_of
stepped-next-requires c = (
  c.requires.0,
  c.requires.1,
  add-room c.args.d c.requires.0 c.requires.1 c.args.k c.args.line.now _ c.in-Ok.ensures _
      c.add_typed-a.ensures _ c.in-Ok-answer.is,
  c.in-Ok.ensures.valid,
)

pub returns-in-Err-answer : goal.returns-in-Err-answer
unfolding names_of kinds_of
returns-in-Err-answer c =
    add_refused_lem c.args.d c.requires.0 c.requires.1 c.args.k c.args.line.now _ c.in-Ok.ensures _
    c.add_typed-a.ensures _ c.in-Err-answer.is _ c.number-in-Err-answer.ensures _ _ _ _ c.tell_step_refusal-end.ensures

pub returns-in-Ok-answer : goal.returns-in-Ok-answer
unfolding names_of kinds_of
returns-in-Ok-answer c =
    add_taken c.args.d c.requires.0 c.requires.1 c.args.k c.args.line.now _ c.in-Ok.ensures _
    c.add_typed-a.ensures _ c.in-Ok-answer.is _ _ _ _ _ c.stepped-next.ensures c.tell_form-end.ensures
