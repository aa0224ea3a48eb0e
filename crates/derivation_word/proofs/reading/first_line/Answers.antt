-- `derivation_word::reading::first_line` meets its contract. Assumes nothing.
use mathlib.Core.Path.{sym}
use native.Mathlib.Omega.{arith}
use lib.Seq.{length-take-le}
use Rattle.derivation_word.specs.Derivations.{names_of, kinds_of}
use Rattle.derivation_word.proofs.Answers.{names_fit, first_refused, first_column, first_printable, first_taken}
use Rattle.derivation_word.proofs.reading.first_line.Goals as goal

pub slice_bounds-read_first-end : goal.slice_bounds-read_first-end
slice_bounds-read_first-end c = let v = c.requires.0 in sym (length-take-le _ _ (omega (arith, v.few, v.named)))

pub slice_bounds-read_first-end-2 : goal.slice_bounds-read_first-end-2
slice_bounds-read_first-end-2 c =
    let v = c.requires.0 in sym (length-take-le _ _ (omega (arith, v.few, v.kinds)))

pub read_first-requires : goal.read_first-requires
unfolding names_of kinds_of
read_first-requires c = names_fit c.args.d c.requires.0

pub tell_refusal-end-requires : goal.tell_refusal-end-requires
unfolding names_of kinds_of
tell_refusal-end-requires c = first_column c.args.d c.requires.0 c.requires.1 c.args.k c.args.line.now _ c.in-Err.ensures

pub returns-in-Err : goal.returns-in-Err
unfolding names_of kinds_of
returns-in-Err c =
    first_refused c.args.d c.requires.0 c.requires.1 c.args.k c.args.line.now _ c.in-Err.ensures _ c.number.ensures _ _ _ _ c.tell_refusal-end.ensures

pub slice_bounds-tell_form-end : goal.slice_bounds-tell_form-end
slice_bounds-tell_form-end c =
    let v = c.requires.0 in sym (length-take-le _ _ (omega (arith, v.few, v.named)))

pub tell_form-end-requires : goal.tell_form-end-requires
unfolding names_of kinds_of
tell_form-end-requires c =
    first_printable c.args.d c.requires.0 c.requires.1 c.args.k c.args.line.now _ c.in-Ok.ensures

pub returns : goal.returns
unfolding names_of kinds_of
returns c =
    first_taken c.args.d c.requires.0 c.requires.1 c.args.k c.args.line.now _ c.in-Ok.ensures _ _ _ _ _
    c.no_steps-steps.ensures.0 c.no_steps-steps.ensures.1 c.tell_form-end.ensures
