-- `log_telling::tell_form` meets its contract, piece by piece. Assumes nothing.
use mathlib.Core.Path.{sym}
use native.Mathlib.Omega.{arith}
use lib.Seq.{length-take-le}
use Rattle.specification.specs.LogTexts.{form_line}
use Rattle.terms.specs.Abstraction.{form_of}
use Rattle.telling.proofs.Pieces.{tells-then}
use Rattle.log_telling.proofs.Pieces.{form-fits, form-told}
use Rattle.log_telling.proofs.tell_form.Goals as goal

pub slice_bounds-line-end : goal.slice_bounds-line-end
slice_bounds-line-end c =
    omega (arith, form-fits c.args.names.now _ _ _ _ c.requires c.print_form-n.ensures, c.print_form-n.auto.out)

pub slice_bounds-put-end : goal.slice_bounds-put-end
slice_bounds-put-end c =
    sym (length-take-le _ c.print_form-n.new.out (omega (
      arith,
      form-fits c.args.names.now _ _ _ _ c.requires c.print_form-n.ensures,
      c.print_form-n.auto.out,
    )))

pub returns : goal.returns
unfolding form_line form_of
returns c =
    tells-then (tells-then c.tell_kind-word.ensures (tells-then c.put_byte-blank.ensures (form-told _ c.print_form-n.ensures c.put-end.ensures)))
    c.put_byte.ensures
