-- `derivation_word::ending::tell_end` meets its contract. Assumes nothing.
use mathlib.Core.Path.{sym}
use native.Mathlib.Omega.{arith}
use borrow.Author.Tests.{not-true, not-false}
use lib.Seq.{length-take-le}
use Rattle.specification.specs.Words.{bytes}
use Rattle.telling.proofs.Pieces.{tells-then}
use Rattle.derivation_word.specs.Derivations.{names_of, kinds_of}
use Rattle.derivation_word.proofs.Turns.{end-missing, end_told}
use Rattle.derivation_word.proofs.Answers.{names-long, kinds-long, log_tellable}
use Rattle.derivation_word.proofs.ending.tell_end.Goals as goal

pub first_line-r-requires : goal.first_line-r-requires
first_line-r-requires c = (c.requires, not-true _ c.if-not-d.true)

pub returns-then-not-d : goal.returns-then-not-d
returns-then-not-d c =
    end-missing c.args.d c.args.k _ _ _ c.first_line-r.result.end (not-true _ c.if-not-d.true) _ c.first_line-r.ensures

pub slice_bounds-tell_log-end : goal.slice_bounds-tell_log-end
slice_bounds-tell_log-end c =
    let v = c.requires in sym (length-take-le _ _ (omega (arith, v.few, v.named)))

pub slice_bounds-tell_log-end-2 : goal.slice_bounds-tell_log-end-2
slice_bounds-tell_log-end-2 c =
    let v = c.requires in sym (length-take-le _ _ (omega (arith, v.few, v.kinds)))

pub tell_log-requires : goal.tell_log-requires
unfolding names_of kinds_of
tell_log-requires c =
    let w = log_tellable c.args.d c.requires (not-false _ c.if-not-d.false) in
    (w.0, w.1, w.2, omega (arith, names-long c.args.d c.requires, kinds-long c.args.d c.requires))

pub returns : goal.returns
unfolding names_of kinds_of bytes
returns c =
    end_told c.args.d c.args.k _ _ _ _ c.requires (not-false _ c.if-not-d.false) (tells-then c.put_byte-log.ensures c.tell_log.ensures)
