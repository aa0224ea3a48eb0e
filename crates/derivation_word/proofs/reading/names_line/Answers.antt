-- `derivation_word::reading::names_line` meets its contract. Assumes nothing.
use Rattle.std.proofs.Common.{rules}
use Rattle.derivation_word.specs.Derivations.{names_of, kinds_of}
use Rattle.derivation_word.proofs.Answers.{names-column, names_refused, names_taken}
use Rattle.derivation_word.proofs.reading.names_line.Goals as goal

pub tell_refusal-end-requires : goal.tell_refusal-end-requires
unfolding names_of kinds_of
tell_refusal-end-requires c = names-column c.args.d c.requires.0 c.requires.1 c.args.k c.args.line.now _ _ _ c.in-Err.ensures

pub returns-in-Err : goal.returns-in-Err
unfolding names_of kinds_of
returns-in-Err c = names_refused c.args.d c.requires.0 c.requires.1 c.args.k c.args.line.now _ _ _ c.in-Err.ensures _ c.number.ensures _ _ _ _ c.tell_refusal-end.ensures

pub returns : goal.returns
unfolding names_of kinds_of
returns c =
    names_taken c.args.d c.requires.0 c.requires.1 c.args.k c.args.line.now _ _ _ c.in-Ok.ensures _ c.args.at _ _ _ (search rules) (search rules)
