-- `derivation_word::reading::read_first` meets its contract. Assumes nothing.
use Rattle.derivation_word.proofs.Answers.{first_nameless, first_named}
use Rattle.derivation_word.proofs.reading.read_first.Goals as goal

pub returns-then-names-eq0 : goal.returns-then-names-eq0
returns-then-names-eq0 c = first_nameless c.args.names.now c.args.table.now c.args.line.now c.if-names-eq0.true

pub returns : goal.returns
returns c =
    first_named c.args.names.now c.args.table.now c.args.line.now _ c.if-names-eq0.false c.read_form_line.ensures
