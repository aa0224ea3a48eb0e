-- `derivation_word::answering::answer_line` meets its contract. Assumes nothing.
use Rattle.derivation_word.proofs.Turns.{passed-empty, answered, answered-names, answered_first}
use Rattle.derivation_word.proofs.answering.answer_line.Goals as goal

pub returns-then-is_empty_line : goal.returns-then-is_empty_line
returns-then-is_empty_line c =
    passed-empty c.args.d c.args.k c.args.line.now c.args.out.now c.args.out.now _ c.requires _ c.is_empty_line.ensures
    c.if-is_empty_line.true

pub returns-then-d : goal.returns-then-d
returns-then-d c =
    answered c.args.d c.args.k c.args.line.now _ _ _ _ c.is_empty_line.ensures c.if-is_empty_line.false _ c.open_line.ensures

pub returns-then-is_declaration : goal.returns-then-is_declaration
returns-then-is_declaration c =
    answered-names c.args.d c.args.k c.args.line.now _ _ _ _ c.is_empty_line.ensures c.if-is_empty_line.false _ c.if-d.false _
    c.is_declaration.ensures c.if-is_declaration.true c.names_line.ensures

pub returns : goal.returns
returns c =
    answered_first c.args.d c.args.k c.args.line.now _ _ _ _ c.is_empty_line.ensures c.if-is_empty_line.false _ c.if-d.false _
    c.is_declaration.ensures c.if-is_declaration.false c.first_line.ensures
