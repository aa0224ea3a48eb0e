-- `texts::good_names` meets its contract: the number, the letters, then that none stands twice. Assumes nothing.
use Rattle.std.proofs.Common.{rules}
use borrow.Author.Tests.{not-true, not-false}
use Rattle.texts.proofs.Naming.{another-number, not-letters, if_distinct}
use Rattle.texts.proofs.good_names.Goals as goal

pub returns-then-names-table : goal.returns-then-names-table
returns-then-names-table c = another-number c.args.names.now c.args.table.now c.if-names-table.true

pub returns-then-not-all_letters : goal.returns-then-not-all_letters
returns-then-not-all_letters c =
    not-letters c.args.names.now c.args.table.now
    c.if-names-table.false _ c.all_letters.ensures c.if-not-all_letters.true

pub returns : goal.returns
returns c =
    if_distinct c.args.names.now
    c.args.table.now c.if-names-table.false _
    c.all_letters.ensures _ c.if-not-all_letters.false c.none_twice.ensures
