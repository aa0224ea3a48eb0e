-- `formulas::atoms::name_at` meets its contract. Assumes nothing.
use Rattle.formulas.proofs.Leaves.{name-unread, name_read}
use Rattle.formulas.proofs.atoms.name_at.Goals as goal

pub returns-then-n-names : goal.returns-then-n-names
returns-then-n-names c =
    name-unread c.args.names.now c.args.table.now c.args.s.now c.args.at _ _ c.byte_at.ensures c.place_of-n.ensures _ _ c.if-n-names.true

pub returns : goal.returns
returns c =
    name_read c.args.names.now c.args.table.now c.args.s.now c.args.at _ _ c.byte_at.ensures c.place_of-n.ensures _ _ _ _ _
    c.if-n-names.false c.kind_of-k.ensures c.letter-work.ensures c.behind-next.ensures
