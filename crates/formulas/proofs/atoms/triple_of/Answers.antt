-- `formulas::atoms::triple_of` meets its contract. Assumes nothing.
use Rattle.formulas.proofs.Leaves.{triple-worked}
use Rattle.formulas.proofs.atoms.triple_of.Goals as goal

pub triple-work-requires : goal.triple-work-requires
triple-work-requires c = let p = c.requires in (p.0.form, p.1.form, p.4, p.5, p.2.form)

pub behind-next-requires : goal.behind-next-requires
behind-next-requires c = c.requires.3

pub returns : goal.returns
returns c =
    triple-worked _ _ _ _ _ _ c.args.rows.now c.args.coefs.now c.args.right.now c.args.rights.now c.args.third.now c.args.thirds.now _ _ _
    c.triple-work.ensures c.behind-next.ensures
