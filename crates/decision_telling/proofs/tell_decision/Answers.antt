-- `decision_telling::tell_decision` meets its contract. Assumes nothing.
use Prim.Native.Nat.{ℕ}
use lib.ListN.{length-replicate, get_or-replicate}
use Rattle.specification.specs.Commands.{decision_text}
use Rattle.specification.specs.Words.{bytes}
use Rattle.theory.specs.Shape.Letters.{good_short}
use Rattle.terms.specs.Abstraction.{form_of}
use Rattle.telling.proofs.Pieces.{told_first}
use Rattle.decision_telling.proofs.Answers.{decidable, names-few, assignment-small, told-differs, told-holds}
use Rattle.decision_telling.proofs.tell_decision.Goals as goal

pub settle-d-requires : goal.settle-d-requires
settle-d-requires c =
    (decidable _ _ _ _ _ _ c.requires (length-replicate {A = ℕ} 72 0) (length-replicate {A = ℕ} 55296 0), c.components-m.ensures)

pub tell_difference-requires : goal.tell_difference-requires
tell_difference-requires c =
    let a = c.args in
    let h = c.requires in
    let n = names-few _ _ _ _ h in (
      assignment-small a.names.now a.table.now (form_of a.f) (form_of a.g) _ _ _ _ _ _
          c.says_differs.ensures c.settle-d.ensures c.if-says_differs.true
          (good_short _ h.good.table_good) (length-replicate {A = ℕ} 72 0) (λ i l. get_or-replicate {A = ℕ} 72 i 0 0 l),
      h.valid_first,
      h.valid_second,
      n.0,
      n.1,
    )

pub returns-then-says_differs : goal.returns-then-says_differs
returns-then-says_differs c =
    let a = c.args in
    told-differs a.names.now a.table.now (form_of a.f) (form_of a.g) _ _ _ _ _ _
    c.says_differs.ensures c.settle-d.ensures c.if-says_differs.true _ _ c.tell_difference.ensures

pub returns : goal.returns
unfolding decision_text bytes
returns c =
    let a = c.args in
    told-holds a.names.now a.table.now (form_of a.f) (form_of a.g) _ _ _ _ _ _
    c.says_differs.ensures c.settle-d.ensures c.if-says_differs.false _ _ (told_first c.put.ensures)
