-- `log_telling::tell_names_line` meets its contract, piece by piece. Assumes nothing.
use mathlib.Core.List.{[], ◌∷◌, ◌++◌}
use mathlib.Core.Path.{ap}
use Prim.Native.Nat.{ℕ}
use Rattle.specification.specs.LogTexts.{kinds_word, write_names, names_line}
use Rattle.telling.proofs.Pieces.{tells-then, tells_as}
use Rattle.log_telling.proofs.tell_names_line.Goals as goal

pub returns : goal.returns
unfolding names_line
returns c =
    let a = c.args in
    tells_as _ (ap (λ (k : ℕ). kinds_word k ++ write_names k a.names.now a.table.now ++ 10 ∷ []) c.byte_at-kind.ensures)
    (tells-then (tells-then c.tell_kinds-word.ensures c.tell_names-end.ensures) c.put_byte.ensures)
