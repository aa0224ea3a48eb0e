-- `usage::tell_usage` meets its contract, line by line. Assumes nothing.
use mathlib.Core.Path.{◌∙◌}
use Rattle.specification.specs.Commands.{usage}
use Rattle.specification.specs.Words.{bytes}
use Rattle.telling.proofs.Pieces.{tells-then, told_first}
use Rattle.usage.proofs.tell_usage.Goals as goal

pub shape_of-out : goal.shape_of-out
shape_of-out c =
    let c2 = c in
    let c7 = c in
    let c12 = c in
    let c17 = c in
    let c22 = c in
    let c27 = c in
    let c32 = c in
    let c37 = c in
    let c42 = c in
    let c47 = c in
    c2.put.auto.out ∙ c7.put-i.auto.out ∙ c12.put-h.auto.out ∙ c17.put-g.auto.out ∙ c22.put-f.auto.out ∙ c27.put-e.auto.out ∙ c32.put-d.auto.out
    ∙ c37.put-c.auto.out ∙ c42.put-b.auto.out ∙ c47.put-a.auto.out

pub returns : goal.returns
unfolding usage bytes
returns c =
    let c2 = c in
    let c7 = c in
    let c12 = c in
    let c17 = c in
    let c22 = c in
    let c27 = c in
    let c32 = c in
    let c37 = c in
    let c42 = c in
    let c47 = c in
    told_first
    (tells-then (tells-then (tells-then (tells-then (tells-then (tells-then (tells-then (tells-then (tells-then c47.put-a.ensures c42.put-b.ensures)
    c37.put-c.ensures) c32.put-d.ensures) c27.put-e.ensures) c22.put-f.ensures) c17.put-g.ensures) c12.put-h.ensures) c7.put-i.ensures)
    c2.put.ensures)
