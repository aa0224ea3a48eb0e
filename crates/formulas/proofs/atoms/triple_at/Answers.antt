-- `formulas::atoms::triple_at` meets its contract: three names, each inside the text, and their triple. Assumes nothing.
use mathlib.Core.List.{List}
use mathlib.Core.Path.{◌≡◌, sym, ◌∙◌, ap, subst}
use Prim.Native.Nat.{ℕ, ◌<◌}
use native.Mathlib.Omega.{arith}
use lib.ListN.{length}
use Rattle.std.proofs.Common.{rules}
use Rattle.specification.specs.Text.{next}
use Rattle.refusal.proofs.Passing.{passed_up}
use Rattle.formulas.proofs.Leaves.{triple-inside, name-behind, first_unread, second-unread, third-unread, triple_read}
use Rattle.formulas.proofs.atoms.triple_at.Goals.{In_ok-x, In_ok-y, In_ok-z}
use Rattle.formulas.proofs.atoms.triple_at.Goals as goal

-- each name is behind its byte
behind_first : (c : In_ok-x) → c.in_ok-x.x.next ≡ next c.args.s.now (next c.args.s.now c.args.at)
behind_first c =
    name-behind c.args.names.now c.args.table.now c.args.s.now _ _ _ _ c.in_ok-x.ensures ∙ ap (next c.args.s.now) c.behind-first.ensures

behind_second : (c : In_ok-y) → c.in_ok-y.y.next ≡ next c.args.s.now (next c.args.s.now (next c.args.s.now c.args.at))
behind_second c =
    name-behind c.args.names.now c.args.table.now c.args.s.now _ _ _ _ c.in_ok-y.ensures
    ∙ ap (next c.args.s.now) (name-behind c.args.names.now c.args.table.now c.args.s.now _ _ _ _ c.in_ok-x.ensures ∙ ap (next c.args.s.now) c.behind-first.ensures)

behind_third : (c : In_ok-z) → c.in_ok-z.z.next ≡ next c.args.s.now (next c.args.s.now (next c.args.s.now (next c.args.s.now c.args.at)))
behind_third c =
    name-behind c.args.names.now c.args.table.now c.args.s.now _ _ _ _ c.in_ok-z.ensures
    ∙ ap (next c.args.s.now) (name-behind c.args.names.now c.args.table.now c.args.s.now _ _ _ _ c.in_ok-y.ensures
    ∙ ap (next c.args.s.now) (name-behind c.args.names.now c.args.table.now c.args.s.now _ _ _ _ c.in_ok-x.ensures ∙ ap (next c.args.s.now) c.behind-first.ensures))

-- so it is inside the text
inside : {a b : ℕ} (s : List ℕ) → a ≡ b → b < length s → a < length s
inside s e h = subst (λ (k : ℕ). k < length s) (sym e) h

pub name_at-requires : goal.name_at-requires
name_at-requires c = let p = c.requires in (p.0, p.1, inside c.args.s.now c.behind-first.ensures (triple-inside _ _ p.3).one, omega arith, omega arith)

pub returns-in_err-x : goal.returns-in_err-x
returns-in_err-x c =
    rw (passed_up _ _ c.from_residual.ensures.1)
    (first_unread c.args.names.now c.args.table.now c.args.s.now c.args.at _ c.behind-first.ensures _ _ _ c.in_err-x.ensures _ _)

pub name_at-requires-2 : goal.name_at-requires-2
name_at-requires-2 c =
    let p = c.requires in
    (p.0, p.1, inside c.args.s.now (behind_first (goal.at.name_at-requires-2 c).In_ok-x) (triple-inside _ _ p.3).two, omega arith, omega arith)

pub returns-in_err-y : goal.returns-in_err-y
returns-in_err-y c =
    rw (passed_up _ _ c.from_residual-in_err-y.ensures.1)
    (second-unread c.args.names.now c.args.table.now c.args.s.now c.args.at _ c.behind-first.ensures _ _ _ c.in_ok-x.ensures _ _ _ c.in_err-y.ensures _ _)

pub name_at-requires-3 : goal.name_at-requires-3
name_at-requires-3 c =
    let p = c.requires in
    (p.0, p.1, inside c.args.s.now (behind_second (goal.at.name_at-requires-3 c).In_ok-y) (triple-inside _ _ p.3).three, omega arith, omega arith)

pub returns-in_err-z : goal.returns-in_err-z
returns-in_err-z c =
    rw (passed_up _ _ c.from_residual-in_err-z.ensures.1)
    (third-unread c.args.names.now c.args.table.now c.args.s.now c.args.at _ c.behind-first.ensures _ _ _ c.in_ok-x.ensures _ _ _ c.in_ok-y.ensures
    _ _ _ c.in_err-z.ensures _ _)

pub triple_of-requires : goal.triple_of-requires
triple_of-requires c =
    let p = c.requires in (
      c.in_ok-x.ensures.formed,
      c.in_ok-y.ensures.formed,
      c.in_ok-z.ensures.formed,
      inside c.args.s.now (behind_third (goal.at.triple_of-requires c).In_ok-z) (triple-inside _ _ p.3).close,
      omega (arith, c.name_at.auto.rows, p.4),
      omega (arith, c.name_at.auto.coefs, p.5),
    )

pub returns : goal.returns
returns c =
    triple_read c.args.names.now c.args.table.now c.args.s.now c.args.at _ c.behind-first.ensures _ _ _ c.in_ok-x.ensures _ _ _ c.in_ok-y.ensures
    _ _ _ c.in_ok-z.ensures _ _ _ c.triple_of.ensures
