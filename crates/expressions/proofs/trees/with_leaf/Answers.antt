-- `expressions::trees::with_leaf` meets its contract. Assumes nothing.
use Rattle.std.proofs.Common.{rules}
use mathlib.Core.Path.{refl}
use native.Mathlib.Omega.{arith}
use Rattle.expressions.proofs.Levels.{read_sound}
use Rattle.refusal.proofs.Passing.{passed_up}
use mathlib.Core.Path.{◌≡◌, subst}
use Rattle.std.specs.Prelude.{Ok, Err}
use Rattle.rows.specs.Rows.{RowsGive}
use Rattle.expressions.specs.declared.trees.Tree.{Tree}
use Rattle.expressions.specs.Trees.{on_two, worked_of}
use Rattle.expressions.proofs.trees.with_leaf.Goals as goal

pub read_leaf-requires : goal.read_leaf-requires
read_leaf-requires c = (c.requires.0, omega arith, omega arith)

pub returns-in_err-b : goal.returns-in_err-b
returns-in_err-b c = let b = c.read_leaf in
    rw (passed_up _ _ c.from_residual.ensures.1) (record {
      second = Err c.in_err-b.field-0.0;
      right = b.new.rows;
      rights = b.new.coefs;
      read = c.in_err-b.ensures;
      refuses = λ e h. h;
      works = λ t h. cc h;
    })

pub apply_two-work-requires : goal.apply_two-work-requires
apply_two-work-requires c = let p = c.requires in (p.1, read_sound _ _ _ _ c.in_ok-b.ensures, p.2, p.3)

pub returns : goal.returns
returns c = let b = c.read_leaf in
    record {
      second = Ok c.in_ok-b.b;
      right = b.new.rows;
      rights = b.new.coefs;
      read = c.in_ok-b.ensures;
      refuses = λ e h. cc h;
      works = λ t h. let g : c.in_ok-b.b ≡ t = cc h in (
        c.apply_two-work.result,
        (λ i. Ok (record { next = (g i).next; work = c.apply_two-work.result })),
        subst (λ (t : Tree). RowsGive (on_two c.args.token (worked_of c.args.a.work c.args.rows.now c.args.coefs.now) (worked_of t.work b.new.rows b.new.coefs)) c.apply_two-work.result c.apply_two-work.new.rows c.apply_two-work.new.coefs) g c.apply_two-work.ensures,
      );
    }
