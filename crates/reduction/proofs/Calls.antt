-- An expression whole: too long, not read, bytes left over, or worked. Assumes nothing.
use mathlib.Core.Path.{◌≡◌, sym}
use mathlib.Core.List.{List}
use Prim.Native.Nat.{ℕ, ◌≤◌, ◌<◌}
use borrow.Author.Tests.{le-leb, lt-leb, eq-eqb, ne_eqb}
use native.Mathlib.Omega.{arith}
use lib.IntN.{ℤ}
use lib.ListN.{length}
use Rattle.specification.specs.Results.{given}
use Rattle.specification.specs.Expressions.{Expr, read_tree, read_expr}
use Rattle.specification.specs.Reduction.{work, reduced}
use Rattle.terms.specs.declared.types.Form.{Form}
use Rattle.std.specs.Prelude.{Ok, Err, IfOk}
use Rattle.std.specs.Prelude as Std
use Rattle.refusal.specs.declared.Refusal.{Refusal}
use Rattle.refusal.specs.declared.Refusal.TheVariants.{TooLong, Torn}
use Rattle.rows.specs.declared.Worked.{Worked}
use Rattle.rows.proofs.RowForms.{rows_as}
use Rattle.terms.specs.Valid.{Gives}
use Rattle.terms.proofs.Outcomes.{refuses}
use Rattle.rows.specs.Rows.{FormRun, OutcomeOf}
use Rattle.expressions.specs.declared.trees.Tree.{Tree}
use Rattle.expressions.specs.Trees.{ReadAs}
use Rattle.expressions.proofs.Levels.{TreeFound, read-refused, read_given}

-- ════ an expression whole

module _ (table s : List ℕ) where
  -- over 512 bytes
  pub too_long : 512 < length s → Gives (reduced table s) (Err TooLong)
  unfolding reduced read_expr
  too_long h = refuses (reduced table s) TooLong (rw (lt-leb (length s) 512 h))

  whole_is : (e : Expr) (next : ℕ) → length s ≤ 512 → read_tree 16 table s 0 ≡ given (e, next) → next ≡ length s → reduced table s ≡ work e
  unfolding reduced read_expr
  whole_is e next h r n = rw (le-leb (length s) 512 h, r, eq-eqb next (length s) n)

  module _ (rows : List (List ℕ)) (coefs : List ℤ) (h : length s ≤ 512) where
    -- reading refused
    pub not_read : (e : Refusal) → ReadAs (read_tree 16 table s 0) (Err e) rows coefs → Gives (reduced table s) (Err e)
    unfolding reduced read_expr
    not_read e rt = refuses (reduced table s) e (rw (le-leb (length s) 512 h, read-refused (read_tree 16 table s 0) e rows coefs rt))

    module _ (t : Tree) (rt : ReadAs (read_tree 16 table s 0) (Ok t) rows coefs) where
      abbrev found : TreeFound (read_tree 16 table s 0) t rows coefs
      found = read_given (read_tree 16 table s 0) t rows coefs rt

      -- bytes are left over
      pub left_over_lem : (t.next ≡ length s → ⊥) → Gives (reduced table s) (Err Torn)
      unfolding reduced read_expr
      left_over_lem n = refuses (reduced table s) Torn (rw (le-leb (length s) 512 h, found.is, ne_eqb t.next (length s) n))

      -- read whole: working decides
      pub worked_form : IfOk t.work (λ (w : Worked). FormRun w.kind w.count rows coefs)
      worked_form = found.worked.form

      pub read_whole : t.next ≡ length s → (r : Std.Result Form Refusal) → OutcomeOf t.work rows coefs r → Gives (reduced table s) r
      read_whole n r o = o.is (reduced table s)
          (rows_as (work found.tree) (reduced table s) t.work rows coefs (sym (whole_is found.tree t.next h found.is n)) found.worked)
