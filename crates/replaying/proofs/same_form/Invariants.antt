-- `replaying::same_form` meets its contract: the terms from the place reached on decide what all decide. Assumes nothing.
use mathlib.Core.List.{[]}
use mathlib.Core.Path.{◌≡◌, refl, sym, ap, ◌∙◌}
use Prim.Native.Nat.{◌-◌, ◌≤◌, ◌<◌}
use native.Mathlib.Omega.{arith}
use borrow.Author.Tests.{not-true, not-false}
use lib.ListN.{length, length-map, drop, get_or}
use lib.IntN.{ℤ, pos}
use Rattle.specification.specs.Logs.{same_terms, same_form}
use Rattle.integers.proofs.Machine.{back_is}
use Rattle.terms.specs.Abstraction.{term_of, form_of, Counted}
use Rattle.terms.proofs.Arrays.{no_term, all-at}
use Rattle.rows.specs.Rows.{term_by, RowValid, run_of, form_by}
use Rattle.rows.proofs.Runs.{run_length, run_at}
use Rattle.replaying.specs.Replaying.{same_term}
use Rattle.replaying.proofs.Replays.{kind-other, count_other, by-terms, form-length, form-at, pair-differs, pair_same, all_same}
use Rattle.replaying.proofs.same_form.Given as goal

abbrev pub invariant-loop-j : goal.invariant-loop-j
invariant-loop-j l = (l.j ≤ l.n) × (l.n ≡ l.f.count) × (same_form (form_of l.f) (form_by l.kind l.count l.rows l.coefs) ≡ same_terms (drop l.j (form_of l.f).terms)
    (drop l.j (run_of l.count l.rows l.coefs)))
