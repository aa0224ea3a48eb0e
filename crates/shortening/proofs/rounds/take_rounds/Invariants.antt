-- `shortening::rounds::take_rounds` meets its contract. The loop: the n steps so far lead from the first form to the one in the rows, each admissible and each
-- with fewer terms; the marks cover it, and its search has been made. Assumes nothing.
use mathlib.Core.Path.{◌≡◌}
use lib.ListN.{length}
use Rattle.rows.specs.Rows.{run_of, form_by, FormRun}
use Rattle.marking.specs.Marks.{Covering}
use Rattle.searching.specs.Searching.{SearchedBy}
use Rattle.shortening.specs.Derived.{Leads}
use Rattle.shortening.proofs.rounds.take_rounds.Given as goal

abbrev pub invariant-loop-found : goal.invariant-loop-found
invariant-loop-found l = Leads l.table (form_by l.kind l.held l.initial.rows l.initial.coefs) l.steps l.n (form_by l.kind l.count l.rows l.coefs) × FormRun l.kind l.count l.rows l.coefs
    × (length l.marks ≡ 512) × Covering l.marks (run_of l.count l.rows l.coefs) × SearchedBy 0 l.table (form_by l.kind l.count l.rows l.coefs) l.found l.to l.tos
    × (length l.rows ≡ length l.initial.rows) × (length l.coefs ≡ length l.initial.coefs) × (length l.to ≡ length l.initial.to) × (length l.tos ≡ length l.initial.tos)

abbrev pub decreases-loop-found : goal.decreases-loop-found
decreases-loop-found l = l.count
