-- `forms::take_terms`. The loop: reading all terms is reading those from the position reached behind the i taken; these stand in the form, and `last` is the last of
-- them, behind which the next must stand. Assumes nothing.
use mathlib.Core.Path.{◌≡◌, refl, ap, ◌∙◌}
use mathlib.Core.List.{[]}
use Prim.Native.Nat.{ℕ, suc, ◌-◌, ◌+◌, ◌≤◌, ◌<◌}
use native.Mathlib.Omega.{arith}
use borrow.Author.Tests.{not-true, not-false}
use lib.ListN.{length, length-set}
use Rattle.specification.specs.Lists.{follows}
use Rattle.specification.specs.Terms.{term_before}
use Rattle.specification.specs.Terms as S
use Rattle.specification.specs.Records.{read_terms}
use Rattle.terms.specs.Abstraction.{term_of, Counted, terms_of}
use Rattle.terms.specs.Valid.{Readable}
use Rattle.forms.specs.Reading.{behind_last}
use Rattle.forms.proofs.Takers.{begins, behind_none, behind_more, more_room, pushed-terms, pushed-readable, turn_refused, turned, terms_refused, terms_given}
use Rattle.forms.proofs.take_terms.Given as goal

abbrev pub invariant-loop-i : goal.invariant-loop-i
invariant-loop-i l = (l.i ≤ l.n) × (l.f.count ≡ l.i) × (length l.f.terms ≡ 48) × (read_terms l.n l.kind [] l.s l.at ≡ read_terms (l.n - l.i) l.kind (terms_of l.f) l.s l.next) × Readable l.i l.f × (l.f.kind ≡ l.kind)
    × ((t : S.Term) → follows term_before (terms_of l.f) t ≡ behind_last l.i (term_of l.last) t) × Counted l.last
