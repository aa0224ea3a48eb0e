-- `letters::test_terms`. The loop: the test of all terms is the test of those from term i on. Assumes nothing.
use Rattle.terms.proofs.Arrays.{no_term, all-at}
use mathlib.Core.Path.{◌≡◌, refl, sym, ◌∙◌}
use native.Mathlib.Omega.{arith}
use Rattle.letters.proofs.LetterTests.{term-stops, term-passes, terms-end}
use Prim.Native.Nat.{◌-◌, ◌≤◌}
use mathlib.Core.List.{map}
use lib.ListN.{length, length-map, take, drop}
use Rattle.specification.specs.Records.{test_terms}
use Rattle.terms.specs.Abstraction.{term_of, Counted, terms_of}
use Rattle.letters.proofs.test_terms.Given as goal

abbrev pub invariant-loop-i : goal.invariant-loop-i
invariant-loop-i l = (l.i ≤ l.n) × (l.n ≡ l.f.count) × (l.n ≤ 48) × (test_terms l.table (terms_of l.f) ≡ test_terms l.table (map term_of (drop l.i (take l.n l.f.terms))))
