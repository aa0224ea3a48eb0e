-- `letters::test_term`. The loop: the test of the term is that of its factors from factor i on and then of its vector part. Assumes nothing.
use Rattle.letters.proofs.LetterTests.{factor-stops, factor-passes, factors-end}
use Prim.Native.Nat.{◌-◌, ◌≤◌}
use mathlib.Core.List.{map}
use lib.ListN.{length, take, drop}
use Rattle.specification.specs.Results.{◌>>◌}
use Rattle.specification.specs.Letters.{vector, test_letters}
use Rattle.specification.specs.Records.{test_factors, test_term}
use Rattle.terms.specs.Numbers.{letters_of}
use Rattle.terms.specs.Abstraction.{part_of, term_of}
use Rattle.terms.proofs.Arrays.{all-at}
use mathlib.Core.Path.{◌≡◌, refl, sym, ◌∙◌}
use native.Mathlib.Omega.{arith}
use Rattle.letters.proofs.test_term.Given as goal

abbrev pub invariant-loop-i : goal.invariant-loop-i
invariant-loop-i l = (l.i ≤ l.n) × (l.n ≡ l.t.factor_count) × (l.n ≤ 7)
    × (test_term l.table (term_of l.t) ≡ (test_factors l.table (map letters_of (drop l.i (take l.n l.t.factors))) >> test_letters l.table vector (part_of l.t.part)))
