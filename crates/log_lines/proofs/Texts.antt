-- The text of a step from those of its parts, and how long it is. Assumes nothing.
use mathlib.Core.Path.{◌≡◌, refl, ap}
use mathlib.Core.List.{List, [], ◌∷◌, ◌++◌, map}
use Prim.Native.Nat.{ℕ, ◌+◌, ◌-◌, ◌*◌, ◌≤◌, ◌<◌}
use native.Mathlib.Omega.{arith}
use lib.Dec.{T, leb, leb→le}
use lib.ListN.{length, get_or, take, drop, set, length-append}
use Rattle.specification.specs.Lists.{joined}
use Rattle.specification.specs.Rules.{rule_letters, is_rule}
use Rattle.specification.specs.Printing.{name_of, print_form, print_letters, print_rule, print_multiplier, print_step, print_steps, TextWritten}
use Rattle.theory.specs.Tests.{and_split}
use Rattle.theory.specs.Elements.{All}
use Rattle.terms.specs.declared.types.Term.{Term}
use Rattle.terms.specs.Abstraction.{term_of}
use Rattle.terms.specs.Valid.{TermValid}
use Rattle.terms.proofs.Arrays.{rest_at, nothing_left_lem}
use Rattle.record_writing.specs.Written.{Written}
use Rattle.record_writing.proofs.Writes.{written_store, written_then}
use Rattle.rules.specs.declared.steps.Step.{Step}
use Rattle.rules.specs.Steps.{step_of}
use Rattle.theory.proofs.Records.Lengths.{letters-few}
use Rattle.logs.proofs.WrittenLogs.{taken_few, part_written}
use Rattle.symbols.proofs.Decimals.{decimal_one}
use Rattle.printing.proofs.Texts.{single_short, text_written, written_text}
use Rattle.log_lines.specs.Printed.{StepPrintable}

-- ════ the rule

-- its number is a digit
pub rule_is : (rule : ℕ) → rule ≤ 5 → print_rule rule ≡ 114 ∷ 117 ∷ 108 ∷ 101 ∷ 32 ∷ (48 + rule) ∷ 58 ∷ []
unfolding print_rule
rule_is rule h = rw (decimal_one rule (omega arith))

-- a rule is numbered 1 to 5
pub rule-small : (rule : ℕ) → T (is_rule rule) → rule ≤ 5
unfolding is_rule
rule-small rule h = leb→le rule 5 (and_split (leb 1 rule) (leb rule 5) h).1

-- ════ its letters

-- the text of the letters from one on
abbrev pub letters_from : (names ls : List ℕ) → ℕ → ℕ → List ℕ
letters_from names ls n i = print_letters names (drop i (take n ls))

module _ (names ls : List ℕ) (n i : ℕ) (few : n ≤ length ls) where
  -- one more
  pub letter_next : i < n → letters_from names ls n i ≡ (32 ∷ name_of names (get_or ls i 0) ∷ []) ++ letters_from names ls n (i + 1)
  unfolding print_letters
  letter_next h = rw (rest_at ls n i 0 few h)

  -- none is left
  pub letters-end : n ≤ i → letters_from names ls n i ≡ []
  unfolding print_letters
  letters-end h = rw (nothing_left_lem ls n i few h)

-- two bytes each
letters-long : (names ls : List ℕ) → length (print_letters names ls) ≡ 2 * length ls
unfolding print_letters
letters-long names [] = refl
letters-long names (n ∷ ls) = omega (arith, letters-long names ls)

-- ════ M

module _ (names : List ℕ) (m : Term) (v : TermValid m) where
  -- with its mark and the newline at most 36 bytes
  pub multiplier_short : length (print_multiplier names (term_of m)) ≤ 36
  unfolding print_multiplier
  multiplier_short = simp length-append (omega (arith, single_short names m v))

  -- the mark, the term, the newline
  pub multiplier_written : (l o p : List ℕ) (at next : ℕ) → at + 36 ≤ length l → Written l o at (at + 6) (44 ∷ 32 ∷ 77 ∷ 32 ∷ 61 ∷ 32 ∷ [])
      → Written o p (at + 6) next (print_form names (term_of m ∷ [])) → length p ≡ length l
      → (next < length p) × Written l (set p next 10) at (next + 1) (print_multiplier names (term_of m))
  unfolding print_multiplier
  multiplier_written l o p at next room mark single kept =
      let i : next < length p = omega (arith, single.ends, single_short names m v) in
      let w = written_then l o p at (at + 6) next _ _ (omega arith) mark single in
      (i, written_then l p (set p next 10) at next (next + 1) _ (10 ∷ []) (omega arith) w (written_store p next 10 i))

-- ════ a step

module _ (names : List ℕ) (s : Step) where
  -- the rule, its letters, M
  pub step_written : (n : ℕ) (l m o p : List ℕ) (at j k next : ℕ) → n ≡ rule_letters s.rule → at ≤ length l → Written l m at j (print_rule s.rule)
      → Written m o j k (print_letters names (take n s.letters)) → Written o p k next (print_multiplier names (term_of s.m))
      → Written l p at next (print_step names (step_of s))
  unfolding print_step step_of
  step_written n l m o p at j k next e h rule letters multiplier =
      rw (← e) (written_then l o p at k next _ _ h (written_then l m o at j k _ _ h rule letters) multiplier)

  -- at most 55 bytes
  pub step_text_short : StepPrintable names s → length (print_step names (step_of s)) ≤ 55
  unfolding print_step step_of
  step_text_short p =
      let ls = take (rule_letters s.rule) s.letters in
      simp length-append (
      omega (
        arith,
        ap length (rule_is s.rule (rule-small s.rule p.valid.rule)),
        letters-long names ls,
        taken_few (rule_letters s.rule) s.letters,
        letters-few s.rule,
        multiplier_short names s.m p.valid.m,
      )
      )

-- letters take two bytes each
pub letters_short : (names : List ℕ) (n : ℕ) (ls : List ℕ) → length (print_letters names (take n ls)) ≤ 2 * n
letters_short names n ls = omega (arith, letters-long names (take n ls), taken_few n ls)

-- ════ the steps

-- the text of the steps from one on
abbrev pub steps_from : (names : List ℕ) → List Step → ℕ → ℕ → List ℕ
steps_from names ss n i = print_steps names (map step_of (drop i (take n ss)))

module _ (names : List ℕ) (ss : List Step) (n i : ℕ) (few : n ≤ length ss) where
  -- one more
  pub step-next : (d : Step) → i < n → steps_from names ss n i ≡ print_step names (step_of (get_or ss i d)) ++ steps_from names ss n (i + 1)
  unfolding print_steps joined
  step-next d h = rw (rest_at ss n i d few h)

  -- none is left
  pub steps-end : n ≤ i → steps_from names ss n i ≡ []
  unfolding print_steps joined
  steps-end h = rw (nothing_left_lem ss n i few h)

-- at most 55 bytes each
pub steps_short : (names : List ℕ) (ss : List Step) → All (StepPrintable names) ss → length (print_steps names (map step_of ss)) ≤ 55 * length ss
unfolding print_steps joined
steps_short names [] h = omega arith
steps_short names (s ∷ ss) h = simp length-append (omega (arith, step_text_short names s h.0, steps_short names ss h.1))

-- ════ the log

-- the line of the first form, those of the steps, and the line of the last form in the bytes behind them
pub log_written : (first steps last l m o p : List ℕ) (a b c : ℕ) → TextWritten l m a first → Written m o a b steps → b ≤ length o
    → TextWritten (take (length o - b) (drop b o)) p c last
    → TextWritten l (take b o ++ (p ++ drop (length o - b) (drop b o))) (b + c) (first ++ steps ++ last)
log_written first steps last l m o p a b c u v h w =
    let r = take b o ++ (p ++ drop (length o - b) (drop b o)) in
    text_written l r (b + c) _ _ refl
    (written_then l o r 0 b (b + c) (first ++ steps) last (omega arith) (written_then l m o 0 a b first steps (omega arith) (written_text l m a first u) v)
    (part_written o p b c last h w.ends w.bytes))
