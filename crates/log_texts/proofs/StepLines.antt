-- The line of a step, part by part. Assumes nothing.
use mathlib.Core.Path.{◌≡◌, refl, sym, ◌∙◌, ap}
use mathlib.Core.Bool.{false, ◌&&◌}
use mathlib.Core.List.{List}
use Prim.Native.Nat.{ℕ, ◌+◌, ◌-◌, ◌≤◌, ◌<◌}
use native.Mathlib.Omega.{arith}
use borrow.Author.Tests.{le-leb, lt-leb}
use lib.Dec.{leb, le→leb}
use lib.ListN.{length, get_or, take}
use Rattle.specification.specs.Results.{when◌then◌else◌}
use Rattle.specification.specs.Terms as S
use Rattle.specification.specs.Text.{Placed, refused_at, placed, ◌>>=◌, skip, next}
use Rattle.specification.specs.Rules.{is_rule, rule_letters}
use Rattle.specification.specs.Rules as R
use Rattle.specification.specs.LogTexts.{mark, read_letters_at, read_step_line}
use Rattle.theory.specs.Tests.{and_both}
use Rattle.terms.specs.declared.types.Term.{Term}
use Rattle.terms.specs.Abstraction.{term_of}
use Rattle.rules.specs.Steps.{step_of}
use Rattle.std.specs.Prelude.{Ok, Err}
use Rattle.refusal.specs.declared.Refusal.TheVariants.{Torn}
use Rattle.refusal.specs.Numbers.{number_of}
use Rattle.texts.specs.declared.Unread.{Unread}
use Rattle.log_texts.specs.declared.naming.Letters.{Letters}
use Rattle.log_texts.specs.declared.steps.Rule.{Rule}
use Rattle.log_texts.specs.Letters.{MarkRead, behind_letters, FormulaAt, LettersRead}
use Rattle.log_texts.specs.Formulas.{behind_mark, MultiplierRead}
use Rattle.log_texts.specs.Steps.{behind_colon, RuleRead, StepLineRead}
use Rattle.theory.specs.Text.Bounds.{there}

-- ════ the rule

-- the line of a step by the byte of its rule
abbrev pub ruled : (names table line : List ℕ) (at b : ℕ) → Placed R.Step
ruled names table line at b = when leb 49 b && leb b 53 then mark 58 line (next line at) >>= behind_colon names table line (b - 48) else refused_at 4 at

-- it is that
pub by-rule : (names table line : List ℕ) → read_step_line names table line ≡ ruled names table line (skip line (skip line 0 + 4)) (get_or line (skip line
    (skip line 0 + 4)) 0)
unfolding read_step_line behind_colon behind_letters behind_mark
by-rule names table line = refl

module _ (line : List ℕ) (word at b : ℕ) (hw : word ≡ skip line 0) (ha : at ≡ skip line (word + 4)) (hb : b ≡ get_or line at 0) where
  here : (names table : List ℕ) → read_step_line names table line ≡ ruled names table line at b
  here names table =
      let e : at ≡ skip line (skip line 0 + 4) = ha ∙ ap (λ (k : ℕ). skip line (k + 4)) hw in
      by-rule names table line ∙ (λ i. ruled names table line (sym e i) (get_or line (sym e i) 0)) ∙ ap (ruled names table line at) (sym hb)

  -- another byte
  rule_none : (leb 49 b && leb b 53) ≡ false → RuleRead line (Err (record { why = Torn; column = at }))
  rule_none z = record { is = λ names table. here names table ∙ rw z; is_one = tt }

  -- a smaller byte than 1's
  pub rule-below : b < 49 → RuleRead line (Err (record { why = Torn; column = at }))
  rule-below h = rule_none (rw (lt-leb 49 b h))

  module _ (low : 49 ≤ b) where
    -- a greater one than 5's
    pub rule-above : 53 < b → RuleRead line (Err (record { why = Torn; column = at }))
    rule-above h = rule_none (rw (le-leb 49 b low, lt-leb b 53 h))

    -- it stands in the line
    pub rule-inside : at < length line
    rule-inside = there line at (omega (arith, hb))

    module _ (high : b ≤ 53) (after : ℕ) (hn : after ≡ next line at) where
      behind : (names table : List ℕ) → ruled names table line at b ≡ (mark 58 line after >>= behind_colon names table line (b - 48))
      behind names table = rw (le-leb 49 b low, le-leb b 53 high, hn)

      -- no colon
      pub rule-torn : (r : Unread) → MarkRead line (mark 58 line after) (Err r) → RuleRead line (Err r)
      rule-torn r h = record {
        is = λ names table. here names table ∙ behind names table ∙ ap (λ (x : Placed ℕ). x >>= behind_colon names table line (b - 48)) h.is;
        is_one = tt;
      }

      -- a rule
      pub rule_read : (c : ℕ) → MarkRead line (mark 58 line after) (Ok c) → RuleRead line (Ok (record { at = c; rule = b - 48 }))
      unfolding is_rule
      rule_read c h = record {
        is = λ names table. here names table ∙ behind names table ∙ ap (λ (x : Placed ℕ). x >>= behind_colon names table line (b - 48)) h.is;
        is_one = and_both (leb 1 (b - 48)) (leb (b - 48) 5) (le→leb 1 (b - 48) (omega arith)) (le→leb (b - 48) 5 (omega arith));
      }

-- ════ the step

module _ (names table line : List ℕ) where
  -- a line refused by a part
  unread_step : (u : Unread) → read_step_line names table line ≡ refused_at (number_of u.why) u.column → StepLineRead names table line (Err u)
  unread_step u e = record { is = e; valid = tt; six = tt }

  -- no rule
  pub step_unruled : (u : Unread) → RuleRead line (Err u) → StepLineRead names table line (Err u)
  step_unruled u h = unread_step u (h.is names table)

  module _ (a : Rule) (ha : RuleRead line (Ok a)) (n : ℕ) (hn : n ≡ rule_letters a.rule) where
    -- what follows the letters
    abbrev follows : List ℕ × ℕ → Placed R.Step
    follows r = behind_letters line r.1 λ formula. behind_mark names table line formula λ t. placed (record { rule = a.rule; letters = r.0; m = t })

    by-letters : read_step_line names table line ≡ (read_letters_at n names line a.at >>= follows)
    unfolding behind_colon
    by-letters = ha.is names table ∙ ap (λ (k : ℕ). read_letters_at k names line a.at >>= follows) (sym hn)

    -- no letters
    pub step_unlettered : (u : Unread) → LettersRead (read_letters_at n names line a.at) n (Err u) → StepLineRead names table line (Err u)
    step_unlettered u h = unread_step u (by-letters ∙ ap (λ (x : Placed (List ℕ × ℕ)). x >>= follows) h.is)

    module _ (l : Letters) (hl : LettersRead (read_letters_at n names line a.at) n (Ok l)) where
      -- what follows M
      abbrev whole : S.Term → Placed R.Step
      whole t = placed (record { rule = a.rule; letters = take n l.letters; m = t })

      by_mark : read_step_line names table line ≡ behind_letters line l.at (λ formula. behind_mark names table line formula whole)
      by_mark = by-letters ∙ ap (λ (x : Placed (List ℕ × ℕ)). x >>= follows) hl.is

      -- no `, M =`
      pub step-unmarked : (u : Unread) → FormulaAt line l.at (Err u) → StepLineRead names table line (Err u)
      step-unmarked u h = unread_step u (by_mark ∙ h.is (λ formula. behind_mark names table line formula whole))

      module _ (e : ℕ) (he : FormulaAt line l.at (Ok e)) where
        by-term : read_step_line names table line ≡ behind_mark names table line e whole
        by-term = by_mark ∙ he.is (λ formula. behind_mark names table line formula whole)

        -- no term
        pub step_unmultiplied : (u : Unread) → MultiplierRead names table line e (Err u) → StepLineRead names table line (Err u)
        step_unmultiplied u h = unread_step u (by-term ∙ h.is whole)

        -- a step
        pub step_read : (m : Term) → MultiplierRead names table line e (Ok m) → StepLineRead names table line (Ok (record { rule = a.rule; letters = l.letters; m = m }))
        unfolding step_of
        step_read m h = record {
          is = by-term ∙ h.is whole ∙ ap (λ (k : ℕ). placed (record { rule = a.rule; letters = take k l.letters; m = term_of m })) hn;
          valid = record { rule = ha.is_one; m = h.valid };
          six = hl.six;
        }
