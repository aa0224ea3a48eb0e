-- Step records read, one test after the other, and one step after the other. Assumes nothing.
use mathlib.Core.Path.{◌≡◌, refl, ap, sym, subst, ◌∙◌}
use mathlib.Core.Bool.{Bool, true, false, true≢false}
use mathlib.Core.List.{List, [], ◌∷◌, ◌++◌, map}
use Prim.Native.Nat.{ℕ, suc, ◌+◌, ◌-◌, ◌<◌, ◌≤◌}
use native.Mathlib.Omega.{arith}
use borrow.Author.Tests.{lt-ltb, le-ltb}
use lib.Dec.{T, leb}
use lib.ListN.{length, get_or, take, drop, set, length-drop, length-map}
use lib.Seq.{get_or-drop, length-take-le}
use Rattle.specification.specs.Results.{Result, refused, given, ◌>>=◌, ◌>>◌}
use Rattle.specification.specs.Terms as S
use Rattle.specification.specs.Records.{read_letters, read_term_at}
use Rattle.specification.specs.Rules.{is_rule, rule_letters}
use Rattle.specification.specs.Rules as R
use Rattle.specification.specs.Logs.{read_step_at, read_steps}
use Rattle.theory.specs.Elements.{All, all_append}
use Rattle.theory.specs.Records.Positions.{Bytes}
use Rattle.theory.specs.Records.Terms.{term_written}
use Rattle.terms.specs.Abstraction.{term_of}
use Rattle.terms.proofs.Arrays.{no_term, stored-behind, mapped-behind, copied_more}
use Rattle.std.specs.Prelude.{Ok, Err}
use Rattle.refusal.specs.declared.Refusal.{Refusal}
use Rattle.refusal.specs.Numbers.{number_of}
use Rattle.records.specs.Reading.{read_of, TermRead}
use Rattle.terms.specs.declared.types.Term.{Term}
use Rattle.rules.specs.declared.steps.Step.{Step}
use Rattle.rules.specs.Steps.{step_of, StepValid}
use Rattle.logs.specs.declared.steps.Steps.{Steps}
use Rattle.logs.specs.Steps.{steps_of, StepsValid}
use Rattle.logs.specs.Reading.{step_read_of, StepRead, steps_read_of, StepsRead}

-- what a list of steps has past its end
abbrev pub no_step : Step
no_step = record { rule = 0; letters = []; m = no_term }

-- ════ one step

-- a letter more copied
pub letter-copied : (s : List ℕ) (at i : ℕ) (ls : List ℕ) → take i ls ≡ take i (drop at s) → i < length ls → at + i < length s → take (i + 1)
    (set ls i (get_or s (at + i) 0)) ≡ take (i + 1) (drop at s)
letter-copied s at i ls e h g =
    ap (λ (x : ℕ). take (i + 1) (set ls i x)) (sym (get_or-drop at s i 0))
    ∙ copied_more ls (drop at s) i 0 e h (omega (arith, length-drop at s))

-- a step refused for its shape
pub step_refused : (x : Result (R.Step × ℕ)) (e : Refusal) → x ≡ refused (number_of e) → StepRead x (Err e)
unfolding step_read_of
step_refused x e h = record { is = sym h; valid = tt }

module _ (s : List ℕ) (at : ℕ) where
  -- nothing stands there
  pub step-absent : length s ≤ at → read_step_at s at ≡ refused 11
  unfolding read_step_at
  step-absent h = rw (le-ltb at (length s) h)

  module _ (h : at < length s) where
    -- no rule's number
    pub rule-unknown : (b : Bool) → b ≡ is_rule (get_or s at 0) → b ≡ false → read_step_at s at ≡ refused 11
    unfolding read_step_at
    rule-unknown b e n = rw (lt-ltb at (length s) h, ← e, n)

    module _ (b : Bool) (eb : b ≡ is_rule (get_or s at 0)) (hb : b ≡ true) (n : ℕ) (en : n ≡ rule_letters (get_or s at 0)) (l : Bool) (el : l ≡ leb (at + 1 + n)
        (length s)) where
      -- its letters are cut
      pub letters-cut : l ≡ false → read_step_at s at ≡ refused 11
      unfolding read_step_at read_letters
      letters-cut z = rw (lt-ltb at (length s) h, ← eb, hb, ← en, ← el, z)

      module _ (hl : l ≡ true) where
        -- M decides
        by-term : read_step_at s at ≡ (read_term_at s (at + 1 + n) >>= λ p. given (
          record { rule = get_or s at 0; letters = take n (drop (at + 1) s); m = p.0 },
          p.1,
        ))
        unfolding read_step_at read_letters
        by-term = rw (lt-ltb at (length s) h, ← eb, hb, ← en, ← el, hl)

        -- M is refused
        pub term_refused : (e : Refusal) → TermRead (read_term_at s (at + 1 + n)) (Err e) → StepRead (read_step_at s at) (Err e)
        unfolding read_of
        term_refused e w = step_refused (read_step_at s at) e (by-term ∙ rw (← w.is))

        -- a step with M as it was read
        pub step_of-term : Bytes s → (t : Term) (next : ℕ) (ls : List ℕ) → TermRead (read_term_at s (at + 1 + n)) (Ok (t, next)) → take n ls ≡ take n (drop (at + 1) s)
            → StepRead (read_step_at s at) (Ok (record { rule = get_or s at 0; letters = ls; m = t }, next))
        unfolding read_of step_read_of step_of
        step_of-term bs t next ls w e =
            record {
              is = (λ i. given (record { rule = get_or s at 0; letters = letters i; m = term_of t }, next))
                  ∙ sym (by-term ∙ ap (λ (x : Result (S.Term × ℕ)). x >>= λ p. given (whole p.0, p.1)) (sym w.is));
              valid = record {
                rule = subst T (sym hb ∙ eb) tt;
                m = record {
                  counted = w.counted;
                  in_shape = (term_written s (at + 1 + n) next (term_of t) bs (sym w.is)).in_shape;
                };
              };
            }
          where
            -- the step with an M
            whole : S.Term → R.Step
            whole m = record { rule = get_or s at 0; letters = take n (drop (at + 1) s); m = m }

            letters : take (rule_letters (get_or s at 0)) ls ≡ take n (drop (at + 1) s)
            letters = ap (λ (k : ℕ). take k ls) (sym en) ∙ e

-- ════ step after step

module _ (s : List ℕ) (at : ℕ) where
  -- a step is refused
  pub turn_refused : (c : ℕ) (before : List R.Step) (e : Refusal) → StepRead (read_step_at s at) (Err e) → read_steps (suc c) before s at ≡ refused (number_of e)
  unfolding read_steps step_read_of
  turn_refused c before e w = rw (← w.is)

  -- a step stands behind those before
  pub turned : (c : ℕ) (before : List R.Step) (t : Step) (next : ℕ) → StepRead (read_step_at s at) (Ok (t, next))
      → read_steps (suc c) before s at ≡ read_steps c (before ++ step_of t ∷ []) s next
  unfolding read_steps step_read_of
  turned c before t next w = rw (← w.is)

-- a step stored behind those that stand
module _ (r r' : Steps) (t : Step) (i : ℕ) (e : r.count ≡ i) (e' : r'.count ≡ i + 1) (inside : i < length r.steps)
    (set_is : r'.steps ≡ set r.steps i t) where
  stored : take r'.count r'.steps ≡ take i r.steps ++ t ∷ []
  stored = (λ j. take (e' j) (set_is j)) ∙ stored-behind r.steps i t inside

  pub pushed-steps : steps_of r' ≡ steps_of r ++ step_of t ∷ []
  unfolding steps_of
  pushed-steps = ap (map step_of) stored ∙ mapped-behind step_of (take i r.steps) t ∙ ap (λ (n : ℕ). map step_of (take n r.steps) ++ step_of t ∷ []) (sym e)

-- and it is in shape as they are
pub pushed-valid : (l : List Step) (i : ℕ) (t : Step) → i < length l → All StepValid (take i l) → StepValid t → All StepValid (take (i + 1) (set l i t))
pushed-valid l i t h a v = subst (All StepValid) (sym (stored-behind l i t h)) (all_append StepValid (take i l) (t ∷ []) a (v, tt))

-- what was read of the steps
pub steps_refused : (x : Result (List R.Step × ℕ)) (n : ℕ) (e : Refusal) → x ≡ refused (number_of e) → StepsRead x n (Err e)
unfolding steps_read_of
steps_refused x n e h = record { is = sym h; count = tt; valid = tt }

pub steps_given : (x : Result (List R.Step × ℕ)) (n : ℕ) (q : Steps) (next : ℕ) → q.count ≡ n → StepsValid q
    → x ≡ given (steps_of q, next) → StepsRead x n (Ok (q, next))
unfolding steps_read_of
steps_given x n q next c v e = record { is = sym e; count = c; valid = v }

-- the steps that stand are in shape
pub steps_stand_lem : (r : Steps) (i : ℕ) → r.count ≡ i → i ≤ 64 → length r.steps ≡ 64 → All StepValid (take i r.steps) → StepsValid r
steps_stand_lem r i e f l a = record { few = omega (arith, e); long = l; steps = subst (λ (m : ℕ). All StepValid (take m r.steps)) (sym e) a }

-- as many as counted
pub steps-long : (q : Steps) → StepsValid q → length (steps_of q) ≡ q.count
unfolding steps_of
steps-long q v = length-map (take q.count q.steps) step_of ∙ length-take-le q.count q.steps (omega (arith, v.few, v.long))
