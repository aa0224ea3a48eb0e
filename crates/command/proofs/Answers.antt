-- The answer to each word. Assumes nothing.
use mathlib.Core.Path.{◌≡◌, refl, sym, ◌∙◌, ap, subst}
use mathlib.Core.Bool.{true, false, ◌||◌}
use mathlib.Core.List.{List}
use Prim.Native.Nat.{ℕ}
use Rattle.specification.specs.Words.{bytes}
use Rattle.specification.specs.Lines.{same_bytes}
use Rattle.specification.specs.Commands.{answer_text, reduce_input, value_input, check_input, pack_input, unpack_input, derivation_input}
use Rattle.specification.specs.Commands.{usage, is_command, command_text, DecideAnswer, ShortenAnswer, either_way, Commanded}
use Rattle.telling.specs.Told.{Told, AnswerTold}

-- the word is this one
abbrev Is : (word this : List ℕ) → Type 0
Is word this = same_bytes word this ≡ true

-- it is another
abbrev Not : (word this : List ℕ) → Type 0
Not word this = same_bytes word this ≡ false

-- ════ words that are known

module _ (word : List ℕ) where
  pub known_reduce : Is word (bytes "reduce") → true ≡ is_command word
  unfolding is_command
  known_reduce is = rw (is)

  module _ (not-reduce : Not word (bytes "reduce")) where
    pub known_decide : Is word (bytes "decide") → true ≡ is_command word
    unfolding is_command
    known_decide is = rw (not-reduce, is)

    module _ (not-decide : Not word (bytes "decide")) where
      pub known_value : Is word (bytes "value") → true ≡ is_command word
      unfolding is_command
      known_value is = rw (not-reduce, not-decide, is)

      module _ (not-value : Not word (bytes "value")) where
        pub known_shorten : Is word (bytes "shorten") → true ≡ is_command word
        unfolding is_command
        known_shorten is = rw (not-reduce, not-decide, not-value, is)

        module _ (not-shorten : Not word (bytes "shorten")) where
          pub known_check : Is word (bytes "check") → true ≡ is_command word
          unfolding is_command
          known_check is = rw (not-reduce, not-decide, not-value, not-shorten, is)

          module _ (not-check : Not word (bytes "check")) where
            pub known_pack : Is word (bytes "pack") → true ≡ is_command word
            unfolding is_command
            known_pack is = rw (not-reduce, not-decide, not-value, not-shorten, not-check, is)

            module _ (not-pack : Not word (bytes "pack")) where
              pub known_unpack : Is word (bytes "unpack") → true ≡ is_command word
              unfolding is_command
              known_unpack is = rw (not-reduce, not-decide, not-value, not-shorten, not-check, not-pack, is)

              module _ (not-unpack : Not word (bytes "unpack")) where
                pub known_derivation : same_bytes word (bytes "derivation") ≡ is_command word
                unfolding is_command
                known_derivation = rw (not-reduce, not-decide, not-value, not-shorten, not-check, not-pack, not-unpack)

-- ════ what is told

module _ (word s out : List ℕ) (end : ℕ) where
  -- an answer
  abbrev Answers : Type 0
  Answers = AnswerTold (Commanded word s) out end

  pub decides : Is word (bytes "decide") → AnswerTold (DecideAnswer s) out end → Answers
  unfolding Commanded either_way
  decides is t = record { text = t.text; right = rw is t.right; told = t.told }

  module _ (not-decide : Not word (bytes "decide")) where
    pub shortens : Is word (bytes "shorten") → AnswerTold (ShortenAnswer s) out end → Answers
    unfolding Commanded either_way
    shortens is t = record { text = t.text; right = rw (not-decide, is) t.right; told = t.told }

    module _ (not-shorten : Not word (bytes "shorten")) where
      -- a word that fixes its answer
      fixed : (text : List ℕ) → text ≡ command_text word s → Told out end text → Answers
      unfolding Commanded either_way
      fixed text e t = record { text = text; right = rw (not-decide, not-shorten) e; told = t }

      pub reduces : Is word (bytes "reduce") → Told out end (answer_text (reduce_input s)) → Answers
      unfolding command_text
      reduces is t = fixed (answer_text (reduce_input s)) (sym (rw (is))) t

      module _ (not-reduce : Not word (bytes "reduce")) where
        pub values : Is word (bytes "value") → Told out end (answer_text (value_input s)) → Answers
        unfolding command_text
        values is t = fixed (answer_text (value_input s)) (sym (rw (not-reduce, is))) t

        module _ (not-value : Not word (bytes "value")) where
          pub checks : Is word (bytes "check") → Told out end (answer_text (check_input s)) → Answers
          unfolding command_text
          checks is t = fixed (answer_text (check_input s)) (sym (rw (not-reduce, not-value, is))) t

          module _ (not-check : Not word (bytes "check")) where
            pub packs : Is word (bytes "pack") → Told out end (answer_text (pack_input s)) → Answers
            unfolding command_text
            packs is t = fixed (answer_text (pack_input s)) (sym (rw (not-reduce, not-value, not-check, is))) t

            module _ (not-pack : Not word (bytes "pack")) where
              pub unpacks : Is word (bytes "unpack") → Told out end (unpack_input s) → Answers
              unfolding command_text
              unpacks is t = fixed (unpack_input s) (sym (rw (not-reduce, not-value, not-check, not-pack, is))) t

              module _ (not-unpack : Not word (bytes "unpack")) where
                pub derives : Is word (bytes "derivation") → Told out end (derivation_input s) → Answers
                unfolding command_text
                derives is t = fixed (derivation_input s) (sym (rw (not-reduce, not-value, not-check, not-pack, not-unpack, is))) t

                module _ (not-derivation : Not word (bytes "derivation")) where
                  pub helps : Told out end usage → Answers
                  unfolding command_text
                  helps t = fixed usage (sym (rw (not-reduce, not-value, not-check, not-pack, not-unpack, not-derivation))) t
