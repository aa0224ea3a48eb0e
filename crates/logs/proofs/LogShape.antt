-- The shape of a log: its first form, the count, the steps and its last form, read one after the other. Assumes nothing.
use mathlib.Core.Path.{◌≡◌, ap, sym, ◌∙◌}
use mathlib.Core.Bool.{Bool, true, false}
use mathlib.Core.List.{List, []}
use Prim.Native.Nat.{ℕ, ◌+◌, ◌<◌, ◌≤◌}
use borrow.Author.Tests.{lt-ltb, le-ltb, le-leb, lt-leb, eq-eqb, ne_eqb}
use lib.ListN.{length, get_or}
use Rattle.specification.specs.Results.{Result, refused, given}
use Rattle.specification.specs.Terms as S
use Rattle.specification.specs.Records.{read_form_at}
use Rattle.specification.specs.Rules as R
use Rattle.specification.specs.Logs.{Log, read_steps, read_log}
use Rattle.theory.specs.Records.Positions.{Bytes}
use Rattle.theory.specs.Records.Forms.{form_written}
use Rattle.terms.specs.Abstraction.{form_of}
use Rattle.terms.specs.Valid.{FormValid}
use Rattle.std.specs.Prelude.{Ok, Err}
use Rattle.refusal.specs.declared.Refusal.{Refusal}
use Rattle.refusal.specs.declared.Refusal.TheVariants.{WrongShape}
use Rattle.refusal.specs.Numbers.{number_of}
use Rattle.terms.specs.declared.types.Form.{Form}
use Rattle.logs.specs.declared.steps.Steps.{Steps}
use Rattle.forms.specs.Reading.{form_read_of, FormRead}
use Rattle.logs.specs.declared.reading.LogReading.{LogReading}
use Rattle.logs.specs.Steps.{steps_of}
use Rattle.logs.specs.Reading.{steps_read_of, StepsRead, parts_of, log_read_of, LogRead}

-- ════ readings

-- a form that was read is in shape
pub form-valid : (s : List ℕ) (at : ℕ) (f : Form) (next : ℕ) → Bytes s → FormRead (read_form_at s at) (Ok (f, next)) → FormValid f
unfolding form_read_of
form-valid s at f next bs w =
    record { few = w.readable.few; counted = w.readable.counted; in_shape = (form_written s at next (form_of f) bs (sym w.is)).in_shape }

-- a log refused
log-not : (x : Result Log) (e : Refusal) → x ≡ refused (number_of e) → LogRead x (Err e)
unfolding log_read_of
log-not x e h = record { is = sym h; first = tt; steps = tt; last = tt }

-- ════ the shape

module _ (s : List ℕ) where
  pub first_refused : (e : Refusal) → FormRead (read_form_at s 0) (Err e) → LogRead (read_log s) (Err e)
  unfolding read_log form_read_of
  first_refused e w = log-not (read_log s) e (rw (← w.is))

  module _ (f : Form) (a : ℕ) (wf : FormRead (read_form_at s 0) (Ok (f, a))) where
    pub count_absent : length s ≤ a → LogRead (read_log s) (Err WrongShape)
    unfolding read_log form_read_of
    count_absent h = log-not (read_log s) WrongShape (rw (← wf.is, le-ltb a (length s) h))

    module _ (h : a < length s) where
      pub count_large : 64 < get_or s a 0 → LogRead (read_log s) (Err WrongShape)
      unfolding read_log form_read_of
      count_large g = log-not (read_log s) WrongShape (rw (← wf.is, lt-ltb a (length s) h, lt-leb (get_or s a 0) 64 g))

      module _ (g : get_or s a 0 ≤ 64) where
        pub step_refused_lem : (e : Refusal) → StepsRead (read_steps (get_or s a 0) [] s (a + 1)) (get_or s a 0) (Err e) → LogRead (read_log s) (Err e)
        unfolding read_log form_read_of steps_read_of
        step_refused_lem e w = log-not (read_log s) e (rw (← wf.is, lt-ltb a (length s) h, le-leb (get_or s a 0) 64 g, ← w.is))

        module _ (q : Steps) (b : ℕ) (wq : StepsRead (read_steps (get_or s a 0) [] s (a + 1)) (get_or s a 0) (Ok (q, b))) where
          pub last_refused : (e : Refusal) → FormRead (read_form_at s b) (Err e) → LogRead (read_log s) (Err e)
          unfolding read_log form_read_of steps_read_of
          last_refused e w = log-not (read_log s) e (rw (← wf.is, lt-ltb a (length s) h, le-leb (get_or s a 0) 64 g, ← wq.is, ← w.is))

          module _ (l : Form) (end : ℕ) (wl : FormRead (read_form_at s b) (Ok (l, end))) where
            pub bytes_left : (end ≡ length s → ⊥) → LogRead (read_log s) (Err WrongShape)
            unfolding read_log form_read_of steps_read_of
            bytes_left e = log-not (read_log s) WrongShape (rw (← wf.is, lt-ltb a (length s) h, le-leb (get_or s a 0) 64 g, ← wq.is, ← wl.is, ne_eqb end (length s) e))

            -- the whole log
            pub log_given : Bytes s → end ≡ length s → LogRead (read_log s) (Ok (record { first_end = a; last_start = b; first = f; steps = q; last = l }))
            unfolding read_log form_read_of steps_read_of log_read_of parts_of
            log_given bs e = record {
              is = sym (rw (← wf.is, lt-ltb a (length s) h, le-leb (get_or s a 0) 64 g, ← wq.is, ← wl.is, eq-eqb end (length s) e));
              first = form-valid s 0 f a bs wf;
              steps = wq.valid;
              last = form-valid s b l end bs wl;
            }

-- ════ the answer

-- a log that was read
pub log-parts : (x : Result Log) (q : LogReading) → LogRead x (Ok q) → x ≡ given (parts_of q)
unfolding log_read_of
log-parts x q w = sym w.is

-- or refused
pub log_refused : (x : Result Log) (e : Refusal) → LogRead x (Err e) → x ≡ refused (number_of e)
unfolding log_read_of
log_refused x e w = sym w.is
