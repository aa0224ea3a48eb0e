-- The record of a log from the records of its parts: letters, steps and forms, one behind the other. Assumes nothing.
use mathlib.Core.Path.{◌≡◌, refl, ap, sym, ◌∙◌}
use mathlib.Core.List.{List, [], ◌∷◌, ◌++◌, map, append-nil, append_assoc}
use Prim.Native.Nat.{ℕ, zero, suc, ◌+◌, ◌-◌, ◌*◌, ◌≤◌, ◌<◌}
use native.Mathlib.Omega.{arith}
use native.Mathlib.Numerals.{add-one}
use lib.ListN.{length, get_or, take, drop, set, length-append, length-map, length-set, length-drop, drop_of_length-le}
use lib.Seq.{take-suc, take_all, drop-drop, length-take-le}
use Rattle.specification.specs.Lists.{joined}
use Rattle.specification.specs.Terms as S
use Rattle.specification.specs.Records.{write_term, write_form, write_into}
use Rattle.specification.specs.Rules.{rule_letters}
use Rattle.specification.specs.Rules as R
use Rattle.specification.specs.Logs.{write_step, write_steps, write_log}
use Rattle.theory.specs.Elements.{All, all_map}
use Rattle.theory.specs.Records.Terms.{term_short}
use Rattle.theory.proofs.Records.Lengths.{letters-few, records_short}
use Rattle.integers.specs.Over.{over}
use Rattle.integers.proofs.Over.{over-nil}
use Rattle.terms.specs.Abstraction.{term_of}
use Rattle.terms.proofs.Arrays.{all-at, mapped-behind}
use Rattle.forms.specs.Written.{FormWritten}
use Rattle.record_writing.specs.Written.{Written}
use Rattle.record_writing.proofs.Writes.{written_store, written_then, written_length}
use Rattle.record_writing.proofs.Factors.{joined-append}
use Rattle.forms.proofs.Forms.{front_is}
use Rattle.rules.specs.declared.steps.Step.{Step}
use Rattle.rules.specs.Steps.{step_of, StepValid}
use Rattle.logs.specs.Writing.{LogWritten}

-- ════ letters

-- none yet
pub letters_none : (ls l : List ℕ) (at : ℕ) → Written l l at (at + 0) (take 0 ls)
letters_none ls l at = record { ends = refl; bytes = over-nil l at }

-- one more
pub letter_written : (ls : List ℕ) (i : ℕ) (l m : List ℕ) (at : ℕ) → i < length ls → at + i < length l → Written l m at (at + i) (take i ls)
    → Written l (set m (at + i) (get_or ls i 0)) at (at + (i + 1)) (take (i + 1) ls)
letter_written ls i l m at h g w =
    let x = get_or ls i 0 in
    let e : take (i + 1) ls ≡ take i ls ++ x ∷ [] = rw (add-one, take-suc ls i 0 h) in
    let k : length m ≡ length l = written_length l m at (at + i) (take i ls) (omega (arith, w.ends)) w in
    let n : at + i + 1 ≡ at + (i + 1) = omega arith in
    rw (e, ← n) (written_then l m (set m (at + i) x) at (at + i) (at + i + 1) (take i ls) (x ∷ []) (omega arith) w (written_store m (at + i) x (omega (arith, k))))

-- no more than were asked for
pub taken_few : {A : Type 0} (n : ℕ) (l : List A) → length (take n l) ≤ n
taken_few zero l = omega arith
taken_few (suc n) [] = omega arith
taken_few (suc n) (x ∷ l) = omega (arith, taken_few n l)

-- ════ steps

-- the rule's number stored, its letters behind it, and M behind these
pub step_written : (s : Step) (n : ℕ) (a b c : List ℕ) (at k next : ℕ) → n ≡ rule_letters s.rule → at < length a
    → Written (set a at s.rule) b (at + 1) k (take n s.letters) → Written b c k next (write_term (term_of s.m)) → Written a c at next (write_step (step_of s))
unfolding write_step step_of
step_written s n a b c at k next e h p q =
    let r = s.rule in
    let ls = take n s.letters in
    rw (← e)
    (written_then a (set a at r) c at (at + 1) next (r ∷ []) (ls ++ write_term (term_of s.m)) (omega arith) (written_store a at r h)
    (written_then (set a at r) b c (at + 1) k next ls (write_term (term_of s.m)) (omega (arith, length-set a at r)) p q))

-- a step's record has at most 23 bytes
pub step_short : (s : Step) → StepValid s → length (write_step (step_of s)) ≤ 23
unfolding write_step step_of
step_short s v =
    omega (
      arith,
      length-append (take (rule_letters s.rule) s.letters) (write_term (term_of s.m)),
      taken_few (rule_letters s.rule) s.letters,
      letters-few s.rule,
      term_short (term_of s.m) v.m.in_shape,
    )

-- the records of the first steps
abbrev pub step_records : (ss : List Step) (i : ℕ) → List ℕ
step_records ss i = write_steps (map step_of (take i ss))

-- none of none
pub steps_none : (ss : List Step) → step_records ss 0 ≡ []
unfolding write_steps joined
steps_none ss = refl

-- the records of one step more
records_more : (ss : List Step) (i : ℕ) (d : Step) → i < length ss → step_records ss (i + 1) ≡ step_records ss i ++ write_step (step_of (get_or ss i d))
unfolding write_steps joined
records_more ss i d h =
    rw (add-one, take-suc ss i d h, mapped-behind step_of (take i ss) (get_or ss i d), mapped-behind write_step (map step_of (take i ss)) (step_of (get_or ss i d)))
    (joined-append (map write_step (map step_of (take i ss))) (write_step (step_of (get_or ss i d)) ∷ [])
    ∙ ap (λ (l : List ℕ). step_records ss i ++ l) (append-nil (write_step (step_of (get_or ss i d)))))

-- one more
pub step-behind : (ss : List Step) (i : ℕ) (d : Step) (a b c : List ℕ) (at k next : ℕ) → i < length ss → at ≤ length a → Written a b at k (step_records ss i)
    → Written b c k next (write_step (step_of (get_or ss i d))) → Written a c at next (step_records ss (i + 1))
step-behind ss i d a b c at k next h l p q =
    rw (records_more ss i d h) (written_then a b c at k next (step_records ss i) (write_step (step_of (get_or ss i d))) l p q)

-- it ends 23 bytes later at most
pub step-within : (ss : List Step) (n i : ℕ) (d : Step) (a b : List ℕ) (at k next : ℕ) → n ≤ length ss → i < n → All StepValid (take n ss)
    → Written a b k next (write_step (step_of (get_or ss i d))) → k ≤ at + 23 * i → next ≤ at + 23 * (i + 1)
step-within ss n i d a b at k next h g v w l = omega (arith, w.ends, step_short (get_or ss i d) (all-at StepValid ss n i d h g v))

-- as many as counted
pub steps-counted : (ss : List Step) (n : ℕ) → n ≤ length ss → n ≡ length (map step_of (take n ss))
steps-counted ss n h = sym (length-map (take n ss) step_of ∙ length-take-le n ss h)

-- the records of valid steps
pub steps_short : (ss : List Step) (n : ℕ) → All StepValid (take n ss) → length (step_records ss n) ≤ 23 * n
unfolding write_steps
steps_short ss n v =
    let w = all_map StepValid (λ (st : R.Step). length (write_step st) ≤ 23) step_of step_short (take n ss) v in
    omega (
      arith,
      records_short (λ (st : R.Step). length (write_step st) ≤ 23) write_step 23 (λ st h. h) (map step_of (take n ss)) w,
      length-map (take n ss) step_of,
      taken_few n ss,
    )

-- ════ the log

-- what is written into the bytes from b on, as they come back
pub part_written : (o p : List ℕ) (b c : ℕ) (x : List ℕ) → b ≤ length o → c ≡ length x → p ≡ write_into x (take (length o - b) (drop b o))
    → Written o (take b o ++ (p ++ drop (length o - b) (drop b o))) b (b + c) x
unfolding over write_into
part_written o p b c x h long is =
    let n : length (drop b o) ≡ length o - b = length-drop b o in
    let e : take (length o - b) (drop b o) ≡ drop b o = take_all (length o - b) (drop b o) (omega arith) in
    let z : drop (length o - b) (drop b o) ≡ [] = drop_of_length-le (drop b o) {i = length o - b} (omega arith) in
    let there : p ≡ x ++ drop (length x) (drop b o) = is ∙ ap (λ (l : List ℕ). x ++ drop (length x) l) e in
    record {
      ends = ap (λ (k : ℕ). b + k) long;
      bytes = rw (z, there, append-nil, drop-drop) (sym (append_assoc (take b o) x (drop (b + length x) o)));
    }

-- the first form, the number of steps, the steps and the last form
pub log_written : (first : S.Form) (steps : List R.Step) (last : S.Form) (n : ℕ) (l m o p : List ℕ) (a b c : ℕ) → n ≡ length steps → FormWritten l m a first → a < length m
    → Written (set m a n) o (a + 1) b (write_steps steps) → b ≤ length o → FormWritten (take (length o - b) (drop b o)) p c last
    → LogWritten l (take b o ++ (p ++ drop (length o - b) (drop b o))) (b + c) first steps last
unfolding write_log
log_written first steps last n l m o p a b c e f h w g q =
    let u = write_form first in
    let k = length steps in
    let v = k ∷ write_steps steps in
    let r = take b o ++ (p ++ drop (length o - b) (drop b o)) in
    let w₁ : Written l m 0 a u = record { ends = omega (arith, f.ends); bytes = f.bytes ∙ sym (front_is l u) } in
    let w₂ : Written m o a b v =
    written_then m (set m a k) o a (a + 1) b (k ∷ []) (write_steps steps) (omega arith) (written_store m a k h) (rw e at w) in
    let w₃ = written_then l m o 0 a b u v (omega arith) w₁ w₂ in
    let w₄ = written_then l o r 0 b (b + c) (u ++ v) (write_form last) (omega arith) w₃ (part_written o p b c (write_form last) g q.ends q.bytes) in
    record { ends = omega (arith, w₄.ends); bytes = w₄.bytes ∙ front_is l (u ++ v ++ write_form last) }
