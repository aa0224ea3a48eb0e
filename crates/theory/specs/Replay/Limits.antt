-- A log within the limits (P7): its steps reach a form, and the answer is "accepted" where that is the last form, else 13 at steps + 1. Assumes nothing.
--
-- 13 comes of nothing else: every other test has its own numbers.
use Rattle.std.specs.Prelude.{◌≡◌, refl, Bool, true, false, not, ◌&&◌, List, [], ◌∷◌, ◌++◌, ℕ, zero, suc, ◌+◌, ◌*◌, ltb, leb, eqb, get_or}
use Rattle.std.proofs.Math.Path.{subst}
use Rattle.std.proofs.Common.{◌∙◌, eqb→eq}
use native.Mathlib.Omega.{arith}
use Rattle.std.proofs.Math.Dec.{T}
use Rattle.std.proofs.Math.ListN.{length}
use Rattle.specification.specs.Lists.{all, follows}
use Rattle.specification.specs.Results.{Result, refused, given, ◌>>=◌, ◌>>◌, require, when◌then◌else◌}
use Rattle.specification.specs.Letters.{scalar, vector, kind_of, good_table, test_table, test_letter, test_letters}
use Rattle.specification.specs.Terms.{Term, Form, gather, within, term_within, vector_letters, term_before, term_in_shape}
use Rattle.specification.specs.Records.{is_one, four_bytes_at, stands, good_bits, part_letters, read_letters, read_coef, read_factors, test_shape, read_term_at, part_fits, read_terms, read_form_at, test_factors, test_term, test_terms}
use Rattle.specification.specs.Rules.{Step, is_rule, rule_letters, step_kinds_fit, step_terms, take_step, test_step_letters}
use Rattle.specification.specs.Logs.{Log, Checked, refused_at, accepted, at_step, read_step_at, read_steps, read_log, same_form, steps_letters, replay, take_steps, check_call, within_limits}
use Rattle.specification.specs.Promises.{WithinLimits}

-- a result that is not refused with 13
unfoldable Not13 : {A : Type 0} → Result A → Type 0
Not13 (refused n) = n ≡ 13 → ⊥
Not13 (given a) = Unit {0}

-- ════ tests one after the other

module _ {A B : Type 0} where
  then_not13 : (r : Result A) (s : Result B) → Not13 r → Not13 s → Not13 (r >> s)
  unfolding Not13
  then_not13 (refused n) s h g = h
  then_not13 (given a) s h g = g

  into_not13 : (r : Result A) (k : A → Result B) → Not13 r → ((a : A) → Not13 (k a)) → Not13 (r >>= k)
  unfolding Not13
  into_not13 (refused n) k h g = h
  into_not13 (given a) k h g = g a

given_not13 : {A : Type 0} (a : A) → Not13 (given a)
unfolding Not13
given_not13 a = tt

-- a test with another number
require_not13 : (b : Bool) (n : ℕ) → (n ≡ 13 → ⊥) → Not13 (require b n)
unfolding Not13
require_not13 true n h = tt
require_not13 false n h = h

-- and what follows it
after_not13 : {A : Type 0} (b : Bool) (n : ℕ) (r : Result A) → (n ≡ 13 → ⊥) → Not13 r → Not13 (require b n >> r)
after_not13 b n r h g = then_not13 (require b n) r (require_not13 b n h) g

-- ════ letters: 5 and 6

letters_not13 : (table : List ℕ) (kind : ℕ) (ns : List ℕ) → Not13 (test_letters table kind ns)
unfolding test_letters test_letter
letters_not13 table kind [] = given_not13 tt
letters_not13 table kind (n ∷ ns) =
    then_not13 (test_letter table kind n) (test_letters table kind ns)
    (after_not13 (ltb n (length table)) 5 _ (λ e. omega arith) (require_not13 (eqb (kind_of table n) kind) 6 λ e. omega arith)) (letters_not13 table kind ns)

factors_not13 : (table : List ℕ) (fs : List (List ℕ)) → Not13 (test_factors table fs)
unfolding test_factors
factors_not13 table [] = given_not13 tt
factors_not13 table (f ∷ fs) = then_not13 (test_letters table (when eqb (length f) 1 then scalar else vector) f) (test_factors table fs) (letters_not13 table _ f) (factors_not13 table fs)

term_not13 : (table : List ℕ) (t : Term) → Not13 (test_term table t)
unfolding test_term
term_not13 table t = then_not13 (test_factors table t.factors) (test_letters table vector t.part) (factors_not13 table t.factors) (letters_not13 table _ t.part)

terms_not13 : (table : List ℕ) (ts : List Term) → Not13 (test_terms table ts)
unfolding test_terms
terms_not13 table [] = given_not13 tt
terms_not13 table (t ∷ ts) = then_not13 (test_term table t) (test_terms table ts) (term_not13 table t) (terms_not13 table ts)

step-letters_not13 : (table : List ℕ) (s : Step) → Not13 (test_step_letters table s)
unfolding test_step_letters
step-letters_not13 table s = then_not13 (test_letters table vector s.letters) (test_term table s.m) (letters_not13 table vector s.letters) (term_not13 table s.m)

-- ════ the shape: 11

read_letters_not13 : (n : ℕ) (s : List ℕ) (at : ℕ) → Not13 (read_letters n s at)
unfolding read_letters
read_letters_not13 n s at = after_not13 (leb (at + n) (length s)) 11 _ (λ e. omega arith) (given_not13 _)

coef_not13 : (is_there : Bool) (s : List ℕ) (at : ℕ) → Not13 (read_coef is_there s at)
unfolding read_coef
coef_not13 false s at = given_not13 _
coef_not13 true s at =
    after_not13 (leb (at + 4) (length s)) 11 _ (λ e. omega arith) (after_not13 (not (is_one (four_bytes_at s at))) 11 _ (λ e. omega arith) (given_not13 _))

read_factors_not13 : (is_there : Bool) (most size : ℕ) (s : List ℕ) (at : ℕ) → Not13 (read_factors is_there most size s at)
unfolding read_factors
read_factors_not13 false most size s at = given_not13 _
read_factors_not13 true most size s at =
    after_not13 (ltb at (length s)) 11 _ (λ e. omega arith)
    (after_not13 (leb 1 (get_or s at 0) && leb (get_or s at 0) most) 11 _ (λ e. omega arith)
    (after_not13 (leb (at + 1 + get_or s at 0 * size) (length s)) 11 _ (λ e. omega arith) (given_not13 _)))

shape_not13 : (t : Term) (next : ℕ) → Not13 (test_shape t next)
unfolding test_shape
shape_not13 t next = after_not13 (term_in_shape t) 11 _ (λ e. omega arith) (given_not13 _)

read_term_not13 : (s : List ℕ) (at : ℕ) → Not13 (read_term_at s at)
unfolding read_term_at
read_term_not13 s at =
    let bits = get_or s at 0 in
    after_not13 (ltb at (length s)) 11 _ (λ e. omega arith)
    (after_not13 (good_bits bits) 11 _ (λ e. omega arith)
    (into_not13 (read_coef (stands 0 bits) s (at + 1)) _ (coef_not13 _ s (at + 1)) λ p.
    into_not13 (read_factors (stands 1 bits) 2 1 s p.1) _ (read_factors_not13 _ 2 1 s p.1) λ q.
    into_not13 (read_factors (stands 2 bits) 3 2 s q.1) _ (read_factors_not13 _ 3 2 s q.1) λ r.
    into_not13 (read_factors (stands 3 bits) 2 3 s r.1) _ (read_factors_not13 _ 2 3 s r.1) λ v.
    into_not13 (read_letters (part_letters bits) s v.1) _ (read_letters_not13 _ s v.1) λ w.
    shape_not13 _ w.1))

read_terms_not13 : (count kind : ℕ) (before : List Term) (s : List ℕ) (at : ℕ) → Not13 (read_terms count kind before s at)
unfolding read_terms
read_terms_not13 zero kind before s at = given_not13 _
read_terms_not13 (suc count) kind before s at =
    into_not13 (read_term_at s at) _ (read_term_not13 s at) λ p.
    after_not13 (part_fits kind p.0 && follows term_before before p.0) 11 _ (λ e. omega arith) (read_terms_not13 count kind (before ++ p.0 ∷ []) s p.1)

read_form_not13 : (s : List ℕ) (at : ℕ) → Not13 (read_form_at s at)
unfolding read_form_at
read_form_not13 s at =
    let kind = get_or s at 0 in
    let count = get_or s (at + 1) 0 in
    after_not13 (leb (at + 2) (length s)) 11 _ (λ e. omega arith)
    (after_not13 (leb kind 1 && leb count 48) 11 _ (λ e. omega arith)
    (into_not13 (read_terms count kind [] s (at + 2)) _ (read_terms_not13 count kind [] s (at + 2)) λ p. given_not13 _))

read_step_not13 : (s : List ℕ) (at : ℕ) → Not13 (read_step_at s at)
unfolding read_step_at
read_step_not13 s at =
    let rule = get_or s at 0 in
    after_not13 (ltb at (length s)) 11 _ (λ e. omega arith)
    (after_not13 (is_rule rule) 11 _ (λ e. omega arith)
    (into_not13 (read_letters (rule_letters rule) s (at + 1)) _ (read_letters_not13 _ s (at + 1)) λ p.
    into_not13 (read_term_at s p.1) _ (read_term_not13 s p.1) λ q. given_not13 _))

read_steps_not13 : (count : ℕ) (before : List Step) (s : List ℕ) (at : ℕ) → Not13 (read_steps count before s at)
unfolding read_steps
read_steps_not13 zero before s at = given_not13 _
read_steps_not13 (suc count) before s at =
    into_not13 (read_step_at s at) _ (read_step_not13 s at) λ p. read_steps_not13 count (before ++ p.0 ∷ []) s p.1

read_log_not13 : (s : List ℕ) → Not13 (read_log s)
unfolding read_log
read_log_not13 s =
    into_not13 (read_form_at s 0) _ (read_form_not13 s 0) λ p.
    let count = get_or s p.1 0 in
    after_not13 (ltb p.1 (length s)) 11 _ (λ e. omega arith)
    (after_not13 (leb count 64) 11 _ (λ e. omega arith)
    (into_not13 (read_steps count [] s (p.1 + 1)) _ (read_steps_not13 count [] s (p.1 + 1)) λ q.
    into_not13 (read_form_at s q.1) _ (read_form_not13 s q.1) λ r.
    after_not13 (eqb r.1 (length s)) 11 _ (λ e. omega arith) (given_not13 _)))

-- ════ a step: 6, 8, 9 and 10

step_not13 : (f : Form) (s : Step) → Not13 (take_step f s)
unfolding take_step within
step_not13 f s =
    let ts = gather (f.terms ++ step_terms s) in
    after_not13 (step_kinds_fit f s) 6 _ (λ e. omega arith)
    (after_not13 (leb (vector_letters s.m + rule_letters s.rule) 6) 8 _ (λ e. omega arith)
    (after_not13 (all term_within ts) 9 _ (λ e. omega arith) (after_not13 (leb (length ts) 48) 10 _ (λ e. omega arith) (given_not13 _))))

-- ════ the replay

-- within the limits a test was passed, and what follows it is the answer
passed : {A : Type 0} (k : ℕ) (r : Result A) (rest : A → Checked) → Not13 r → T (within_limits (at_step k r rest))
    → (x : A) × (r ≡ given x) × (at_step k r rest ≡ rest x)
unfolding Not13 within_limits
passed k (refused n) rest h w = absurd (h (eqb→eq n 13 w))
passed k (given x) rest h w = (x, refl, refl)

-- the letters of the steps were passed
letters-passed : (table : List ℕ) (k : ℕ) (ss : List Step) (rest : Checked) → T (within_limits (steps_letters table k ss rest)) → steps_letters table k ss rest ≡ rest
unfolding steps_letters
letters-passed table k [] rest w = refl
letters-passed table k (s ∷ ss) rest w =
    let p = passed k (test_step_letters table s) (λ _. steps_letters table (k + 1) ss rest) (step-letters_not13 table s) w in
    p.2 ∙ letters-passed table (k + 1) ss rest (subst (λ (c : Checked). T (within_limits c)) p.2 w)

-- what the comparison of the form reached with the last form answers, at a step
abbrev compared : (log : Log) (reached : Form) (k : ℕ) → Checked
compared log reached k = when same_form log.last reached then accepted log.first_end log.last_start (length log.steps) else refused_at 13 k

replay-within : (log : Log) (k : ℕ) (current : Form) (ss : List Step) → T (within_limits (replay log k current ss))
    → (reached : Form) × (take_steps current ss ≡ given reached) × (replay log k current ss ≡ compared log reached (k + length ss))
unfolding replay take_steps
replay-within log k current [] w = (current, refl, let e : k ≡ k + 0 = omega arith in rw (← e))
replay-within log k current (s ∷ ss) w =
    let p = passed k (take_step current s) (λ (reached : Form). replay log (k + 1) reached ss) (step_not13 current s) w in
    let i = replay-within log (k + 1) p.0 ss (subst (λ (c : Checked). T (within_limits c)) p.2 w) in
    let e : k + 1 + length ss ≡ k + suc (length ss) = omega arith in
    (i.0, simp p.1 i.1, p.2 ∙ i.2 ∙ rw e)

-- P7: the answer for a log within the limits
pub limits-exactly : (table s : List ℕ) → T (within_limits (check_call table s)) → WithinLimits s (check_call table s)
unfolding check_call test_table
limits-exactly table s w =
    let t = passed 0 (test_table table) _ (unfold test_table in require_not13 (good_table table) 1 λ e. omega arith) w in
    let w₁ = subst (λ (c : Checked). T (within_limits c)) t.2 w in
    let l = passed 0 (read_log s) _ (read_log_not13 s) w₁ in
    let w₂ = subst (λ (c : Checked). T (within_limits c)) l.2 w₁ in
    let log = l.0 in
    let f = passed 0 (test_terms table log.first.terms) _ (terms_not13 table log.first.terms) w₂ in
    let w₃ = subst (λ (c : Checked). T (within_limits c)) f.2 w₂ in
    let m = letters-passed table 1 log.steps _ w₃ in
    let w₄ = subst (λ (c : Checked). T (within_limits c)) m w₃ in
    let g = passed (length log.steps + 1) (test_terms table log.last.terms) _ (terms_not13 table log.last.terms) w₄ in
    let w₅ = subst (λ (c : Checked). T (within_limits c)) g.2 w₄ in
    let r = replay-within log 1 log.first log.steps w₅ in
    let e : 1 + length log.steps ≡ length log.steps + 1 = omega arith in
    record {
      log = log;
      reached = r.0;
      is_read = l.1;
      reaches = r.1;
      is = t.2 ∙ l.2 ∙ f.2 ∙ m ∙ g.2 ∙ r.2 ∙ rw e;
    }
