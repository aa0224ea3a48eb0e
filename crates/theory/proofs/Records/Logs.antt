-- Logs: a log written from a form, steps and a form, all in shape, is read back with exactly these parts and positions; and bytes that are read as a log are such a log. Assumes nothing.
use Rattle.std.specs.Prelude.{◌≡◌, refl, ◌&&◌, ℕ, zero, suc, ◌+◌, ◌≤◌, ◌<◌, get_or, drop, T, ltb, leb, eqb}
use Rattle.std.proofs.Math.Path.{ap, sym, subst}
use Rattle.std.proofs.Common.{◌∙◌, arith, length-append, ltb→lt, leb→le, eqb→eq, lt-ltb, le-leb, eq-eqb}
use mathlib.Core.List.{List, [], ◌∷◌, ◌++◌, append-nil}
use Rattle.std.proofs.Math.ListN.{length}
use Rattle.std.proofs.Math.Seq.{append_snoc, drop-append_seam}
use Rattle.specification.specs.Lists.{joined}
use Rattle.specification.specs.Results.{Result, given, ◌>>=◌, ◌>>◌, require}
use Rattle.specification.specs.Terms.{Form, term_in_shape}
use Rattle.specification.specs.Records.{write_term, write_form, read_letters, read_term_at, read_form_at}
use Rattle.specification.specs.Rules.{Step, is_rule, rule_letters, step_in_shape}
use Rattle.specification.specs.Logs.{write_step, write_steps, write_log, Log, read_step_at, read_steps, read_log}
use Rattle.theory.specs.Tests.{is_true, and_both, eqb_T, given_same, past, into}
use Rattle.theory.specs.Elements.{All}
use Rattle.theory.specs.Shape.Forms.{FormInShape}
use Rattle.theory.proofs.Rules.Steps.{StepShape, step-opens}
use Rattle.theory.specs.Records.Positions.{Spells, Bytes, spells_none, spells-cons, spells-join, spells_all, spells-whole, spells_first, spells-rest, spelled-there, spelled-byte, spelled-tail}
use Rattle.theory.specs.Records.Fields.{letters_read, letters_written}
use Rattle.theory.specs.Records.Terms.{term_read, term_written}
use Rattle.theory.specs.Records.Forms.{FormRead, form_read, form_written}

-- every step is in shape
abbrev pub StepsInShape : List Step → Type 0
StepsInShape steps = All (λ (st : Step). T (step_in_shape st)) steps

-- ════ steps

-- a step in shape is read back, wherever its record stands
pub step_read : (s : List ℕ) (a b : ℕ) (st : Step) → T (step_in_shape st) → Spells s a b (write_step st) → read_step_at s a ≡ given (st, b)
unfolding write_step read_step_at
step_read s a b st h p =
    let o : StepShape st = step-opens st h in
    let w = write_term st.m in
    let p₁ = spelled-tail s a b st.rule (st.letters ++ w) p in
    let r₁ = letters_read s (a + 1) _ (rule_letters st.rule) st.letters o.long (spells_first s (a + 1) b st.letters w p₁) in
    let r₂ = term_read s (a + 1 + length st.letters) b st.m o.m (spells-rest s (a + 1) b st.letters w p₁) in
    simp (
      lt-ltb a (length s) (spelled-there s a b st.rule (st.letters ++ w) p),
      spelled-byte s a b st.rule (st.letters ++ w) p,
      is_true (is_rule st.rule) o.rule,
      r₁,
      r₂,
    )

-- what reading a step gives
pub record StepRead (s : List ℕ) (a b : ℕ) (st : Step) : Type 0 where
  pub in_shape : T (step_in_shape st)
  pub spelled : Spells s a b (write_step st)

-- a step that is read is in shape, and its bytes are those that are written
pub step_written : (s : List ℕ) (a b : ℕ) (st : Step) → Bytes s → read_step_at s a ≡ given (st, b) → StepRead s a b st
unfolding read_step_at write_step step_in_shape
step_written s a b st bs e =
    let rule = get_or s a 0 in
    past (ltb a (length s)) 11 _ (st, b) e λ there e₁.
    past (is_rule rule) 11 _ (st, b) e₁ λ is_r e₂.
    into (read_letters (rule_letters rule) s (a + 1)) _ (st, b) e₂ λ l g₁ e₃.
    into (read_term_at s l.1) _ (st, b) e₃ λ m g₂ e₄.
    let r₁ = letters_written s (a + 1) l.1 (rule_letters rule) l.0 g₁ in
    let r₂ = term_written s l.1 m.1 m.0 bs g₂ in
    subst (λ (v : Step × ℕ). StepRead s a v.1 v.0) (given_same e₄)
    (record {
      in_shape = and_both (is_rule rule && eqb (length l.0) (rule_letters rule)) (term_in_shape m.0)
          (and_both (is_rule rule) (eqb (length l.0) (rule_letters rule)) is_r (eqb_T (length l.0) (rule_letters rule) r₁.count)) r₂.in_shape;
      spelled = spells-cons s a m.1 (l.0 ++ write_term m.0) (ltb→lt a (length s) there)
          (spells-join s (a + 1) l.1 m.1 l.0 (write_term m.0) r₁.spelled r₂.spelled);
    })

steps_read : (s : List ℕ) (before ss : List Step) (a b : ℕ) → StepsInShape ss → Spells s a b (write_steps ss)
    → read_steps (length ss) before s a ≡ given (before ++ ss, b)
unfolding read_steps write_steps joined
steps_read s before [] a b h p = let e : a ≡ b = omega (arith, p.ends) in simp (append-nil, e)
steps_read s before (st ∷ ss) a b h p =
    let w = write_step st in
    let r = step_read s a (a + length w) st h.0 (spells_first s a b w (write_steps ss) p) in
    let i = steps_read s (before ++ st ∷ []) ss (a + length w) b h.1 (spells-rest s a b w (write_steps ss) p) in
    simp r (i ∙ simp append_snoc)

-- what reading steps behind others gives
record StepsRead (s : List ℕ) (before us : List Step) (a b count : ℕ) : Type 0 where
  ss : List Step
  behind : us ≡ before ++ ss
  counted : length ss ≡ count
  in_shape : StepsInShape ss
  spelled : Spells s a b (write_steps ss)

steps_written_lem : (count : ℕ) (s : List ℕ) (before us : List Step) (a b : ℕ) → Bytes s → a ≤ length s
    → read_steps count before s a ≡ given (us, b) → StepsRead s before us a b count
unfolding read_steps write_steps joined
steps_written_lem zero s before us a b bs h e =
    subst (λ (v : List Step × ℕ). StepsRead s before v.0 a v.1 0) (given_same e)
    (record { ss = []; behind = sym (append-nil before); counted = refl; in_shape = tt; spelled = spells_none s a h })
steps_written_lem (suc count) s before us a b bs h e =
    into (read_step_at s a) _ (us, b) e λ r e₁ e₂.
    let w = step_written s a r.1 r.0 bs e₁ in
    let i = steps_written_lem count s (before ++ r.0 ∷ []) us r.1 b bs w.spelled.fits e₂ in
    record {
      ss = r.0 ∷ i.ss;
      behind = i.behind ∙ append_snoc before r.0 i.ss;
      counted = ap suc i.counted;
      in_shape = (w.in_shape, i.in_shape);
      spelled = spells-join s a r.1 b (write_step r.0) (write_steps i.ss) w.spelled i.spelled;
    }

-- ════ logs

-- where the last form of such a log begins
abbrev pub last_start_of : (first : Form) (steps : List Step) → ℕ
last_start_of first steps = length (write_form first) + 1 + length (write_steps steps)

-- the log's parts and positions
abbrev pub log_of : (first : Form) (steps : List Step) (last : Form) → Log
log_of first steps last = record {
  first = first;
  first_end = length (write_form first);
  steps = steps;
  last_start = last_start_of first steps;
  last = last;
}

-- a log's parts are in shape
pub record LogInShape (first : Form) (steps : List Step) (last : Form) : Type 0 where
  pub first_form : FormInShape first
  pub step_count : length steps ≤ 64
  pub every_step : StepsInShape steps
  pub last_form : FormInShape last

-- reading a log's last form from a position on: what is left once the first form and the steps are read
unfoldable pub read_last : (first : Form) (first_end : ℕ) (steps : List Step) (last_start : ℕ) (s : List ℕ) → Result Log
read_last first first_end steps last_start s = do
  (last, next) ← read_form_at s last_start
  require (eqb next (length s)) 11
  given (record { first = first; first_end = first_end; steps = steps; last_start = last_start; last = last })

-- a written first form, count and steps are read back, whatever follows
pub log-splits : (first : Form) (steps : List Step) (w : List ℕ) → FormInShape first → length steps ≤ 64 → StepsInShape steps
    → read_log (write_form first ++ length steps ∷ write_steps steps ++ w)
    ≡ read_last first (length (write_form first)) steps (last_start_of first steps) (write_form first ++ length steps ∷ write_steps steps ++ w)
unfolding read_log read_last
log-splits first steps w shape few shapes =
    let u = write_form first in
    let v = length steps ∷ write_steps steps in
    let s = u ++ v ++ w in
    let p : Spells s 0 (length s) (u ++ v ++ w) = spells_all s in
    let e : 0 + length u ≡ length u = omega arith in
    let f : 0 + length (u ++ v) ≡ last_start_of first steps = simp length-append (omega arith) in
    let p₁ = spells_first s 0 (length s) (u ++ v) w p in
    let q₁ : Spells s 0 (length u) u = rw e at (spells_first s 0 _ u v p₁) in
    let q₂ : Spells s (length u) (last_start_of first steps) v = rw (e, f) at (spells-rest s 0 _ u v p₁) in
    let r₂ = steps_read s [] steps (length u + 1) (last_start_of first steps) shapes (spelled-tail s (length u) _ (length steps) (write_steps steps) q₂) in
    simp (
      form_read s 0 (length u) first shape q₁,
      lt-ltb (length u) (length s) (spelled-there s (length u) _ (length steps) (write_steps steps) q₂),
      spelled-byte s (length u) _ (length steps) (write_steps steps) q₂,
      le-leb (length steps) 64 few,
      r₂,
    )

-- reading a written log gives its parts and positions
pub log-read_back : (first : Form) (steps : List Step) (last : Form) → LogInShape first steps last
    → read_log (write_log first steps last) ≡ given (log_of first steps last)
unfolding write_log read_last
log-read_back first steps last h =
    let s = write_log first steps last in
    let front = write_form first ++ length steps ∷ write_steps steps in
    let w = write_form last in
    let f : 0 + length front ≡ last_start_of first steps = simp length-append (omega arith) in
    let q : Spells s (last_start_of first steps) (length s) w = rw f at (spells-rest s 0 (length s) front w (spells_all s)) in
    log-splits first steps w h.first_form h.step_count h.every_step
    ∙ simp (form_read s (last_start_of first steps) (length s) last h.last_form q, eq-eqb (length s) (length s) refl)

-- the parts of a log that begins with a written first form, count and steps are these, and what follows is its last form's record
pub record SameParts (first : Form) (steps : List Step) (w : List ℕ) (first' : Form) (steps' : List Step) (last' : Form) : Type 0 where
  pub same_first : first ≡ first'
  pub same_steps : steps ≡ steps'
  pub follows : w ≡ write_form last'

pub log_one_split : (first : Form) (steps : List Step) (w : List ℕ) (first' : Form) (steps' : List Step) (last' : Form) → FormInShape first → length steps ≤ 64 → StepsInShape steps
    → LogInShape first' steps' last' → write_form first ++ length steps ∷ write_steps steps ++ w ≡ write_log first' steps' last' → SameParts first steps w first' steps' last'
unfolding read_last write_log
log_one_split first steps w first' steps' last' shape few shapes h e =
    let front = write_form first ++ length steps ∷ write_steps steps in
    let front' = write_form first' ++ length steps' ∷ write_steps steps' in
    let read : read_last first (length (write_form first)) steps (last_start_of first steps) (front ++ w) ≡ given (log_of first' steps' last') =
    sym (log-splits first steps w shape few shapes) ∙ ap read_log e ∙ log-read_back first' steps' last' h in
    into (read_form_at (front ++ w) (last_start_of first steps)) _ (log_of first' steps' last') read λ l e₁ e₂.
    past (eqb l.1 (length (front ++ w))) 11 _ (log_of first' steps' last') e₂ λ ends e₃.
    let same = given_same e₃ in
    let f : first ≡ first' = ap (λ (log : Log). log.first) same in
    let g : steps ≡ steps' = ap (λ (log : Log). log.steps) same in
    let q : front ≡ front' = λ i. write_form (f i) ++ length (g i) ∷ write_steps (g i) in
    record {
      same_first = f;
      same_steps = g;
      follows = sym (drop-append_seam front w) ∙ (λ i. drop (length (q i)) (e i)) ∙ drop-append_seam front' (write_form last');
    }

-- what bytes that are read as a log say
pub record LogRead (s : List ℕ) (log : Log) : Type 0 where
  pub in_shape : LogInShape log.first log.steps log.last
  pub is_log : log ≡ log_of log.first log.steps log.last
  pub is_written : s ≡ write_log log.first log.steps log.last

-- bytes that are read as a log are a written log, with its parts in shape
pub log_one_record : (s : List ℕ) (log : Log) → Bytes s → read_log s ≡ given log → LogRead s log
unfolding read_log write_log
log_one_record s log bs e =
    into (read_form_at s 0) _ log e λ f g₁ e₁.
    past (ltb f.1 (length s)) 11 _ log e₁ λ inside e₂.
    past (leb (get_or s f.1 0) 64) 11 _ log e₂ λ few e₃.
    into (read_steps (get_or s f.1 0) [] s (f.1 + 1)) _ log e₃ λ q g₂ e₄.
    into (read_form_at s q.1) _ log e₄ λ l g₃ e₅.
    past (eqb l.1 (length s)) 11 _ log e₅ λ ends e₆.
    let c = get_or s f.1 0 in
    let there = ltb→lt f.1 (length s) inside in
    let r₁ = form_written s 0 f.1 f.0 bs g₁ in
    let r₂ = steps_written_lem c s [] q.0 (f.1 + 1) q.1 bs (omega arith) g₂ in
    let r₃ = form_written s q.1 l.1 l.0 bs g₃ in
    subst (LogRead s) (given_same e₆)
    (parts s f.0 q.0 l.0 f.1 q.1 l.1 c r₁ r₂ r₃ there refl (leb→le c 64 few) (eqb→eq l.1 (length s) ends))
  where
    parts : (s : List ℕ) (first : Form) (steps : List Step) (last : Form) (a b end c : ℕ) → FormRead s 0 a first → StepsRead s [] steps (a + 1) b c → FormRead s b end last
        → a < length s → get_or s a 0 ≡ c → c ≤ 64 → end ≡ length s → LogRead s (record { first = first; first_end = a; steps = steps; last_start = b; last = last })
    parts s first steps last a b end c r₁ r₂ r₃ there byte few ends = unfold write_log in (
        let count : length steps ≡ c = ap length r₂.behind ∙ r₂.counted in
        let a-is : a ≡ length (write_form first) = omega (arith, r₁.spelled.ends) in
        let spelled : Spells s (a + 1) b (write_steps steps) = subst (λ (ss : List Step). Spells s (a + 1) b (write_steps ss)) (sym r₂.behind) r₂.spelled in
        let b-is : b ≡ last_start_of first steps = omega (arith, spelled.ends, a-is) in
        let counted : Spells s a b (length steps ∷ write_steps steps) = rw (count, ← byte) (spells-cons s a b (write_steps steps) there spelled) in
        let whole : Spells s 0 (length s) (write_form first ++ (length steps ∷ write_steps steps) ++ write_form last) =
        subst (λ (n : ℕ). Spells s 0 n (write_form first ++ (length steps ∷ write_steps steps) ++ write_form last)) ends
        (spells-join s 0 b end (write_form first ++ length steps ∷ write_steps steps) (write_form last)
        (spells-join s 0 a b (write_form first) (length steps ∷ write_steps steps) r₁.spelled counted) r₃.spelled) in
        record {
          in_shape = record {
            first_form = r₁.in_shape;
            step_count = omega arith;
            every_step = subst StepsInShape (sym r₂.behind) r₂.in_shape;
            last_form = r₃.in_shape;
          };
          is_log = λ i. record { first = first; first_end = a-is i; steps = steps; last_start = b-is i; last = last };
          is_written = sym (spells-whole s _ whole);
        })
