-- Derivations typed line by line: lines answered one by one are answered as all of them together, and at every line the steps taken lead from the first form to
-- the form reached, so that the log told at the end is accepted. Assumes nothing.
use Rattle.std.specs.Prelude.{◌≡◌, Bool, false, ◌&&◌, drop, ltb, leb, eqb}
use Rattle.std.proofs.Math.Path.{refl, ap}
use Rattle.std.proofs.Common.{sym, ◌∙◌, subst, arith, length-append, le→leb, eq-eqb}
use Rattle.std.proofs.Math.Bool.{true}
use mathlib.Core.List.{List, [], ◌∷◌, ◌++◌, append_assoc, append-nil}
use Prim.Native.Nat.{ℕ, zero, suc, ◌+◌, ◌-◌, ◌≤◌, ◌<◌}
use Rattle.std.proofs.Math.ListN.{length, get_or}
use Rattle.std.proofs.Math.Dec.{T, leb→le}
use Rattle.specification.specs.Lists.{all, ascend}
use Rattle.specification.specs.Results.{Result, refused, given, when◌then◌else◌}
use Rattle.specification.specs.Letters.{scalar, vector, good_table}
use Rattle.specification.specs.Terms.{Term, Form, term_in_shape}
use Rattle.specification.specs.Records.{write_form, test_terms}
use Rattle.specification.specs.Rules.{Step, rule_letters, is_rule, step_in_shape, step_at}
use Rattle.specification.specs.Logs.{write_step, write_log, accepted, check_call}
use Rattle.specification.specs.OpenLogs.{State, read_step, add_to}
use Rattle.specification.specs.Words.{bytes}
use Rattle.specification.specs.Text.{Placed, refused_at, placed, ◌>>=◌, is_letter, place_of, good_names, skip, next, text_form}
use Rattle.specification.specs.Lines.{first_line, behind_line, in_front, lines_of, is_empty_line, is_word_at, Named, is_declaration, declared}
use Rattle.specification.specs.LogTexts.{from, of_kind, kind_at, read_form_line, mark, read_letters_at, one_term, is_step_line, read_step_line}
use Rattle.specification.specs.Commands.{Derivation, unopened, underway, line_read, names_answer, read_first, first_answer, read_one_step, step_refused, step_answer, answer_line, pass_line, answer_lines}
use Rattle.theory.specs.Tests.{and_both, and_split, eqb_T, given_same}
use Rattle.theory.specs.Shape.Forms.{FormInShape}
use Rattle.theory.specs.Records.Positions.{spells_all}
use Rattle.theory.proofs.Records.Logs.{last_start_of, step_read}
use Rattle.theory.proofs.Replay.Accepted.{Derives, derivation-accepted}
use Rattle.theory.proofs.Replay.Ends.{derives_none, derives_more}
use Rattle.theory.proofs.OpenLogs.States.{add-gives}
use Rattle.theory.specs.Text.Names.{names_count}
use Rattle.theory.specs.Text.Columns.{placed_same, refused≢placed}
use Rattle.theory.proofs.Text.Letters.{text_keeps_value}
use Rattle.theory.specs.Text.Bounds.{skip_within}
use Rattle.theory.specs.Text.LineColumns.{ColumnWithin, names-within}
use Rattle.theory.specs.Text.LogColumns.{form_line-within, step-line-within}
use Rattle.theory.specs.Text.GoodNames.{GoodSoFar, declared_good, none_good, some_good}

-- ════ lines

-- the first line, and those behind it
pub lines-first : (b : ℕ) (s : List ℕ) → lines_of (b ∷ s) ≡ first_line (b ∷ s) ∷ lines_of (behind_line (b ∷ s))
unfolding lines_of first_line behind_line in_front
lines-first b [] = go (eqb b 10)
  where
    go : (t : Bool) → (when t then [] ∷ [] else (b ∷ []) ∷ []) ≡ (when t then [] else b ∷ []) ∷ lines_of (when t then [] else [])
    go true = refl
    go false = refl
lines-first b (c ∷ s) = go (eqb b 10) (lines-first c s)
  where
    go : (t : Bool) → lines_of (c ∷ s) ≡ first_line (c ∷ s) ∷ lines_of (behind_line (c ∷ s)) → (when t then [] ∷ lines_of (c ∷ s) else in_front b (lines_of (c ∷ s)))
        ≡ (when t then [] else b ∷ first_line (c ∷ s)) ∷ lines_of (when t then c ∷ s else behind_line (c ∷ s))
    go true e = refl
    go false e = ap (in_front b) e

-- a text that ends with a newline has a line
some_line : (s : List ℕ) → (line : List ℕ) × (ls : List (List ℕ)) × (lines_of (s ++ 10 ∷ []) ≡ line ∷ ls)
some_line [] = (_, _, lines-first 10 [])
some_line (b ∷ s) = (_, _, lines-first b (s ++ 10 ∷ []))

-- the lines of a text that ends with a newline, and of what is behind it
pub lines_join : (s t : List ℕ) → lines_of (s ++ 10 ∷ t) ≡ lines_of (s ++ 10 ∷ []) ++ lines_of t
unfolding lines_of in_front
lines_join [] t = refl
lines_join (b ∷ s) t = go (eqb b 10) (lines_join s t)
  where
    front : (ls ms : List (List ℕ)) (line : List ℕ) (more : List (List ℕ)) → ls ≡ line ∷ more → in_front b (ls ++ ms) ≡ in_front b ls ++ ms
    front ls ms line more e = rw e refl

    go : (x : Bool) → lines_of (s ++ 10 ∷ t) ≡ lines_of (s ++ 10 ∷ []) ++ lines_of t → (when x then [] ∷ lines_of (s ++ 10 ∷ t) else in_front b (lines_of (s ++ 10 ∷ t)))
        ≡ (when x then [] ∷ lines_of (s ++ 10 ∷ []) else in_front b (lines_of (s ++ 10 ∷ []))) ++ lines_of t
    go true e = ap (λ (ls : List (List ℕ)). [] ∷ ls) e
    go false e = let w = some_line s in ap (in_front b) e ∙ front (lines_of (s ++ 10 ∷ [])) (lines_of t) w.0 w.1 w.2

-- a line with its newline is one line
pub line-alone : (s : List ℕ) → lines_of (first_line s ++ 10 ∷ []) ≡ first_line s ∷ []
unfolding lines_of first_line in_front
line-alone [] = refl
line-alone (b ∷ s) = go (eqb b 10) refl (line-alone s)
  where
    go : (x : Bool) → eqb b 10 ≡ x → lines_of (first_line s ++ 10 ∷ []) ≡ first_line s ∷ []
        → lines_of ((when x then [] else b ∷ first_line s) ++ 10 ∷ []) ≡ (when x then [] else b ∷ first_line s) ∷ []
    go true h e = refl
    go false h e = rw h (ap (in_front b) e)

-- lines behind others are answered from what those leave
answers-join : (k : ℕ) (xs ys : List (List ℕ)) (d : Derivation) (before : List ℕ)
    → answer_lines k (xs ++ ys) d before ≡ answer_lines (k + length xs) ys (answer_lines k xs d before).0 (answer_lines k xs d before).1
unfolding answer_lines
answers-join k [] ys d before = let e : k ≡ k + 0 = omega arith in ap (λ (n : ℕ). answer_lines n ys d before) e
answers-join k (x ∷ xs) ys d before =
    let e : k + 1 + length xs ≡ k + length (x ∷ xs) = omega arith in
    let r = answer_lines (k + 1) xs (pass_line k x d).0 (before ++ (pass_line k x d).1) in
    answers-join (k + 1) xs ys (pass_line k x d).0 (before ++ (pass_line k x d).1) ∙ ap (λ (n : ℕ). answer_lines n ys r.0 r.1) e

-- and so is one line more
pub line_more : (xs : List (List ℕ)) (line : List ℕ) (d : Derivation)
    → (answer_lines 1 (xs ++ line ∷ []) d []).0 ≡ (pass_line (length xs + 1) line (answer_lines 1 xs d []).0).0
unfolding answer_lines
line_more xs line d =
    let e : 1 + length xs ≡ length xs + 1 = omega arith in
    ap (λ (r : Derivation × List ℕ). r.0) (answers-join 1 xs (line ∷ []) d []) ∙ ap (λ (n : ℕ). (pass_line n line (answer_lines 1 xs d []).0).0) e

-- what is told is told behind what was told before
told-behind : (k : ℕ) (ls : List (List ℕ)) (d : Derivation) (before : List ℕ) → (answer_lines k ls d before).1 ≡ before ++ (answer_lines k ls d []).1
unfolding answer_lines
told-behind k [] d before = sym (append-nil before)
told-behind k (x ∷ ls) d before =
    let next = (pass_line k x d).0 in
    let told = (pass_line k x d).1 in
    told-behind (k + 1) ls next (before ++ told) ∙ append_assoc before told (answer_lines (k + 1) ls next []).1
    ∙ ap (λ (w : List ℕ). before ++ w) (sym (told-behind (k + 1) ls next told))

-- what is told at once for the lines of a text that ends with a newline stands in front of what is told for that text and more, and the other lines are
-- answered from what those left
pub told_at-once : (s t : List ℕ) (d : Derivation)
    → (answer_lines 1 (lines_of (s ++ 10 ∷ t)) d []).1 ≡ (answer_lines 1 (lines_of (s ++ 10 ∷ [])) d []).1
    ++ (answer_lines (1 + length (lines_of (s ++ 10 ∷ []))) (lines_of t) (answer_lines 1 (lines_of (s ++ 10 ∷ [])) d []).0 []).1
told_at-once s t d =
    let front = lines_of (s ++ 10 ∷ []) in
    ap (λ (ls : List (List ℕ)). (answer_lines 1 ls d []).1) (lines_join s t)
    ∙ ap (λ (r : Derivation × List ℕ). r.1) (answers-join 1 front (lines_of t) d [])
    ∙ told-behind (1 + length front) (lines_of t) (answer_lines 1 front d []).0 (answer_lines 1 front d []).1

-- ════ what is read

-- a fact holds of what was read
abbrev Of : {A : Type 0} → (A → Type 0) → Placed A → Type 0
Of P (refused_at n c) = Unit {0}
Of P (placed a) = P a

then_of : {A B : Type 0} (P : B → Type 0) (x : Placed A) (f : A → Placed B) → ((a : A) → x ≡ placed a → Of P (f a)) → Of P (x >>= f)
then_of P (refused_at n c) f h = tt
then_of P (placed a) f h = h a refl

if_of : {A : Type 0} (P : A → Type 0) (b : Bool) (x y : Placed A) → (T b → Of P x) → Of P y → Of P (when b then x else y)
if_of P true x y h k = h tt
if_of P false x y h k = k

of_placed : {A : Type 0} (P : A → Type 0) (x : Placed A) (a : A) → Of P x → x ≡ placed a → P a
of_placed P (refused_at n c) a h e = absurd (refused≢placed e)
of_placed P (placed b) a h e = subst P (placed_same e) h

-- a part of a line
from-placed : {A : Type 0} (at : ℕ) (x : Placed A) (a : A) → from at x ≡ placed a → x ≡ placed a
unfolding from
from-placed at (refused_at n c) a e = absurd (refused≢placed e)
from-placed at (placed b) a e = e

-- a form in shape whose letters are in the table
pub record FormKept (table : List ℕ) (f : Form) : Type 0 where
  pub in_shape : FormInShape f
  pub letters_tested : test_terms table f.terms ≡ given tt

module _ (names table : List ℕ) (good : T (good_table table)) (names_good : T (good_names names table)) where
  text-kept : (s : List ℕ) (f : Form) → text_form names table s ≡ placed f → FormKept table f
  text-kept s f e =
      let w = text_keeps_value names table s good (omega (arith, names_count names table names_good)) f e in
      record { in_shape = w.in_shape; letters_tested = w.letters_tested }

  kind-kept : (kind at : ℕ) (f : Form) → kind ≤ 1 → FormKept table f → Of (FormKept table) (of_kind kind at f)
  unfolding of_kind test_terms all ascend
  kind-kept kind at f h k =
      if_of (FormKept table) (eqb (length f.terms) 0) _ _
      (λ t. record { in_shape = record { kind = h; count = omega arith; terms = tt; parts = tt; ascending = tt }; letters_tested = refl })
      (if_of (FormKept table) (eqb f.kind kind) _ _ (λ t. k) tt)

  -- the form of a line
  pub form_line-kept : (line : List ℕ) (f : Form) → read_form_line names table line ≡ placed f → FormKept table f
  unfolding read_form_line kind_at
  form_line-kept line f e = of_placed (FormKept table) (read_form_line names table line) f whole e
    where
      behind : (kind at : ℕ) → kind ≤ 1 → Of (FormKept table) (kind_at names table line kind at)
      behind kind at h =
          then_of (FormKept table) (from at (text_form names table (drop at line))) (of_kind kind at)
          (λ g q. kind-kept kind at g h (text-kept (drop at line) g (from-placed at (text_form names table (drop at line)) g q)))

      whole : Of (FormKept table) (read_form_line names table line)
      whole =
          if_of (FormKept table) (is_word_at (bytes "vector") line (skip line 0)) _ _ (λ t. behind vector (skip line (skip line 0 + 6)) (omega arith))
          (if_of (FormKept table) (is_word_at (bytes "scalar") line (skip line 0)) _ _ (λ t. behind scalar (skip line (skip line 0 + 6)) (omega arith)) tt)

  -- so many letters
  letters-many : (count at : ℕ) (line : List ℕ) → Of (λ (r : List ℕ × ℕ). length r.0 ≡ count) (read_letters_at count names line at)
  unfolding read_letters_at
  letters-many zero at line = refl
  letters-many (suc count) at line =
      let b = get_or line at 0 in
      if_of _ (is_letter b) _ _
      (λ t. if_of _ (ltb (place_of names b) (length names)) _ _
      (λ u. then_of _ (read_letters_at count names line (next line at)) (λ r. placed (place_of names b ∷ r.0, r.1))
      (λ r e. ap suc (of_placed (λ (r : List ℕ × ℕ). length r.0 ≡ count) (read_letters_at count names line (next line at)) r (letters-many count (next line at) line) e)))
      tt) tt

  -- the one term of a form in shape is in shape
  one_in-shape : (at : ℕ) (f : Form) → FormInShape f → Of (λ (t : Term). T (term_in_shape t)) (one_term at f)
  unfolding one_term all
  one_in-shape at f h = go f.terms h.terms
    where
      go : (ts : List Term) → T (all term_in_shape ts) → Of (λ (t : Term). T (term_in_shape t)) (one_term at (record { kind = f.kind; terms = ts }))
      go [] k = tt
      go (t ∷ []) k = (and_split (term_in_shape t) true k).0
      go (t ∷ u ∷ ts) k = tt

  rule_is : (b : ℕ) → T (leb 49 b && leb b 53) → T (is_rule (b - 48))
  unfolding is_rule
  rule_is b h =
      let w = and_split (leb 49 b) (leb b 53) h in
      let low = leb→le 49 b w.0 in
      let high = leb→le b 53 w.1 in
      and_both (leb 1 (b - 48)) (leb (b - 48) 5) (le→leb 1 (b - 48) (omega arith)) (le→leb (b - 48) 5 (omega arith))

  -- the step of a line is in shape
  pub step-line-shape : (line : List ℕ) (step : Step) → read_step_line names table line ≡ placed step → T (step_in_shape step)
  unfolding read_step_line step_in_shape
  step-line-shape line step e = of_placed Shaped (read_step_line names table line) step whole e
    where
      Shaped : Step → Type 0
      Shaped st = T (step_in_shape st)

      at : ℕ
      at = skip line (skip line 0 + 4)

      rule : ℕ
      rule = get_or line at 0 - 48

      made : T (is_rule rule) → (ls : List ℕ) → length ls ≡ rule_letters rule → (t : Term) → T (term_in_shape t) → Shaped (record { rule = rule; letters = ls; m = t })
      made r ls long t m =
          and_both (is_rule rule && eqb (length ls) (rule_letters rule)) (term_in_shape t)
          (and_both (is_rule rule) (eqb (length ls) (rule_letters rule)) r (eqb_T (length ls) (rule_letters rule) long)) m

      whole : Of Shaped (read_step_line names table line)
      whole =
          if_of Shaped (leb 49 (get_or line at 0) && leb (get_or line at 0) 53) _ _
          (λ r. then_of Shaped (mark 58 line (next line at)) _ λ letters e₁.
          then_of Shaped (read_letters_at (rule_letters rule) names line letters) _ λ l e₂.
          then_of Shaped (mark 44 line l.1) _ λ m e₃.
          then_of Shaped (mark 77 line m) _ λ equals e₄.
          then_of Shaped (mark 61 line equals) _ λ formula e₅.
          then_of Shaped (from formula (text_form names table (drop formula line))) _ λ f e₆.
          then_of Shaped (one_term formula f) _ λ t e₇.
          made (rule_is (get_or line at 0) r) l.0
          (of_placed (λ (r : List ℕ × ℕ). length r.0 ≡ rule_letters rule) (read_letters_at (rule_letters rule) names line letters) l (letters-many (rule_letters rule) letters line) e₂) t
          (of_placed (λ (t : Term). T (term_in_shape t)) (one_term formula f) t
          (one_in-shape formula f (text-kept (drop formula line) f (from-placed formula (text_form names table (drop formula line)) f e₆)).in_shape) e₇)) tt

-- ════ columns

-- the column of a refusal is in the line: of names,
pub declared-within : (line : List ℕ) (n : Named) → ColumnWithin line (declared line n)
unfolding declared
declared-within line n = names-within (length line) vector line (skip line 0) n

-- of the first form,
pub first_within : (names table line : List ℕ) → ColumnWithin line (read_first names table line)
unfolding read_first ColumnWithin
first_within names table line = go (leb 1 (length names))
  where
    go : (b : Bool) → ColumnWithin line (when b then read_form_line names table line else refused_at 1 0)
    go true = form_line-within line names table
    go false = omega arith

-- and of a step
pub one_step-within : (names table line : List ℕ) → ColumnWithin line (read_one_step names table line)
unfolding read_one_step ColumnWithin
one_step-within names table line = go (is_step_line line) refl
  where
    go : (b : Bool) → is_step_line line ≡ b → ColumnWithin line (when b then read_step_line names table line else refused_at 4 (skip line 0))
    go true e = step-line-within line names table e
    go false e = skip_within line 0 (omega arith)

-- ════ a derivation while it goes on

-- the steps taken lead from the first form to the form reached, with names for the letters of the table
pub record Leading (names : List ℕ) (first : Form) (state : State) (steps : List Step) : Type 0 where
  pub names_good : T (good_names names state.table)
  pub counted : state.count ≡ length steps
  pub derives : Derives state.table first steps state.form

-- so it is from the first form on; before it the names are good
unfoldable pub Going : Derivation → Type 0
Going (unopened names table) = GoodSoFar (names, table)
Going (underway names first state steps) = Leading names first state steps

-- at the beginning
pub start-goes : Going (unopened [] [])
unfolding Going
start-goes = none_good

-- the first form
pub first_goes : (names table line : List ℕ) (f : Form) → GoodSoFar (names, table) → read_first names table line ≡ placed f
    → Leading names f (record { table = table; count = 0; form = f }) []
unfolding read_first
first_goes names table line f g e = go (leb 1 (length names)) (leb→le 1 (length names)) e
  where
    go : (b : Bool) → (T b → 1 ≤ length names) → (when b then read_form_line names table line else refused_at 1 0) ≡ placed f
        → Leading names f (record { table = table; count = 0; form = f }) []
    go false h e = absurd (refused≢placed e)
    go true h e =
        let w = some_good names table g (h tt) in
        let k = form_line-kept names table w.table_good w.names_good line f e in
        record { names_good = w.names_good; counted = refl; derives = derives_none table f w.table_good k.in_shape k.letters_tested }

-- a step in shape is read back from its record
pub step-read_back : (step : Step) → T (step_in_shape step) → read_step (write_step step) ≡ given step
unfolding read_step
step-read_back step h =
    let s = write_step step in
    simp (step_read s 0 (length s) step h (spells_all s), eq-eqb (length s) (length s) refl)

-- one step more
pub step-goes : (names : List ℕ) (first : Form) (state : State) (steps : List Step) (step : Step) (next : State) → Leading names first state steps
    → T (step_in_shape step) → add_to state (write_step step) ≡ given next → Leading names first next (steps ++ step ∷ [])
step-goes names first state steps step next g shape e =
    let a = add-gives state (write_step step) next e in
    let same : a.step ≡ step = given_same (sym a.is_read ∙ step-read_back step shape) in
    let few : length steps < 64 = omega (arith, a.few, g.counted) in
    subst (λ (n : State). Leading names first n (steps ++ step ∷ [])) a.is (record {
      names_good = g.names_good;
      counted = omega (arith, g.counted, length-append steps (step ∷ []));
      derives = derives_more state.table first steps state.form step a.reached g.derives few
          (ap (λ (st : Step). step_at state.table state.form st) (sym same) ∙ a.takes);
    })

-- the step of a line is in shape
pub typed-shape : (names table line : List ℕ) (step : Step) → T (good_table table) → T (good_names names table) → read_one_step names table line ≡ placed step → T (step_in_shape step)
unfolding read_one_step
typed-shape names table line step table_good names_good e = go (is_step_line line) e
  where
    go : (b : Bool) → (when b then read_step_line names table line else refused_at 4 (skip line 0)) ≡ placed step → T (step_in_shape step)
    go false p = absurd (refused≢placed p)
    go true p = step-line-shape names table table_good names_good line step p

-- a line that is answered leaves a derivation that goes on
read_goes : {A : Type 0} (k : ℕ) (line : List ℕ) (d : Derivation) (x : Placed A) (answer : A → Derivation × List ℕ) → Going d
    → ((a : A) → x ≡ placed a → Going (answer a).0) → Going (line_read k line d x answer).0
unfolding line_read
read_goes k line d (refused_at n c) answer g h = g
read_goes k line d (placed a) answer g h = h a refl

answer-goes : (k : ℕ) (line : List ℕ) (d : Derivation) → Going d → Going (answer_line k line d).0
unfolding answer_line names_answer first_answer Going step_refused step_answer
answer-goes k line (unopened names table) g = go (is_declaration line)
  where
    go : (b : Bool) → Going (when b then line_read k line (unopened names table) (declared line (names, table)) names_answer
        else line_read k line (unopened names table) (read_first names table line) (first_answer names table)).0
    go true = read_goes k line (unopened names table) (declared line (names, table)) names_answer g (λ n e. declared_good line (names, table) n g e)
    go false = read_goes k line (unopened names table) (read_first names table line) (first_answer names table) g (λ f e. first_goes names table line f g e)
answer-goes k line (underway names first state steps) g = go (is_step_line line && leb 64 state.count)
  where
    stepped : (step : Step) → T (step_in_shape step) → (r : Result State) → add_to state (write_step step) ≡ r → Going (step_answer names first state steps step r).0
    stepped step h (refused n) e = g
    stepped step h (given next) e = step-goes names first state steps step next g h e

    go : (b : Bool) → Going (when b then step_refused names first state steps 14
        else line_read k line (underway names first state steps) (read_one_step names state.table line)
        (λ step. step_answer names first state steps step (add_to state (write_step step)))).0
    go true = g
    go false =
        read_goes k line (underway names first state steps) (read_one_step names state.table line)
        (λ step. step_answer names first state steps step (add_to state (write_step step))) g
        (λ step e. stepped step (typed-shape names state.table line step g.derives.table_good g.names_good e) (add_to state (write_step step)) refl)

pub pass-goes : (k : ℕ) (line : List ℕ) (d : Derivation) → Going d → Going (pass_line k line d).0
unfolding pass_line
pass-goes k line d g = go (is_empty_line line)
  where
    go : (b : Bool) → Going (when b then (d, []) else answer_line k line d).0
    go true = g
    go false = answer-goes k line d g

-- and so do all lines
pub lines-go : (k : ℕ) (ls : List (List ℕ)) (d : Derivation) (before : List ℕ) → Going d → Going (answer_lines k ls d before).0
unfolding answer_lines
lines-go k [] d before g = g
lines-go k (line ∷ ls) d before g = lines-go (k + 1) ls (pass_line k line d).0 (before ++ (pass_line k line d).1) (pass-goes k line d g)

-- the log told at the end is accepted: whatever is typed, the first form, the steps taken and the form reached are a log that the checker accepts
pub told-accepted : (s names : List ℕ) (first : Form) (state : State) (steps : List Step) → (answer_lines 1 (lines_of s) (unopened [] []) []).0 ≡ underway names first state steps
    → check_call state.table (write_log first steps state.form) ≡ accepted (length (write_form first)) (last_start_of first steps) (length steps)
unfolding Going
told-accepted s names first state steps e =
    let g : Leading names first state steps = subst Going e (lines-go 1 (lines_of s) (unopened [] []) [] start-goes) in
    derivation-accepted state.table first steps state.form g.derives
