-- Logs as text, line after line. Assumes nothing.
use mathlib.Core.Path.{◌≡◌, refl, sym, ◌∙◌, ap, subst}
use mathlib.Core.Bool.{Bool, true, false, true≢false}
use mathlib.Core.List.{List, [], ◌∷◌, ◌++◌, map}
use Prim.Native.Nat.{ℕ, zero, suc, ◌+◌, ◌-◌, ◌≤◌, ◌<◌}
use native.Mathlib.Omega.{arith}
use native.Mathlib.Numerals.{sub-one}
use borrow.Author.Tests.{eq-eqb, ne_eqb}
use lib.ListN.{length, take, drop, set, length-set, length-drop}
use Rattle.specification.specs.Results.{when◌then◌else◌}
use Rattle.specification.specs.Words.{bytes}
use Rattle.specification.specs.Text.{refused_at, past_blanks, skip}
use Rattle.specification.specs.Lines as L
use Rattle.specification.specs.Lines.{first_line, line_of, next_line, to_line, at_end, Lined, refused_in, lined, in_line, ◌>>>◌, same_bytes, is_word_at}
use Rattle.specification.specs.Terms as S
use Rattle.specification.specs.Rules as R
use Rattle.specification.specs.LogTexts.{LogRead, read_form_line, is_step_line, read_step_line, read_step_lines, nothing_left, read_log_lines, read_log_text}
use Rattle.theory.specs.Elements.{All}
use Rattle.terms.specs.declared.types.Form.{Form}
use Rattle.terms.specs.Abstraction.{form_of}
use Rattle.terms.specs.Valid.{FormValid}
use Rattle.rules.specs.declared.steps.Step.{Step}
use Rattle.rules.specs.Steps.{step_of, StepValid}
use Rattle.logs.specs.declared.steps.Steps.{Steps}
use Rattle.logs.specs.Steps.{steps_of, StepsValid}
use Rattle.logs.proofs.StepRecords.{pushed-steps, pushed-valid, steps_stand_lem}
use Rattle.lines.specs.declared.places.Place.{Place}
use Rattle.lines.specs.Places.{place_of, Inside, Reached}
use Rattle.std.specs.Prelude.{Ok, Err, IfOk, IfErr}
use Rattle.std.specs.Prelude as Std
use Rattle.refusal.specs.Numbers.{number_of}
use Rattle.refusal.specs.declared.Refusal.TheVariants.{TooLong, Torn}
use Rattle.texts.specs.declared.Unread.{Unread}
use Rattle.texts.specs.Readings.{placed_of}
use Rattle.lines.specs.Readings.{lined_of}
use Rattle.lines.specs.declared.places.UnreadLine.{UnreadLine}
use Rattle.declarations.specs.declared.Header.{Header}
use Rattle.declarations.specs.Names.{HeaderRead}
use Rattle.formula_call.specs.Texts.{TextGives}
use Rattle.log_texts.specs.declared.reading.StepLines.{StepLines}
use Rattle.log_texts.specs.declared.reading.LogText.{LogText}
use Rattle.log_texts.specs.Steps.{StepLineRead}
use Rattle.log_texts.specs.Logs.{at_place, FormAt, StepAt, StepLinesRead, log_of, LinesRead, LogTextRead}
use Rattle.lines.proofs.Ends.{inside_or}

-- ════ lines that are not behind the text

-- nothing is no step
no_step_lem : is_step_line (first_line []) ≡ false
unfolding is_step_line first_line is_word_at same_bytes bytes skip past_blanks
no_step_lem = refl

-- and no form
no-form : (names table : List ℕ) → read_form_line names table (first_line []) ≡ refused_at 4 0
unfolding read_form_line first_line is_word_at same_bytes bytes skip past_blanks
no-form names table = refl

-- a step is in the text
pub step-inside : (s : List ℕ) (p : Place) (t : Bool) → t ≡ is_step_line (line_of (place_of s p)) → t ≡ true → p.at < length s
step-inside s p t q e = inside_or s p.at (λ z. true≢false (sym e ∙ q ∙ ap (λ (r : List ℕ). is_step_line (first_line r)) z ∙ no_step_lem))

-- ════ a line at its place

-- what it gives, or its refusal with the place
pub line_placed : {A B : Type 0} (s : List ℕ) (p : Place) (see : A → B) (r : Std.Result A Unread) → in_line (place_of s p) (placed_of see r) ≡ lined_of s see (at_place r p)
unfolding in_line
line_placed s p see (Ok a) = refl
line_placed s p see (Err e) = refl

module _ {A : Type 0} (s : List ℕ) (p : Place) where
  -- what holds of it
  pub placed-holds : (P : A → Type 0) (r : Std.Result A Unread) → IfOk r P → IfOk (at_place r p) P
  placed-holds P (Ok a) h = h
  placed-holds P (Err e) h = tt

  -- a refusal's place is that of the line
  pub placed-inside : (r : Std.Result A Unread) → Inside s p → IfErr (at_place r p) (λ e. Inside s e.place)
  placed-inside (Ok a) i = tt
  placed-inside (Err e) i = i

module _ (s names table : List ℕ) (p : Place) (i : Inside s p) where
  -- the form of a line
  pub form_placed : (r : Std.Result Form Unread) (q : Std.Result Form UnreadLine) → TextGives (read_form_line names table (line_of (place_of s p))) r → q ≡ at_place r p
      → FormAt s p names table q
  form_placed r q g e = subst (FormAt s p names table) (sym e) (record {
    is = ap (in_line (place_of s p)) (sym g.is) ∙ line_placed s p form_of r;
    valid = placed-holds s p FormValid r g.valid;
    inside = placed-inside s p r i;
  })

  -- the step of a line
  pub step_placed : (r : Std.Result Step Unread) (q : Std.Result Step UnreadLine) → StepLineRead names table (line_of (place_of s p)) r → q ≡ at_place r p
      → StepAt s p names table q
  step_placed r q g e = subst (StepAt s p names table) (sym e) (record {
    is = ap (in_line (place_of s p)) g.is ∙ line_placed s p step_of r;
    valid = placed-holds s p StepValid r g.valid;
    inside = placed-inside s p r i;
  })

-- a form is in the text
pub form-inside : (s names table : List ℕ) (p : Place) (f : Form) → FormAt s p names table (Ok f) → p.at < length s
unfolding in_line
form-inside s names table p f h =
    inside_or s p.at
    (λ y. refused≢lined (sym (ap (λ (l : List ℕ). in_line (place_of s p) (read_form_line names table (first_line l))) y ∙ ap (in_line (place_of s p)) (no-form names table)) ∙ h.is))
  where
    refused≢lined : {n k c : ℕ} {t : List ℕ} {f : S.Form} → refused_in n k c t ≡ lined f → ⊥
    refused≢lined e = cc e

-- ════ the lines of steps

-- what is left to be read is the whole
pub record StepsFrom (s names table : List ℕ) (x : Lined (List R.Step × L.Place)) (q : Place) (steps : Steps) (i : ℕ) : Type 0 where
  pub few : i ≤ 64
  pub counted : steps.count ≡ i
  pub long : length steps.steps ≡ 64
  pub same : x ≡ read_step_lines (64 - i) names table (place_of s q) (steps_of steps)
  pub valid : All StepValid (take i steps.steps)
  pub inside : Inside s q

-- at first
pub steps-begin : (s names table : List ℕ) (p : Place) (steps : Steps) → Inside s p → steps.count ≡ 0 → length steps.steps ≡ 64
    → StepsFrom s names table (read_step_lines 64 names table (place_of s p) []) p steps 0
unfolding steps_of
steps-begin s names table p steps h e l = record {
  few = omega arith;
  counted = e;
  long = l;
  same = ap (read_step_lines 64 names table (place_of s p)) (sym (ap (λ (n : ℕ). map step_of (take n steps.steps)) e));
  valid = tt;
  inside = h;
}

-- one line more
one_line : (names table : List ℕ) (left : ℕ) (p : L.Place) (before : List R.Step) (t : Bool) → 0 < left → t ≡ is_step_line (line_of p)
    → read_step_lines left names table p before
    ≡ (when t then in_line p (read_step_line names table (line_of p)) >>>
    (λ s. read_step_lines (left - 1) names table (to_line (next_line p)) (before ++ s ∷ [])) else lined (before, p))
unfolding read_step_lines
one_line names table zero p before t h e = absurd (omega arith)
one_line names table (suc left) p before t h e = rw (← e, sub-one (suc left))

-- no more lines
last_line : (names table : List ℕ) (left : ℕ) (p : L.Place) (before : List R.Step) (t : Bool) → left ≡ 0 → t ≡ is_step_line (line_of p)
    → read_step_lines left names table p before ≡ (when t then refused_in 3 p.0 0 (line_of p) else lined (before, p))
unfolding read_step_lines
last_line names table left p before t h e = rw (h, ← e)

module _ (s names table : List ℕ) (x : Lined (List R.Step × L.Place)) (q : Place) (steps : Steps) (i : ℕ) (h : StepsFrom s names table x q steps i) (t : Bool)
    (d : t ≡ is_step_line (line_of (place_of s q))) where
  read_so-far : x ≡ lined (steps_of steps, place_of s q) → StepLinesRead s x (Ok (record { place = q; steps = steps }))
  read_so-far e = record { is = e; valid = steps_stand_lem steps i h.counted h.few h.long h.valid; behind = h.inside; inside = tt }

  module _ (k : i < 64) where
    turn : x ≡ (when t then in_line (place_of s q) (read_step_line names table (line_of (place_of s q)))
        >>> (λ r. read_step_lines (64 - i - 1) names table (to_line (next_line (place_of s q))) (steps_of steps ++ r ∷ [])) else lined (steps_of steps, place_of s q))
    turn = h.same ∙ go (64 - i) (omega arith)
      where
        go : (left : ℕ) → 0 < left → read_step_lines left names table (place_of s q) (steps_of steps)
            ≡ (when t then in_line (place_of s q) (read_step_line names table (line_of (place_of s q)))
            >>> (λ r. read_step_lines (left - 1) names table (to_line (next_line (place_of s q))) (steps_of steps ++ r ∷ [])) else lined (steps_of steps, place_of s q))
        go left z = one_line names table left (place_of s q) (steps_of steps) t z d

    -- another line
    pub steps-stop : t ≡ false → StepLinesRead s x (Ok (record { place = q; steps = steps }))
    steps-stop z =
        read_so-far (turn ∙ ap (λ (b : Bool). when b then in_line (place_of s q) (read_step_line names table (line_of (place_of s q)))
        >>> (λ r. read_step_lines (64 - i - 1) names table (to_line (next_line (place_of s q))) (steps_of steps ++ r ∷ [])) else lined
        (steps_of steps, place_of s q)) z)

    module _ (z : t ≡ true) where
      -- what the line gives decides
      abbrev by-line : Lined R.Step → Lined (List R.Step × L.Place)
      by-line y = y >>> (λ r. read_step_lines (64 - i - 1) names table (to_line (next_line (place_of s q))) (steps_of steps ++ r ∷ []))

      taken : (r : Std.Result Step UnreadLine) → StepAt s q names table r → x ≡ by-line (lined_of s step_of r)
      taken r g =
          turn ∙ ap (λ (b : Bool). when b then by-line (in_line (place_of s q) (read_step_line names table (line_of (place_of s q)))) else lined (steps_of steps, place_of s q)) z
          ∙ ap by-line g.is

      -- the step is refused
      pub steps_refused : (e : UnreadLine) → StepAt s q names table (Err e) → StepLinesRead s x (Err e)
      steps_refused e g = record { is = taken (Err e) g; valid = tt; behind = tt; inside = g.inside }

      -- one more
      pub steps_more : (p : Place) (r : Step) → StepAt s q names table (Ok r) → Reached s (to_line (next_line (place_of s q))) p
          → StepsFrom s names table x p (record { count = i + 1; steps = set steps.steps i r }) (i + 1)
      steps_more p r g reached = record {
        few = omega arith;
        counted = refl;
        long = length-set steps.steps i r ∙ h.long;
        same = taken (Ok r) g
            ∙ (λ j. read_step_lines (less i k j) names table (sym reached.is j)
            (sym (pushed-steps steps (record { count = i + 1; steps = set steps.steps i r })
            r i h.counted refl (omega (arith, h.long)) refl) j));
        valid = pushed-valid steps.steps i r (omega (arith, h.long)) h.valid g.valid;
        inside = reached.inside;
      }
        where
          less : (i : ℕ) → i < 64 → 64 - i - 1 ≡ 64 - (i + 1)
          less i k = omega arith

  module _ (k : 64 ≤ i) where
    end : x ≡ (when t then refused_in 3 q.number 0 (line_of (place_of s q)) else lined (steps_of steps, place_of s q))
    end = h.same ∙ last_line names table (64 - i) (place_of s q) (steps_of steps) t (omega arith) d

    -- one more than 64
    pub steps-many : t ≡ true → StepLinesRead s x (Err (record { why = TooLong; column = 0; place = q }))
    steps-many z = record {
      is = end ∙ ap (λ (b : Bool). when b then refused_in 3 q.number 0 (line_of (place_of s q)) else lined (steps_of steps, place_of s q)) z;
      valid = tt;
      behind = tt;
      inside = h.inside;
    }

    -- no more
    pub steps-done : t ≡ false → StepLinesRead s x (Ok (record { place = q; steps = steps }))
    steps-done z = read_so-far (end ∙ ap (λ (b : Bool). when b then refused_in 3 q.number 0 (line_of (place_of s q)) else lined (steps_of steps, place_of s q)) z)

-- ════ the forms and the steps between them

module _ (s names table : List ℕ) (p : Place) where
  refuses-lines : (e : UnreadLine) → Inside s e.place → read_log_lines names table (place_of s p) ≡ refused_in (number_of e.why) e.place.number e.column (line_of (place_of s e.place))
      → LinesRead s names table (place_of s p) (Err e)
  refuses-lines e i q = record { is = q; counted = tt; first = tt; steps = tt; last = tt; behind = tt; inside = i }

  -- the last form, behind the steps
  abbrev ending : (first : S.Form) → List R.Step × L.Place → Lined LogRead
  ending first r =
      in_line r.1 (read_form_line names table (line_of r.1)) >>> λ last.
      nothing_left (to_line (next_line r.1)) (record { names = names; table = table; first = first; steps = r.0; last = last })

  -- the rest behind the first form
  abbrev rest : S.Form → Lined LogRead
  rest first = read_step_lines 64 names table (to_line (next_line (place_of s p))) [] >>> ending first

  by_first : (a : Std.Result Form UnreadLine) → FormAt s p names table a → read_log_lines names table (place_of s p) ≡ (lined_of s form_of a >>> rest)
  unfolding read_log_lines
  by_first a h = ap (λ (x : Lined S.Form). x >>> rest) h.is

  -- no first form
  pub first_refused : (e : UnreadLine) → FormAt s p names table (Err e) → LinesRead s names table (place_of s p) (Err e)
  first_refused e h = refuses-lines e h.inside (by_first (Err e) h)

  module _ (a : Form) (ha : FormAt s p names table (Ok a)) (q : Place) (hq : Reached s (to_line (next_line (place_of s p))) q) where
    by_steps : (m : Std.Result StepLines UnreadLine) → StepLinesRead s (read_step_lines 64 names table (place_of s q) []) m
        → read_log_lines names table (place_of s p) ≡ (lined_of s (λ m. (steps_of m.steps, place_of s m.place)) m >>> ending (form_of a))
    by_steps m h =
        by_first (Ok a) ha
        ∙ ap (λ (y : L.Place). read_step_lines 64 names table y [] >>> ending (form_of a)) (sym hq.is)
        ∙ ap (λ (x : Lined (List R.Step × L.Place)). x >>> ending (form_of a)) h.is

    -- a step is refused
    pub middle_refused : (e : UnreadLine) → StepLinesRead s (read_step_lines 64 names table (place_of s q) []) (Err e) → LinesRead s names table (place_of s p) (Err e)
    middle_refused e h = refuses-lines e h.inside (by_steps (Err e) h)

    module _ (m : StepLines) (hm : StepLinesRead s (read_step_lines 64 names table (place_of s q) []) (Ok m)) where
      -- what stands behind the last form decides
      abbrev behind : S.Form → Lined LogRead
      behind last =
          nothing_left (to_line (next_line (place_of s m.place)))
          (record { names = names; table = table; first = form_of a; steps = steps_of m.steps; last = last })

      by_last : (b : Std.Result Form UnreadLine) → FormAt s m.place names table b → read_log_lines names table (place_of s p) ≡ (lined_of s form_of b >>> behind)
      by_last b h = by_steps (Ok m) hm ∙ ap (λ (x : Lined S.Form). x >>> behind) h.is

      -- no last form
      pub last_refused : (e : UnreadLine) → FormAt s m.place names table (Err e) → LinesRead s names table (place_of s p) (Err e)
      last_refused e h = refuses-lines e h.inside (by_last (Err e) h)

      module _ (b : Form) (hb : FormAt s m.place names table (Ok b)) (end : Place) (he : Reached s (to_line (next_line (place_of s m.place))) end) where
        -- what was read
        abbrev all_read : LogRead
        all_read = record { names = names; table = table; first = form_of a; steps = steps_of m.steps; last = form_of b }

        by_end : read_log_lines names table (place_of s p) ≡ nothing_left (place_of s end) all_read
        by_end = by_last (Ok b) hb ∙ ap (λ (y : L.Place). nothing_left y all_read) (sym he.is)

        -- something is left
        pub something-left : end.at < length s → LinesRead s names table (place_of s p) (Err (record { why = Torn; column = 0; place = end }))
        unfolding nothing_left at_end
        something-left l =
            refuses-lines (record { why = Torn; column = 0; place = end }) he.inside
            (by_end ∙ rw (ne_eqb (length (drop end.at s)) 0 (λ z. omega (arith, length-drop end.at s, z))))

        -- nothing is
        pub log_read : length s ≤ end.at
            → LinesRead s names table (place_of s p) (Ok (record { place = end; count = length names; first = a; steps = m.steps; last = b }))
        unfolding nothing_left at_end
        log_read l = record {
          is = by_end ∙ rw (eq-eqb (length (drop end.at s)) 0 (omega (arith, length-drop end.at s)));
          counted = refl;
          first = ha.valid;
          steps = hm.valid;
          last = hb.valid;
          behind = he.inside;
          inside = tt;
        }

-- ════ the whole

module _ (s names table : List ℕ) where
  -- no names
  pub header_refused : (e : UnreadLine) → HeaderRead s (Err e) names table → LogTextRead s (Err e) names table
  unfolding read_log_text
  header_refused e hh = record {
    is = ap (λ (x : Lined (L.Named × L.Place)). x >>> λ h. read_log_lines h.0.0 h.0.1 h.1) hh.is;
    few = tt;
    first = tt;
    steps = tt;
    last = tt;
    behind = tt;
    inside = hh.inside;
  }

  module _ (h : Header) (hh : HeaderRead s (Ok h) names table) where
    start : read_log_text s ≡ read_log_lines (take h.count names) (take h.count table) (place_of s h.place)
    unfolding read_log_text
    start = ap (λ (x : Lined (L.Named × L.Place)). x >>> λ h. read_log_lines h.0.0 h.0.1 h.1) hh.is

    -- the lines behind them decide
    pub log_text_read : (r : Std.Result LogText UnreadLine) → length (take h.count names) ≡ h.count
        → LinesRead s (take h.count names) (take h.count table) (place_of s h.place) r → LogTextRead s r names table
    log_text_read (Err e) l g = record { is = start ∙ g.is; few = tt; first = tt; steps = tt; last = tt; behind = tt; inside = g.inside }
    log_text_read (Ok r) l g = record {
      is = start ∙ g.is ∙ (λ k. lined (log_of (take (sym (g.counted ∙ l) k) names) (take (sym (g.counted ∙ l) k) table) r));
      few = omega (arith, hh.few, g.counted, l);
      first = g.first;
      steps = g.steps;
      last = g.last;
      behind = g.behind;
      inside = tt;
    }
