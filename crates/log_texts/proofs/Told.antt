-- The formula of a line: its kind, its one term. Assumes nothing.
use mathlib.Core.Path.{◌≡◌, refl, sym, ◌∙◌, ap, subst}
use mathlib.Core.Bool.{Bool, true, false}
use mathlib.Core.List.{List, [], ◌∷◌, map}
use Prim.Native.Nat.{ℕ, zero, suc, ◌+◌, ◌-◌, ◌≤◌}
use native.Mathlib.Omega.{arith}
use borrow.Author.Tests.{eq-eqb, ne_eqb}
use lib.Dec.{T}
use lib.ListN.{length, get_or, take, drop, length-drop}
use Rattle.specification.specs.Results.{when◌then◌else◌}
use Rattle.specification.specs.Lists.{all, ascend}
use Rattle.specification.specs.Words.{bytes}
use Rattle.specification.specs.Terms as S
use Rattle.specification.specs.Terms.{term_in_shape}
use Rattle.specification.specs.Text.{Placed, refused_at, placed, ◌>>=◌, skip, text_form}
use Rattle.specification.specs.Lines.{is_word_at}
use Rattle.specification.specs.Rules as R
use Rattle.specification.specs.LogTexts.{from, of_kind, kind_at, read_form_line, one_term}
use Rattle.theory.specs.Tests.{and_split}
use Rattle.theory.specs.Elements.{All}
use Rattle.theory.specs.Text.Bounds.{column_within}
use Rattle.terms.specs.declared.types.Term.{Term}
use Rattle.terms.specs.declared.types.Form.{Form}
use Rattle.terms.specs.Abstraction.{term_of, form_of, Counted}
use Rattle.terms.specs.Valid.{FormValid}
use Rattle.std.specs.Prelude.{Ok, Err}
use Rattle.std.specs.Prelude as Std
use Rattle.refusal.specs.declared.Refusal.TheVariants.{Torn, WrongKind, WrongShape}
use Rattle.refusal.specs.Numbers.{number_of}
use Rattle.texts.specs.declared.Unread.{Unread}
use Rattle.formula_call.specs.Texts.{TextGives}
use Rattle.log_texts.specs.Formulas.{OneTerm, behind_mark, MultiplierRead}
use Rattle.log_texts.proofs.Within.{rest_of}

-- ════ the form of a text, or its refusal

-- told as a refusal
pub gives_refused : (x : Placed S.Form) (e : Unread) → x ≡ refused_at (number_of e.why) e.column → TextGives x (Err e)
gives_refused x e p = record { is = sym p; valid = tt }

-- told as a form
pub gives-form : (x : Placed S.Form) (f : Form) → FormValid f → x ≡ placed (form_of f) → TextGives x (Ok f)
gives-form x f v e = record { is = sym e; valid = v }

-- the same in other words
pub gives_as : (x y : Placed S.Form) (r : Std.Result Form Unread) → x ≡ y → TextGives x r → TextGives y r
gives_as x y r e g = record { is = g.is ∙ e; valid = g.valid }

-- ════ the kind that is told

-- as many terms as counted
some_terms : (n : ℕ) (ts : List Term) → n ≤ length ts → length (map term_of (take n ts)) ≡ n
some_terms zero ts h = refl
some_terms (suc n) [] h = absurd (omega arith)
some_terms (suc n) (t ∷ ts) h = ap suc (some_terms n ts (omega arith))

module _ (kind at : ℕ) (f : Form) (v : FormValid f) (long : length f.terms ≡ 48) where
  counted : length (form_of f).terms ≡ f.count
  unfolding form_of
  counted = some_terms f.count f.terms (omega (arith, long, v.few))

  -- an empty form has it
  pub kind-told : kind ≤ 1 → f.count ≡ 0 → TextGives (of_kind kind at (form_of f))
      (Ok (record { kind = kind; count = 0; terms = f.terms }))
  unfolding of_kind form_of all ascend
  kind-told k e =
      gives-form (of_kind kind at (form_of f)) (record { kind = kind; count = 0; terms = f.terms })
      (record { few = omega arith; counted = tt; in_shape = record { kind = k; count = omega arith; terms = tt; parts = tt; ascending = tt } })
      (rw (eq-eqb (length (form_of f).terms) 0 (counted ∙ e)))

  module _ (some : f.count ≡ 0 → ⊥) where
    -- another has another
    pub kind-other : (f.kind ≡ kind → ⊥) → TextGives (of_kind kind at (form_of f)) (Err (record { why = WrongKind; column = at }))
    unfolding of_kind form_of
    kind-other n =
        gives_refused (of_kind kind at (form_of f)) (record { why = WrongKind; column = at })
        (rw (ne_eqb (length (form_of f).terms) 0 (λ e. some (sym counted ∙ e)), ne_eqb f.kind kind n))

    -- or has it
    pub kind_same : f.kind ≡ kind → TextGives (of_kind kind at (form_of f)) (Ok f)
    unfolding of_kind form_of
    kind_same e =
        gives-form (of_kind kind at (form_of f)) f v
        (rw (ne_eqb (length (form_of f).terms) 0 (λ e. some (sym counted ∙ e)), eq-eqb f.kind kind e))

-- ════ the formula from a position on

module _ (names table line : List ℕ) (at : ℕ) where
  behind : (r : Std.Result Form Unread) → TextGives (text_form names table (take (length line - at) (drop at line))) r → TextGives (text_form names table (drop at line)) r
  behind r h = gives_as _ _ r (ap (text_form names table) (rest_of line at)) h

  module _ (e : Unread) (h : TextGives (text_form names table (take (length line - at) (drop at line))) (Err e)) where
    -- the column of a refusal is in the line
    pub column_inside : at ≤ length line → at + e.column ≤ length line
    column_inside l =
        let w = column_within (drop at line) names table (number_of e.why) e.column (sym (behind (Err e) h).is) in omega (arith, w, length-drop at line)

    -- a refusal
    pub from_refused : TextGives (from at (text_form names table (drop at line))) (Err (record { why = e.why; column = at + e.column }))
    unfolding from
    from_refused = gives_refused _ (record { why = e.why; column = at + e.column }) (ap (from at) (sym (behind (Err e) h).is))

  -- a form
  pub from_given : (f : Form) → TextGives (text_form names table (take (length line - at) (drop at line))) (Ok f) → TextGives (from at (text_form names table (drop at line))) (Ok f)
  unfolding from
  from_given f h = gives-form _ f h.valid (ap (from at) (sym (behind (Ok f) h).is))

-- ════ the formula behind a word

module _ (names table line : List ℕ) (at : ℕ) where
  -- a refusal
  pub kind_refused : (kind : ℕ) (e : Unread) → TextGives (from at (text_form names table (drop at line))) (Err e) → TextGives (kind_at names table line kind at) (Err e)
  unfolding kind_at
  kind_refused kind e h = gives_refused _ e (ap (λ (x : Placed S.Form). x >>= of_kind kind at) (sym h.is))

  -- a form
  pub kind_given : (kind : ℕ) (f : Form) → TextGives (from at (text_form names table (drop at line))) (Ok f) → (r : Std.Result Form Unread)
      → TextGives (of_kind kind at (form_of f)) r → TextGives (kind_at names table line kind at) r
  unfolding kind_at
  kind_given kind f h r g = gives_as _ _ r (ap (λ (x : Placed S.Form). x >>= of_kind kind at) h.is) g

  -- no form
  pub multiplier_refused : (e : Unread) → TextGives (from at (text_form names table (drop at line))) (Err e) → MultiplierRead names table line at (Err e)
  unfolding behind_mark
  multiplier_refused e h = record {
    is = λ rest. ap (λ (x : Placed S.Form). x >>= λ f. one_term at f >>= rest) (sym h.is);
    valid = tt;
  }

  -- its terms decide
  pub multiplier-by : (f : Form) → TextGives (from at (text_form names table (drop at line))) (Ok f) → (r : Std.Result Term Unread) → OneTerm (one_term at (form_of f)) r
      → MultiplierRead names table line at r
  unfolding behind_mark
  multiplier-by f h r g = record {
    is = λ rest. ap (λ (x : Placed S.Form). x >>= λ f. one_term at f >>= rest) (sym h.is) ∙ ap (λ (x : Placed S.Term). x >>= rest) g.is;
    valid = g.valid;
  }

-- ════ one term

-- none, or more than one
many : (at kind : ℕ) (ts : List S.Term) → (length ts ≡ 1 → ⊥) → one_term at (record { kind = kind; terms = ts }) ≡ refused_at 11 at
unfolding one_term
many at kind [] n = refl
many at kind (t ∷ []) n = absurd (n refl)
many at kind (t ∷ u ∷ ts) n = refl

module _ (at : ℕ) (f : Form) (v : FormValid f) (long : length f.terms ≡ 48) where
  -- not one
  pub terms-many : (f.count ≡ 1 → ⊥) → OneTerm (one_term at (form_of f)) (Err (record { why = WrongShape; column = at }))
  terms-many n = record { is = many at (form_of f).kind (form_of f).terms (λ e. n (sym (counted 0 at f v long) ∙ e)); valid = tt }

  -- one
  pub terms_one : (d : Term) → f.count ≡ 1 → OneTerm (one_term at (form_of f)) (Ok (get_or f.terms 0 d))
  unfolding one_term form_of all
  terms_one d e = record {
    is = ap (λ (ts : List S.Term). one_term at (record { kind = f.kind; terms = ts })) (one f.count f.terms e (omega (arith, long)));
    valid = record {
      counted = first f.count f.terms e (omega (arith, long)) v.counted;
      in_shape = (and_split (term_in_shape (term_of (get_or f.terms 0 d))) true
          (subst (λ (ts : List S.Term). T (all term_in_shape ts)) (one f.count f.terms e (omega (arith, long))) v.in_shape.terms)).0;
    };
  }
    where
      one : (n : ℕ) (ts : List Term) → n ≡ 1 → 1 ≤ length ts → map term_of (take n ts) ≡ term_of (get_or ts 0 d) ∷ []
      one zero ts e h = absurd (omega (arith, e))
      one (suc zero) [] e h = absurd (omega arith)
      one (suc zero) (t ∷ ts) e h = refl
      one (suc (suc n)) ts e h = absurd (omega (arith, e))

      first : (n : ℕ) (ts : List Term) → n ≡ 1 → 1 ≤ length ts → All Counted (take n ts) → Counted (get_or ts 0 d)
      first zero ts e h a = absurd (omega (arith, e))
      first (suc zero) [] e h a = absurd (omega arith)
      first (suc zero) (t ∷ ts) e h a = a.0
      first (suc (suc n)) ts e h a = absurd (omega (arith, e))

-- ════ the line of a form

module _ (names table line : List ℕ) (at : ℕ) (ha : at ≡ skip line 0) (w : Bool) (hw : w ≡ is_word_at (bytes "vector") line at) where
  -- the line by its words
  abbrev by-words : ℕ → Placed S.Form
  by-words at =
      when is_word_at (bytes "vector") line at then kind_at names table line 1 (skip line (at + 6)) else
      when is_word_at (bytes "scalar") line at then kind_at names table line 0 (skip line (at + 6)) else
      refused_at 4 at

  here : read_form_line names table line ≡ by-words at
  unfolding read_form_line
  here = ap by-words (sym ha)

  -- `vector`
  pub line-vector : (after : ℕ) (r : Std.Result Form Unread) → w ≡ true → after ≡ skip line (at + 6) → TextGives (kind_at names table line 1 after) r
      → TextGives (read_form_line names table line) r
  line-vector after r e q g = gives_as _ _ r (sym (here ∙ rw (sym hw ∙ e, q))) g

  module _ (ow : w ≡ false) (v : Bool) (hv : v ≡ is_word_at (bytes "scalar") line at) where
    -- `scalar`
    pub line-scalar : (after : ℕ) (r : Std.Result Form Unread) → v ≡ true → after ≡ skip line (at + 6) → TextGives (kind_at names table line 0 after) r
        → TextGives (read_form_line names table line) r
    line-scalar after r e q g = gives_as _ _ r (sym (here ∙ rw (sym hw ∙ ow, sym hv ∙ e, q))) g

    -- neither
    pub line-torn : v ≡ false → TextGives (read_form_line names table line) (Err (record { why = Torn; column = at }))
    line-torn e = gives_refused _ (record { why = Torn; column = at }) (here ∙ rw (sym hw ∙ ow, sym hv ∙ e))
