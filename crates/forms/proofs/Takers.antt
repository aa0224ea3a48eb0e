-- Taking a form: one term more, so many terms, and the whole. Assumes nothing.
use mathlib.Core.Path.{◌≡◌, refl, ap, sym, ◌∙◌}
use mathlib.Core.Bool.{Bool, true, false, ◌&&◌}
use mathlib.Core.List.{List, [], ◌∷◌, ◌++◌}
use Prim.Native.Nat.{ℕ, suc, Ordering, ◌+◌, ◌-◌, ◌<◌, ◌≤◌}
use native.Mathlib.Omega.{arith}
use lib.Dec.{leb, eqb}
use lib.ListN.{length, get_or, take, set}
use borrow.Author.Tests.{le-leb, lt-leb, eq-eqb, ne_eqb, eqb-true, eqb-false}
use Rattle.specification.specs.Lists.{is_less, follows}
use Rattle.specification.specs.Results.{Result, Test, refused, given, ◌>>=◌, ◌>>◌, require, when◌then◌else◌}
use Rattle.specification.specs.Terms.{term_kind, term_before, compare_terms}
use Rattle.specification.specs.Terms as S
use Rattle.specification.specs.Records.{read_term_at, part_fits, read_terms, read_form_at, read_form, test_terms, take_form}
use Rattle.theory.specs.Elements.{all_append}
use Rattle.theory.specs.Records.Positions.{Bytes}
use Rattle.theory.specs.Records.Forms.{form_one_record}
use Rattle.terms.specs.declared.types.Term.{Term}
use Rattle.terms.specs.declared.types.Form.{Form}
use Rattle.terms.specs.Abstraction.{part_of, term_of, form_of, Counted, terms_of}
use Rattle.std.specs.Prelude.{Ok, Err}
use Rattle.std.specs.Prelude as Std
use Rattle.refusal.specs.declared.Refusal.{Refusal}
use Rattle.refusal.specs.declared.Refusal.TheVariants.{WrongShape}
use Rattle.refusal.specs.Numbers.{number_of}
use Rattle.terms.specs.Valid.{Gives, Readable}
use Rattle.forms.specs.Reading.{terms_read_of, behind_last, read_behind, TermsTaken, form_read_of, FormRead}
use Rattle.records.specs.Reading.{read_of}
use Rattle.refusal.specs.Tests.{test_of}
use Rattle.terms.proofs.Arrays.{stored-behind, mapped-behind}

-- ════ the kind, and the place behind the last

eqb-turned : (a b : ℕ) → eqb a b ≡ eqb b a
eqb-turned a b = go (eqb a b) refl
  where
    go : (t : Bool) → eqb a b ≡ t → eqb a b ≡ eqb b a
    go true e = e ∙ sym (eq-eqb b a (sym (eqb-true a b e)))
    go false e = e ∙ sym (ne_eqb b a (λ q. eqb-false a b e (sym q)))

module _ (kind : ℕ) (t : Term) (n : ℕ) (e : n ≡ length (part_of t.part)) where
  pub kind-scalar : n ≡ 0 → eqb kind 0 ≡ part_fits kind (term_of t)
  unfolding part_fits term_kind term_of
  kind-scalar h = rw (sym e ∙ h) (eqb-turned kind 0)

  pub kind-vector : (n ≡ 0 → ⊥) → eqb kind 1 ≡ part_fits kind (term_of t)
  unfolding part_fits term_kind term_of
  kind-vector h = rw (ne_eqb (length (part_of t.part)) 0 (λ q. h (e ∙ q))) (eqb-turned kind 1)

follows_last : (xs : List S.Term) (x y : S.Term) → follows term_before (xs ++ x ∷ []) y ≡ term_before x y
unfolding follows
follows_last [] x y = refl
follows_last (z ∷ []) x y = refl
follows_last (z ∷ w ∷ zs) x y = follows_last (w ∷ zs) x y

-- before any term
pub behind_none : (ts : List S.Term) (last : S.Term) → ts ≡ [] → (t : S.Term) → follows term_before ts t ≡ behind_last 0 last t
unfolding follows behind_last
behind_none ts last e t = rw e

-- behind one term more
pub behind_more : (ts us : List S.Term) (i : ℕ) (last : S.Term) → us ≡ ts ++ last ∷ [] → (t : S.Term) → follows term_before us t ≡ behind_last (i + 1) last t
unfolding behind_last
behind_more ts us i last e t = rw (e, ne_eqb (i + 1) 0 (λ q. omega arith)) (follows_last ts last t)

module _ (n : ℕ) (last t : S.Term) where
  pub comes_first : n ≡ 0 → true ≡ behind_last n last t
  unfolding behind_last
  comes_first e = rw e

  pub comes_after : (n ≡ 0 → ⊥) → (o : Ordering) → o ≡ compare_terms last t → is_less o ≡ behind_last n last t
  unfolding behind_last
  comes_after h o e = rw (ne_eqb n 0 h) (ap is_less e)

-- ════ a term behind those of a form

pub more_room : (m n : ℕ) (f : Form) → m ≤ n → Readable m f → Readable n f
more_room m n f h r = record { few = omega (arith, r.few); counted = r.counted }

module _ (t : Term) (f g : Form) (i : ℕ) (n : f.count ≡ i) (l : i < length f.terms) (en : g.count ≡ i + 1) (et : g.terms ≡ set f.terms i t) where
  pushed : take g.count g.terms ≡ take f.count f.terms ++ t ∷ []
  pushed = rw (en, et, n) (stored-behind f.terms i t l)

  -- its terms
  pub pushed-terms : terms_of g ≡ terms_of f ++ term_of t ∷ []
  unfolding terms_of
  pushed-terms = rw (pushed, mapped-behind)

  pub pushed-readable : Readable i f → Counted t → Readable (i + 1) g
  pushed-readable h k = record { few = omega arith; counted = rw pushed (all_append Counted (take f.count f.terms) (t ∷ []) h.counted (k, tt)) }

-- ════ a term of a form's kind, behind the last

module _ (kind n : ℕ) (last : S.Term) (s : List ℕ) (at : ℕ) where
  pub behind-unread : (e : Refusal) → read_of (Err e) ≡ read_term_at s at → read_of (Err e) ≡ read_behind kind n last s at
  unfolding read_behind read_of
  behind-unread e h = rw (sym h)

  module _ (t : Term) (next : ℕ) (e : read_of (Ok (t, next)) ≡ read_term_at s at) where
    read : read_term_at s at ≡ given (term_of t, next)
    unfolding read_of
    read = sym e

    pub behind-other-kind : part_fits kind (term_of t) ≡ false → refused 11 ≡ read_behind kind n last s at
    unfolding read_behind
    behind-other-kind f = rw (read, f)

    pub behind-not : part_fits kind (term_of t) ≡ true → behind_last n last (term_of t) ≡ false → refused 11 ≡ read_behind kind n last s at
    unfolding read_behind
    behind-not f g = rw (read, f, g)

    pub behind_given : part_fits kind (term_of t) ≡ true → behind_last n last (term_of t) ≡ true → read_of (Ok (t, next)) ≡ read_behind kind n last s at
    unfolding read_behind read_of
    behind_given f g = rw (read, f, g)

-- ════ so many terms

module _ (kind n : ℕ) (last : S.Term) (s : List ℕ) (ts : List S.Term) (at : ℕ) (b : (t : S.Term) → follows term_before ts t ≡ behind_last n last t)
    (a : Std.Result (Term × ℕ) Refusal) (e : read_of a ≡ read_behind kind n last s at) (m : ℕ) where
  -- one turn is one term
  turn : read_terms (suc m) kind ts s at ≡ (read_of a >>= (λ (y : S.Term × ℕ). read_terms m kind (ts ++ y.0 ∷ []) s y.1))
  unfolding read_terms read_behind
  turn = go (read_term_at s at) ∙ ap (λ (z : Result (S.Term × ℕ)). z >>= (λ (y : S.Term × ℕ). read_terms m kind (ts ++ y.0 ∷ []) s y.1)) (sym e)
    where
      tested : (b : Bool) (y : S.Term × ℕ)
          → (require b 11 >> read_terms m kind (ts ++ y.0 ∷ []) s y.1)
          ≡ ((require b 11 >> given y) >>= (λ (z : S.Term × ℕ). read_terms m kind (ts ++ z.0 ∷ []) s z.1))
      tested true y = refl
      tested false y = refl

      go : (r : Result (S.Term × ℕ)) → (r >>= (λ (z : S.Term × ℕ). require (part_fits kind z.0 && follows term_before ts z.0) 11 >> read_terms m kind (ts ++ z.0 ∷ []) s z.1))
          ≡ ((r >>= (λ (z : S.Term × ℕ). require (part_fits kind z.0 && behind_last n last z.0) 11 >> given (z.0, z.1))) >>= (λ (y : S.Term × ℕ). read_terms m kind (ts ++ y.0 ∷ []) s y.1))
      go (refused v) = refl
      go (given z) = rw (b z.0) (tested (part_fits kind z.0 && behind_last n last z.0) z)

  pub turn_refused : (w : Refusal) → a ≡ Err w → read_terms (suc m) kind ts s at ≡ refused (number_of w)
  unfolding read_of
  turn_refused w o = turn ∙ rw o

  turn_given : (t : Term) (next : ℕ) → a ≡ Ok (t, next) → read_terms (suc m) kind ts s at ≡ read_terms m kind (ts ++ term_of t ∷ []) s next
  unfolding read_of
  turn_given t next o = turn ∙ rw o

-- what is left to read after a turn
pub turned : (kind n i : ℕ) (last : S.Term) (s : List ℕ) (ts us : List S.Term) (at : ℕ) → ((t : S.Term) → follows term_before ts t ≡ behind_last i last t)
    → (t : Term) (next : ℕ) → read_of (Ok (t, next)) ≡ read_behind kind i last s at → i < n → us ≡ ts ++ term_of t ∷ []
    → read_terms (n - i) kind ts s at ≡ read_terms (n - (i + 1)) kind us s next
turned kind n i last s ts us at b t next e h q =
    let m : n - i ≡ suc (n - (i + 1)) = omega arith in
    rw (m, q) (turn_given kind i last s ts at b (Ok (t, next)) e (n - (i + 1)) t next refl)

-- before the first turn
pub begins : (kind n : ℕ) (s : List ℕ) (at : ℕ) (ts : List S.Term) → ts ≡ [] → read_terms n kind [] s at ≡ read_terms (n - 0) kind ts s at
begins kind n s at ts e = let z : n - 0 ≡ n = omega arith in rw (e, z)

pub terms_refused : (kind n : ℕ) (x : Result (List S.Term × ℕ)) (e : Refusal) → x ≡ refused (number_of e) → TermsTaken x kind n (Err e)
unfolding terms_read_of
terms_refused kind n x e h = record { is = sym h; readable = tt; kind = tt }

pub terms_given : (kind n : ℕ) (f : Form) (next : ℕ) (x : Result (List S.Term × ℕ)) (s : List ℕ) → Readable n f → f.kind ≡ kind → x ≡ read_terms 0 kind (terms_of f) s next
    → TermsTaken x kind n (Ok (f, next))
unfolding terms_read_of read_terms
terms_given kind n f next x s h k e = record { is = sym e; readable = h; kind = k }

-- ════ a form

module _ (s : List ℕ) (at : ℕ) where
  pub form-short_of-bytes : leb (at + 2) (length s) ≡ false → FormRead (read_form_at s at) (Err WrongShape)
  unfolding read_form_at form_read_of
  form-short_of-bytes e = record { is = rw e; readable = tt }

  pub form-bad-kind : leb (at + 2) (length s) ≡ true → 1 < get_or s at 0 → FormRead (read_form_at s at) (Err WrongShape)
  unfolding read_form_at form_read_of
  form-bad-kind e g = record { is = rw (e, lt-leb (get_or s at 0) 1 g); readable = tt }

  pub form-too_long : leb (at + 2) (length s) ≡ true → get_or s at 0 ≤ 1 → 48 < get_or s (at + 1) 0 → FormRead (read_form_at s at) (Err WrongShape)
  unfolding read_form_at form_read_of
  form-too_long e g l = record { is = rw (e, le-leb (get_or s at 0) 1 g, lt-leb (get_or s (at + 1) 0) 48 l); readable = tt }

  module _ (e : leb (at + 2) (length s) ≡ true) (g : get_or s at 0 ≤ 1) (l : get_or s (at + 1) 0 ≤ 48) where
    named : Result (List S.Term × ℕ) → Result (S.Form × ℕ)
    named z = z >>= (λ (x : List S.Term × ℕ). given (record { kind = get_or s at 0; terms = x.0 }, x.1))

    pub form_of-terms : (q : Std.Result (Form × ℕ) Refusal) → TermsTaken (read_terms (get_or s (at + 1) 0) (get_or s at 0) [] s (at + 2)) (get_or s at 0) (get_or s (at + 1) 0) q
        → FormRead (read_form_at s at) q
    unfolding read_form_at terms_read_of terms_of form_read_of form_of named
    form_of-terms (Ok (f, next)) w = record {
      is = (λ i. given (record { kind = w.kind i; terms = terms_of f }, next)) ∙ (ap named w.is ∙ rw (e, le-leb (get_or s at 0) 1 g, le-leb (get_or s (at + 1) 0) 48 l));
      readable = more_room _ 48 f l w.readable;
    }
    form_of-terms (Err n) w = record {
      is = ap named w.is ∙ rw (e, le-leb (get_or s at 0) 1 g, le-leb (get_or s (at + 1) 0) 48 l);
      readable = tt;
    }

-- ════ the whole record, then the letters

pub bytes_all : (l : List ℕ) → ((k : ℕ) → get_or l k 0 < 256) → Bytes l
bytes_all [] h = tt
bytes_all (x ∷ l) h = (h 0, bytes_all l (λ (k : ℕ). h (suc k)))

module _ (s : List ℕ) where
  pub whole-unread : (n : Refusal) → FormRead (read_form_at s 0) (Err n) → Gives (read_form s) (Err n)
  unfolding read_form form_read_of
  whole-unread n e = record { is = rw (← e.is); valid = tt }

  module _ (f : Form) (end : ℕ) (e : FormRead (read_form_at s 0) (Ok (f, end))) where
    form_is : read_form_at s 0 ≡ given (form_of f, end)
    unfolding form_read_of
    form_is = sym e.is

    pub whole-not : (end ≡ length s → ⊥) → Gives (read_form s) (Err WrongShape)
    unfolding read_form
    whole-not n = record { is = rw (form_is, ne_eqb end (length s) n); valid = tt }

    pub whole_read : Bytes s → end ≡ length s → Gives (read_form s) (Ok f)
    unfolding read_form
    whole_read bs n =
        let z : read_form s ≡ given (form_of f) = rw (form_is, eq-eqb end (length s) n) in
        record {
          is = sym z;
          valid = record { few = e.readable.few; counted = e.readable.counted; in_shape = (form_one_record s (form_of f) bs z).in_shape };
        }

-- the letters behind the shape
module _ (t s : List ℕ) where
  pub take-unread : (n : Refusal) → Gives (read_form s) (Err n) → Gives (take_form t s) (Err n)
  unfolding take_form
  take-unread n e = record { is = rw (← e.is); valid = tt }

  module _ (f : Form) (e : Gives (read_form s) (Ok f)) where
    pub take-other : (n : Refusal) → test_of (Err n) ≡ test_terms t (terms_of f) → Gives (take_form t s) (Err n)
    unfolding take_form form_of terms_of
    take-other n d = record { is = rw (← e.is, ← d); valid = tt }

    pub take_tested : (u : Unit {0}) → test_of (Ok u) ≡ test_terms t (terms_of f) → Gives (take_form t s) (Ok f)
    unfolding take_form form_of terms_of
    take_tested u d = record { is = rw (← e.is, ← d); valid = e.valid }
