-- The record of a form from the records of its terms: each term is valid, and they stand one behind the other. Assumes nothing.
use mathlib.Core.Path.{◌≡◌, refl, ap, ◌∙◌}
use mathlib.Core.List.{List, [], ◌∷◌, ◌++◌, map, map-append, append-nil}
use Prim.Native.Nat.{ℕ, ◌+◌, ◌*◌, ◌≤◌, ◌<◌}
use native.Mathlib.Omega.{arith}
use native.Mathlib.Numerals.{add-one}
use lib.Dec.{T}
use lib.ListN.{length, get_or, take, set, length-map}
use lib.Seq.{take-suc, length-take-le}
use Rattle.specification.specs.Lists.{joined}
use Rattle.specification.specs.Terms.{term_in_shape}
use Rattle.specification.specs.Records.{write_term, write_form, write_into}
use Rattle.theory.specs.Elements.{All, all_T}
use Rattle.theory.specs.Records.Terms.{term_short}
use Rattle.integers.specs.Over.{over}
use Rattle.terms.specs.declared.types.Term.{Term}
use Rattle.terms.specs.declared.types.Form.{Form}
use Rattle.terms.specs.Abstraction.{term_of, form_of, Counted}
use Rattle.terms.specs.Valid.{TermValid, FormValid}
use Rattle.forms.specs.Written.{FormWritten}
use Rattle.record_writing.specs.Written.{Written}
use Rattle.record_writing.proofs.Writes.{written_stores, written_then}
use Rattle.terms.proofs.Arrays.{all-at}
use Rattle.record_writing.proofs.Factors.{joined-append}

-- ════ the terms

-- what holds of what a list is mapped to
all_mapped : {A B : Type 0} (P : B → Type 0) (f : A → B) (xs : List A) → All P (map f xs) → All (λ x. P (f x)) xs
all_mapped P f [] h = tt
all_mapped P f (x ∷ xs) h = (h.0, all_mapped P f xs h.1)

-- each term of a valid form is valid
pub term_at_lem : (f : Form) (i : ℕ) (d : Term) → FormValid f → f.count ≤ length f.terms → i < f.count → TermValid (get_or f.terms i d)
unfolding form_of
term_at_lem f i d v l h =
    let each = all_T term_in_shape (map term_of (take f.count f.terms)) v.in_shape.terms in
    record {
      counted = all-at Counted f.terms f.count i d l h v.counted;
      in_shape = all-at (λ (t : Term). T (term_in_shape (term_of t))) f.terms f.count i d l h
          (all_mapped (λ t. T (term_in_shape t)) term_of (take f.count f.terms) each);
    }

-- its record has at most 16 bytes
pub record-within : (f : Form) (i : ℕ) (d : Term) (a b : List ℕ) (at next : ℕ) → FormValid f → f.count ≤ length f.terms → i < f.count
    → Written a b at next (write_term (term_of (get_or f.terms i d))) → at ≤ 2 + i * 16 → next ≤ 2 + (i + 1) * 16
record-within f i d a b at next v l h w g =
    omega (arith, w.ends, term_short (term_of (get_or f.terms i d)) (term_at_lem f i d v l h).in_shape)

-- the records of terms, one behind the other
abbrev pub records : List Term → List ℕ
records ts = joined (map write_term (map term_of ts))

-- none of none
pub records_none : (ts : List Term) → records (take 0 ts) ≡ []
unfolding joined
records_none ts = refl

records-append : (ts us : List Term) → records (ts ++ us) ≡ records ts ++ records us
records-append ts us = rw (map-append term_of ts us, map-append write_term (map term_of ts) (map term_of us)) (joined-append (map write_term (map term_of ts)) (map write_term (map term_of us)))

-- one more record
pub record_written : (ts : List Term) (i : ℕ) (d : Term) (a b c : List ℕ) (at k next : ℕ) → i < length ts → at ≤ length a → Written a b at k (records (take i ts))
    → Written b c k next (write_term (term_of (get_or ts i d))) → Written a c at next (records (take (i + 1) ts))
unfolding joined
record_written ts i d a b c at k next h l p q =
    let e : records (take (i + 1) ts) ≡ records (take i ts) ++ write_term (term_of (get_or ts i d)) =
    rw (add-one, take-suc ts i d h) (records-append (take i ts) (get_or ts i d ∷ []) ∙ ap (λ (l : List ℕ). records (take i ts) ++ l) (append-nil (write_term (term_of (get_or ts i d))))) in
    rw e (written_then a b c at k next (records (take i ts)) (write_term (term_of (get_or ts i d))) l p q)

-- ════ the form

form_is : (f : Form) → f.count ≤ length f.terms → write_form (form_of f) ≡ f.kind ∷ f.count ∷ records (take f.count f.terms)
unfolding write_form form_of
form_is f h =
    let e : length (map term_of (take f.count f.terms)) ≡ f.count = length-map (take f.count f.terms) term_of ∙ length-take-le f.count f.terms h in
    rw e

-- what is written from the start on stands in front
pub front_is : (l xs : List ℕ) → over l 0 xs ≡ write_into xs l
unfolding over write_into
front_is l xs = let e : 0 + length xs ≡ length xs = omega arith in rw e

-- the kind and the count stored, and the records behind them
pub form_written : (f : Form) (l m : List ℕ) (next : ℕ) → f.count ≤ length f.terms → 2 ≤ length l
    → Written (set (set l 0 f.kind) 1 f.count) m 2 next (records (take f.count f.terms)) → FormWritten l m next (form_of f)
form_written f l m next h g p =
    let a = set (set l 0 f.kind) 1 f.count in
    let two = f.kind ∷ f.count ∷ [] in
    let w : Written l m 0 next (write_form (form_of f)) =
    rw (form_is f h) (written_then l a m 0 2 next two (records (take f.count f.terms)) (omega arith) (written_stores l a 0 2 two two refl g refl refl) p) in
    record { ends = omega (arith, w.ends); bytes = w.bytes ∙ front_is l (write_form (form_of f)) }
