-- The pieces of a log's text, one behind the other. Assumes nothing.
use mathlib.Core.Path.{◌≡◌, refl, sym, ◌∙◌, ap}
use mathlib.Core.Bool.{Bool, true, false}
use mathlib.Core.List.{List, [], ◌∷◌, ◌++◌, append_assoc, append-nil}
use Prim.Native.Nat.{ℕ, ◌+◌, ◌≤◌, ◌<◌}
use native.Mathlib.Omega.{arith}
use native.Mathlib.Numerals.{add-one}
use borrow.Author.Tests.{eq-eqb, ne_eqb}
use lib.Dec.{eqb}
use lib.ListN.{length, get_or, take, drop, drop_of_length-le}
use lib.Seq.{drop-cons, take_at, length-take-le}
use Rattle.specification.specs.Results.{when◌then◌else◌}
use Rattle.specification.specs.Letters.{scalar}
use Rattle.specification.specs.Words.{bytes}
use Rattle.specification.specs.Records.{write_into}
use Rattle.specification.specs.Printing.{print_form, print_steps, TextWritten}
use Rattle.specification.specs.LogTexts.{kinds_word, write_names, kind_word}
use Rattle.terms.specs.declared.types.Form.{Form}
use Rattle.terms.specs.Abstraction.{form_of}
use Rattle.logs.specs.declared.steps.Steps.{Steps}
use Rattle.logs.specs.Steps.{steps_of}
use Rattle.symbols.specs.Printable.{Printable}
use Rattle.printing.proofs.Lengths.{text_short}
use Rattle.record_writing.specs.Written.{Written}
use Rattle.printing.proofs.Texts.{text_written}
use Rattle.log_lines.specs.Printed.{StepsPrintable}
use Rattle.log_lines.proofs.Texts.{steps_short}
use Rattle.telling.specs.Told.{Tells}
use Rattle.telling.proofs.Pieces.{tells-then, tells_as, tells-nothing}
use Rattle.log_telling.specs.Names.{kind_change, name_text}

-- ════ words

module _ {l m : List ℕ} {at next : ℕ} (kind : ℕ) where
  -- `scalar`
  pub kind-scalar : kind ≡ 0 → Tells l m at next (bytes "scalar") → Tells l m at next (kind_word kind)
  unfolding kind_word
  kind-scalar e h = tells_as _ (sym (rw (eq-eqb kind 0 e))) h

  -- `vector`
  pub kind-vector : (kind ≡ 0 → ⊥) → Tells l m at next (bytes "vector") → Tells l m at next (kind_word kind)
  unfolding kind_word
  kind-vector n h = tells_as _ (sym (rw (ne_eqb kind 0 n))) h

-- `scalars`, `vectors`
pub kinds_word_lem : (kind : ℕ) → kind_word kind ++ 115 ∷ [] ≡ kinds_word kind
unfolding kind_word kinds_word bytes
kinds_word_lem kind = go (eqb kind scalar)
  where
    go : (b : Bool) → (when b then bytes "scalar" else bytes "vector") ++ 115 ∷ [] ≡ (when b then bytes "scalars" else bytes "vectors")
    go true = refl
    go false = refl

-- the same kind
pub change_none : (l : List ℕ) (at before kind : ℕ) → kind ≡ before → Tells l l at at (kind_change before kind)
unfolding kind_change
change_none l at before kind e = tells_as _ (sym (rw (eq-eqb kind before e))) (tells-nothing l at)

-- another
pub change-word : {l m n : List ℕ} {at k next : ℕ} (before kind : ℕ) → (kind ≡ before → ⊥) → Tells l m at k (32 ∷ []) → Tells m n k next (kinds_word kind)
    → Tells l n at next (kind_change before kind)
unfolding kind_change
change-word before kind n p q = tells_as _ (sym (rw (ne_eqb kind before n))) (tells-then p q)

-- ════ names

-- the names so far, and those that are left
pub record NamesTold (l m : List ℕ) (at next kind : ℕ) (names table : List ℕ) (last i : ℕ) : Type 0 where
  pub few : i ≤ length names
  pub text : List ℕ
  pub told : Tells l m at next text
  pub rest : write_names kind names table ≡ text ++ write_names last (drop i names) (drop i table)

-- none is told yet
pub names-begin : (l : List ℕ) (at kind : ℕ) (names table : List ℕ) → NamesTold l l at at kind names table kind 0
names-begin l at kind names table = record { few = omega arith; text = []; told = tells-nothing l at; rest = refl }

module _ {l m : List ℕ} {at next : ℕ} (kind : ℕ) (names table : List ℕ) (last i : ℕ) (h : NamesTold l m at next kind names table last i) where
  -- one more
  pub names_more : {n : List ℕ} {after : ℕ} → i < length names → length names ≤ length table
      → Tells m n next after (name_text last (get_or names i 0) (get_or table i 0))
      → NamesTold l n at after kind names table (get_or table i 0) (i + 1)
  unfolding write_names name_text kind_change
  names_more k fit t = record {
    few = omega arith;
    text = h.text ++ name_text last (get_or names i 0) (get_or table i 0);
    told = tells-then h.told t;
    rest = h.rest
        ∙ ap (λ (r : List ℕ). h.text ++ r) (cut
        ∙ sym (append_assoc (kind_change last (get_or table i 0)) (32 ∷ get_or names i 0 ∷ [])
        (write_names (get_or table i 0) (drop (i + 1) names) (drop (i + 1) table))))
        ∙ sym (append_assoc h.text (name_text last (get_or names i 0) (get_or table i 0))
        (write_names (get_or table i 0) (drop (i + 1) names) (drop (i + 1) table)));
  }
    where
      cut : write_names last (drop i names) (drop i table)
          ≡ kind_change last (get_or table i 0) ++ 32 ∷ get_or names i 0 ∷ write_names (get_or table i 0) (drop (i + 1) names) (drop (i + 1) table)
      cut = let g : i < length table = omega arith in rw (drop-cons names i 0 k, drop-cons table i 0 g, add-one)

  -- all
  pub names-end : length names ≤ i → Tells l m at next (write_names kind names table)
  unfolding write_names
  names-end k = tells_as _ (sym (h.rest ∙ ap (λ (r : List ℕ). h.text ++ write_names last r (drop i table)) (drop_of_length-le names k)
      ∙ append-nil h.text)) h.told

-- ════ what was printed beside

-- a text in front of bytes lent
pub front_of_lem : (l m : List ℕ) (n : ℕ) (xs : List ℕ) → TextWritten l m n xs → take n m ≡ xs
unfolding write_into
front_of_lem l m n xs w = (λ i. take (w.ends i) (w.bytes i)) ∙ take_at xs (drop (length xs) l) (length xs) refl

-- a form's text fits into a line
pub form-fits : (names : List ℕ) (f : Form) (l m : List ℕ) (n : ℕ) → Printable names f → TextWritten l m n (print_form names (form_of f).terms) → n ≤ 1393
form-fits names f l m n p w = omega (arith, w.ends, text_short names (form_of f) p.valid.in_shape)

-- the text of a form told
pub form-told : {l m a b : List ℕ} {at next n : ℕ} (xs : List ℕ) → TextWritten a b n xs → Tells l m at next (take n b) → Tells l m at next xs
form-told {n = n} xs w t = tells_as _ (front_of_lem _ _ n xs w) t

-- the lines of steps fit beside
pub steps-fit : (names : List ℕ) (q : Steps) (l m : List ℕ) (n : ℕ) → StepsPrintable names q → Written l m 0 n (print_steps names (steps_of q)) → n ≤ 3520
unfolding steps_of
steps-fit names q l m n p w =
    omega (
      arith,
      w.ends,
      steps_short names (take q.count q.steps) p.steps,
      length-take-le q.count q.steps
          (omega (arith, p.valid.few, p.valid.long)),
      p.valid.few,
    )

-- the lines of steps told
pub steps-told : {l m a b : List ℕ} {at next n : ℕ} (xs : List ℕ) → Written a b 0 n xs → Tells l m at next (take n b) → Tells l m at next xs
steps-told {a = a} {b = b} {n = n} xs w t = form-told xs (text_written a b n xs xs refl w) t
