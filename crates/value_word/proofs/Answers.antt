-- What is told for `value`, from the names, the formula and the assignment. Assumes nothing.
use mathlib.Core.Path.{◌≡◌, sym, ◌∙◌, ap, subst}
use mathlib.Core.Bool.{true}
use mathlib.Core.List.{List, [], ◌∷◌, ◌++◌}
use Prim.Native.Nat.{ℕ, ◌*◌, ◌≤◌, ◌<◌}
use native.Mathlib.Omega.{arith}
use borrow.Author.Tests.{eq-eqb, ne_eqb}
use lib.ListN.{length, take, drop, replicate, length-drop}
use lib.Seq.{length-take-le}
use Rattle.specification.specs.Terms as S
use Rattle.specification.specs.Values.{Vec}
use Rattle.specification.specs.Lists.{all}
use Rattle.specification.specs.Evaluation.{value, assignment, six_or_less}
use Rattle.specification.specs.Words.{bytes}
use Rattle.specification.specs.Text.{Placed, text_form}
use Rattle.specification.specs.Lines as L
use Rattle.specification.specs.Lines.{first_line, line_of, next_line, to_line, at_end, Lined, refused_in, lined, in_line, ◌>>>◌, read_header}
use Rattle.specification.specs.LogTexts.{nothing_left}
use Rattle.specification.specs.AssignmentTexts.{none_yet}
use Rattle.specification.specs.Commands.{refusal_text, answer_text, value_text, value_input}
use Rattle.theory.specs.Text.LineColumns.{Within, then-within, line-within, formula_within, told-within}
use Rattle.theory.specs.Text.PartColumns.{end-within}
use Rattle.theory.specs.Text.WordColumns.{assigned-within}
use Rattle.terms.specs.Abstraction.{form_of}
use Rattle.lines.specs.declared.places.Place.{Place}
use Rattle.lines.specs.Places.{place_of, Reached}
use Rattle.lines.proofs.Ends.{inside_or}
use Rattle.declarations.specs.declared.Header.{Header}
use Rattle.lines.specs.declared.places.UnreadLine.{UnreadLine}
use Rattle.refusal.specs.Numbers.{number_of}
use Rattle.std.specs.Prelude.{Ok, Err}
use Rattle.declarations.specs.Names.{HeaderRead}
use Rattle.terms.specs.declared.types.Form.{Form}
use Rattle.refusal.specs.declared.Refusal.TheVariants.{Torn}
use Rattle.formula_call.specs.Texts.{TextGives}
use Rattle.std.specs.Prelude as Std
use Rattle.texts.specs.declared.Unread.{Unread}
use Rattle.assignment_texts.specs.Assigned.{AssignedRead}
use Rattle.assignment_texts.proofs.Good.{read_some, read_small}
use Rattle.telling.specs.Told.{Told}
use Rattle.value_word.specs.Behind.{assigned_in, behind_assigned, behind_formula, value_behind}

-- an assignment that was read is in the text
pub assigned-inside : (s names table so : List ℕ) (q : Place) (u : Unit {0}) → AssignedRead (assigned_in names table (line_of (place_of s q))) (Ok u) so
    → q.at < length s
unfolding first_line
assigned-inside s names table so q u h = inside_or s q.at (λ y. read_some names table (line_of (place_of s q)) so u h (ap first_line y))

-- its numbers are small
pub assigned-small : (s names table so : List ℕ) (q : Place) (u : Unit {0}) → AssignedRead (assigned_in names table (line_of (place_of s q))) (Ok u) so
    → all six_or_less so ≡ true
assigned-small s names table so q u h = read_small names table (line_of (place_of s q)) so u h

-- the same line in other words
pub assigned_as : (names table l m so : List ℕ) (a : Std.Result (Unit {0}) Unread) → l ≡ m → AssignedRead (assigned_in names table l) a so → AssignedRead (assigned_in names table m) a so
assigned_as names table l m so a e h = subst (λ (k : List ℕ). AssignedRead (assigned_in names table k) a so) e h

-- three numbers to a letter
pub numbers_fit : (n : ℕ) (table : List ℕ) → n ≤ 24 → length table ≡ 24 → length {A = ℕ} (take (3 * n) (replicate 72 0)) ≡ 3 * length (take n table)
numbers_fit n table h e = let zeros : List ℕ = replicate 72 0 in rw (length-take-le (3 * n) zeros (omega arith), length-take-le n table (omega arith))

-- the column of a refusal behind the names is in its line
lines-within : (names table : List ℕ) (p : L.Place) → Within (value_behind names table p)
unfolding value_behind
lines-within names table p =
    let q = to_line (next_line p) in
    then-within (in_line p (text_form names table (line_of p))) (behind_formula names table p)
    (line-within p (text_form names table (line_of p)) (formula_within names table (line_of p))) λ f.
    then-within (in_line q (assigned_in names table (line_of q))) (behind_assigned f q)
    (line-within q (assigned_in names table (line_of q)) (assigned-within (line_of q) names table (none_yet table))) λ a.
    end-within (to_line (next_line q)) _

-- ════ the names

-- what follows them
abbrev behind_names : L.Named × L.Place → Lined (List ℕ)
behind_names k = value_behind k.0.0 k.0.1 k.1

module _ (s : List ℕ) (names table : List ℕ) where
  -- they are refused
  pub names-told : (e : UnreadLine) → HeaderRead s (Err e) names table → (n : ℕ) → n ≡ number_of e.why → (out : List ℕ) (end : ℕ)
      → Told out end (refusal_text n e.place.number e.column (line_of (place_of s e.place))) → Told out end (answer_text (value_input s))
  unfolding value_input value_behind answer_text
  names-told e r n q out end t =
      subst (λ (x : Lined (List ℕ)). Told out end (answer_text x))
      (sym (ap (λ (x : Lined (L.Named × L.Place)). x >>> behind_names) r.is ∙ ap (λ (m : ℕ). refused_in m e.place.number e.column (line_of (place_of s e.place))) (sym q))) t

  -- the lines behind them
  pub lines-told : (h : Header) → HeaderRead s (Ok h) names table → (out : List ℕ) (end : ℕ)
      → Told out end (answer_text (value_behind (take h.count names) (take h.count table) (place_of s h.place))) → Told out end (answer_text (value_input s))
  unfolding value_input value_behind
  lines-told h r out end t =
      subst (λ (x : Lined (List ℕ)). Told out end (answer_text x)) (sym (ap (λ (x : Lined (L.Named × L.Place)). x >>> behind_names) r.is)) t

-- ════ the lines

module _ (s names table : List ℕ) (p : Place) where
  -- the column of a refusal is in its line
  within : (n k c : ℕ) (t : List ℕ) → value_behind names table (place_of s p) ≡ refused_in n k c t → c ≤ length t
  within n k c t e = told-within (value_behind names table (place_of s p)) n k c t (lines-within names table (place_of s p)) e

  -- the formula is refused
  module _ (e : Unread) (g : TextGives (text_form names table (line_of (place_of s p))) (Err e)) where
    formula_so : value_behind names table (place_of s p) ≡ refused_in (number_of e.why) p.number e.column (line_of (place_of s p))
    unfolding value_behind in_line
    formula_so = ap (λ (x : Placed S.Form). in_line (place_of s p) x >>> behind_formula names table (place_of s p)) (sym g.is)

    pub formula_column : e.column ≤ length (line_of (place_of s p))
    formula_column = within (number_of e.why) p.number e.column (line_of (place_of s p)) formula_so

    pub formula_told : (n : ℕ) → n ≡ number_of e.why → (out : List ℕ) (end : ℕ) → Told out end (refusal_text n p.number e.column (line_of (place_of s p)))
        → Told out end (answer_text (value_behind names table (place_of s p)))
    unfolding answer_text
    formula_told n w out end t =
        subst (λ (x : Lined (List ℕ)). Told out end (answer_text x))
        (sym (formula_so ∙ ap (λ (m : ℕ). refused_in m p.number e.column (line_of (place_of s p))) (sym w))) t

  module _ (f : Form) (g : TextGives (text_form names table (line_of (place_of s p))) (Ok f)) where
    module _ (q : Place) (reached : Reached s (to_line (next_line (place_of s p))) q) where
      by_formula : value_behind names table (place_of s p)
          ≡ (in_line (place_of s q) (assigned_in names table (line_of (place_of s q))) >>> behind_assigned (form_of f) (place_of s q))
      unfolding value_behind in_line
      by_formula =
          ap (λ (x : Placed S.Form). in_line (place_of s p) x >>> behind_formula names table (place_of s p)) (sym g.is)
          ∙ ap (λ (k : L.Place). in_line k (assigned_in names table (line_of k)) >>> behind_assigned (form_of f) k) (sym reached.is)

      -- the assignment is refused
      module _ (u : Unread) (so : List ℕ) (w : AssignedRead (assigned_in names table (line_of (place_of s q))) (Err u) so) where
        assigned_so : value_behind names table (place_of s p) ≡ refused_in (number_of u.why) q.number u.column (line_of (place_of s q))
        unfolding in_line
        assigned_so = by_formula ∙ ap (λ (x : Placed (List ℕ)). in_line (place_of s q) x >>> behind_assigned (form_of f) (place_of s q)) w.is

        pub assigned-column : u.column ≤ length (line_of (place_of s q))
        assigned-column = within (number_of u.why) q.number u.column (line_of (place_of s q)) assigned_so

        pub assigned-told : (n : ℕ) → n ≡ number_of u.why → (out : List ℕ) (end : ℕ) → Told out end (refusal_text n q.number u.column (line_of (place_of s q)))
            → Told out end (answer_text (value_behind names table (place_of s p)))
        unfolding answer_text
        assigned-told n e out end t =
            subst (λ (x : Lined (List ℕ)). Told out end (answer_text x))
            (sym (assigned_so ∙ ap (λ (m : ℕ). refused_in m q.number u.column (line_of (place_of s q))) (sym e))) t

      module _ (u : Unit {0}) (so : List ℕ) (w : AssignedRead (assigned_in names table (line_of (place_of s q))) (Ok u) so) (m : Place) (reaches : Reached s (to_line (next_line (place_of s q))) m) where
        abbrev text : List ℕ
        text = value_text f.kind (value (assignment so) (form_of f)) ++ bytes "\n"

        by_end : value_behind names table (place_of s p) ≡ nothing_left (place_of s m) text
        unfolding in_line form_of
        by_end =
            by_formula ∙ ap (λ (x : Placed (List ℕ)). in_line (place_of s q) x >>> behind_assigned (form_of f) (place_of s q)) w.is
            ∙ ap (λ (k : L.Place). nothing_left k text) (sym reaches.is)

        -- more stands behind it
        pub more_told : m.at < length s → (n : ℕ) → n ≡ number_of Torn → (out : List ℕ) (end : ℕ) → Told out end (refusal_text n m.number 0 (line_of (place_of s m)))
            → Told out end (answer_text (value_behind names table (place_of s p)))
        unfolding nothing_left at_end answer_text
        more_told l n k out end t =
            let so-refused : value_behind names table (place_of s p) ≡ refused_in 4 m.number 0 (line_of (place_of s m)) =
            by_end ∙ rw (ne_eqb (length (drop m.at s)) 0 (λ x. omega (arith, length-drop m.at s, x))) in
            subst (λ (x : Lined (List ℕ)). Told out end (answer_text x)) (sym so-refused)
            (subst (λ (j : ℕ). Told out end (refusal_text j m.number 0 (line_of (place_of s m)))) k t)

        -- the value
        pub value_told : length s ≤ m.at → (v : Vec) → v ≡ value (assignment so) (form_of f) → (out : List ℕ) (end : ℕ)
            → Told out end (value_text f.kind v ++ 10 ∷ []) → Told out end (answer_text (value_behind names table (place_of s p)))
        unfolding nothing_left at_end answer_text bytes
        value_told l v e out end t =
            let given : value_behind names table (place_of s p) ≡ lined text =
            by_end ∙ rw (eq-eqb (length (drop m.at s)) 0 (omega (arith, length-drop m.at s))) in
            subst (λ (x : Lined (List ℕ)). Told out end (answer_text x)) (sym given)
            (subst (λ (u : Vec). Told out end (value_text f.kind u ++ 10 ∷ [])) e t)
