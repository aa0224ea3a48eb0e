-- Names and their numbers, one after the other. Assumes nothing.
use mathlib.Core.Path.{◌≡◌, refl, sym, ◌∙◌, ap}
use mathlib.Core.Bool.{Bool, true, false}
use mathlib.Core.List.{List, [], ◌∷◌}
use Prim.Native.Nat.{ℕ, suc, ◌-◌, ◌*◌, ◌≤◌, ◌<◌}
use native.Mathlib.Omega.{arith}
use borrow.Author.Tests.{eq-eqb, ne_eqb, lt-ltb, le-ltb, le-leb, lt-leb}
use lib.Dec.{eqb, ltb}
use lib.ListN.{length, get_or}
use Rattle.specification.specs.Letters.{kind_of}
use Rattle.specification.specs.Evaluation.{good_assignment}
use Rattle.specification.specs.Text.{Placed, refused_at, ◌>>=◌, is_letter, place_of, skip, next}
use Rattle.specification.specs.LogTexts.{mark}
use Rattle.specification.specs.AssignmentTexts.{read_value, put_three, none_yet, read_assigned}
use Rattle.std.specs.Prelude.{Ok, Err}
use Rattle.std.specs.Prelude as Std
use Rattle.texts.specs.declared.Unread.{Unread}
use Rattle.refusal.specs.declared.Refusal.{Refusal}
use Rattle.refusal.specs.declared.Refusal.TheVariants.{Torn, AbsentLetter, WrongAssignment}
use Rattle.refusal.specs.Numbers.{number_of}
use Rattle.log_texts.specs.Letters.{MarkRead}
use Rattle.assignment_texts.specs.declared.numbers.Numbers.{Numbers}
use Rattle.assignment_texts.specs.declared.Name.{Name}
use Rattle.assignment_texts.specs.Numbers.{NumbersRead}
use Rattle.assignment_texts.specs.Assigned.{at_end, behind_value, behind_name, NameRead, AssignedTurn, AssignedRead}

-- ════ a name

module _ (names line : List ℕ) (at : ℕ) (so : List ℕ) (b : ℕ) (hb : b ≡ get_or line at 0) (t : Bool) (ht : t ≡ is_letter b) where
  letter : is_letter (get_or line at 0) ≡ t
  letter = ap is_letter (sym hb) ∙ sym ht

  refused_with : (why : Refusal) → ((table : List ℕ) (most : ℕ) → read_assigned (suc most) names table line at so ≡ refused_at (number_of why) at)
      → NameRead names line at so (Err (record { why = why; column = at }))
  refused_with why h = record { is = h; known = tt }

  -- no letter stands here
  pub name-torn : t ≡ false → NameRead names line at so (Err (record { why = Torn; column = at }))
  unfolding read_assigned
  name-torn e = refused_with Torn (λ table most. rw (letter ∙ e))

  module _ (e : t ≡ true) (n : ℕ) (hn : n ≡ place_of names b) where
    place_is_lem : place_of names (get_or line at 0) ≡ n
    place_is_lem = ap (place_of names) (sym hb) ∙ sym hn

    -- it is not declared
    pub name-unknown : length names ≤ n → NameRead names line at so (Err (record { why = AbsentLetter; column = at }))
    unfolding read_assigned
    name-unknown h =
        refused_with AbsentLetter (λ table most. rw (letter ∙ e, le-ltb (place_of names (get_or line at 0)) (length names) (omega (arith, place_is_lem))))

    module _ (h : n < length names) (w : ℕ) (hw : w ≡ get_or so (3 * n) 0) where
      known : ltb (place_of names (get_or line at 0)) (length names) ≡ true
      known = lt-ltb (place_of names (get_or line at 0)) (length names) (omega (arith, place_is_lem))

      byte-is : get_or so (3 * place_of names (get_or line at 0)) 0 ≡ w
      byte-is = ap (λ (k : ℕ). get_or so (3 * k) 0) place_is_lem ∙ sym hw

      -- it has its numbers
      pub name-twice : (w ≡ 127 → ⊥) → NameRead names line at so (Err (record { why = WrongAssignment; column = at }))
      unfolding read_assigned
      name-twice o = refused_with WrongAssignment (λ table most. rw (letter ∙ e, known, ap (λ (k : ℕ). eqb k 127) byte-is ∙ ne_eqb w 127 o))

      -- it has none
      pub name_new : (after : ℕ) → w ≡ 127 → after ≡ next line at → NameRead names line at so (Ok (record { at = after; letter = n }))
      unfolding read_assigned behind_name behind_value at_end
      name_new after o q = record {
        is = λ table most. rw (letter ∙ e, known, ap (λ (k : ℕ). eqb k 127) byte-is ∙ eq-eqb w 127 o)
            (λ i. behind_name most names table line (sym q i) (place_is_lem i) so);
        known = h;
      }

-- ════ its numbers

module _ (names table line : List ℕ) (at : ℕ) (so : List ℕ) where
  -- no name
  pub turn-unnamed : (u : Unread) → NameRead names line at so (Err u) → AssignedTurn names table line at so (Err u) so
  turn-unnamed u h = record { is = h.is table }

  module _ (a : Name) (ha : NameRead names line at so (Ok a)) where
    -- no equals sign
    pub turn-unequal : (u : Unread) → MarkRead line (mark 61 line a.at) (Err u) → AssignedTurn names table line at so (Err u) so
    unfolding behind_name
    turn-unequal u h = record { is = λ most. ha.is table most ∙ rw h.is }

    module _ (m : ℕ) (hm : MarkRead line (mark 61 line a.at) (Ok m)) (kind : ℕ) (hk : kind ≡ kind_of table a.letter) where
      to_value : (most : ℕ) → read_assigned (suc most) names table line at so
          ≡ (read_value kind line m >>= λ r. behind_value most names table line r.1 (put_three a.letter r.0 so))
      unfolding behind_name
      to_value most =
          ha.is table most ∙ rw hm.is
          (ap (λ (k : ℕ). read_value k line m >>= λ r. behind_value most names table line r.1 (put_three a.letter r.0 so)) (sym hk))

      -- no value
      pub turn_unvalued : (u : Unread) → NumbersRead (read_value kind line m) (Err u) → AssignedTurn names table line at so (Err u) so
      turn_unvalued u h = record { is = λ most. to_value most ∙ rw h.is }

      -- its numbers are put
      pub turn-put : (v : Numbers) → NumbersRead (read_value kind line m) (Ok v) → (so' : List ℕ) → so' ≡ put_three a.letter (v.x ∷ v.y ∷ v.z ∷ []) so
          → AssignedTurn names table line at so (Ok v.at) so'
      turn-put v h so' p = record { is = λ most. to_value most ∙ rw h.is (ap (behind_value most names table line v.at) (sym p)) }

-- ════ the end

module _ (table : List ℕ) (at : ℕ) (so : List ℕ) (t : Bool) (ht : t ≡ good_assignment table so) where
  -- a letter has no numbers
  pub end-missing : t ≡ false → AssignedRead (at_end table at so) (Err (record { why = WrongAssignment; column = at })) so
  unfolding at_end
  end-missing e = record { is = rw (sym ht ∙ e) }

  -- all have them
  pub end_given : t ≡ true → AssignedRead (at_end table at so) (Ok tt) so
  unfolding at_end
  end_given e = record { is = rw (sym ht ∙ e) }

-- ════ name after name

-- the whole line
abbrev whole : (names table line : List ℕ) → Placed (List ℕ)
whole names table line = read_assigned (length line) names table line (skip line 0) (none_yet table)

-- what is left to be read is the whole
pub record AssignedFrom (names table line so : List ℕ) (left at : ℕ) : Type 0 where
  pub same : whole names table line ≡ read_assigned left names table line at so

-- at first
pub assigned-begins : (names table line so : List ℕ) (left at : ℕ) → left ≡ length line → so ≡ none_yet table → at ≡ skip line 0 → AssignedFrom names table line so left at
assigned-begins names table line so left at l p q = record { same = λ i. read_assigned (sym l i) names table line (sym q i) (sym p i) }

module _ (names table line so : List ℕ) (left at : ℕ) (h : AssignedFrom names table line so left at) where
  -- no turn is left
  pub assigned-torn : left ≡ 0 → AssignedRead (whole names table line) (Err (record { why = Torn; column = at })) so
  unfolding read_assigned
  assigned-torn e = record { is = h.same ∙ ap (λ (k : ℕ). read_assigned k names table line at so) e }

  module _ (less : ℕ) (e : left ≡ suc less) (so' : List ℕ) where
    -- a refusal
    pub assigned_refused : (u : Unread) → AssignedTurn names table line at so (Err u) so' → AssignedRead (whole names table line) (Err u) so'
    assigned_refused u t = record { is = h.same ∙ ap (λ (j : ℕ). read_assigned j names table line at so) e ∙ t.is less }

    module _ (v : ℕ) (t : AssignedTurn names table line at so (Ok v) so') where
      turned : whole names table line ≡ behind_value less names table line v so'
      turned = h.same ∙ ap (λ (j : ℕ). read_assigned j names table line at so) e ∙ t.is less

      -- the end of the line
      pub assigned-ends : length line ≤ v → (q : Std.Result (Unit {0}) Unread) → AssignedRead (at_end table v so') q so' → AssignedRead (whole names table line) q so'
      unfolding behind_value
      assigned-ends l q g = let e : whole names table line ≡ at_end table v so' = turned ∙ rw (le-leb (length line) v l) in record { is = e ∙ g.is }

      module _ (l : v < length line) where
        further : whole names table line ≡ (mark 44 line v >>= λ name. read_assigned less names table line name so')
        unfolding behind_value
        further = turned ∙ rw (lt-leb (length line) v l)

        -- no comma
        pub assigned_uncut : (u : Unread) → MarkRead line (mark 44 line v) (Err u) → AssignedRead (whole names table line) (Err u) so'
        assigned_uncut u m = record { is = further ∙ rw m.is }

        -- one more turn
        pub assigned_more : (n : ℕ) → MarkRead line (mark 44 line v) (Ok n) → AssignedFrom names table line so' less n
        assigned_more n m = record { same = further ∙ rw m.is }
