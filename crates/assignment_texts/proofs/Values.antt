-- The numbers of a letter, one component after the other. Assumes nothing.
use mathlib.Core.Path.{◌≡◌, refl, sym, ◌∙◌}
use mathlib.Core.List.{List, [], ◌∷◌}
use Prim.Native.Nat.{ℕ}
use borrow.Author.Tests.{eq-eqb, ne_eqb}
use Rattle.specification.specs.Text.{Placed, refused_at, placed, ◌>>=◌}
use Rattle.specification.specs.LogTexts.{mark}
use Rattle.specification.specs.AssignmentTexts.{read_component, read_value}
use Rattle.std.specs.Prelude.{Ok, Err}
use Rattle.std.specs.Prelude as Std
use Rattle.texts.specs.declared.Unread.{Unread}
use Rattle.log_texts.specs.Letters.{MarkRead}
use Rattle.assignment_texts.specs.declared.numbers.Component.{Component}
use Rattle.assignment_texts.specs.declared.numbers.Numbers.{Numbers}
use Rattle.assignment_texts.specs.Numbers.{ComponentRead, led_by, LedRead, three_at, NumbersRead}

-- ════ a component behind a byte that has to stand

module _ (b : ℕ) (line : List ℕ) (at : ℕ) where
  -- the byte does not stand
  pub led-torn : (u : Unread) → MarkRead line (mark b line at) (Err u) → LedRead b line at (Err u)
  unfolding led_by
  led-torn u h = record { is = λ rest. rw h.is }

  -- the component decides
  pub led_by_lem : (m : ℕ) → MarkRead line (mark b line at) (Ok m) → (r : Std.Result Component Unread) → ComponentRead (read_component line m) r → LedRead b line at r
  unfolding led_by
  led_by_lem m hm r h = record { is = λ rest. rw (hm.is, h.is) }

-- ════ three

module _ (line : List ℕ) (at : ℕ) where
  -- no first number
  pub three_first : (u : Unread) → LedRead 40 line at (Err u) → NumbersRead (three_at line at) (Err u)
  unfolding three_at
  three_first u h = record { is = h.is _ }

  module _ (x : Component) (hx : LedRead 40 line at (Ok x)) where
    -- no second
    pub three-second : (u : Unread) → LedRead 44 line x.at (Err u) → NumbersRead (three_at line at) (Err u)
    unfolding three_at
    three-second u h = record { is = hx.is _ ∙ h.is _ }

    module _ (y : Component) (hy : LedRead 44 line x.at (Ok y)) where
      -- no third
      pub three_third : (u : Unread) → LedRead 44 line y.at (Err u) → NumbersRead (three_at line at) (Err u)
      unfolding three_at
      three_third u h = record { is = hx.is _ ∙ hy.is _ ∙ h.is _ }

      module _ (v : Component) (hv : LedRead 44 line y.at (Ok v)) where
        three-end : three_at line at ≡ (mark 41 line v.at >>= λ end. placed (x.byte ∷ y.byte ∷ v.byte ∷ [], end))
        unfolding three_at
        three-end = hx.is _ ∙ hy.is _ ∙ hv.is _

        -- no end
        pub three-open : (u : Unread) → MarkRead line (mark 41 line v.at) (Err u) → NumbersRead (three_at line at) (Err u)
        three-open u h = record { is = three-end ∙ rw h.is }

        -- three
        pub three-there : (m : ℕ) → MarkRead line (mark 41 line v.at) (Ok m)
            → NumbersRead (three_at line at) (Ok (record { at = m; x = x.byte; y = y.byte; z = v.byte }))
        three-there m h = record { is = three-end ∙ rw h.is }

-- ════ by the kind

module _ (kind : ℕ) (line : List ℕ) (at : ℕ) where
  -- of a vector
  pub value_vector : (r : Std.Result Numbers Unread) → (kind ≡ 0 → ⊥) → NumbersRead (three_at line at) r → NumbersRead (read_value kind line at) r
  unfolding read_value three_at led_by
  value_vector r n h = rw (ne_eqb kind 0 n) h

  module _ (e : kind ≡ 0) where
    scalar_is : read_value kind line at ≡ (read_component line at >>= λ w. placed (w.0 ∷ 0 ∷ 0 ∷ [], w.1))
    unfolding read_value
    scalar_is = rw (eq-eqb kind 0 e)

    -- no number
    pub value_torn : (u : Unread) → ComponentRead (read_component line at) (Err u) → NumbersRead (read_value kind line at) (Err u)
    value_torn u h = record { is = scalar_is ∙ rw h.is }

    -- of a scalar
    pub value_scalar : (x : Component) → ComponentRead (read_component line at) (Ok x)
        → NumbersRead (read_value kind line at) (Ok (record { at = x.at; x = x.byte; y = 0; z = 0 }))
    value_scalar x h = record { is = scalar_is ∙ rw h.is }
