-- A component: its sign, its digit, its signed byte. Assumes nothing.
use mathlib.Core.Path.{◌≡◌, refl, sym, ◌∙◌, ap}
use mathlib.Core.Bool.{Bool, true, false, ◌&&◌, ◌||◌}
use mathlib.Core.List.{List}
use Prim.Native.Nat.{ℕ, ◌+◌, ◌-◌, ◌≤◌, ◌<◌}
use native.Mathlib.Omega.{arith}
use borrow.Author.Tests.{eq-eqb, ne_eqb, lt-ltb, le-ltb, le-leb, lt-leb}
use lib.Dec.{ltb, leb, eqb}
use lib.ListN.{length, get_or}
use Rattle.specification.specs.Results.{when◌then◌else◌}
use Rattle.specification.specs.Text.{Placed, refused_at, placed, is_digit, next}
use Rattle.specification.specs.AssignmentTexts.{read_component}
use Rattle.theory.specs.Text.Bounds.{there}
use Rattle.texts.proofs.Standing.{digit-from}
use Rattle.std.specs.Prelude.{Ok, Err}
use Rattle.refusal.specs.declared.Refusal.{Refusal}
use Rattle.refusal.specs.declared.Refusal.TheVariants.{Torn, WrongAssignment}
use Rattle.refusal.specs.Numbers.{number_of}
use Rattle.assignment_texts.specs.Numbers.{ComponentRead}

-- ════ the sign

module _ (line : List ℕ) (at x : ℕ) (hx : x ≡ get_or line at 0) where
  -- a minus stands in the line
  pub minus-inside : x ≡ 45 → at < length line
  minus-inside e = there line at (omega (arith, hx, e))

  -- the digit behind it
  pub digit-behind : (after : ℕ) → x ≡ 45 → after ≡ next line at → after ≡ (when eqb (get_or line at 0) 45 then next line at else at)
  digit-behind after e q = rw (eq-eqb (get_or line at 0) 45 (sym hx ∙ e)) q

  -- the digit stands here
  pub digit-here : (x ≡ 45 → ⊥) → at ≡ (when eqb (get_or line at 0) 45 then next line at else at)
  digit-here n = rw (ne_eqb (get_or line at 0) 45 (λ e. n (hx ∙ e)))

module _ (minus : Bool) (size : ℕ) where
  -- no minus
  pub byte-plain : minus ≡ false → size ≡ (when minus && leb 1 size then 256 - size else size)
  byte-plain e = rw e

  -- 0 has no sign
  pub byte_zero : minus ≡ true → size < 1 → size ≡ (when minus && leb 1 size then 256 - size else size)
  byte_zero e h = rw (e, lt-leb 1 size h)

  -- below 0
  pub byte_below : minus ≡ true → 1 ≤ size → size ≤ 6 → 255 - size + 1 ≡ (when minus && leb 1 size then 256 - size else size)
  byte_below e h l = rw (e, le-leb 1 size h) (omega arith)

-- ════ the digit

-- what a component is by its sign, its digit's position and its digit
abbrev component : (line : List ℕ) (sign first b : ℕ) → Placed (ℕ × ℕ)
component line sign first b =
    when is_digit b
    then (when ltb 6 (b - 48) || is_digit (get_or line (first + 1) 0) then refused_at 12 first
    else placed ((when eqb sign 45 && leb 1 (b - 48) then 256 - (b - 48) else b - 48), next line first))
    else refused_at 4 first

module _ (line : List ℕ) (at sign first b : ℕ) (t : Bool) (hs : sign ≡ get_or line at 0) (hf : first ≡ (when eqb (get_or line at 0) 45 then next line at else at))
    (hb : b ≡ get_or line first 0) (ht : t ≡ is_digit b) where
  component_is : read_component line at ≡ component line sign first b
  unfolding read_component
  component_is =
      ap (λ (f : ℕ). component line (get_or line at 0) f (get_or line f 0)) (sym hf) ∙ (λ i. component line (sym hs i) first (sym hb i))

  refused_with : (why : Refusal) → component line sign first b ≡ refused_at (number_of why) first
      → ComponentRead (read_component line at) (Err (record { why = why; column = first }))
  refused_with why h = record { is = component_is ∙ h }

  -- no digit
  pub component-torn : t ≡ false → ComponentRead (read_component line at) (Err (record { why = Torn; column = first }))
  component-torn e = refused_with Torn (rw (sym ht ∙ e))

  module _ (e : t ≡ true) where
    -- the digit is in the line, and at least 48
    pub digit-inside : first < length line
    digit-inside = there line first (omega (arith, hb, digit-from b t ht e))

    pub digit-least : 48 ≤ b
    digit-least = digit-from b t ht e

    -- beyond 6
    pub component-beyond : 54 < b → ComponentRead (read_component line at) (Err (record { why = WrongAssignment; column = first }))
    component-beyond h = let k : 6 < b - 48 = omega arith in refused_with WrongAssignment (rw (sym ht ∙ e, lt-ltb 6 (b - 48) k))

    module _ (h : b ≤ 54) (w : ℕ) (u : Bool) (hw : w ≡ get_or line (first + 1) 0) (hu : u ≡ is_digit w) where
      small : ltb 6 (b - 48) ≡ false
      small = let k : b - 48 ≤ 6 = omega arith in le-ltb 6 (b - 48) k

      further : is_digit (get_or line (first + 1) 0) ≡ u
      further = ap is_digit (sym hw) ∙ sym hu

      -- a second digit
      pub component-long : u ≡ true → ComponentRead (read_component line at) (Err (record { why = WrongAssignment; column = first }))
      component-long f = refused_with WrongAssignment (rw (sym ht ∙ e, small, further ∙ f))

      -- one digit
      pub component-there : (byte after : ℕ) → u ≡ false → byte ≡ (when eqb sign 45 && leb 1 (b - 48) then 256 - (b - 48) else b - 48) → after ≡ next line first
          → ComponentRead (read_component line at) (Ok (record { at = after; byte = byte }))
      component-there byte after f p q = record { is = component_is ∙ rw (sym ht ∙ e, small, further ∙ f) (λ i. placed (sym p i, sym q i)) }
