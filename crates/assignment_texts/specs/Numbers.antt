-- The numbers of a letter as they are read. Assumes nothing.
use Rattle.std.specs.Prelude.{◌≡◌, List, [], ◌∷◌, ℕ}
use Rattle.std.specs.Prelude as Std
use Rattle.specification.specs.Text.{Placed, placed, ◌>>=◌}
use Rattle.specification.specs.LogTexts.{mark}
use Rattle.specification.specs.AssignmentTexts.{read_component}
use Rattle.texts.specs.declared.Unread.{Unread}
use Rattle.texts.specs.Readings.{placed_of}
use Rattle.assignment_texts.specs.declared.numbers.Component.{Component}
use Rattle.assignment_texts.specs.declared.numbers.Numbers.{Numbers}

-- a component that was read and the position behind it
abbrev pub component_of : Std.Result Component Unread → Placed (ℕ × ℕ)
component_of r = placed_of (λ q. (q.byte, q.at)) r

-- a component and the position behind it, or the refusal at its column
pub record ComponentRead (x : Placed (ℕ × ℕ)) (r : Std.Result Component Unread) : Type 0 where
  pub is : x ≡ component_of r

-- a byte that has to stand, a component, and what follows
unfoldable pub led_by : (b : ℕ) (line : List ℕ) (at : ℕ) (rest : ℕ × ℕ → Placed (List ℕ × ℕ)) → Placed (List ℕ × ℕ)
led_by b line at rest = mark b line at >>= λ first. read_component line first >>= rest

-- the component behind a byte that has to stand, or the refusal at its column
pub record LedRead (b : ℕ) (line : List ℕ) (at : ℕ) (r : Std.Result Component Unread) : Type 0 where
  pub is : (rest : ℕ × ℕ → Placed (List ℕ × ℕ)) → led_by b line at rest ≡ (component_of r >>= rest)

-- the numbers of a vector and the position behind them
unfoldable pub three_at : (line : List ℕ) (at : ℕ) → Placed (List ℕ × ℕ)
three_at line at =
    led_by 40 line at λ x.
    led_by 44 line x.1 λ y.
    led_by 44 line y.1 λ z.
    mark 41 line z.1 >>= λ end. placed (x.0 ∷ y.0 ∷ z.0 ∷ [], end)

-- three numbers and the position behind them, or the refusal at its column
pub record NumbersRead (x : Placed (List ℕ × ℕ)) (r : Std.Result Numbers Unread) : Type 0 where
  pub is : x ≡ placed_of (λ q. (q.x ∷ q.y ∷ q.z ∷ [], q.at)) r
