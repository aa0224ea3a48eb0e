-- A part of a list written over. Assumes nothing.
use Rattle.std.specs.Prelude.{List, ◌++◌, ℕ, ◌+◌, length, take, drop}

-- the list with xs written over its elements from a position on
unfoldable pub over {ℓ} : {A : Type ℓ} (l : List A) (at : ℕ) (xs : List A) → List A
over l at xs = take at l ++ xs ++ drop (at + length xs) l
