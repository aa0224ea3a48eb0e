-- Assignments as text: `a = (1, 0, -2), m = 3`. Assumes nothing.
use Rattle.std.specs.Prelude.{◌&&◌, ◌||◌, List, [], ◌∷◌, ◌++◌, ℕ, zero, suc, ◌+◌, ◌-◌, ◌*◌, length, get_or, take, drop, ltb, leb, eqb}
use Rattle.specification.specs.Results.{when◌then◌else◌}
use Rattle.specification.specs.Letters.{scalar, kind_of}
use Rattle.specification.specs.Evaluation.{good_assignment}
use Rattle.specification.specs.Text.{Placed, refused_at, placed, ◌>>=◌, is_letter, is_digit, place_of, next}
use Rattle.specification.specs.LogTexts.{mark}

-- a component from -6 to 6, one digit, as its signed byte, and the position behind it: 12 beyond
unfoldable pub read_component : (line : List ℕ) (at : ℕ) → Placed (ℕ × ℕ)
read_component line at =
    let minus = eqb (get_or line at 0) 45 in
    let first = when minus then next line at else at in
    let size = get_or line first 0 - 48 in
    let byte = when minus && leb 1 size then 256 - size else size in
    when is_digit (get_or line first 0)
    then (when ltb 6 size || is_digit (get_or line (first + 1) 0) then refused_at 12 first else placed (byte, next line first))
    else refused_at 4 first

-- `(1, -2, 3)` of a vector, `2` of a scalar: three signed bytes and the position behind them
unfoldable pub read_value : (kind : ℕ) (line : List ℕ) (at : ℕ) → Placed (List ℕ × ℕ)
read_value kind line at =
    let number : Placed (List ℕ × ℕ) = read_component line at >>= λ x. placed (x.0 ∷ 0 ∷ 0 ∷ [], x.1) in
    let three : Placed (List ℕ × ℕ) =
    mark 40 line at >>= λ one.
    read_component line one >>= λ x.
    mark 44 line x.1 >>= λ two.
    read_component line two >>= λ y.
    mark 44 line y.1 >>= λ third.
    read_component line third >>= λ z.
    mark 41 line z.1 >>= λ end.
    placed (x.0 ∷ y.0 ∷ z.0 ∷ [], end) in
    when eqb kind scalar then number else three

-- three bytes at a letter's place
unfoldable pub put_three : (n : ℕ) (three bytes : List ℕ) → List ℕ
put_three n three bytes = take (3 * n) bytes ++ three ++ drop (3 * n + 3) bytes

-- 127 at each place: a letter that has no numbers yet
unfoldable pub none_yet : List ℕ → List ℕ
none_yet [] = []
none_yet (k ∷ table) = 127 ∷ 127 ∷ 127 ∷ none_yet table

-- `a = (1, -2, 3), m = 2` in any order, behind what was read so far: 12 for a name twice, and for one that is missing at the end of the line
unfoldable pub read_assigned : (most : ℕ) (names table line : List ℕ) (at : ℕ) (so : List ℕ) → Placed (List ℕ)
read_assigned zero names table line at so = refused_at 4 at
read_assigned (suc most) names table line at so =
    let b = get_or line at 0 in
    let n = place_of names b in
    let more : Placed (List ℕ) =
    mark 61 line (next line at) >>= λ value.
    read_value (kind_of table n) line value >>= λ r.
    (let all : List ℕ = put_three n r.0 so in
    let further : Placed (List ℕ) = mark 44 line r.1 >>= λ name. read_assigned most names table line name all in
    let end : Placed (List ℕ) = when good_assignment table all then placed all else refused_at 12 r.1 in
    when leb (length line) r.1 then end else further) in
    when is_letter b then (when ltb n (length names) then (when eqb (get_or so (3 * n) 0) 127 then more else refused_at 12 at) else refused_at 5 at) else refused_at 4 at
