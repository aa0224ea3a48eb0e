-- Names as they are told. Assumes nothing.
use Rattle.std.specs.Prelude.{List, [], ◌∷◌, ◌++◌, ℕ, eqb}
use Rattle.specification.specs.Results.{when◌then◌else◌}
use Rattle.specification.specs.LogTexts.{kinds_word}

-- the word of a kind, where it is another than the one before
unfoldable pub kind_change : (before kind : ℕ) → List ℕ
kind_change before kind = when eqb kind before then [] else 32 ∷ kinds_word kind

-- a name behind those of a kind
unfoldable pub name_text : (before name kind : ℕ) → List ℕ
name_text before name kind = kind_change before kind ++ 32 ∷ name ∷ []
