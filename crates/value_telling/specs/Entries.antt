-- One name of an assignment in words. Assumes nothing.
use Rattle.std.specs.Prelude.{List, [], ◌∷◌, ◌++◌, ℕ, eqb}
use Rattle.specification.specs.Results.{when◌then◌else◌}
use Rattle.specification.specs.Values.{Vec}
use Rattle.specification.specs.Words.{bytes}
use Rattle.specification.specs.Commands.{value_text}

-- a name and its value, and a comma where so many are left
unfoldable pub entry_text : (name kind : ℕ) (v : Vec) (left : ℕ) → List ℕ
entry_text name kind v left = name ∷ bytes " = " ++ value_text kind v ++ (when eqb left 0 then [] else bytes ", ")
