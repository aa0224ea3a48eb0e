-- The answer of shortening: document 01's number and values for each case. Assumes nothing.
use Rattle.std.specs.Prelude.{Ok, Err}
use Rattle.std.specs.Prelude as Std
use Rattle.specification.specs.Shortening.{shortened, unshortened}
use Rattle.specification.specs.Shortening as S
use Rattle.refusal.specs.declared.Refusal.{Refusal}
use Rattle.refusal.specs.Numbers.{number_of}
use Rattle.shortening.specs.declared.Written.{Written}

-- the length and the steps of the log written, or refused with its number
unfoldable pub shortening_of : Std.Result Written Refusal → S.Shortening
shortening_of (Ok w) = shortened w.size w.steps
shortening_of (Err e) = unshortened (number_of e)
