use Rattle.std.proofs.Common.{rules}
use mathlib.Core.Path.{refl, sym, ap}
use mathlib.Core.Bool.{Bool}
use mathlib.Core.List.{[], ◌∷◌}
use native.Mathlib.Omega.{arith}
use Rattle.specification.specs.Results.{when◌then◌else◌}
use Rattle.terms.specs.Abstraction.{term_of}
use Rattle.pairing.specs.Parts.{list_of}
use Rattle.pairing.proofs.Few.{few_as}
use Rattle.pairing.proofs.parts.one_unless.Goals as goal

pub returns-then-gone : goal.returns-then-gone
unfolding list_of
returns-then-gone c =
    let a = c in
    few_as _ [] _ (ap (λ (b : Bool). when b then [] else term_of a.args.t ∷ []) (sym c.if-gone.true))
    (record { is = refl; few = omega arith; first = a.requires; second = a.requires })

pub returns-else-gone : goal.returns-else-gone
unfolding list_of
returns-else-gone c =
    let a = c in
    few_as _ (term_of a.args.t ∷ []) _ (ap (λ (b : Bool). when b then [] else term_of a.args.t ∷ []) (sym c.if-gone.false))
    (record { is = refl; few = omega arith; first = a.requires; second = a.requires })
