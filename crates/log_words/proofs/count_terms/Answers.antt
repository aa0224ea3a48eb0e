-- `log_words::count_terms` meets its contract. Assumes nothing.
use Rattle.std.proofs.Common.{rules}
use Rattle.replaying.proofs.Replays.{form-length}
use native.Mathlib.Omega.{arith}
use lib.ListN.{length}
use mathlib.Core.Path.{◌≡◌, sym}
use Rattle.log_words.proofs.count_terms.Goals as goal

pub returns : goal.returns
returns c =
    let long : length c.args.f.terms ≡ 48 = search rules in
    sym (form-length c.args.f (omega (arith, long, c.requires.few)))
