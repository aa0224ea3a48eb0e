-- What the calls for open logs return and leave. Assumes nothing.
use mathlib.Core.Path.{◌≡◌, ap, sym, ◌∙◌}
use mathlib.Core.List.{List}
use Prim.Native.Nat.{ℕ, ◌<◌, ◌^◌}
use native.Mathlib.Omega.{arith}
use lib.IntN.{ℤ, pos}
use Rattle.specification.specs.Results.{Result, Test, refused, given, ◌>>◌}
use Rattle.specification.specs.OpenLogs.{open_call, add_call, look_call, close_call}
use Rattle.specification.specs.Returns.{returned, close_returned}
use Rattle.theory.specs.Records.Positions.{Bytes}
use Rattle.std.specs.Prelude.{Ok, Err}
use Rattle.std.specs.Prelude as Std
use Rattle.refusal.specs.declared.Refusal.{Refusal}
use Rattle.refusal.specs.Numbers.{number_of}
use Rattle.open_log.specs.Answers.{answered_of, closed_of}
use Rattle.open_log.proofs.Lengths.{open-length, add_length, look-length}

module _ (a : Std.Result ℕ Refusal) (after : List ℕ) (n : ℕ) (g : answered_of a ≡ given n) where
  -- the number given by a call
  call_given : (call : Result ℕ × List ℕ) → (answered_of a, after) ≡ call → call.0 ≡ given n
  call_given call contract = ap (λ (x : Result ℕ × List ℕ). x.0) (sym contract) ∙ g

  -- a length fits: of an opening,
  pub open-fits : (table form state : List ℕ) → Bytes form → (answered_of a, after) ≡ open_call table form state → n < 2 ^ 63
  open-fits table form state bs contract = omega (arith, open-length table form state n bs (call_given (open_call table form state) contract))

  -- of an adding,
  pub add-fits : (state step next : List ℕ) → Bytes state → (answered_of a, after) ≡ add_call state step next → n < 2 ^ 63
  add-fits state step next bs contract = omega (arith, add_length state step next n bs (call_given (add_call state step next) contract))

  -- and of a look
  pub look-fits : (state out : List ℕ) → Bytes state → (answered_of a, after) ≡ look_call state out → n < 2 ^ 63
  look-fits state out bs contract = omega (arith, look-length state out n bs (call_given (look_call state out) contract))

-- ════ closing

module _ (state form : List ℕ) where
  pub close-accepted : (u : Unit {0}) → closed_of (Ok u) ≡ close_call state form → pos 0 ≡ close_returned state form
  unfolding close_returned returned
  close-accepted u contract = ap (λ (t : Test). returned (t >> given 0)) contract

  pub close_refused : (e : Refusal) → closed_of (Err e) ≡ close_call state form → (n : ℕ) → n ≡ number_of e → (r : ℤ) → r ≡ returned (refused n) → r ≡ close_returned state form
  unfolding close_returned returned
  close_refused e contract n q r p = p ∙ ap (λ (k : ℕ). returned (refused k)) q ∙ ap (λ (t : Test). returned (t >> given 0)) contract
