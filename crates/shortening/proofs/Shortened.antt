-- What demand 3 says of the log of a derivation that saves terms and ends in a shortest form, written in front of the memory lent. Assumes nothing.
use mathlib.Core.Path.{◌≡◌, refl, ap, sym, ◌∙◌}
use mathlib.Core.List.{List, ◌∷◌, ◌++◌, append_assoc}
use Prim.Native.Nat.{ℕ, ◌+◌, ◌≤◌}
use native.Mathlib.Omega.{arith}
use lib.ListN.{length, take, drop, length-append, length-drop}
use lib.Seq.{take_at, drop_at}
use Rattle.specification.specs.Results.{given}
use Rattle.specification.specs.Terms.{Form}
use Rattle.specification.specs.Records.{write_form, write_into, take_form}
use Rattle.specification.specs.Rules.{Step}
use Rattle.specification.specs.Shortening.{Shortest, ShortenedTo}
use Rattle.specification.specs.Logs.{write_steps, write_log}
use Rattle.theory.specs.Records.Positions.{Bytes}
use Rattle.theory.specs.Records.Forms.{form-read_back}
use Rattle.theory.proofs.Records.Logs.{last_start_of}
use Rattle.theory.proofs.Replay.Accepted.{Derives}
use Rattle.forms.proofs.RoundTrip.{taken_written}
use Rattle.logs.specs.Steps.{found_of}
use Rattle.checker.proofs.AcceptedLogs.{answers-derivation}

module _ (first : Form) (steps : List Step) (last : Form) where
  -- the log begins with the first form
  log-begins : (rest : List ℕ) → take (length (write_form first)) (write_log first steps last ++ rest) ≡ write_form first
  unfolding write_log
  log-begins rest =
      let u = write_form first in
      let v = length steps ∷ write_steps steps in
      let w = write_form last in
      let e : u ++ v ++ w ++ rest ≡ u ++ (v ++ (w ++ rest)) = append_assoc (u ++ v) w rest ∙ append_assoc u v (w ++ rest) in
      rw e (take_at u (v ++ (w ++ rest)) (length u) refl)

  -- and ends with the last
  log-ends : drop (last_start_of first steps) (write_log first steps last) ≡ write_form last
  unfolding write_log
  log-ends =
      let u = write_form first in
      let v = length steps ∷ write_steps steps in
      drop_at (u ++ v) (write_form last) (last_start_of first steps) (omega (arith, length-append u v))

-- the log of a derivation, in front of the memory lent, is what shortening owes; that it is accepted is the checker's promise (`answers-derivation`)
pub shortened_to : (table form out out' : List ℕ) (first : Form) (steps : List Step) (last : Form) (size : ℕ) → Bytes form → take_form table form ≡ given first
    → Derives table first steps last → size ≡ length (write_log first steps last) → out' ≡ write_into (write_log first steps last) out → size ≤ length out
    → length steps + length last.terms ≤ length first.terms → Shortest table last → ShortenedTo table form first out size (length steps) out'
unfolding write_into found_of
shortened_to table form out out' first steps last size bs taken d size_is out-is fits saves shortest =
    let log = write_log first steps last in
    let rest = drop (length log) out in
    let e : write_form first ≡ form = taken_written table form first bs taken in
    let whole : take size out' ≡ log = rw out-is (take_at log rest size (sym size_is)) in
    record {
      last_start = last_start_of first steps;
      last = last;
      fits = fits;
      begins = rw (out-is, ← e) (log-begins first steps last rest);
      is_accepted = rw (whole, ← e) (sym (answers-derivation table first steps last d));
      ends = rw (whole, log-ends first steps last) (form-read_back last d.in_shape.last_form);
      saves = saves;
      shortest = shortest;
      same_length = rw out-is (omega (arith, length-append log rest, length-drop (length log) out));
      rest_stands = rw out-is (drop_at log rest size (sym size_is) ∙ ap (λ (n : ℕ). drop n out) (sym size_is));
    }
