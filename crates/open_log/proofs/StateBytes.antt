-- The bytes of a state: the tests of reading one, in their order, and the parts written one behind the other. Assumes nothing.
use mathlib.Core.Path.{◌≡◌, refl, ap, sym, ◌∙◌}
use mathlib.Core.Bool.{Bool, true, false, true≢false}
use mathlib.Core.List.{List, [], ◌∷◌, ◌++◌}
use Prim.Native.Nat.{ℕ, ◌+◌, ◌-◌, ◌≤◌, ◌<◌}
use native.Mathlib.Omega.{arith}
use lib.Dec.{T}
use lib.ListN.{length, get_or, take, drop, set, length-take, length-drop, length-set}
use lib.Seq.{append_snoc, take_all, length-take-le}
use borrow.Author.Tests.{le-leb, lt-leb}
use Rattle.specification.specs.Results.{Result, Test, refused, given, require}
use Rattle.specification.specs.Letters.{good_table, test_table}
use Rattle.specification.specs.Records.{write_form, write_into, take_form}
use Rattle.specification.specs.OpenLogs.{write_state, state_table, state_count, state_form, else_shape, read_state}
use Rattle.specification.specs.OpenLogs as O
use Rattle.theory.specs.Tests.{is_true, refused≢given}
use Rattle.theory.specs.Shape.Letters.{good_short, table_good_lem}
use Rattle.terms.specs.Abstraction.{form_of}
use Rattle.terms.specs.declared.types.Form.{Form}
use Rattle.terms.specs.Valid.{Gives}
use Rattle.record_writing.specs.Written.{Written}
use Rattle.forms.specs.Written.{FormWritten}
use Rattle.record_writing.proofs.Writes.{written_store, written_then}
use Rattle.logs.proofs.WrittenLogs.{part_written}
use Rattle.forms.proofs.Forms.{front_is}
use Rattle.open_log.specs.declared.state.State.{State}
use Rattle.std.specs.Prelude.{Ok, Err, is_err}
use Rattle.std.specs.Prelude as Std
use Rattle.refusal.specs.declared.Refusal.{Refusal}
use Rattle.refusal.specs.declared.Refusal.TheVariants.{WrongShape}
use Rattle.refusal.specs.Numbers.{number_of}
use Rattle.refusal.specs.Tests.{answer_of, test_of}
use Rattle.open_log.specs.States.{state_of, state_read_of, StateReadAs, StateWritten}

-- a refusal, whatever refused
pub not_read : (x : Result O.State) → x ≡ refused 11 → StateReadAs x (Err WrongShape)
unfolding state_read_of
not_read x e = record { is = sym e; valid = tt }

-- a table that fails its test is not good
table-bad : (table : List ℕ) (r : Std.Result (Unit {0}) Refusal) → test_of r ≡ test_table table → is_err r ≡ true → good_table table ≡ false
unfolding test_table
table-bad table (Ok u) e h = absurd (true≢false (sym h))
table-bad table (Err w) e h = go (good_table table) e
  where
    go : (b : Bool) → ◌≡◌ {A = Test} (refused (number_of w)) (require b 1) → b ≡ false
    go true e = absurd (refused≢given e)
    go false e = refl

-- one that passes it is
table_good : (table : List ℕ) (r : Std.Result (Unit {0}) Refusal) → test_of r ≡ test_table table → is_err r ≡ false → T (good_table table)
table_good table (Ok u) e h = table_good_lem table (sym e)
table_good table (Err w) e h = absurd (true≢false h)

module _ (s : List ℕ) where
  -- bytes are missing
  pub too_short : length s < get_or s 0 0 + 2 → read_state s ≡ refused 11
  unfolding read_state
  too_short l = rw (lt-leb (get_or s 0 0 + 2) (length s) l)

  -- no byte at all
  pub short_of_none : length s < 1 → length s < get_or s 0 0 + 2
  short_of_none l = omega arith

  module _ (l : get_or s 0 0 + 2 ≤ length s) where
    -- the table as a part of the bytes
    abbrev pub part : List ℕ
    part = take (get_or s 0 0 + 1 - 1) (drop 1 s)

    -- the form's record as a part of the bytes
    abbrev pub rest : List ℕ
    rest = take (length s - (get_or s 0 0 + 2)) (drop (get_or s 0 0 + 2) s)

    pub part_is : part ≡ state_table s
    unfolding state_table
    part_is = let e : get_or s 0 0 + 1 - 1 ≡ get_or s 0 0 = omega arith in ap (λ (n : ℕ). take n (drop 1 s)) e

    pub rest-is : rest ≡ state_form s
    unfolding state_form
    rest-is = take_all (length s - (get_or s 0 0 + 2)) (drop (get_or s 0 0 + 2) s) (simp length-drop (omega arith))

    module _ (k : Std.Result (Unit {0}) Refusal) (tested : test_of k ≡ test_table part) where
      -- the table is bad
      pub bad-table : is_err k ≡ true → read_state s ≡ refused 11
      unfolding read_state
      bad-table z = simp (le-leb (get_or s 0 0 + 2) (length s) l, ap good_table (sym part_is) ∙ table-bad part k tested z)

      module _ (z : is_err k ≡ false) where
        good : T (good_table part)
        good = table_good part k tested z

        -- it is no longer than a table may be
        pub part_short : length part ≤ 24
        part_short = good_short part good

        good_is : good_table (state_table s) ≡ true
        good_is = ap good_table (sym part_is) ∙ is_true (good_table part) good

        -- the count is too great
        pub too_many_taken : 64 < get_or s (get_or s 0 0 + 1) 0 → read_state s ≡ refused 11
        unfolding read_state state_count
        too_many_taken h = simp (le-leb (get_or s 0 0 + 2) (length s) l, good_is, lt-leb (get_or s (get_or s 0 0 + 1) 0) 64 h)

        module _ (few : get_or s (get_or s 0 0 + 1) 0 ≤ 64) where
          form_is : (w : Std.Result Form Refusal) → Gives (take_form part rest) w → answer_of form_of w ≡ take_form (state_table s) (state_form s)
          form_is w taken = taken.is ∙ λ i. take_form (part_is i) (rest-is i)

          -- the form is not taken
          pub bad-form : (e : Refusal) → Gives (take_form part rest) (Err e) → read_state s ≡ refused 11
          unfolding read_state state_count else_shape
          bad-form e taken =
              let p : take_form (state_table s) (state_form s) ≡ refused (number_of e) = sym (form_is (Err e) taken) in
              simp (le-leb (get_or s 0 0 + 2) (length s) l, good_is, le-leb (get_or s (get_or s 0 0 + 1) 0) 64 few, p)

          -- a state is read
          pub state-is : (f : Form) → Gives (take_form part rest) (Ok f) → (letters : List ℕ) → take (length part) letters ≡ part
              → StateReadAs (read_state s) (Ok (record { letters = get_or s 0 0; table = letters; count = get_or s (get_or s 0 0 + 1) 0; form = f }))
          unfolding read_state state_count else_shape state_read_of state_of
          state-is f taken letters copied =
              let e : take_form (state_table s) (state_form s) ≡ given (form_of f) = sym (form_is (Ok f) taken) in
              let long : length part ≡ get_or s 0 0 = simp (length-take, length-drop) (omega arith) in
              let table : take (get_or s 0 0) letters ≡ state_table s = ap (λ (n : ℕ). take n letters) (sym long) ∙ copied ∙ part_is in
              record {
                is = simp (le-leb (get_or s 0 0 + 2) (length s) l, good_is, le-leb (get_or s (get_or s 0 0 + 1) 0) 64 few, e, table);
                valid = record { few = omega (arith, part_short, long); form = taken.valid };
              }

-- ════ writing

-- the table's length, the table, the count and the form's record, one behind the other
pub state_written_lem : (before : State) (l o p : List ℕ) (a k : ℕ) → before.letters ≤ length before.table → 0 < length l
    → Written (set l 0 before.letters) o 1 a (take before.letters before.table) → a < length o
    → FormWritten (take (length (set o a before.count) - (a + 1)) (drop (a + 1) (set o a before.count))) p k (form_of before.form)
    → StateWritten l (take (a + 1) (set o a before.count) ++ (p ++ drop (length (set o a before.count) - (a + 1)) (drop (a + 1) (set o a before.count)))) (a + 1 + k) (state_of before)
unfolding state_of write_state
state_written_lem before l o p a k few there w inside f =
    let n = before.letters in
    let c = before.count in
    let t = take n before.table in
    let v = write_form (form_of before.form) in
    let q = set o a c in
    let r = take (a + 1) q ++ (p ++ drop (length q - (a + 1)) (drop (a + 1) q)) in
    let long : length t ≡ n = length-take-le n before.table few in
    let kept : length q ≡ length o = length-set o a c in
    let w₁ = written_then l (set l 0 n) o 0 1 a (n ∷ []) t (omega arith) (written_store l 0 n there) w in
    let w₂ = written_then l o q 0 a (a + 1) (n ∷ t) (c ∷ []) (omega arith) w₁ (written_store o a c inside) in
    let w₃ = written_then l q r 0 (a + 1) (a + 1 + k) ((n ∷ t) ++ c ∷ []) v (omega arith) w₂ (part_written q p (a + 1) k v (omega (arith, kept)) f.ends f.bytes) in
    let is : ((n ∷ t) ++ c ∷ []) ++ v ≡ (length t ∷ t) ++ c ∷ v = append_snoc (n ∷ t) c v ∙ ap (λ (m : ℕ). (m ∷ t) ++ c ∷ v) (sym long) in
    let size : a + 1 + k ≡ length (((n ∷ t) ++ c ∷ []) ++ v) = omega (arith, w₃.ends) in
    record {
      ends = size ∙ ap length is;
      bytes = w₃.bytes ∙ front_is l (((n ∷ t) ++ c ∷ []) ++ v) ∙ ap (λ (x : List ℕ). write_into x l) is;
    }
