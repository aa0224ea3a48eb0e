-- Deciding at an open log is the decision of the form's record in the state against the other form. Assumes nothing.
use Rattle.std.specs.Prelude.{◌≡◌, refl, ◌&&◌, List, ℕ, length, leb, eqb}
use Rattle.std.proofs.Common.{ap, sym, ◌∙◌, subst}
use Rattle.specification.specs.Results.{Result, Test, refused, given, ◌>>=◌, ◌>>◌, require}
use Rattle.specification.specs.Letters.{good_table, test_table}
use Rattle.specification.specs.Terms.{Form}
use Rattle.specification.specs.Records.{read_form, test_terms, take_form, take_both}
use Rattle.specification.specs.Decision.{buffer_bytes, work_bytes, Decision, take_two_forms, decide_tested, DecidedBy, Decided}
use Rattle.specification.specs.OpenLogs.{State, state_table, state_form, read_state, decide_open_tested, DecidedOpen}
use Rattle.theory.specs.Tests.{is_true, given_same, into, tested}
use Rattle.theory.proofs.OpenLogs.States.{state_read}

-- the second of two forms, taken behind the first or alone
letters_first : {A : Type 0} (table : List ℕ) (f : Form) (r : Result Form) (k : Form × Form → Result A)
    → ((r >>= λ (g : Form). test_terms table g.terms >> given (f, g)) >>= k) ≡ ((r >>= λ (g : Form). test_terms table g.terms >> given g) >>= λ (g : Form). k (f, g))
letters_first table f (refused n) k = refl
letters_first table f (given g) k = go (test_terms table g.terms)
  where
    go : (t : Test) → ((t >> given (f, g)) >>= k) ≡ ((t >> given g) >>= λ (g : Form). k (f, g))
    go (refused n) = refl
    go (given u) = refl

-- the tests of the call are those of the decision, once the state is read
pub open_tested_lem : (s form buffer work : List ℕ) (state : State) → read_state s ≡ given state
    → decide_tested (state_table s) (state_form s) form buffer work ≡ decide_open_tested s form buffer work
unfolding decide_tested decide_open_tested take_two_forms take_form take_both test_table
open_tested_lem s form buffer work state e =
    let r = state_read s state e in
    let table : state.table ≡ state_table s = ap (λ (t : State). t.table) (sym r.is) in
    into (read_form (state_form s)) _ state.form r.form λ f e₁ e₂.
    let w = tested (test_terms (state_table s) f.terms) (given f) state.form e₂ in
    let f-is : f ≡ state.form = given_same w.1 in
    let known : test_terms (state_table s) state.form.terms ≡ given tt = ap (λ (g : Form). test_terms (state_table s) g.terms) (sym f-is) ∙ w.0 in
    simp (is_true (good_table (state_table s)) r.table, e, e₁, table, f-is, known)
    (ap (λ t. require (leb buffer_bytes (length buffer) && leb work_bytes (length work)) 2 >> t)
    (letters_first (state_table s) state.form (read_form form) (λ (x : Form × Form). require (eqb x.0.kind x.1.kind) 6 >> given (x.0, x.1))))

-- so what the decision answers of the form's record in the state and the other form is what deciding at the open log is to answer
pub open-decided : (s form buffer work : List ℕ) (answer : Decision) (buffer' work' : List ℕ) (state : State) → read_state s ≡ given state
    → Decided (state_table s) (state_form s) form buffer work answer buffer' work' → DecidedOpen s form buffer work answer buffer' work'
unfolding Decided DecidedOpen
open-decided s form buffer work answer buffer' work' state e d =
    subst (λ (t : Result (Form × Form)). DecidedBy t (state_table s) buffer work answer buffer' work') (open_tested_lem s form buffer work state e) d
