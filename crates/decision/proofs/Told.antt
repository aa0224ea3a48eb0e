-- What the decision says of two forms that it takes: it holds exactly where they are equal under every assignment of integers,
-- and where it differs the bytes handed over are an assignment in range that tells them apart; the value call, given those bytes,
-- gives different numbers for the two. Whatever is lent, the bytes handed over are the same. Assumes nothing.
use mathlib.Core.Path.{◌≡◌, refl, sym, ◌∙◌, subst}
use mathlib.Core.Bool.{◌&&◌}
use mathlib.Core.List.{List}
use Prim.Native.Nat.{ℕ, ◌*◌, ◌≤◌}
use native.Mathlib.Omega.{arith}
use lib.Dec.{T, leb, eqb, leb→le}
use lib.ListN.{length, take}
use Rattle.specification.specs.Results.{Result, refused, given}
use Rattle.specification.specs.Lists.{each}
use Rattle.specification.specs.Letters.{test_table}
use Rattle.specification.specs.Values.{Vec}
use Rattle.specification.specs.Terms.{Form}
use Rattle.specification.specs.Records.{take_both}
use Rattle.specification.specs.Evaluation.{value, assignment}
use Rattle.specification.specs.Decision.{take_two_forms, decide_tested, letter_in_range, DecidedBy, Decided, buffer_bytes, work_bytes}
use Rattle.specification.specs.Decision as D
use Rattle.specification.specs.Promises.{ValuesDiffer, DecisionPromise}
use Rattle.theory.specs.Tests.{and_split, given_same, required, tested, past, into}
use Rattle.theory.specs.Shape.Letters.{table_good_lem, good_short, terms_known}
use Rattle.theory.specs.Records.Taken.{FormTaken, both_taken}
use Rattle.theory.specs.Values.Assignments.{value_given}
use Rattle.theory.specs.Values.Firsts.{differs-alike}

-- equal forms are said to hold
equal-said : (table : List ℕ) (f g : Form) (buffer work buffer' work' : List ℕ) → ((σ : ℕ → Vec) → value σ f ≡ value σ g)
    → (a : D.Decision) → DecidedBy (given (f, g)) table buffer work a buffer' work' → a ≡ D.holds
unfolding DecidedBy
equal-said table f g buffer work buffer' work' h D.holds w = refl
equal-said table f g buffer work buffer' work' h D.differs w = absurd (w.unequal (h (assignment buffer')))
equal-said table f g buffer work buffer' work' h (D.undecided n) w = absurd w

module _ (table s t buffer work : List ℕ) (answer : D.Decision) (buffer' work' : List ℕ) (f g : Form) (taken : decide_tested table s t buffer work ≡ given (f, g))
    (contract : Decided table s t buffer work answer buffer' work') where
  -- by the answer
  said : DecidedBy (given (f, g)) table buffer work answer buffer' work'
  unfolding Decided
  said = subst (λ r. DecidedBy r table buffer work answer buffer' work') taken contract

  -- it holds only where the forms are equal
  pub holds-equal : answer ≡ D.holds → (σ : ℕ → Vec) → value σ f ≡ value σ g
  unfolding DecidedBy
  holds-equal e = (subst (λ (a : D.Decision). DecidedBy (given (f, g)) table buffer work a buffer' work') e said).equal

  -- and wherever they are
  pub equal-holds : ((σ : ℕ → Vec) → value σ f ≡ value σ g) → answer ≡ D.holds
  equal-holds h = equal-said table f g buffer work buffer' work' h answer said

  -- where it differs, the assignment is in range, and the forms differ under it
  pub differs-apart : answer ≡ D.differs → T (each (length table) (letter_in_range table buffer')) × ¬ (value (assignment buffer') f ≡ value (assignment buffer') g)
  unfolding DecidedBy
  differs-apart e = let w = subst (λ (a : D.Decision). DecidedBy (given (f, g)) table buffer work a buffer' work') e said in (w.in_range, w.unequal)

-- ════ at the calls

-- the decision took the table, the buffer and the two forms
record BothTold (table s t buffer : List ℕ) (forms : Form × Form) : Type 0 where
  table_tested : test_table table ≡ given tt
  room : buffer_bytes ≤ length buffer
  first : FormTaken table s forms.0
  second : FormTaken table t forms.1

both_told : (table s t buffer work : List ℕ) (forms : Form × Form) → decide_tested table s t buffer work ≡ given forms → BothTold table s t buffer forms
unfolding decide_tested take_two_forms
both_told table s t buffer work forms e =
    let first = tested (test_table table) _ forms e in
    past (leb buffer_bytes (length buffer) && leb work_bytes (length work)) 2 _ forms first.1 (λ rooms e₁.
    into (take_both table s t) _ forms e₁ (λ p both e₂.
    let kinds = required (eqb p.0.kind p.1.kind) 6 (given p) forms e₂ in
    let taken = both_taken table s t p both in
    subst (BothTold table s t buffer) (given_same kinds.1)
    (record {
      table_tested = first.0;
      room = leb→le buffer_bytes (length buffer) (and_split (leb buffer_bytes (length buffer)) (leb work_bytes (length work)) rooms).0;
      first = taken.0;
      second = taken.1;
    })))

-- where the decision says that two forms differ, the value call on the bytes handed over gives different numbers
pub differs-values : (table s t buffer work : List ℕ) (answer : D.Decision) (buffer' work' : List ℕ) → Decided table s t buffer work answer buffer' work'
    → answer ≡ D.differs → ValuesDiffer table s t (take (3 * length table) buffer')
unfolding Decided DecidedBy
differs-values table s t buffer work answer buffer' work' contract e =
    go (decide_tested table s t buffer work) refl (subst (λ (a : D.Decision). DecidedBy (decide_tested table s t buffer work) table buffer work a buffer' work') e contract)
  where
    go : (r : Result (Form × Form)) → decide_tested table s t buffer work ≡ r → DecidedBy r table buffer work D.differs buffer' work' → ValuesDiffer table s t (take (3 * length table) buffer')
    go (refused n) q w = absurd w
    go (given forms) q w =
        let k = both_told table s t buffer work forms q in
        let long : 3 * length table ≤ length buffer' = omega (arith, w.same_length, k.room, good_short table (table_good_lem table k.table_tested)) in
        record {
          first = value (assignment buffer') forms.0;
          second = value (assignment buffer') forms.1;
          first_given = value_given table buffer' long w.in_range s forms.0 k.table_tested k.first.is_taken k.first.letters_tested;
          second_given = value_given table buffer' long w.in_range t forms.1 k.table_tested k.second.is_taken k.second.letters_tested;
          different = w.unequal;
        }

-- K2: whatever is lent, two calls on one table and two forms that differ hand over the same bytes
pub differs-once : (table s t b w b' w' c x c' x' : List ℕ) → Decided table s t b w D.differs b' w' → Decided table s t c x D.differs c' x'
    → take (3 * length table) b' ≡ take (3 * length table) c'
unfolding Decided DecidedBy
differs-once table s t b w b' w' c x c' x' = go (decide_tested table s t b w) refl (decide_tested table s t c x) refl
  where
    go : (p : Result (Form × Form)) → decide_tested table s t b w ≡ p → (q : Result (Form × Form)) → decide_tested table s t c x ≡ q
        → DecidedBy p table b w D.differs b' w' → DecidedBy q table c x D.differs c' x' → take (3 * length table) b' ≡ take (3 * length table) c'
    go (refused n) e q d v u = absurd v
    go (given f) e (refused n) d v u = absurd u
    go (given f) e (given g) d v u =
        let k = both_told table s t b w f e in
        let l = both_told table s t c x g d in
        let good = table_good_lem table k.table_tested in
        let short = good_short table good in
        let first : g.0 ≡ f.0 = given_same (sym l.first.is_taken ∙ k.first.is_taken) in
        let second : g.1 ≡ f.1 = given_same (sym l.second.is_taken ∙ k.second.is_taken) in
        differs-alike table f.0 f.1 good
        (terms_known table f.0.terms k.first.letters_tested) (terms_known table f.1.terms k.second.letters_tested)
        b c b' c' (omega (arith, v.same_length, k.room, short)) (omega (arith, u.same_length, l.room, short)) v
        (subst (λ (y : Form). D.Differs table f.0 y c c') second (subst (λ (y : Form). D.Differs table y g.1 c c') first u))

-- what is promised of the answer
pub decision_promise : (table s t buffer work : List ℕ) (answer : D.Decision) (buffer' work' : List ℕ) → Decided table s t buffer work answer buffer' work'
    → DecisionPromise table s t buffer work answer buffer'
decision_promise table s t buffer work answer buffer' work' contract = record {
  holds_only = λ f g taken. holds-equal table s t buffer work answer buffer' work' f g taken contract;
  holds_always = λ f g taken. equal-holds table s t buffer work answer buffer' work' f g taken contract;
  tells_apart = differs-values table s t buffer work answer buffer' work' contract;
  same_bytes = λ e b w b' w' other.
      differs-once table s t b w b' w' buffer work buffer' work' other (subst (λ (a : D.Decision). Decided table s t buffer work a buffer' work') e contract);
}
