-- Demand 3 at the calls: what the checker and the decision say of a log that shortening wrote, and of any log that is accepted. Assumes nothing.
use mathlib.Core.Path.{◌≡◌, refl, sym, ap, subst, ◌∙◌}
use mathlib.Core.Bool.{Bool, true, false, true≢false}
use mathlib.Core.List.{List}
use Prim.Native.Nat.{ℕ, ◌<◌, ◌≤◌}
use native.Mathlib.Omega.{arith}
use borrow.Author.Tests.{le-leb, lt-leb}
use lib.Dec.{T}
use lib.ListN.{length, take, drop}
use Rattle.specification.specs.Results.{Result, refused, given}
use Rattle.specification.specs.Letters.{test_table}
use Rattle.specification.specs.Terms.{Form}
use Rattle.specification.specs.Logs.{accepted, check_call}
use Rattle.specification.specs.Decision.{buffer_bytes, work_bytes, holds, Decided}
use Rattle.specification.specs.Decision as D
use Rattle.specification.specs.Shortening.{shortened, unshortened, shorten_tested, ShortenedBy, Shortened}
use Rattle.specification.specs.Shortening as H
use Rattle.theory.specs.Records.Positions.{Bytes}
use Rattle.std.specs.Prelude.{Ok, Err, is_ok}
use Rattle.std.specs.Prelude as Std
use Rattle.refusal.specs.declared.Refusal.{Refusal}
use Rattle.refusal.specs.declared.Refusal.TheVariants.{NoRoom}
use Rattle.refusal.specs.Numbers.{number_of}
use Rattle.refusal.specs.Tests.{test_of}
use Rattle.logs.specs.declared.steps.RefusedAt.{RefusedAt}
use Rattle.checker.specs.declared.Accepted.{Accepted}
use Rattle.checker.specs.Answers.{checked_of}
use Rattle.checker.proofs.AcceptedLogs.{accepts-exactly, accepted-log-holds}
use Rattle.decision.specs.declared.Decision.{Decision}
use Rattle.decision.specs.declared.Decision.TheVariants as decided
use Rattle.decision.specs.Answers.{decision_of}
use Rattle.shortening.specs.declared.Written.{Written}
use Rattle.shortening.specs.Answers.{shortening_of}
use Rattle.specification.specs.Auditing.{Verdict, agreed, unaudited, audit_tested, AuditedBy, Audited}
use Rattle.audit.specs.Auditing.{Said, LogAudited}

-- no answer is both
apart : {e : RefusedAt} {v : Accepted} → ◌≡◌ {A = Std.Result Accepted RefusedAt} (Err e) (Ok v) → ⊥
apart p = true≢false (sym (ap is_ok p))

-- an answer accepted is that one
accepted-places : {v w : Accepted} → ◌≡◌ {A = Std.Result Accepted RefusedAt} (Ok v) (Ok w) → (v.first_end ≡ w.first_end) × (v.last_start ≡ w.last_start) × (v.steps ≡ w.steps)
accepted-places {v} {w} e = let q : v ≡ w = cc in (ap (λ (x : Accepted). x.first_end) q, ap (λ (x : Accepted). x.last_start) q, ap (λ (x : Accepted). x.steps) q)

module _ (table log : List ℕ) (bytes : Bytes log) (steps : ℕ) (buffer work : List ℕ) (c : Std.Result Accepted RefusedAt) (called : checked_of c ≡ check_call table log) where
  -- a log that the checker refuses is not accepted
  pub refused_audit : (w : RefusedAt) (buffer' work' : List ℕ) → c ≡ Err w → LogAudited table log steps buffer work false buffer' work'
  refused_audit w buffer' work' e = record { found = λ a b q hb hw. absurd (no a b q); decided = λ a b q hb hw. absurd (no a b q); only = λ q. absurd (subst T (sym q) tt) }
    where
      no : (a b : ℕ) → check_call table log ≡ accepted a b steps → ⊥
      no a b q = apart (sym e ∙ (accepts-exactly table log c called a b steps).1 q)

  module _ (v : Accepted) (e : c ≡ Ok v) where
    -- nor is one with other steps, with these
    pub other-steps : (buffer' work' : List ℕ) → (v.steps ≡ steps → ⊥) → LogAudited table log steps buffer work false buffer' work'
    other-steps buffer' work' h = record { found = λ a' b' q hb hw. absurd (no a' b' q); decided = λ a' b' q hb hw. absurd (no a' b' q); only = λ q. absurd (subst T (sym q) tt) }
      where
        no : (a' b' : ℕ) → check_call table log ≡ accepted a' b' steps → ⊥
        no a' b' q = h (accepted-places (sym e ∙ (accepts-exactly table log c called a' b' steps).1 q)).2

    -- the ends of an accepted log hold
    pub ends-audited : (d : Decision) (r : Bool) (buffer' work' : List ℕ) → v.steps ≡ steps → Said d r → Decided table (take v.first_end log) (drop v.last_start log) buffer work (decision_of d) buffer' work'
        → LogAudited table log steps buffer work r buffer' work'
    ends-audited d r buffer' work' same said decided = record {
      found = λ a' b' q hb hw. said.is (holding hb hw);
      decided = λ a' b' q hb hw.
          let p = accepted-places (sym e ∙ (accepts-exactly table log c called a' b' steps).1 q) in
          subst (λ (x : ℕ). Decided table (take x log) (drop b' log) buffer work holds buffer' work') p.0
          (subst (λ (y : ℕ). Decided table (take v.first_end log) (drop y log) buffer work holds buffer' work') p.1
          (subst (λ (o : D.Decision). Decided table (take v.first_end log) (drop v.last_start log) buffer work o buffer' work') (holding hb hw) decided));
      only = λ q. record {
        first_end = v.first_end;
        last_start = v.last_start;
        is_accepted = (accepts-exactly table log c called v.first_end v.last_start v.steps).0 e ∙ ap (accepted v.first_end v.last_start) same;
        decided = subst (λ (o : D.Decision). Decided table (take v.first_end log) (drop v.last_start log) buffer work o buffer' work') (said.only q) decided;
      };
    }
      where
        holding : buffer_bytes ≤ length buffer → work_bytes ≤ length work → decision_of d ≡ holds
        holding hb hw = accepted-log-holds table log c called bytes v.first_end v.last_start v.steps e buffer work buffer' work' (decision_of d) hb hw decided

-- the same ends in other words
pub decided_as : (table first last first' last' buffer work buffer' work' : List ℕ) (answer : D.Decision) → first ≡ first' → last ≡ last'
    → Decided table first last buffer work answer buffer' work' → Decided table first' last' buffer work answer buffer' work'
decided_as table first last first' last' buffer work buffer' work' answer e q w =
    subst (λ (l : List ℕ). Decided table first' l buffer work answer buffer' work') q (subst (λ (l : List ℕ). Decided table l last buffer work answer buffer' work') e w)

-- ════ the decision's answer

pub holds-said : (d : Decision) → d ≡ decided.Holds → Said d true
unfolding decision_of
holds-said d e = record { is = λ q. refl; only = λ q. ap decision_of e }

pub other-said : (d : Decision) → (decision_of d ≡ holds → ⊥) → Said d false
other-said d h = record { is = λ q. absurd (h q); only = λ q. absurd (subst T (sym q) tt) }

pub differs-not : (d : Decision) → d ≡ decided.Differs → decision_of d ≡ holds → ⊥
unfolding decision_of
differs-not d e q = let z : D.differs ≡ holds = sym (ap decision_of e) ∙ q in unlike z
  where
    unlike : D.differs ≡ holds → ⊥
    unlike z = let o : ◌≡◌ {A = ℕ} 0 1 = cc in omega arith

pub refused_not : (d : Decision) (w : Refusal) → d ≡ decided.Refused w → decision_of d ≡ holds → ⊥
unfolding decision_of
refused_not d w e q = let z : D.undecided (number_of w) ≡ holds = sym (ap decision_of e) ∙ q in unlike z
  where
    unlike : D.undecided (number_of w) ≡ holds → ⊥
    unlike z = let o : ◌≡◌ {A = ℕ} 0 1 = cc in omega arith

-- ════ the call

module _ (table form out buffer work : List ℕ) where
  by_tests : (t : Result Form) (answer : Verdict) (out' buffer' work' : List ℕ) → audit_tested table form out buffer work ≡ t
      → AuditedBy t table form out buffer work answer out' buffer' work' → Audited table form out buffer work answer out' buffer' work'
  unfolding Audited
  by_tests t answer out' buffer' work' e w = subst (λ (t : Result Form). AuditedBy t table form out buffer work answer out' buffer' work') (sym e) w

  refused_so : (e : Refusal) → audit_tested table form out buffer work ≡ refused (number_of e) → Audited table form out buffer work (unaudited (number_of e)) out buffer work
  unfolding AuditedBy
  refused_so e h = by_tests (refused (number_of e)) (unaudited (number_of e)) out buffer work h (record { is = refl; out_stands = refl; buffer_stands = refl; work_stands = refl })

  -- 1
  pub audit-table : (e : Refusal) → test_of (Err e) ≡ test_table table → Audited table form out buffer work (unaudited (number_of e)) out buffer work
  unfolding audit_tested
  audit-table e h = refused_so e (rw (← h))

  module _ (u : Unit {0}) (et : test_of (Ok u) ≡ test_table table) where
    -- 2
    pub buffer_short : length buffer < buffer_bytes → Audited table form out buffer work (unaudited 2) out buffer work
    unfolding audit_tested
    buffer_short h = refused_so NoRoom (rw (← et, lt-leb buffer_bytes (length buffer) h))

    module _ (lb : buffer_bytes ≤ length buffer) where
      pub work_short : length work < work_bytes → Audited table form out buffer work (unaudited 2) out buffer work
      unfolding audit_tested
      work_short h = refused_so NoRoom (rw (← et, le-leb buffer_bytes (length buffer) lb, lt-leb work_bytes (length work) h))

      module _ (lw : work_bytes ≤ length work) (s : Std.Result Written Refusal) (out' : List ℕ) (w : Shortened table form out (shortening_of s) out') where
        tests-are : audit_tested table form out buffer work ≡ shorten_tested table form out
        unfolding audit_tested
        tests-are = rw (← et, le-leb buffer_bytes (length buffer) lb, le-leb work_bytes (length work) lw)

        said : (answer : H.Shortening) → shortening_of s ≡ answer → ShortenedBy (shorten_tested table form out) table form out answer out'
        unfolding Shortened
        said answer e = subst (λ (a : H.Shortening). ShortenedBy (shorten_tested table form out) table form out a out') e w

        -- shortening's own refusals
        pub audit_refused : (y : Refusal) → s ≡ Err y → Audited table form out buffer work (unaudited (number_of y)) out' buffer work
        unfolding shortening_of ShortenedBy AuditedBy
        audit_refused y e = by_tests (shorten_tested table form out) (unaudited (number_of y)) out' buffer work tests-are (go (shorten_tested table form out) (said (unshortened (number_of y)) (ap shortening_of e)))
          where
            go : (t : Result Form) → ShortenedBy t table form out (unshortened (number_of y)) out' → AuditedBy t table form out buffer work (unaudited (number_of y)) out' buffer work
            go (refused x) v = record { is = ap unaudited v.0; out_stands = v.1; buffer_stands = refl; work_stands = refl }
            go (given f) v = absurd v

        module _ (size k : ℕ) (e : s ≡ Ok (record { size = size; steps = k })) where
          -- the log lies within the memory
          pub log-inside : size ≤ length out'
          unfolding shortening_of ShortenedBy
          log-inside = go (shorten_tested table form out) (said (shortened size k) (ap shortening_of e))
            where
              go : (t : Result Form) → ShortenedBy t table form out (shortened size k) out' → size ≤ length out'
              go (refused x) v = absurd v
              go (given f) v = omega (arith, v.fits, v.same_length)

          -- shortening, the checker and the decision agree
          pub audit-agrees : (r : Bool) (buffer' work' : List ℕ) (answer : Verdict) → LogAudited table (take size out') k buffer work r buffer' work' → (r ≡ true → answer ≡ agreed size k)
              → Audited table form out buffer work answer out' buffer' work'
          unfolding shortening_of ShortenedBy AuditedBy
          audit-agrees r buffer' work' answer a h =
              by_tests (shorten_tested table form out) answer out' buffer' work' tests-are
              (go (shorten_tested table form out) (said (shortened size k) (ap shortening_of e)))
            where
              go : (t : Result Form) → ShortenedBy t table form out (shortened size k) out' → AuditedBy t table form out buffer work answer out' buffer' work'
              go (refused x) v = absurd v
              go (given f) v = record {
                size = size;
                steps = k;
                is = h (a.found (length form) v.last_start v.is_accepted lb lw);
                shortened = v;
                decided = a.decided (length form) v.last_start v.is_accepted lb lw;
              }
