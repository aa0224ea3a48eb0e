-- What the audit for C returns and leaves, from the tests that it makes. Assumes nothing.
use mathlib.Core.Path.{◌≡◌, refl, ap, sym, subst, ◌∙◌}
use mathlib.Core.List.{List, ◌∷◌}
use Prim.Native.Nat.{ℕ, ◌≤◌, ◌<◌}
use native.Mathlib.Omega.{arith}
use lib.IntN.{ℤ}
use lib.ListN.{length, drop}
use borrow.Author.Tests.{le-leb, lt-leb}
use Rattle.specification.specs.Results.{Result, refused, given}
use Rattle.specification.specs.Letters.{test_table}
use Rattle.specification.specs.Terms.{Form}
use Rattle.specification.specs.Auditing.{agreed, unaudited, apart, audit_tested, AuditedBy, Audited}
use Rattle.specification.specs.Auditing as A
use Rattle.specification.specs.Returns.{returned, audit_asked, AuditReturnedBy, AuditReturned}
use Rattle.std.specs.Prelude.{Ok, Err}
use Rattle.refusal.specs.declared.Refusal.{Refusal}
use Rattle.refusal.specs.declared.Refusal.TheVariants.{NoRoom}
use Rattle.refusal.specs.Numbers.{number_of}
use Rattle.refusal.specs.Tests.{test_of}
use Rattle.shortening.specs.declared.Written.{Written}
use Rattle.audit.specs.declared.Verdict.{Verdict}
use Rattle.audit.specs.declared.Verdict.TheVariants.{Agreed, Refused, Apart}
use Rattle.audit.specs.Answers.{verdict_of}

-- ════ verdicts

unaudited_same : {m n : ℕ} → unaudited m ≡ unaudited n → m ≡ n
unaudited_same e = cc

agreed_same : {m k n l : ℕ} → agreed m k ≡ agreed n l → m ≡ n
agreed_same e = cc

unaudited≢agreed : {m n k : ℕ} → unaudited m ≡ agreed n k → ⊥
unaudited≢agreed e = let z : ◌≡◌ {A = ℕ} 0 1 = cc in omega arith

apart≢unaudited : {n : ℕ} → apart ≡ unaudited n → ⊥
apart≢unaudited e = let z : ◌≡◌ {A = ℕ} 0 1 = cc in omega arith

apart≢agreed : {n k : ℕ} → apart ≡ agreed n k → ⊥
apart≢agreed e = let z : ◌≡◌ {A = ℕ} 0 1 = cc in omega arith

-- ════ the call

module _ (table form out buffer work steps : List ℕ) where
  by_tests : (t : Result Form) (r : ℤ) (out' buffer' work' steps' : List ℕ) → audit_asked table form out buffer work steps ≡ t
      → AuditReturnedBy t table form out buffer work steps r out' buffer' work' steps' → AuditReturned table form out buffer work steps r out' buffer' work' steps'
  unfolding AuditReturned
  by_tests t r out' buffer' work' steps' e w =
      subst (λ (x : Result Form). AuditReturnedBy x table form out buffer work steps r out' buffer' work' steps') (sym e) w

  -- refused before the audit: all memory stands
  refused_so : (n : ℕ) (r : ℤ) → r ≡ returned (refused n) → audit_asked table form out buffer work steps ≡ refused n
      → AuditReturned table form out buffer work steps r out buffer work steps
  unfolding AuditReturnedBy
  refused_so n r p e =
      by_tests (refused n) r out buffer work steps e (record { is = p; out_stands = refl; buffer_stands = refl; work_stands = refl; steps_stand = refl })

  -- 1 comes first
  pub audit-table : (e : Refusal) → test_of (Err e) ≡ test_table table → (n : ℕ) → n ≡ number_of e → (r : ℤ) → r ≡ returned (refused n)
      → AuditReturned table form out buffer work steps r out buffer work steps
  unfolding audit_asked
  audit-table e et n q r p = refused_so n r p (rw (← et, q) refl)

  module _ (u : Unit {0}) (et : test_of (Ok u) ≡ test_table table) where
    -- then 2
    pub audit_short : length steps < 1 → (n : ℕ) → n ≡ number_of NoRoom → (r : ℤ) → r ≡ returned (refused n) → AuditReturned table form out buffer work steps r out buffer work steps
    unfolding audit_asked
    audit_short h n q r p = refused_so n r p (rw (← et, lt-leb 1 (length steps) h, q))

    module _ (enough : 1 ≤ length steps) (v : Verdict) (out' buffer' work' : List ℕ) (a : Audited table form out buffer work (verdict_of v) out' buffer' work') where
      tests-are : audit_asked table form out buffer work steps ≡ audit_tested table form out buffer work
      unfolding audit_asked
      tests-are = rw (← et, le-leb 1 (length steps) enough)

      said : (answer : A.Verdict) → verdict_of v ≡ answer → AuditedBy (audit_tested table form out buffer work) table form out buffer work answer out' buffer' work'
      unfolding Audited
      said answer e = subst (λ (x : A.Verdict). AuditedBy (audit_tested table form out buffer work) table form out buffer work x out' buffer' work') e a

      -- then the audit's own refusals
      pub audit_refused : (why : Refusal) → v ≡ Refused why → (n : ℕ) → n ≡ number_of why → (r : ℤ) → r ≡ returned (refused n) → AuditReturned table form out buffer work steps r out' buffer' work' steps
      unfolding verdict_of AuditedBy AuditReturnedBy
      audit_refused why e n q r p =
          by_tests (audit_tested table form out buffer work) r out' buffer' work' steps tests-are
          (go (audit_tested table form out buffer work) (said (unaudited (number_of why)) (ap verdict_of e)))
        where
          go : (t : Result Form) → AuditedBy t table form out buffer work (unaudited (number_of why)) out' buffer' work'
              → AuditReturnedBy t table form out buffer work steps r out' buffer' work' steps
          go (refused x) a = record {
            is = p ∙ ap (λ (y : ℕ). returned (refused y)) (q ∙ unaudited_same a.is);
            out_stands = a.out_stands;
            buffer_stands = a.buffer_stands;
            work_stands = a.work_stands;
            steps_stand = refl;
          }
          go (given f) a = absurd (unaudited≢agreed a.is)

      module _ (w : Written) (e : v ≡ Agreed w) where
        -- a log lies inside the memory lent
        pub audit-inside : w.size ≤ length out
        unfolding verdict_of AuditedBy
        audit-inside = go (audit_tested table form out buffer work) (said (agreed w.size w.steps) (ap verdict_of e))
          where
            go : (t : Result Form) → AuditedBy t table form out buffer work (agreed w.size w.steps) out' buffer' work' → w.size ≤ length out
            go (refused x) a = absurd (unaudited≢agreed (sym a.is))
            go (given f) a = omega (arith, agreed_same a.is, a.shortened.fits)

        -- or the log
        pub audit_given : (r : ℤ) → r ≡ returned (given w.size) → (steps' : List ℕ) → steps' ≡ w.steps ∷ drop 1 steps
            → AuditReturned table form out buffer work steps r out' buffer' work' steps'
        unfolding verdict_of AuditedBy AuditReturnedBy
        audit_given r p steps' q =
            by_tests (audit_tested table form out buffer work) r out' buffer' work' steps' tests-are
            (go (audit_tested table form out buffer work) (said (agreed w.size w.steps) (ap verdict_of e)))
          where
            go : (t : Result Form) → AuditedBy t table form out buffer work (agreed w.size w.steps) out' buffer' work'
                → AuditReturnedBy t table form out buffer work steps r out' buffer' work' steps'
            go (refused x) a = absurd (unaudited≢agreed (sym a.is))
            go (given f) a = record { size = w.size; count = w.steps; is = p; agree = a; steps_written = q }

      -- that they do not agree never comes
      pub never-apart : v ≡ Apart → ⊥
      unfolding verdict_of AuditedBy
      never-apart e = go (audit_tested table form out buffer work) (said apart (ap verdict_of e))
        where
          go : (t : Result Form) → AuditedBy t table form out buffer work apart out' buffer' work' → ⊥
          go (refused x) a = apart≢unaudited a.is
          go (given f) a = apart≢agreed a.is
