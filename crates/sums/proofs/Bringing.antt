-- Terms brought in among rows, one after the other. Assumes nothing.
use mathlib.Core.Path.{◌≡◌, refl, ap, sym, ◌∙◌}
use mathlib.Core.List.{List, [], ◌∷◌, ◌++◌}
use Prim.Native.Nat.{ℕ, ◌+◌, ◌*◌, ◌≤◌, ◌<◌}
use native.Mathlib.Omega.{arith}
use lib.IntN.{ℤ, pos, nat_abs}
use lib.ListN.{length, take, get_or}
use lib.Seq.{take-add, take_all}
use Rattle.specification.specs.Terms.{insert, tidy, gather_into}
use Rattle.specification.specs.Terms as S
use Rattle.theory.specs.Gathering.Gathered.{into-join}
use Rattle.terms.specs.declared.types.Term.{Term}
use Rattle.terms.specs.Abstraction.{term_of}
use Rattle.rows.specs.Rows.{term_by, run_of, Run}
use Rattle.gathering.specs.Bringing.{BroughtIn, TermBroughtIn}
use Rattle.rows.proofs.Runs.{run_length, run_at}
use Rattle.rows.proofs.RowForms.{light_more}
use Rattle.sums.specs.Results.{Brought}

-- ════ the terms of a run, one by one

module _ (n : ℕ) (rows : List (List ℕ)) (coefs : List ℤ) (hr : n ≤ length rows) (hc : n ≤ length coefs) where
  -- one more of them
  pub run_taken : (i : ℕ) → i < n → take (i + 1) (run_of n rows coefs) ≡ take i (run_of n rows coefs) ++ term_by (get_or rows i []) (get_or coefs i (pos 0)) ∷ []
  run_taken i h = take-add i 1 (run_of n rows coefs) ∙ ap (λ (l : List S.Term). take i (run_of n rows coefs) ++ take 1 l) (run_at rows coefs n hr hc i h)

  -- all of them
  pub run_all : (i : ℕ) → n ≤ i → take i (run_of n rows coefs) ≡ run_of n rows coefs
  run_all i h = take_all i (run_of n rows coefs) (omega (arith, run_length rows coefs n hr hc))

-- ════ brought in

-- none
pub brought_none : (n : ℕ) (rows : List (List ℕ)) (coefs : List ℤ) → Run n rows coefs → Brought 0 n rows coefs [] n rows coefs
unfolding gather_into
brought_none n rows coefs v = record { is = refl; run = v; light = λ b. light_more b (b + 0 * 2147483647) n coefs (omega arith); count = omega arith }

-- a row in order
pub brought_row : (n : ℕ) (rows : List (List ℕ)) (coefs : List ℤ) (r : List ℕ) (c : ℤ) (m : ℕ) (rows' : List (List ℕ)) (coefs' : List ℤ)
    → tidy (term_by r c) ≡ term_by r c → nat_abs c ≤ 2147483647
    → BroughtIn n rows coefs r c m rows' coefs' → Brought 1 n rows coefs (term_by r c ∷ []) m rows' coefs'
unfolding gather_into
brought_row n rows coefs r c m rows' coefs' e h b = record {
  is = b.is ∙ ap (λ (t : S.Term). insert t (run_of n rows coefs)) (sym e);
  run = b.run;
  light = λ d l. light_more (d + nat_abs c) (d + 1 * 2147483647) m coefs' (omega arith) (b.light d l);
  count = b.count;
}

-- a term
pub brought_term : (n : ℕ) (rows : List (List ℕ)) (coefs : List ℤ) (t : Term) (m : ℕ) (rows' : List (List ℕ)) (coefs' : List ℤ)
    → TermBroughtIn n rows coefs t m rows' coefs' → Brought 1 n rows coefs (term_of t ∷ []) m rows' coefs'
unfolding gather_into
brought_term n rows coefs t m rows' coefs' b = record {
  is = b.is;
  run = b.run;
  light = λ d l. light_more (d + 2147483647) (d + 1 * 2147483647) m coefs' (omega arith) (b.light d l);
  count = b.count;
}

module _ (n : ℕ) (rows : List (List ℕ)) (coefs : List ℤ) where
  -- some, and then others
  pub brought_both : (k l : ℕ) (ts us : List S.Term) (r s : ℕ) (rows' : List (List ℕ)) (coefs' : List ℤ) (rows'' : List (List ℕ)) (coefs'' : List ℤ)
      → Brought k n rows coefs ts r rows' coefs' → Brought l r rows' coefs' us s rows'' coefs'' → Brought (k + l) n rows coefs (ts ++ us) s rows'' coefs''
  brought_both k l ts us r s rows' coefs' rows'' coefs'' x y = record {
    is = y.is ∙ ap (λ (d : List S.Term). gather_into d us) x.is ∙ sym (into-join (run_of n rows coefs) ts us);
    run = y.run;
    light = λ b h. light_more (b + k * 2147483647 + l * 2147483647) (b + (k + l) * 2147483647) s coefs'' (omega arith)
        (y.light (b + k * 2147483647) (x.light b h));
    count = omega (arith, x.count, y.count);
  }

  -- the same in other words, and fewer than allowed
  pub brought_as : (k l : ℕ) (ts us : List S.Term) (r : ℕ) (rows' : List (List ℕ)) (coefs' : List ℤ) → k ≤ l → ts ≡ us
      → Brought k n rows coefs ts r rows' coefs' → Brought l n rows coefs us r rows' coefs'
  brought_as k l ts us r rows' coefs' h e x = record {
    is = x.is ∙ ap (gather_into (run_of n rows coefs)) e;
    run = x.run;
    light = λ b g. light_more (b + k * 2147483647) (b + l * 2147483647) r coefs' (omega arith) (x.light b g);
    count = omega (arith, x.count);
  }
