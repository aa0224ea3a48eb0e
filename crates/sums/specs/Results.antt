-- Terms that are brought in among rows, and rows that can be closed to a form. Assumes nothing.
use Rattle.std.specs.Prelude.{◌≡◌, List, ℕ, ◌+◌, ◌*◌, ◌≤◌, ℤ}
use Rattle.specification.specs.Terms.{gather, gather_into}
use Rattle.specification.specs.Terms as S
use Rattle.theory.specs.Shape.Forms.{AllFit}
use Rattle.rows.specs.Rows.{run_of, Run, Light}

-- terms brought in among n rows, at most k of them: r rows
pub record Brought (k n : ℕ) (rows : List (List ℕ)) (coefs : List ℤ) (ts : List S.Term) (r : ℕ) (rows' : List (List ℕ)) (coefs' : List ℤ) : Type 0 where
  pub is : run_of r rows' coefs' ≡ gather_into (run_of n rows coefs) ts
  pub run : Run r rows' coefs'
  pub light : (b : ℕ) → Light b n coefs → Light (b + k * 2147483647) r coefs'
  pub count : r ≤ n + k

-- n rows that were gathered from terms of a kind
pub record GatheredRows (kind n : ℕ) (rows : List (List ℕ)) (coefs : List ℤ) : Type 0 where
  pub run : Run n rows coefs
  pub small : kind ≤ 1
  pub terms : List S.Term
  pub is : run_of n rows coefs ≡ gather terms
  pub fit : AllFit kind terms
