-- What the readers of forms say. Assumes nothing.
use Rattle.std.specs.Prelude.{Bool, true, ◌&&◌, ◌≡◌, List, ℕ, eqb, IfOk}
use Rattle.std.specs.Prelude as Std
use Rattle.specification.specs.Results.{Result, refused, given, ◌>>=◌, ◌>>◌, require, when◌then◌else◌}
use Rattle.specification.specs.Terms.{term_before}
use Rattle.specification.specs.Terms as S
use Rattle.specification.specs.Records.{read_term_at, part_fits}
use Rattle.terms.specs.declared.types.Term.{Term}
use Rattle.terms.specs.declared.types.Form.{Form}
use Rattle.terms.specs.Abstraction.{form_of, terms_of}
use Rattle.terms.specs.Build.{behind}
use Rattle.terms.specs.Valid.{FormValid, Readable}
use Rattle.refusal.specs.declared.Refusal.{Refusal}
use Rattle.refusal.specs.Tests.{answer_of}

-- the terms read of a form, and the position behind them
unfoldable pub terms_read_of : Std.Result (Form × ℕ) Refusal → Result (List S.Term × ℕ)
terms_read_of q = answer_of (λ r. (terms_of r.0, r.1)) q

-- a term comes behind the last of so many
unfoldable pub behind_last : ℕ → S.Term → S.Term → Bool
behind_last n last t = when eqb n 0 then true else term_before last t

-- the term at a position, of a form's kind and behind the last of so many
unfoldable pub read_behind : (kind n : ℕ) (last : S.Term) (s : List ℕ) (at : ℕ) → Result (S.Term × ℕ)
read_behind kind n last s at = do
  (t, next) ← read_term_at s at
  require (part_fits kind t && behind_last n last t) 11
  given (t, next)

-- so many terms of a kind read
pub record TermsTaken (read : Result (List S.Term × ℕ)) (k n : ℕ) (q : Std.Result (Form × ℕ) Refusal) : Type 0 where
  pub is : terms_read_of q ≡ read
  pub readable : IfOk q (λ r. Readable n r.0)
  pub kind : IfOk q (λ r. r.0.kind ≡ k)

-- what was read of a form, and the position behind it
unfoldable pub form_read_of : Std.Result (Form × ℕ) Refusal → Result (S.Form × ℕ)
form_read_of q = answer_of (λ r. (form_of r.0, r.1)) q

-- a form read
pub record FormRead (read : Result (S.Form × ℕ)) (q : Std.Result (Form × ℕ) Refusal) : Type 0 where
  pub is : form_read_of q ≡ read
  pub readable : IfOk q (λ r. Readable 48 r.0)

-- both forms
unfoldable pub both_of : Std.Result (Form × Form) Refusal → Result (S.Form × S.Form)
both_of r = answer_of (λ p. (form_of p.0, form_of p.1)) r

-- two forms taken together; where they are, valid ones
pub record BothRead (read : Result (S.Form × S.Form)) (r : Std.Result (Form × Form) Refusal) : Type 0 where
  pub is : both_of r ≡ read
  pub first : IfOk r (λ p. FormValid p.0)
  pub second : IfOk r (λ p. FormValid p.1)
