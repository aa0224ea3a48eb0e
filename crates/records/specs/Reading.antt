-- What the readers answer, and a term record as steps from one to the next. Assumes nothing.
use Rattle.std.specs.Prelude.{Bool, ◌≡◌, List, [], map, ℕ, ◌+◌, ◌≤◌, pos, IfOk}
use Rattle.std.specs.Prelude as Std
use Rattle.specification.specs.Results.{Result, refused, given, ◌>>=◌, ◌>>◌, when◌then◌else◌}
use Rattle.specification.specs.Terms.{with_coef, plus}
use Rattle.specification.specs.Terms as S
use Rattle.specification.specs.Records.{read_coef, read_factors, read_letters, test_shape, stands, part_letters}
use Rattle.terms.specs.declared.types.Part.TheVariants.{Nothing}
use Rattle.terms.specs.declared.types.Term.{Term}
use Rattle.terms.specs.Abstraction.{term_of, Counted}
use Rattle.terms.specs.Build.{behind}
use Rattle.records.specs.declared.read.Fields.{Fields}
use Rattle.refusal.specs.declared.Refusal.{Refusal}
use Rattle.refusal.specs.Tests.{answer_of}

-- what was read of a term, and the position behind it
unfoldable pub read_of : Std.Result (Term × ℕ) Refusal → Result (S.Term × ℕ)
read_of q = answer_of (λ r. (term_of r.0, r.1)) q

-- factors alone, the first n of a list
unfoldable pub listed : ℕ → List ℕ → Term
listed n f = record { coef = pos 0; factors = f; factor_count = n; part = Nothing }

-- the fields read so far with their factors, as a term without a vector part
unfoldable pub at_fields : Fields → List ℕ → Term
at_fields r f = record { coef = r.coef; factors = f; factor_count = r.count; part = Nothing }

-- the same as the specification has it, and the position behind them
unfoldable pub fields_of : Std.Result Fields Refusal → List ℕ → Result (S.Term × ℕ)
fields_of q f = answer_of (λ r. (term_of (at_fields r f), r.next)) q

-- the coefficient read
unfoldable pub coef_step : (is_there : Bool) (s : List ℕ) → S.Term × ℕ → Result (S.Term × ℕ)
coef_step is_there s r = do
  (coef, next) ← read_coef is_there s r.1
  given (with_coef coef r.0, next)

-- the factors of one number of letters read
unfoldable pub factors_step : (is_there : Bool) (most size : ℕ) (s : List ℕ) → S.Term × ℕ → Result (S.Term × ℕ)
factors_step is_there most size s r = do
  (fs, next) ← read_factors is_there most size s r.1
  given (behind fs r.0, next)

-- a term with another vector part
unfoldable pub with_part : List ℕ → S.Term → S.Term
with_part part t = record { coef = t.coef; factors = t.factors; part = part }

-- a vector part of so many letters read
unfoldable pub part_step : (letters : ℕ) (s : List ℕ) → S.Term × ℕ → Result (S.Term × ℕ)
part_step letters s r = do
  (part, next) ← read_letters letters s r.1
  given (with_part part r.0, next)

-- the shape tested
unfoldable pub shape_step : S.Term × ℕ → Result (S.Term × ℕ)
shape_step r = test_shape r.0 r.1

-- the vector part read behind the factors, and the shape tested
unfoldable pub rest_of : (letters : ℕ) (s : List ℕ) → Fields → List ℕ → Result (S.Term × ℕ)
rest_of letters s r f = part_step letters s (term_of (at_fields r f), r.next) >>= shape_step

-- the fields behind a bit map, read one after the other
unfoldable pub read_fields : (bits : ℕ) (s : List ℕ) (at : ℕ) → Result (S.Term × ℕ)
read_fields bits s at =
    coef_step (stands 0 bits) s (plus [] [], at)
    >>= factors_step (stands 1 bits) 2 1 s
    >>= factors_step (stands 2 bits) 3 2 s
    >>= factors_step (stands 3 bits) 2 3 s
    >>= part_step (part_letters bits) s
    >>= shape_step

-- the coefficient read, and no factors yet
pub record CoefRead (is_there : Bool) (s : List ℕ) (at : ℕ) (q : Std.Result Fields Refusal) : Type 0 where
  pub is : (f : List ℕ) → fields_of q f ≡ coef_step is_there s (plus [] [], at)
  pub none : IfOk q (λ r. r.count ≡ 0)

-- a step made from fields and their factors: so many factors more at most
pub record Stepped (step : S.Term × ℕ → Result (S.Term × ℕ)) (more : ℕ) (r : Fields) (f : List ℕ) (q : Std.Result Fields Refusal) (g : List ℕ) : Type 0 where
  pub is : fields_of q g ≡ step (term_of (at_fields r f), r.next)
  pub counted : IfOk q (λ t. Counted (at_fields t g))
  pub few : IfOk q (λ t. t.count ≤ r.count + more)

-- a term read
pub record TermRead (read : Result (S.Term × ℕ)) (q : Std.Result (Term × ℕ) Refusal) : Type 0 where
  pub is : read_of q ≡ read
  pub counted : IfOk q (λ r. Counted r.0)
