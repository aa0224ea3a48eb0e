-- `records::read::read_fields` meets its contract: the steps of the specification, one after the other. Assumes nothing.
use Rattle.std.proofs.Common.{rules, [], ◌∷◌}
use mathlib.Core.List.{List}
use mathlib.Core.Path.{◌≡◌, refl}
use Prim.Native.Nat.{ℕ, ◌≤◌}
use native.Mathlib.Omega.{arith}
use Rattle.specification.specs.Results.{given}
use Rattle.specification.specs.Terms as S
use Rattle.specification.specs.Terms.{plus}
use Rattle.terms.specs.Abstraction.{term_of}
use Rattle.refusal.proofs.Passing.{passed_up}
use Rattle.records.specs.declared.read.Fields.{Fields}
use Rattle.records.specs.Reading.{read_of, fields_of, at_fields, coef_step, factors_step, rest_of}
use Rattle.records.proofs.Readers.{none_counted, again-counted, fields_read}
use Rattle.records.proofs.read.read_fields.Goals.{In_ok-coef, In_ok-scalars, In_ok-dots, In_ok-triples}
use Rattle.records.proofs.read.read_fields.Goals as goal

scalars-few : (c : In_ok-scalars) → c.in_ok-scalars.scalars.count ≤ 2
scalars-few c = omega (arith, c.in_ok-scalars.ensures.0.few, c.in_ok-coef.ensures.none)

dots-few : (c : In_ok-dots) → c.in_ok-dots.dots.count ≤ 5
dots-few c = omega (arith, c.in_ok-dots.ensures.0.few, c.in_ok-scalars.ensures.0.few, c.in_ok-coef.ensures.none)

-- no factors yet
abbrev no_factors : List ℕ
no_factors = 0 ∷ 0 ∷ 0 ∷ 0 ∷ 0 ∷ 0 ∷ 0 ∷ []

-- the term on the way and the position behind it
abbrev reached : Fields → List ℕ → S.Term × ℕ
reached r f = (term_of (at_fields r f), r.next)

-- what each step gave
coef_given : (c : In_ok-coef) → given (reached c.in_ok-coef.coef no_factors) ≡ coef_step c.bit_stands.result c.args.s.now (plus [] [], c.args.at)
unfolding fields_of
coef_given c = c.in_ok-coef.ensures.is _

scalars_given : (c : In_ok-scalars) → given (reached c.in_ok-scalars.scalars c.read_factors.new.f)
    ≡ factors_step c.bit_stands-2.result 2 1 c.args.s.now (reached c.in_ok-coef.coef no_factors)
unfolding fields_of
scalars_given c = c.in_ok-scalars.ensures.0.is

dots_given : (c : In_ok-dots) → given (reached c.in_ok-dots.dots c.read_factors-2.new.f)
    ≡ factors_step c.bit_stands-3.result 3 2 c.args.s.now (reached c.in_ok-scalars.scalars c.read_factors.new.f)
unfolding fields_of
dots_given c = c.in_ok-dots.ensures.0.is

triples_given : (c : In_ok-triples) → given (reached c.in_ok-triples.triples c.read_factors-3.new.f)
    ≡ factors_step c.bit_stands-4.result 2 3 c.args.s.now (reached c.in_ok-dots.dots c.read_factors-2.new.f)
unfolding fields_of
triples_given c = c.in_ok-triples.ensures.0.is

pub returns-in_err-coef : goal.returns-in_err-coef
unfolding fields_of read_of
returns-in_err-coef c = rw (passed_up _ _ c.from_residual.ensures.1) (record {
  is = fields_read c.args.m c.args.s.now c.args.at _ _ _ _ _ _ _ _ _ _ c.bit_stands.ensures refl refl refl refl (c.in_err-coef.ensures.is []) refl refl refl refl;
  counted = tt;
})

pub read_factors-requires : goal.read_factors-requires
read_factors-requires c = let z = c.in_ok-coef.ensures.none in (none_counted _ _ z, omega (arith, z), omega arith, omega arith, refl)

pub returns-in_err-scalars : goal.returns-in_err-scalars
unfolding fields_of read_of
returns-in_err-scalars c = let w = goal.at.returns-in_err-scalars c in rw (passed_up _ _ c.from_residual-in_err-scalars.ensures.1) (record {
  is = fields_read c.args.m c.args.s.now c.args.at _ _ _ _ _ _ _ _ _ _ c.bit_stands.ensures c.bit_stands-2.ensures refl refl refl
      (coef_given w.In_ok-coef) c.in_err-scalars.ensures.0.is refl refl refl;
  counted = tt;
})

pub read_factors-requires-2 : goal.read_factors-requires-2
read_factors-requires-2 c = let w = c.in_ok-scalars.ensures in (again-counted _ _ w.0.counted, omega (arith, scalars-few (goal.at.read_factors-requires-2 c).In_ok-scalars), omega arith, omega arith, w.1)

pub returns-in_err-dots : goal.returns-in_err-dots
unfolding fields_of read_of
returns-in_err-dots c = let w = goal.at.returns-in_err-dots c in rw (passed_up _ _ c.from_residual-in_err-dots.ensures.1) (record {
  is = fields_read c.args.m c.args.s.now c.args.at _ _ _ _ _ _ _ _ _ _ c.bit_stands.ensures c.bit_stands-2.ensures c.bit_stands-3.ensures refl refl
      (coef_given w.In_ok-coef) (scalars_given w.In_ok-scalars) c.in_err-dots.ensures.0.is refl refl;
  counted = tt;
})

pub read_factors-requires-3 : goal.read_factors-requires-3
read_factors-requires-3 c = let w = c.in_ok-dots.ensures in (again-counted _ _ w.0.counted, omega (arith, dots-few (goal.at.read_factors-requires-3 c).In_ok-dots), omega arith, omega arith, w.1)

pub returns-in_err-triples : goal.returns-in_err-triples
unfolding fields_of read_of
returns-in_err-triples c = let w = goal.at.returns-in_err-triples c in rw (passed_up _ _ c.from_residual-in_err-triples.ensures.1) (record {
  is = fields_read c.args.m c.args.s.now c.args.at _ _ _ _ _ _ _ _ _ _ c.bit_stands.ensures c.bit_stands-2.ensures c.bit_stands-3.ensures c.bit_stands-4.ensures refl
      (coef_given w.In_ok-coef) (scalars_given w.In_ok-scalars) (dots_given w.In_ok-dots) c.in_err-triples.ensures.0.is refl;
  counted = tt;
})

pub read_rest-requires : goal.read_rest-requires
read_rest-requires c = let w = c.in_ok-triples.ensures in (again-counted _ _ w.0.counted, c.part_size.ensures.1, w.1)

pub returns : goal.returns
unfolding rest_of
returns c = let w = goal.at.returns c in record {
  is = fields_read c.args.m c.args.s.now c.args.at _ _ _ _ _ _ _ _ _ _ c.bit_stands.ensures c.bit_stands-2.ensures c.bit_stands-3.ensures c.bit_stands-4.ensures c.part_size.ensures.0
      (coef_given w.In_ok-coef) (scalars_given w.In_ok-scalars) (dots_given w.In_ok-dots) (triples_given w.In_ok-triples) c.read_rest.ensures.is;
  counted = c.read_rest.ensures.counted;
}
