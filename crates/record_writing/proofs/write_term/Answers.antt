-- `record_writing::write_term` meets its contract: the fields one after the other, and the bit map from the positions between them. Assumes nothing.
use Rattle.std.proofs.Common.{rules}
use mathlib.Core.Path.{◌≡◌, ◌∙◌}
use native.Mathlib.Omega.{arith}
use lib.ListN.{length, length-set}
use Rattle.terms.specs.Abstraction.{part_of}
use Rattle.record_writing.proofs.Bits.{part_bit-small}
use Rattle.record_writing.proofs.Terms.{fields_short, term_written}
use Rattle.record_writing.proofs.write_term.Goals.{After-write_coef-scalars, After-write_factors-dots, After-write_factors-part, After-write_factors-triples, After-write_part-end}
use Rattle.record_writing.proofs.write_term.Goals as goal

-- each call keeps the length
coef-kept : (c : After-write_coef-scalars) → length c.write_coef-scalars.new.out ≡ length c.args.out.now
coef-kept c = c.write_coef-scalars.auto.out

scalars-kept : (c : After-write_factors-dots) → length c.write_factors-dots.new.out ≡ length c.args.out.now
scalars-kept c = c.write_factors-dots.auto.out ∙ coef-kept c.before.before.before.before

dots-kept : (c : After-write_factors-triples) → length c.write_factors-triples.new.out ≡ length c.args.out.now
dots-kept c = c.write_factors-triples.auto.out ∙ scalars-kept c.before.before.before.before

triples-kept : (c : After-write_factors-part) → length c.write_factors-part.new.out ≡ length c.args.out.now
triples-kept c = c.write_factors-part.auto.out ∙ dots-kept c.before.before.before.before

part-kept : (c : After-write_part-end) → length c.write_part-end.new.out ≡ length c.args.out.now
part-kept c = c.write_part-end.auto.out ∙ triples-kept c.before.before.before.before

pub write_coef-scalars-requires : goal.write_coef-scalars-requires
write_coef-scalars-requires c = let s = c in (s.requires.0, omega (arith, fields_short s.args.t s.requires.0, s.requires.1))

pub write_factors-dots-requires : goal.write_factors-dots-requires
write_factors-dots-requires c =
    let w = c in
    let s = w in
    (s.requires.0.counted, omega (arith, fields_short s.args.t s.requires.0, s.requires.1, coef-kept (goal.at.write_factors-dots-requires c).After-write_coef-scalars, w.write_coef-scalars.ensures.ends))

pub write_factors-triples-requires : goal.write_factors-triples-requires
write_factors-triples-requires c =
    let w = c in
    let v = c in
    let s = w in
    (s.requires.0.counted, omega (arith, fields_short s.args.t s.requires.0, s.requires.1, scalars-kept (goal.at.write_factors-triples-requires c).After-write_factors-dots, v.write_coef-scalars.ensures.ends, w.write_factors-dots.ensures.ends))

pub write_factors-part-requires : goal.write_factors-part-requires
write_factors-part-requires c =
    let w = c in
    let v = c in
    let u = c in
    let s = w in (
      s.requires.0.counted,
      omega (
        arith,
        fields_short s.args.t s.requires.0,
        s.requires.1,
        dots-kept (goal.at.write_factors-part-requires c).After-write_factors-triples,
        u.write_coef-scalars.ensures.ends,
        v.write_factors-dots.ensures.ends,
        w.write_factors-triples.ensures.ends,
      ),
    )

pub write_part-end-requires : goal.write_part-end-requires
write_part-end-requires c =
    let w = c in
    let v = c in
    let u = c in
    let x = c in
    let s = w in
    omega (
      arith,
      fields_short s.args.t s.requires.0,
      s.requires.1,
      triples-kept (goal.at.write_part-end-requires c).After-write_factors-part,
      x.write_coef-scalars.ensures.ends,
      u.write_factors-dots.ensures.ends,
      v.write_factors-triples.ensures.ends,
      w.write_factors-part.ensures.ends,
    )

pub field_bit-requires : goal.field_bit-requires
field_bit-requires c = tt

pub field_bit-requires-2 : goal.field_bit-requires-2
field_bit-requires-2 c = tt

pub overflow_add-out : goal.overflow_add-out
overflow_add-out c = omega (arith, c.field_bit.ensures.small, c.field_bit-2.ensures.small)

pub field_bit-requires-3 : goal.field_bit-requires-3
field_bit-requires-3 c = tt

pub overflow_add-out-2 : goal.overflow_add-out-2
overflow_add-out-2 c = omega (arith, c.field_bit.ensures.small, c.field_bit-2.ensures.small, c.field_bit-3.ensures.small)

pub field_bit-requires-4 : goal.field_bit-requires-4
field_bit-requires-4 c = tt

pub overflow_add-out-3 : goal.overflow_add-out-3
overflow_add-out-3 c =
    omega (
      arith,
      c.field_bit.ensures.small,
      c.field_bit-2.ensures.small,
      c.field_bit-3.ensures.small,
      c.field_bit-4.ensures.small,
    )

pub part_bit-requires : goal.part_bit-requires
part_bit-requires c = tt

pub overflow_add-out-4 : goal.overflow_add-out-4
overflow_add-out-4 c =
    let w = c in
    omega (
      arith,
      c.field_bit.ensures.small,
      c.field_bit-2.ensures.small,
      c.field_bit-3.ensures.small,
      c.field_bit-4.ensures.small,
      c.part_bit.ensures,
      part_bit-small (part_of w.args.t.part),
    )

pub bounds-out-at : goal.bounds-out-at
bounds-out-at c = let w = c in omega (arith, part-kept (goal.at.bounds-out-at c).After-write_part-end, w.requires.1)

pub shape_of-out : goal.shape_of-out
shape_of-out c = simp length-set (part-kept (goal.at.shape_of-out c).After-write_part-end)

pub returns : goal.returns
returns c =
    let part = c in
    let triples = c in
    let dots = c in
    let scalars = c in
    let coef = c in
    let s = coef in
    term_written s.args.t _ _ _ _ _ _ _ _ _ _ _ _ _ _ _ _ _ s.requires.0 s.requires.1
    coef.write_coef-scalars.ensures
    scalars.write_factors-dots.ensures
    dots.write_factors-triples.ensures
    triples.write_factors-part.ensures
    part.write_part-end.ensures
    c.field_bit.ensures
    c.field_bit-2.ensures
    c.field_bit-3.ensures
    c.field_bit-4.ensures
    c.part_bit.ensures
