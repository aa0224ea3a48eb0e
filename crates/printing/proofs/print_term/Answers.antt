-- `printing::print_term` meets its contract: the pieces one after the other. Assumes nothing.
use mathlib.Core.Path.{◌≡◌, ◌∙◌}
use native.Mathlib.Omega.{arith}
use lib.ListN.{length}
use Rattle.terms.specs.Abstraction.{term_of}
use Rattle.printing.proofs.Lengths.{pieces_short}
use Rattle.printing.proofs.Texts.{part_room, term_written}
use Rattle.printing.proofs.print_term.Goals.{After-print_factors-star, After-print_star-part}
use Rattle.printing.proofs.print_term.Goals as goal

-- each call keeps the length
factors-kept : (c : After-print_factors-star) → length c.print_factors-star.new.out ≡ length c.args.out.now
factors-kept c = c.print_factors-star.auto.out ∙ c.print_size-factors.auto.out

star-kept : (c : After-print_star-part)
    → length c.print_star-part.new.out ≡ length c.args.out.now
star-kept c = c.print_star-part.auto.out ∙ (c.print_factors-star.auto.out ∙ c.print_size-factors.auto.out)

pub print_size-factors-requires : goal.print_size-factors-requires
unfolding term_of
print_size-factors-requires c =
    let s = c in
    (s.requires.0.valid, omega (arith, pieces_short s.args.names.now (term_of s.args.t) s.requires.0.valid.in_shape, s.requires.1))

pub print_factors-star-requires : goal.print_factors-star-requires
unfolding term_of
print_factors-star-requires c =
    let w = c in
    let s = w in
    let h = pieces_short s.args.names.now (term_of s.args.t) s.requires.0.valid.in_shape in
    (s.requires.0, omega (arith, h, s.requires.1, w.print_size-factors.auto.out, w.print_size-factors.ensures.ends))

pub print_star-part-requires : goal.print_star-part-requires
unfolding term_of
print_star-part-requires c =
    let w = c in
    let v = c in
    let s = v in
    let h = pieces_short s.args.names.now (term_of s.args.t) s.requires.0.valid.in_shape in
    omega (
      arith,
      h,
      s.requires.1,
      factors-kept (goal.at.print_star-part-requires c).After-print_factors-star,
      v.print_size-factors.ensures.ends,
      w.print_factors-star.ensures.ends,
    )

pub print_part-requires : goal.print_part-requires
unfolding term_of
print_part-requires c =
    let x = c in
    let w = c in
    let v = c in
    let s = v in
    let r = part_room s.args.names.now (term_of s.args.t) _ _ _ _ _ _ _ _ s.requires.0.valid.in_shape s.requires.1
    v.print_size-factors.ensures w.print_factors-star.ensures x.print_star-part.ensures in
    (s.requires.0.letters.part, omega (arith, r, star-kept (goal.at.print_part-requires c).After-print_star-part))

pub shape_of-out : goal.shape_of-out
shape_of-out c = c.print_part.auto.out ∙ star-kept (goal.at.shape_of-out c).After-print_star-part

pub returns : goal.returns
unfolding term_of
returns c =
    let x = c in
    let w = c in
    let v = c in
    let s = v in
    term_written s.args.names.now (term_of s.args.t) _ _ _ _ _ _ _ _ s.requires.0.valid.in_shape s.requires.1
    v.print_size-factors.ensures w.print_factors-star.ensures x.print_star-part.ensures _ _ c.print_part.ensures
