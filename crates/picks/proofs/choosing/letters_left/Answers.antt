-- `picks::choosing::letters_left`. The loop: the letters counted and those that the mask leaves from factor i on are all that it leaves, and no scalar letter
-- was left so far. Assumes nothing.
use Rattle.terms.proofs.Letters.{letters-long}
use native.Mathlib.Omega.{arith}
use mathlib.Core.Path.{sym, ◌∙◌, ◌≡◌}
use Prim.Native.Nat.{◌≤◌, ◌+◌}
use lib.ListN.{length, get_or}
use Rattle.picks.proofs.LettersLeft.{counting_none, scalar-stays, counting_all, counting_as, vectors-stay, factor-goes}
use Rattle.picks.proofs.choosing.letters_left.Goals.{Start, else-b-eq0, then-b-eq0+else-l-eq1}
use Rattle.picks.proofs.choosing.letters_left.Goals as goal

few : (c : Start) → c.args.n ≤ length c.args.f.now
few c = omega (arith, c.requires.0, c.requires.1)

pub loop-i-init : goal.loop-i-init
loop-i-init c = (omega arith, omega arith, counting_none c.args.f.now c.args.n c.args.mask (few (goal.at.loop-i-init c).Start))

pub offset_bounds-f-i : goal.offset_bounds-f-i
offset_bounds-f-i c = omega (arith, c.requires.0)

pub bounds-f-i : goal.bounds-f-i
bounds-f-i c = omega (arith, c.requires.0, c.requires.1)

pub letter_count-l-requires : goal.letter_count-l-requires
letter_count-l-requires c = tt

pub returns-then-l-eq1 : goal.returns-then-l-eq1
returns-then-l-eq1 c =
    let w = c in
    scalar-stays w.args.f.now w.args.n w.args.mask (few (goal.at.returns-then-l-eq1 c).Start)
    c.loop-i.b c.loop-i.c
    c.loop-i.i
    c.loop-i-test.true c.loop-i.invariant.2 c.if-b-eq0.true
    (sym c.letter_count-l.ensures ∙ c.if-l-eq1.true)

pub overflow_add-c : goal.overflow_add-c
overflow_add-c c =
    omega (
      arith,
      c.loop-i.invariant.1,
      c.loop-i.invariant.0,
      c.requires.0,
      c.letter_count-l.ensures,
      (letters-long (get_or c.args.f.now c.loop-i.i 0)).1,
    )

pub loop-i-preserved : goal.loop-i-preserved
loop-i-preserved c = let v = c.loop-i in
    let f = c.args.f.now in (
      omega (arith, c.loop-i-test.true),
      elim c.if-b-eq0.branch [ then-b-eq0+else-l-eq1 w ↦ let e : c.if-b-eq0.c ≡ v.c + w.letter_count-l.result = w.c-is in omega (arith, e, v.invariant.1, w.letter_count-l.ensures, (letters-long (get_or f v.i 0)).1) | else-b-eq0 w ↦ let e : c.if-b-eq0.c ≡ v.c = w.c-is in omega (arith, e, v.invariant.1) ],
      elim c.if-b-eq0.branch [
        | then-b-eq0+else-l-eq1 w ↦ counting_as w.c-is (vectors-stay c.args.f.now c.args.n
            c.args.mask
            (few (goal.at.loop-i-preserved c).Start) c.loop-i.b c.loop-i.c c.loop-i.i c.loop-i-test.true
            c.loop-i.invariant.2 w.if-b-eq0.true _ w.letter_count-l.ensures w.if-l-eq1.false)
        | else-b-eq0 w ↦ counting_as w.c-is (factor-goes c.args.f.now c.args.n
            c.args.mask
            (few (goal.at.loop-i-preserved c).Start) c.loop-i.b c.loop-i.c c.loop-i.i c.loop-i-test.true
            c.loop-i.invariant.2 w.if-b-eq0.false)
      ],
    )

pub returns : goal.returns
returns c =
    let w = c in
    let v = c.loop-i in
    counting_all w.args.f.now w.args.n w.args.mask (few (goal.at.returns c).Start) v.b v.c v.i c.loop-i-test.false (omega (
      arith,
      v.invariant.0,
      v.invariant.1,
      w.requires.0,
    ))
    v.invariant.2
