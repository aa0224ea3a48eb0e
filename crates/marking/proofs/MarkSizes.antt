-- Marks as the functions compute them, and their sizes. Assumes nothing.
use mathlib.Core.Path.{◌≡◌, refl, sym, ap, subst, ◌∙◌}
use mathlib.Core.Bool.{Bool, true, false}
use mathlib.Core.Logic.{◌⊎◌, inl, inr}
use mathlib.Core.List.{List, [], ◌∷◌, ◌++◌, map}
use Prim.Native.Nat.{ℕ, zero, suc, ◌+◌, ◌*◌, ◌/◌, ◌%◌, ◌<◌, ◌≤◌}
use native.Mathlib.Nat as N
use native.Mathlib.Omega.{arith}
use borrow.Author.Tests.{eq-eqb, ne_eqb, eqb-true, eqb-false}
use lib.Dec.{eqb}
use lib.IntN.{ℤ, pos}
use lib.ListN.{length, get_or, set, take, drop}
use lib.Seq.{get_or-set_same, get_or-set_other, take-add, take_all}
use Rattle.specification.specs.Terms as S
use Rattle.theory.specs.Elements.{All, all_implies, all_append}
use Rattle.terms.specs.declared.types.Term.{Term}
use Rattle.terms.specs.Numbers.{letters_of}
use Rattle.terms.specs.declared.factors.Factor.{Factor}
use Rattle.terms.specs.declared.factors.Factor.TheVariants.{Scalar, Dot, Triple}
use Rattle.terms.specs.Abstraction.{factor_of, part_of, term_of}
use Rattle.terms.proofs.Arrays.{rest_at, nothing_left_lem}
use Rattle.rows.specs.Rows.{term_by, run_of, Run}
use Rattle.rows.proofs.Runs.{run_length, run_at}
use Rattle.rule_table.specs.Table.{letter}
use Rattle.marking.specs.Marks.{letter_mark, letters_mark, factors_mark, mark_of, size_mark, Shows, Covering, Joint, LettersMarked, places_mark, row_mark, row_part_mark, product_mark}
use Rattle.marking.proofs.MarkedTerms.{mark-small, shows_some}
use Rattle.terms.proofs.Letters.{scalar_is, dot_is, triple_is}

-- what the mark of a letter is known to be
abbrev Letter : ℕ → ℕ → Type 0
Letter x r = (r ≡ letter_mark x) × (r ≤ 250)

pub two_small : (a b : ℕ) → a ≤ 250 → b ≤ 250 → a * b ≤ 62500
two_small a b h k = N.mul-le-mul h k

pub three-small : (a b c : ℕ) → a ≤ 250 → b ≤ 250 → c ≤ 250 → a * b * c ≤ 15625000
three-small a b c h k l = N.mul-le-mul (two_small a b h k) l

-- ════ factors and parts

one_letter : (x a : ℕ) → Letter x a → a ≡ letters_mark (x ∷ [])
unfolding letters_mark
one_letter x a w = w.0 ∙ sym (N.mul-one (letter_mark x))

two_letters : (x y a b : ℕ) → Letter x a → Letter y b → a * b ≡ letters_mark (x ∷ y ∷ [])
unfolding letters_mark
two_letters x y a b v w = λ i. v.0 i * one_letter y b w i

three-letters : (x y z a b c : ℕ) → Letter x a → Letter y b → Letter z c → a * b * c ≡ letters_mark (x ∷ y ∷ z ∷ [])
unfolding letters_mark
three-letters x y z a b c u v w = N.mul_assoc a b c ∙ (λ i. u.0 i * two_letters y z b c v w i)

module _ (k : ℕ) (f : Factor) (e : factor_of f ≡ letters_of k) where
  pub scalar-mark : (x a : ℕ) → f ≡ Scalar x → Letter x a → (a ≡ letters_mark (letters_of k)) × (a ≤ 15625000)
  scalar-mark x a h u = (one_letter x a u ∙ ap letters_mark (sym (scalar_is k f e x h)), omega (arith, u.1))

  pub dot-mark : (x y a b : ℕ) → f ≡ Dot x y → Letter x a → Letter y b → (a * b ≡ letters_mark (letters_of k)) × (a * b ≤ 15625000)
  dot-mark x y a b h u v = (two_letters x y a b u v ∙ ap letters_mark (sym (dot_is k f e x y h)), omega (arith, two_small a b u.1 v.1))

  pub triple-mark : (x y z a b c : ℕ) → f ≡ Triple x y z → Letter x a → Letter y b → Letter z c
      → (a * b * c ≡ letters_mark (letters_of k)) × (a * b * c ≤ 15625000)
  triple-mark x y z a b c h u v w =
      (three-letters x y z a b c u v w ∙ ap letters_mark (sym (triple_is k f e x y z h)), three-small a b c u.1 v.1 w.1)

pub nothing-mark : (p : List ℕ) → p ≡ [] → (1 ≡ letters_mark p) × (1 ≤ 62500)
unfolding letters_mark
nothing-mark p e = (ap letters_mark (sym e), omega arith)

pub letter-part-mark : (p : List ℕ) (x a : ℕ) → p ≡ x ∷ [] → Letter x a → (a ≡ letters_mark p) × (a ≤ 62500)
letter-part-mark p x a e w = (one_letter x a w ∙ ap letters_mark (sym e), omega (arith, w.1))

pub wedge-mark : (p : List ℕ) (x y a b : ℕ) → p ≡ x ∷ y ∷ [] → Letter x a → Letter y b → (a * b ≡ letters_mark p) × (a * b ≤ 62500)
wedge-mark p x y a b e v w = (two_letters x y a b v w ∙ ap letters_mark (sym e), two_small a b v.1 w.1)

-- ════ factors from the last to the first

module _ (f : List ℕ) (n : ℕ) (h : n ≤ length f) where
  -- those from a place on
  abbrev From : (i a : ℕ) → Type 0
  From i a = (a ≡ factors_mark (map letters_of (drop i (take n f)))) × (a + 15625000 * i ≤ 15625000 * n)

  pub from_none : From n 0
  unfolding factors_mark
  from_none = (ap (λ (l : List ℕ). factors_mark (map letters_of l)) (sym (nothing_left_lem f n n h (N.le_refl n))), omega arith)

  pub from_more : (i a b : ℕ) → i < n → From (i + 1) a → (b ≡ letters_mark (letters_of (get_or f i 0))) × (b ≤ 15625000) → From i (b + a)
  unfolding factors_mark
  from_more i a b g w v = (
    (λ j. v.0 j + w.0 j) ∙ ap (λ (l : List ℕ). factors_mark (map letters_of l)) (sym (rest_at f n i 0 h g)),
    omega (arith, v.1, w.1),
  )

-- ════ the letters of a rule

six-marks : (ls : List ℕ) (a b c d e g : ℕ) → Letter (get_or ls 0 0) a → Letter (get_or ls 1 0) b → Letter (get_or ls 2 0) c → Letter (get_or ls 3 0) d
    → Letter (get_or ls 4 0) e → Letter (get_or ls 5 0) g
    → (p : ℕ) → 1 ≤ p → p ≤ 6 → get_or (1 ∷ a ∷ b ∷ c ∷ d ∷ e ∷ g ∷ 1 ∷ []) p 0 ≡ letter_mark (letter ls p)
unfolding letter
six-marks ls a b c d e g u v w x y z zero h k = absurd (omega arith)
six-marks ls a b c d e g u v w x y z (suc zero) h k = u.0
six-marks ls a b c d e g u v w x y z (suc (suc zero)) h k = v.0
six-marks ls a b c d e g u v w x y z (suc (suc (suc zero))) h k = w.0
six-marks ls a b c d e g u v w x y z (suc (suc (suc (suc zero)))) h k = x.0
six-marks ls a b c d e g u v w x y z (suc (suc (suc (suc (suc zero))))) h k = y.0
six-marks ls a b c d e g u v w x y z (suc (suc (suc (suc (suc (suc zero)))))) h k = z.0
six-marks ls a b c d e g u v w x y z (suc (suc (suc (suc (suc (suc (suc p))))))) h k = absurd (omega arith)

all_small : (l : List ℕ) → All (λ (n : ℕ). n ≤ 250) l → (p : ℕ) → get_or l p 0 ≤ 250
all_small [] a p = omega arith
all_small (x ∷ l) a zero = a.0
all_small (x ∷ l) a (suc p) = all_small l a.1 p

pub letters-marked : (ls : List ℕ) (a b c d e g : ℕ) → Letter (get_or ls 0 0) a → Letter (get_or ls 1 0) b → Letter (get_or ls 2 0) c → Letter (get_or ls 3 0) d
    → Letter (get_or ls 4 0) e → Letter (get_or ls 5 0) g
    → LettersMarked ls (1 ∷ a ∷ b ∷ c ∷ d ∷ e ∷ g ∷ 1 ∷ [])
letters-marked ls a b c d e g u v w x y z = record {
  none = refl;
  at = six-marks ls a b c d e g u v w x y z;
  small = all_small (1 ∷ a ∷ b ∷ c ∷ d ∷ e ∷ g ∷ 1 ∷ []) (omega arith, (u.1, (v.1, (w.1, (x.1, (y.1, (z.1, (omega arith, tt))))))));
  places = refl;
}

-- ════ the places of a row

pub no-places : (l : List ℕ) (c : ℕ) → c ≡ 0 → (0 ≡ places_mark l c) × (0 ≤ 15625000)
unfolding places_mark
no-places l c e = (rw (eq-eqb c 0 e), omega arith)

pub some_places : (l : List ℕ) (c : ℕ) → ((p : ℕ) → get_or l p 0 ≤ 250) → (c ≡ 0 → ⊥)
    → (get_or l (c / 64) 0 * get_or l (c / 8 % 8) 0 * get_or l (c % 8) 0 ≡ places_mark l c) × (get_or l (c / 64) 0 * get_or l (c / 8 % 8) 0 * get_or l (c % 8) 0 ≤ 15625000)
unfolding places_mark
some_places l c h e = (rw (ne_eqb c 0 e), three-small (get_or l (c / 64) 0) (get_or l (c / 8 % 8) 0) (get_or l (c % 8) 0) (h (c / 64)) (h (c / 8 % 8)) (h (c % 8)))

pub product_small : (b p : ℕ) → b ≤ 62500 → p ≤ 62500 → b * p ≤ 3906250000
product_small b p h k = N.mul-le-mul h k

pub product_is : (a b x y z : ℕ) (l : List ℕ) (n : ℕ) → x ≡ places_mark l (n / 16777216 % 512) → y ≡ places_mark l (n / 32768 % 512)
    → z ≡ places_mark l (n / 64 % 512)
    → ((a + (x + y + z) + 3 * (b * (get_or l (n % 64 / 8) 0 * get_or l (n % 64 % 8) 0))) % 509 ≡ product_mark a b l n)
    × ((a + (x + y + z) + 3 * (b * (get_or l (n % 64 / 8) 0 * get_or l (n % 64 % 8) 0))) % 509 < 509)
unfolding product_mark row_mark row_part_mark
product_is a b x y z l n u v w = ((λ i. (a + (u i + v i + w i) + 3 * (b * (get_or l (n % 64 / 8) 0 * get_or l (n % 64 % 8) 0))) % 509), omega arith)

-- ════ the marks of a form

pub term-mark_is : (t : Term) (a b : ℕ) → a ≡ factors_mark (map letters_of (take t.factor_count t.factors)) → b ≡ letters_mark (part_of t.part)
    → ((a + 3 * b) % 509 ≡ mark_of (term_of t)) × ((a + 3 * b) % 509 < 509)
unfolding mark_of term_of
term-mark_is t a b u v = ((λ i. (u i + 3 * v i) % 509), omega arith)

pub covering_none : (marks : List ℕ) → Covering marks []
unfolding Covering
covering_none marks = tt

-- what stands at a mark shows the terms that had it before, and the new one
covers_more : (marks : List ℕ) (ts : List S.Term) (t : S.Term) (h r : ℕ) → length marks ≡ 512 → h ≡ mark_of t → Joint (get_or marks h 0)
    (size_mark t.coef) r → Covering marks ts
    → Covering (set marks h r) (ts ++ t ∷ [])
unfolding Covering Shows size_mark
covers_more marks ts t h r n e j w =
    all_append (λ (u : S.Term). Shows (get_or (set marks h r) (mark_of u) 0) u.coef) ts (t ∷ [])
    (all_implies (λ (u : S.Term). Shows (get_or marks (mark_of u) 0) u.coef) (λ (u : S.Term). Shows (get_or (set marks h r) (mark_of u) 0) u.coef) keeps ts w)
    (subst (λ (v : ℕ). Shows v t.coef) (sym (there (mark_of t) e)) j.own, tt)
  where
    inside : h < length marks
    inside = omega (arith, n, e, mark-small t)

    there : (k : ℕ) → h ≡ k → get_or (set marks h r) k 0 ≡ r
    there k q = ap (λ (k : ℕ). get_or (set marks h r) k 0) (sym q) ∙ get_or-set_same marks h r 0 inside

    -- at the same mark
    joins : (c : ℤ) → Shows (get_or marks h 0) c → Shows r c
    joins c m = go j.others m
      where
        go : (get_or marks h 0 ≡ 0) ⊎ ((r ≡ get_or marks h 0) ⊎ (r ≡ 255)) → Shows (get_or marks h 0) c → Shows r c
        go (inl z) m = absurd (shows_some c (subst (λ (v : ℕ). Shows v c) z m))
        go (inr (inl q)) m = subst (λ (v : ℕ). Shows v c) (sym q) m
        go (inr (inr q)) m = inr q

    keeps : (u : S.Term) → Shows (get_or marks (mark_of u) 0) u.coef → Shows (get_or (set marks h r) (mark_of u) 0) u.coef
    keeps u m = go (eqb (mark_of u) h) refl
      where
        go : (b : Bool) → eqb (mark_of u) h ≡ b → Shows (get_or (set marks h r) (mark_of u) 0) u.coef
        go true q =
            let same : mark_of u ≡ h = eqb-true (mark_of u) h q in
            subst (λ (v : ℕ). Shows v u.coef) (sym (there (mark_of u) (sym same))) (joins u.coef (subst (λ (k : ℕ). Shows (get_or marks k 0)
            u.coef) same m))
        go false q = subst (λ (v : ℕ). Shows v u.coef) (sym (get_or-set_other marks h (mark_of u) r 0 (eqb-false (mark_of u) h q))) m

-- the mark of the next of n rows
pub covering_more : (rows : List (List ℕ)) (coefs : List ℤ) (n : ℕ) (marks : List ℕ) (i h r : ℕ) → Run n rows coefs → i < n → length marks ≡ 512
    → h ≡ mark_of (term_by (get_or rows i []) (get_or coefs i (pos 0))) → Joint (get_or marks h 0) (size_mark (get_or coefs i (pos 0))) r
    → Covering marks (take i (run_of n rows coefs))
    → Covering (set marks h r) (take (i + 1) (run_of n rows coefs))
unfolding term_by
covering_more rows coefs n marks i h r v inside long e j w =
    let t = term_by (get_or rows i []) (get_or coefs i (pos 0)) in
    let next : take (i + 1) (run_of n rows coefs) ≡ take i (run_of n rows coefs) ++ t ∷ [] =
    take-add i 1 (run_of n rows coefs) ∙ ap (λ (l : List S.Term). take i (run_of n rows coefs) ++ take 1 l) (run_at rows coefs n v.room
    v.beside i inside) in
    subst (Covering (set marks h r)) (sym next) (covers_more marks (take i (run_of n rows coefs)) t h r long e j w)

-- all of them
pub covering_all : (rows : List (List ℕ)) (coefs : List ℤ) (n : ℕ) (marks : List ℕ) (i : ℕ) → Run n rows coefs → n ≤ i
    → Covering marks (take i (run_of n rows coefs)) → Covering marks (run_of n rows coefs)
covering_all rows coefs n marks i v h w =
    subst (Covering marks) (take_all i (run_of n rows coefs) (omega (arith, run_length rows coefs n v.room v.beside))) w
