-- Forms expanded term by term, and the difference of two forms gathered. Assumes nothing.
use mathlib.Core.Path.{◌≡◌, refl, sym, ◌∙◌, ap, subst}
use mathlib.Core.List.{List, [], ◌∷◌, ◌++◌, map, append_assoc, append-nil}
use Prim.Native.Nat.{ℕ, ◌+◌, ◌*◌, ◌≤◌, ◌<◌, ◌^◌}
use native.Mathlib.Nat as N
use native.Mathlib.Numerals.{add-one}
use native.Mathlib.Omega.{arith}
use lib.Dec.{T, leb→le}
use lib.IntN.{ℤ, pos, negsuc, nat_abs}
use lib.ListN.{length, get_or, take, length-append}
use lib.Seq.{take-suc, length-take-le}
use Rattle.algebra.specs.Integers.{nat_abs_*ℤ}
use Rattle.algebra.specs.Numbers.{power_one}
use Rattle.specification.specs.Lists.{joined}
use Rattle.specification.specs.Terms as S
use Rattle.theory.specs.Elements.{All, all_append, all_T, all_unmap}
use Rattle.theory.specs.Shape.Terms.{term-opens}
use Rattle.terms.specs.declared.types.Term.{Term}
use Rattle.terms.specs.declared.types.Form.{Form}
use Rattle.terms.specs.Abstraction.{term_of, form_of}
use Rattle.terms.specs.Valid.{TermValid, FormValid}
use Rattle.terms.proofs.Arrays.{no_term, all-at, mapped-behind}
use Rattle.record_writing.proofs.Factors.{joined-append}
use Rattle.forms.proofs.Forms.{term_at_lem}
use Rattle.polynomials.specs.Keys.{exponent}
use Rattle.polynomials.specs.Summands.{Summand, size, mass, put_for, substituted, Weakly}
use Rattle.polynomials.specs.Passes.{Substitutable, Substituted}
use Rattle.polynomials.specs.Sorting.{Rearranged, SortedTo}
use Rattle.polynomials.specs.Expansion.{Modest, expand_term, Expandable, Expanded}
use Rattle.elimination.specs.Differences.{expand_terms, TermBelow, FormExpandable, difference, Comparable, Compared}
use Rattle.polynomials.proofs.Expansions.{term_few, term-modest}
use Rattle.polynomials.proofs.Orders.{reordered_all, reordered-length}

-- ════ one term more

-- the summands of one term more stand behind those of the others
expand_more : (i : ℕ) (sign : ℤ) (ts : List S.Term) (t : S.Term) → expand_terms i sign (ts ++ t ∷ []) ≡ expand_terms i sign ts ++ expand_term i sign t
unfolding expand_terms joined
expand_more i sign ts t =
    ap joined (mapped-behind (expand_term i sign) ts t) ∙ joined-append (map (expand_term i sign) ts) (expand_term i sign t ∷ [])
    ∙ ap (λ (l : List Summand). joined (map (expand_term i sign) ts) ++ l) (one (expand_term i sign t))
  where
    one : (l : List Summand) → joined (l ∷ []) ≡ l
    one l = append-nil l

-- the terms before k are expanded
pub record Filled (start : ℕ) (f : Form) (i : ℕ) (sign : ℤ) (k n : ℕ) (ms ns : List Summand) : Type 0 where
  pub expanded : Expanded start (expand_terms i sign (map term_of (take k f.terms))) n ms ns
  pub few : n ≤ 36 * k
  pub most : k ≤ f.count

module _ (start : ℕ) (f : Form) (i : ℕ) (sign : ℤ) (ms : List Summand) (w : FormExpandable start f i sign ms) where
  -- no term is expanded yet
  pub fill-starts : Filled start f i sign 0 0 ms ms
  unfolding expand_terms joined
  fill-starts =
      let z : start + 0 ≡ start = omega arith in
      record { expanded = record { front = ap (λ (k : ℕ). take k ms) z ∙ sym (append-nil (take start ms)); count = refl; same = refl }; few = omega arith; most = omega arith }

  module _ (places : f.count ≤ length f.terms) (k : ℕ) (l : k < f.count) (n : ℕ) (ns : List Summand) (s : Filled start f i sign k n ms ns) where
    abbrev t : Term
    t = get_or f.terms k no_term

    valid : TermValid t
    valid = term_at_lem f k no_term w.valid places l

    below : TermBelow (term_of t)
    unfolding form_of
    below = all-at (λ (x : Term). TermBelow (term_of x)) f.terms f.count k no_term places l (all_unmap TermBelow term_of (take f.count f.terms) w.below)

    -- there is room for the next one
    pub fill-asks : Expandable (start + n) t i sign ns
    fill-asks =
        record {
          room = omega (arith, w.room, s.few, s.expanded.same, N.mul-le-mul_left 36 l);
          valid = valid;
          factors = below.factors;
          part = below.part;
          component = w.component;
          unit = w.unit;
        }

    pub sum_fits : start + n ≤ length ms
    sum_fits = omega (arith, w.room, s.few, N.mul-le-mul_left 36 l)

    -- it is expanded
    pub fill_on : (r : ℕ) (os : List Summand) → Expanded (start + n) (expand_term i sign (term_of t)) r ns os → (n + r ≤ length ms) × Filled start f i sign (k + 1) (n + r) ms os
    fill_on r os e =
        let es = expand_terms i sign (map term_of (take k f.terms)) in
        let is : expand_terms i sign (map term_of (take (k + 1) f.terms)) ≡ es ++ expand_term i sign (term_of t) =
        ap (λ (j : ℕ). expand_terms i sign (map term_of (take j f.terms))) (add-one k) ∙ ap (λ (x : List Term). expand_terms i sign (map term_of x)) (take-suc f.terms k no_term (omega arith))
        ∙ ap (expand_terms i sign) (mapped-behind term_of (take k f.terms) t) ∙ expand_more i sign (map term_of (take k f.terms)) (term_of t) in
        let small : r ≤ 36 = omega (arith, e.count, term_few i sign (term_of t) valid.in_shape) in (
          omega (arith, w.room, s.few, N.mul-le-mul_left 36 l),
          record {
            expanded = record {
              front = ap (λ (j : ℕ). take j os) (sym (N.add_assoc start n r)) ∙ e.front ∙ ap (λ (x : List Summand). x ++ expand_term i sign (term_of t)) s.expanded.front
                  ∙ append_assoc (take start ms) es (expand_term i sign (term_of t)) ∙ ap (λ (x : List Summand). take start ms ++ x) (sym is);
              count = omega (arith, s.expanded.count, e.count, ap length is, length-append es (expand_term i sign (term_of t)));
              same = e.same ∙ s.expanded.same;
            };
            few = omega (arith, s.few, small);
            most = omega arith;
          },
        )

  -- all terms are
  pub fill_ends : (k : ℕ) → f.count ≤ k → (n : ℕ) (ns : List Summand) → Filled start f i sign k n ms ns → Expanded start (expand_terms i sign (form_of f).terms) n ms ns
  unfolding form_of
  fill_ends k l n ns s =
      let e : k ≡ f.count = omega (arith, s.most) in
      subst (λ (j : ℕ). Expanded start (expand_terms i sign (map term_of (take j f.terms))) n ms ns) e s.expanded

-- the same with another name for the sign
pub fill_as : (start : ℕ) (f : Form) (i : ℕ) (z y : ℤ) (ms : List Summand) → y ≡ z → FormExpandable start f i z ms → FormExpandable start f i y ms
fill_as start f i z y ms e w = subst (λ (s : ℤ). FormExpandable start f i s ms) (sym e) w

-- and what is promised
pub filled_as : (start : ℕ) (f : Form) (i : ℕ) (z y : ℤ) (n : ℕ) (ms ns : List Summand) → y ≡ z → Expanded start (expand_terms i y (form_of f).terms) n ms ns
    → Expanded start (expand_terms i z (form_of f).terms) n ms ns
filled_as start f i z y n ms ns e w = subst (λ (s : ℤ). Expanded start (expand_terms i s (form_of f).terms) n ms ns) e w

-- ════ bounds

-- 36 summands a term
terms-few : (i : ℕ) (sign : ℤ) (ts : List S.Term) → All (λ (t : S.Term). T (S.term_in_shape t)) ts → length (expand_terms i sign ts) ≤ 36 * length ts
unfolding expand_terms joined
terms-few i sign [] h = omega arith
terms-few i sign (t ∷ ts) h =
    omega (arith, length-append (expand_term i sign t) (expand_terms i sign ts), term_few i sign t h.0, terms-few i sign ts h.1)

-- with coefficients of terms
terms-modest : (i : ℕ) (sign : ℤ) (ts : List S.Term) → i < 3 → nat_abs sign ≤ 1 → All (λ (t : S.Term). T (S.term_in_shape t)) ts → All TermBelow ts → All Modest (expand_terms i sign ts)
unfolding expand_terms joined S.coef_within
terms-modest i sign [] l u h b = tt
terms-modest i sign (t ∷ ts) l u h b =
    all_append Modest (expand_term i sign t) (expand_terms i sign ts)
    (term-modest i sign t l b.0.factors b.0.part (leb→le (nat_abs t.coef) 2147483647 (term-opens t h.0).within) u)
    (terms-modest i sign ts l u h.1 b.1)

-- the terms of a valid form
pub in_shape_lem : (f : Form) → FormValid f → All (λ (t : S.Term). T (S.term_in_shape t)) (form_of f).terms
in_shape_lem f v = all_T S.term_in_shape (form_of f).terms v.in_shape.terms

-- with 1 put for a variable no coefficient changes
mass_one : (d : ℕ) (ms : List Summand) → All Modest ms → mass (map (put_for d 1) ms) ≤ length ms * 2147483647
unfolding size put_for
mass_one d [] h = omega arith
mass_one d (m ∷ ms) h =
    omega (arith, mass_one d ms h.1, nat_abs_*ℤ m.coef (pos (1 ^ exponent 8 d m.key)), ap (λ (x : ℕ). nat_abs m.coef * x) (power_one (exponent 8 d m.key)), h.0)

-- ════ the difference gathered

module _ (f g : Form) (i : ℕ) (ms : List Summand) (w : Comparable f g i ms) where
  abbrev firsts : List Summand
  firsts = expand_terms i (pos 1) (form_of f).terms

  abbrev seconds : List Summand
  seconds = expand_terms i (negsuc 0) (form_of g).terms

  -- the first form is expanded from the start on
  pub first_asks : FormExpandable 0 f i (pos 1) ms
  first_asks = record { room = omega (arith, w.room, w.valid_first.few); valid = w.valid_first; below = w.below_first; component = w.component; unit = N.le_refl 1 }

  few-firsts : length firsts ≤ 1728
  few-firsts = omega (arith, terms-few i (pos 1) (form_of f).terms (in_shape_lem f w.valid_first), w.valid_first.in_shape.count, N.mul-le-mul_left 36 w.valid_first.in_shape.count)

  few-seconds : length seconds ≤ 1728
  few-seconds = omega (arith, terms-few i (negsuc 0) (form_of g).terms (in_shape_lem g w.valid_second), N.mul-le-mul_left 36 w.valid_second.in_shape.count)

  -- both have at most 3,456 summands
  pub few_all : length (difference i (form_of f) (form_of g)) ≤ 3456
  unfolding difference
  few_all = omega (arith, length-append firsts seconds, few-firsts, few-seconds)

  -- with coefficients of terms
  pub all_modest : All Modest (difference i (form_of f) (form_of g))
  unfolding difference
  all_modest =
      all_append Modest firsts seconds
      (terms-modest i (pos 1) (form_of f).terms w.component (N.le_refl 1) (in_shape_lem f w.valid_first) w.below_first)
      (terms-modest i (negsuc 0) (form_of g).terms w.component (N.le_refl 1) (in_shape_lem g w.valid_second) w.below_second)

  module _ (m : ℕ) (ns : List Summand) (e : Expanded 0 firsts m ms ns) where
    -- the second form is expanded behind the first
    pub second-asks : FormExpandable m g i (negsuc 0) ns
    second-asks =
        record { room = omega (arith, w.room, w.valid_second.few, e.count, e.same, few-firsts); valid = w.valid_second; below = w.below_second; component = w.component; unit = N.le_refl 1 }

    module _ (r : ℕ) (os : List Summand) (d : Expanded m seconds r ns os) where
      -- so many there are
      pub counts : m + r ≡ length (difference i (form_of f) (form_of g))
      unfolding difference
      counts = omega (arith, e.count, d.count, length-append firsts seconds)

      pub counts-few : m + r ≤ 3456
      counts-few = omega (arith, counts, few_all)

      both : take (m + r) os ≡ difference i (form_of f) (form_of g)
      unfolding difference
      both = d.front ∙ ap (λ (l : List Summand). l ++ seconds) (ap (λ (k : ℕ). take k ns) (sym (N.zero-add m)) ∙ e.front)

      -- all are in memory
      pub sort-asks : m + r ≤ length os
      sort-asks = omega (arith, counts-few, w.room, e.same, d.same)

      module _ (ps : List Summand) (s : SortedTo (m + r) os ps) where
        same_sorted : length ps ≡ length os
        same_sorted = reordered-length (m + r) os s.reordered

        -- like ones can be added
        pub substitute-asks : (m + r ≤ length ps) × Substitutable 255 1 (take (m + r) ps)
        substitute-asks =
            let a : All Modest (take (m + r) ps) = reordered_all Modest (m + r) os s.reordered (subst (All Modest) (sym both) all_modest) in
            let l : length (take (m + r) ps) ≡ m + r = length-take-le (m + r) ps (omega (arith, sort-asks, same_sorted)) in (
              omega (arith, sort-asks, same_sorted),
              record {
                digit = omega arith;
                number = omega arith;
                small = omega (arith, mass_one 255 (take (m + r) ps) a, N.mul-le-mul_right 2147483647 counts-few, ap (λ (x : ℕ). x * 2147483647) l);
              },
            )

        -- what is left is the difference, gathered
        pub compared : (q : ℕ) (qs : List Summand) → Substituted 255 1 (m + r) q ps qs → Compared (difference i (form_of f) (form_of g)) q ms qs
        compared q qs u =
            record {
              before = os;
              sorted = ps;
              expanded = ap (λ (k : ℕ). take k os) (sym counts) ∙ both;
              reordered = subst (λ (k : ℕ). Rearranged k os ps) counts s.reordered;
              ascending = subst (λ (k : ℕ). Weakly 0 (take k ps)) counts s.ascending;
              is = u.is ∙ ap (λ (k : ℕ). substituted 255 1 (take k ps)) counts;
              few = omega (arith, u.few, counts);
              same = u.count ∙ same_sorted ∙ d.same ∙ e.same;
            }
