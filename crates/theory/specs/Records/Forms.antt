-- Form records (P3): a form in shape is read back from its record, and bytes that are read are those that are written. Assumes nothing.
use Rattle.std.specs.Prelude.{◌≡◌, refl, Bool, ◌&&◌, ℕ, zero, suc, ◌+◌, ◌≤◌, length, get_or, T, leb, eqb}
use Rattle.std.proofs.Common.{ap, sym, ◌∙◌, subst, arith, leb→le, eqb→eq, le-leb, eq-eqb}
use mathlib.Core.List.{List, [], ◌∷◌, ◌++◌, map, append-nil}
use Rattle.std.proofs.Math.Seq.{append_snoc}
use Rattle.specification.specs.Lists.{all, ascend, follows, joined}
use Rattle.specification.specs.Results.{given}
use Rattle.specification.specs.Terms.{Term, Form, term_before, term_in_shape}
use Rattle.specification.specs.Records.{write_term, write_form, read_term_at, part_fits, read_terms, read_form_at, read_form}
use Rattle.theory.specs.Tests.{is_true, and_both, and_split, given_same, past, into}
use Rattle.theory.specs.Shape.Forms.{FormInShape}
use Rattle.theory.specs.Records.Positions.{Spells, Bytes, spells_none, spells-cons, spells-join, spells_first, spells-rest, spells_all, spells-whole, spelled-there, spelled-byte, spelled-tail}
use Rattle.theory.specs.Records.Terms.{term_read, term_written}

-- ════ the order of a list that grows at its end

module _ {A : Type 0} (f : A → A → Bool) where
  ascending-follows : (xs : List A) (y : A) (ys : List A) → T (ascend f (xs ++ y ∷ ys)) → T (follows f xs y)
  unfolding ascend follows
  ascending-follows [] y ys h = tt
  ascending-follows (x ∷ []) y ys h = (and_split (f x y) (ascend f (y ∷ ys)) h).0
  ascending-follows (x ∷ z ∷ zs) y ys h = ascending-follows (z ∷ zs) y ys (and_split (f x z) (ascend f (z ∷ zs ++ y ∷ ys)) h).1

  follows-ascending : (xs : List A) (y : A) → T (ascend f xs) → T (follows f xs y) → T (ascend f (xs ++ y ∷ []))
  unfolding ascend follows
  follows-ascending [] y h g = tt
  follows-ascending (x ∷ []) y h g = and_both (f x y) (ascend f (y ∷ [])) g tt
  follows-ascending (x ∷ z ∷ zs) y h g =
      let w = and_split (f x z) (ascend f (z ∷ zs)) h in
      and_both (f x z) (ascend f (z ∷ zs ++ y ∷ [])) w.0 (follows-ascending (z ∷ zs) y w.1 g)

-- ════ terms

-- the records of terms, one behind the other
abbrev records : List Term → List ℕ
records ts = joined (map write_term ts)

terms_read : (s : List ℕ) (kind : ℕ) (before ts : List Term) (a b : ℕ) → T (all term_in_shape ts) → T (all (part_fits kind) ts)
    → T (ascend term_before (before ++ ts)) → Spells s a b (records ts) → read_terms (length ts) kind before s a ≡ given (before ++ ts, b)
unfolding read_terms all joined
terms_read s kind before [] a b h g o p = let e : a ≡ b = omega (arith, p.ends) in simp (append-nil, e)
terms_read s kind before (t ∷ ts) a b h g o p =
    let w = write_term t in
    let h' = and_split (term_in_shape t) (all term_in_shape ts) h in
    let g' = and_split (part_fits kind t) (all (part_fits kind) ts) g in
    let r = term_read s a (a + length w) t h'.0 (spells_first s a b w (records ts) p) in
    let l = is_true (follows term_before before t) (ascending-follows term_before before t ts o) in
    let i = terms_read s kind (before ++ t ∷ []) ts (a + length w) b h'.1 g'.1 (rw append_snoc o) (spells-rest s a b w (records ts) p) in
    simp (r, is_true (part_fits kind t) g'.0, l) (i ∙ simp append_snoc)

-- what reading terms behind others gives
record TermsRead (s : List ℕ) (kind : ℕ) (before us : List Term) (a b count : ℕ) : Type 0 where
  ts : List Term
  behind : us ≡ before ++ ts
  counted : length ts ≡ count
  in_shape : T (all term_in_shape ts)
  parts : T (all (part_fits kind) ts)
  ascending : T (ascend term_before us)
  spelled : Spells s a b (records ts)

terms_written : (count : ℕ) (s : List ℕ) (kind : ℕ) (before us : List Term) (a b : ℕ) → Bytes s → a ≤ length s → T (ascend term_before before)
    → read_terms count kind before s a ≡ given (us, b) → TermsRead s kind before us a b count
unfolding read_terms all joined
terms_written zero s kind before us a b bs h o e =
    subst (λ (v : List Term × ℕ). TermsRead s kind before v.0 a v.1 0) (given_same e)
    (record { ts = []; behind = sym (append-nil before); counted = refl; in_shape = tt; parts = tt; ascending = o; spelled = spells_none s a h })
terms_written (suc count) s kind before us a b bs h o e =
    into (read_term_at s a) _ (us, b) e λ r e₁ e₂.
    past (part_fits kind r.0 && follows term_before before r.0) 11 _ (us, b) e₂ λ c e₃.
    let k = and_split (part_fits kind r.0) (follows term_before before r.0) c in
    let w = term_written s a r.1 r.0 bs e₁ in
    let i = terms_written count s kind (before ++ r.0 ∷ []) us r.1 b bs w.spelled.fits (follows-ascending term_before before r.0 o k.1) e₃ in
    record {
      ts = r.0 ∷ i.ts;
      behind = i.behind ∙ append_snoc before r.0 i.ts;
      counted = ap suc i.counted;
      in_shape = and_both (term_in_shape r.0) (all term_in_shape i.ts) w.in_shape i.in_shape;
      parts = and_both (part_fits kind r.0) (all (part_fits kind) i.ts) k.0 i.parts;
      ascending = i.ascending;
      spelled = spells-join s a r.1 b (write_term r.0) (records i.ts) w.spelled i.spelled;
    }

-- ════ forms

-- a form in shape is read back, wherever its record stands
pub form_read : (s : List ℕ) (a b : ℕ) (f : Form) → FormInShape f → Spells s a b (write_form f) → read_form_at s a ≡ given (f, b)
unfolding read_form_at write_form
form_read s a b f h p =
    let c = length f.terms in
    let p₁ = spelled-tail s a b f.kind (c ∷ records f.terms) p in
    let p₂ = spelled-tail s (a + 1) b c (records f.terms) p₁ in
    let e : a + 2 ≡ a + 1 + 1 = omega arith in
    let r = terms_read s f.kind [] f.terms (a + 2) b h.terms h.parts h.ascending (rw e p₂) in
    simp (
      le-leb (a + 2) (length s) (omega (arith, spelled-there s (a + 1) b c (records f.terms) p₁)),
      spelled-byte s a b f.kind (c ∷ records f.terms) p,
      spelled-byte s (a + 1) b c (records f.terms) p₁,
      le-leb f.kind 1 h.kind,
      le-leb c 48 h.count,
      r,
    )

-- what reading a form gives
pub record FormRead (s : List ℕ) (a b : ℕ) (f : Form) : Type 0 where
  pub in_shape : FormInShape f
  pub spelled : Spells s a b (write_form f)

form_of-terms : (s : List ℕ) (a b : ℕ) (us : List Term) → a + 2 ≤ length s → T (leb (get_or s a 0) 1 && leb (get_or s (a + 1) 0) 48)
    → TermsRead s (get_or s a 0) [] us (a + 2) b (get_or s (a + 1) 0) → FormRead s a b (record { kind = get_or s a 0; terms = us })
unfolding write_form
form_of-terms s a b us l m i =
    let k = get_or s a 0 in
    let c = get_or s (a + 1) 0 in
    let w = and_split (leb k 1) (leb c 48) m in
    let m₁ = leb→le k 1 w.0 in
    let m₂ = leb→le c 48 w.1 in
    let e : a + 2 ≡ a + 1 + 1 = omega arith in
    let n : length us ≡ c = ap length i.behind ∙ i.counted in
    record {
      in_shape = record {
        kind = m₁;
        count = omega arith;
        terms = rw i.behind i.in_shape;
        parts = rw i.behind i.parts;
        ascending = i.ascending;
      };
      spelled = rw (i.behind, i.counted)
          (spells-cons s a b _ (omega arith) (spells-cons s (a + 1) b _ (omega arith) (rw e at i.spelled)));
    }

-- a form that is read is in shape, and its bytes are those that are written
pub form_written : (s : List ℕ) (a b : ℕ) (f : Form) → Bytes s → read_form_at s a ≡ given (f, b) → FormRead s a b f
unfolding read_form_at ascend
form_written s a b f bs e =
    let k = get_or s a 0 in
    let c = get_or s (a + 1) 0 in
    past (leb (a + 2) (length s)) 11 _ (f, b) e λ l e₁.
    past (leb k 1 && leb c 48) 11 _ (f, b) e₁ λ m e₂.
    into (read_terms c k [] s (a + 2)) _ (f, b) e₂ λ r e₃ e₄.
    let l' = leb→le (a + 2) (length s) l in
    subst (λ (v : Form × ℕ). FormRead s a v.1 v.0) (given_same e₄)
    (form_of-terms s a r.1 r.0 l' m (terms_written c s k [] r.0 (a + 2) r.1 bs l' tt e₃))

-- ════ records that stand alone

-- P3: reading what was written gives the form
pub form-read_back : (f : Form) → FormInShape f → read_form (write_form f) ≡ given f
unfolding read_form
form-read_back f h =
    let w = write_form f in
    simp (form_read w 0 (length w) f h (spells_all w), eq-eqb (length w) (length w) refl)

-- what bytes that are read say
pub record FormOf (s : List ℕ) (f : Form) : Type 0 where
  pub in_shape : FormInShape f
  pub is_written : write_form f ≡ s

-- P3: writing what was read gives the bytes, and the form is in shape; so there is one record for each form
pub form_one_record : (s : List ℕ) (f : Form) → Bytes s → read_form s ≡ given f → FormOf s f
unfolding read_form
form_one_record s f bs e =
    into (read_form_at s 0) _ f e λ r e₁ e₂.
    past (eqb r.1 (length s)) 11 _ f e₂ λ l e₃.
    let w = form_written s 0 r.1 r.0 bs e₁ in
    let q : Spells s 0 (length s) (write_form r.0) = rw (← eqb→eq r.1 (length s) l) w.spelled in
    subst (FormOf s) (given_same e₃) (record { in_shape = w.in_shape; is_written = spells-whole s (write_form r.0) q })
