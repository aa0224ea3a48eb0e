-- Names, numbers, triples and closing parentheses as they are read. Assumes nothing.
use mathlib.Core.Path.{◌≡◌, refl, sym, ◌∙◌, ap, subst}
use mathlib.Core.Bool.{Bool, true, false, ◌&&◌}
use mathlib.Core.List.{List}
use Prim.Native.Nat.{ℕ, ◌≤◌, ◌<◌, ◌^◌}
use native.Mathlib.Omega.{arith}
use borrow.Author.Tests.{eq-eqb, ne_eqb, eqb-true, eqb-false, lt-ltb, le-ltb, leb-true, leb-false}
use lib.Dec.{eqb, ltb, leb, eqb→eq}
use lib.IntN.{ℤ, pos, nat_abs}
use lib.ListN.{length, get_or}
use mir.Syntax.{w64}
use mir.Val.{to_z}
use mir.ValLaws.{to_z_pos}
use Rattle.specification.specs.Results.{given, when◌then◌else◌}
use Rattle.specification.specs.Letters.{kind_of}
use Rattle.specification.specs.Terms.{Form}
use Rattle.specification.specs.Reduction.{letter_form, constant_form, triple_forms}
use Rattle.specification.specs.Text.{Placed, refused_at, placed, ◌>>=◌, at_column, is_letter, is_triple, skip, next, place_of, read_digits}
use Rattle.theory.specs.Tests.{and_split, holds, given_same}
use Rattle.theory.specs.Text.Bounds.{there-letter}
use Rattle.theory.specs.Text.Columns.{beyond_refused}
use Rattle.theory.specs.Text.Turns.{byte-there}
use Rattle.theory.specs.Text.OnTheWay.{Way, triple_at, way_name, way_number, way_triple, way_closed}
use Rattle.rows.specs.declared.Worked.{Worked}
use Rattle.rows.specs.Rows.{form_by, RowsGive}
use Rattle.texts.specs.declared.Number.{Number}
use Rattle.texts.specs.Numbers.{capped, NumberRead}
use Rattle.std.specs.Prelude.{Ok, Err}
use Rattle.std.specs.Prelude as Std
use Rattle.std.proofs.lemmas.Result.{IfOk-at_ok}
use Rattle.refusal.specs.declared.Refusal.{Refusal}
use Rattle.refusal.specs.declared.Refusal.TheVariants.{Torn, AbsentLetter}
use Rattle.refusal.specs.Numbers.{number_of}
use Rattle.texts.specs.declared.Unread.{Unread}
use Rattle.texts.specs.Readings.{placed_of}
use Rattle.formulas.specs.declared.atoms.Name.{Name}
use Rattle.formulas.specs.declared.joining.Reading.{Reading}
use Rattle.formulas.specs.Readings.{worked_at, named, Formed, WayGives, NameRead, TripleRead, ClosedAs}
use Rattle.formulas.proofs.Results.{worked-as, gives_refused, gives_read, then_read, then_refused}

-- ════ names

module _ (names table s : List ℕ) (at b n : ℕ) (hb : b ≡ get_or s at 0) (hn : n ≡ place_of names b) where
  place_is_lem : place_of names (get_or s at 0) ≡ n
  place_is_lem = ap (place_of names) (sym hb) ∙ sym hn

  -- not declared
  pub name-unread : (rows : List (List ℕ)) (coefs : List ℤ) → length names ≤ n
      → NameRead (way_name names table s at) (Err (record { why = AbsentLetter; column = at })) rows coefs
  unfolding way_name
  name-unread rows coefs h = record { is = rw (place_is_lem, le-ltb n (length names) h); formed = tt }

  -- a letter
  pub name_read : (w : Worked) (kind after : ℕ) (rows : List (List ℕ)) (coefs : List ℤ) → n < length names → kind ≡ kind_of table n
      → RowsGive (given (letter_form n kind)) (Ok w) rows coefs → after ≡ next s at
      → NameRead (way_name names table s at) (Ok (record { work = w; next = after })) rows coefs
  unfolding way_name
  name_read w kind after rows coefs h k g e = record {
    is = rw (place_is_lem, lt-ltb n (length names) h, sym k) (λ i. placed (placed (given_same (sym g.is) i), sym e i));
    formed = record { form = g.form };
  }

-- ════ numbers

module _ (s : List ℕ) (at : ℕ) (d : Number) (h : NumberRead s at d) where
  -- a capped number fits
  pub number_fits : nat_abs (pos d.value) < 2 ^ 63
  unfolding capped
  number_fits = go (leb number 2147483647) (leb-true number 2147483647) h.value
    where
      number : ℕ
      number = (read_digits (length s) 0 s at).0

      go : (b : Bool) → (b ≡ true → number ≤ 2147483647) → d.value ≡ (when b then number else 2147483648) → nat_abs (pos d.value) < 2 ^ 63
      go true f e = omega (arith, f refl, e)
      go false f e = omega (arith, e)

  -- it is the constant that was read, or refused as that is
  number-constant : constant_form (pos d.value) ≡ constant_form (pos (read_digits (length s) 0 s at).0)
  unfolding capped
  number-constant = go (leb number 2147483647) refl h.value
    where
      number : ℕ
      number = (read_digits (length s) 0 s at).0

      go : (b : Bool) → leb number 2147483647 ≡ b → d.value ≡ (when b then number else 2147483648) → constant_form (pos d.value) ≡ constant_form (pos number)
      go true f e = ap (λ (k : ℕ). constant_form (pos k)) e
      go false f e =
          ap (λ (k : ℕ). constant_form (pos k)) e ∙ beyond_refused 2147483648 (omega arith) ∙ sym (beyond_refused number (leb-false number 2147483647 f))

  -- a number
  pub number_read : (w : Std.Result Worked Refusal) (after : ℕ) (rows : List (List ℕ)) (coefs : List ℤ) → RowsGive (constant_form (to_z w64 d.value)) w rows coefs
      → after ≡ skip s d.next → WayGives (way_number s at) (Ok (record { column = at; next = after; work = w })) rows coefs
  unfolding way_number
  number_read w after rows coefs g e =
      let value : to_z w64 d.value ≡ pos d.value = to_z_pos w64 d.value number_fits in
      gives_read _ (at_column at (constant_form (pos (read_digits (length s) 0 s at).0))) (skip s (read_digits (length s) 0 s at).1) _ rows coefs refl
      (worked-as _ w at rows coefs g ∙ ap (at_column at) (ap constant_form value ∙ number-constant)) (e ∙ ap (skip s) h.next) (record { form = g.form })

-- ════ triples

-- the triple of three that were worked
pub triple-worked : (s : List ℕ) (at after : ℕ) (x y z : Name) (ra : List (List ℕ)) (ca : List ℤ) (rb : List (List ℕ)) (cb : List ℤ) (rc : List (List ℕ))
    (cc : List ℤ) (w : Std.Result Worked Refusal) (rows : List (List ℕ)) (coefs : List ℤ)
    → RowsGive (triple_forms (named x ra ca) (named y rb cb) (named z rc cc)) w rows coefs → after ≡ next s z.next
    → TripleRead s at x ra ca y rb cb z rc cc (record { column = at; next = after; work = w }) rows coefs
unfolding triple_at
triple-worked s at after x y z ra ca rb cb rc cc w rows coefs g e =
    record { is = worked-as _ w at rows coefs g; next_is = e; read = record { form = g.form } }

-- three names and a closing parenthesis stand inside the text
pub record TripleInside (s : List ℕ) (p : ℕ) : Type 0 where
  pub one : p < length s
  pub two : next s p < length s
  pub three : next s (next s p) < length s
  pub close : next s (next s (next s p)) < length s

pub triple-inside : (s : List ℕ) (p : ℕ) → is_triple s p ≡ true → TripleInside s p
unfolding is_triple
triple-inside s p h =
    let a = is_letter (get_or s p 0) in
    let b = is_letter (get_or s (next s p) 0) in
    let c = is_letter (get_or s (next s (next s p)) 0) in
    let w = and_split (a && b && c) (eqb (get_or s (next s (next s (next s p))) 0) 41) (holds _ h) in
    let v = and_split (a && b) c w.0 in
    let u = and_split a b v.0 in
    record {
      one = there-letter s p u.0;
      two = there-letter s (next s p) u.1;
      three = there-letter s (next s (next s p)) v.1;
      close = byte-there s (next s (next s (next s p))) 40 (eqb→eq (get_or s (next s (next s (next s p))) 0) 41 w.1);
    }

-- a name that was read is behind its byte
pub name-behind : (names table s : List ℕ) (at : ℕ) (n : Name) (rows : List (List ℕ)) (coefs : List ℤ) → NameRead (way_name names table s at) (Ok n) rows coefs
    → n.next ≡ next s at
unfolding way_name
name-behind names table s at n rows coefs h = go (ltb (place_of names (get_or s at 0)) (length names)) h.is
  where
    go : (b : Bool)
        → ◌≡◌ {A = Way} (when b then placed (placed (letter_form (place_of names (get_or s at 0)) (kind_of table (place_of names (get_or s at 0)))), next s at) else refused_at 5 at)
        (placed (placed (named n rows coefs), n.next)) → n.next ≡ next s at
    go true q = let z : ◌≡◌ {A = Placed Form × ℕ} (placed (letter_form (place_of names (get_or s at 0)) (kind_of table (place_of names (get_or s at 0)))), next s at)
        (placed (named n rows coefs), n.next) = cc in sym (ap (λ (w : Placed Form × ℕ). w.1) z)
    go false q = let z : ◌≡◌ {A = ℕ} 0 1 = cc in absurd (omega (arith, z))

-- a name that is not declared refuses what comes behind
name_refuses : (x : Way) (e : Unread) (ra : List (List ℕ)) (ca : List ℤ) → NameRead x (Err e) ra ca → (k : Placed Form × ℕ → Way)
    → (x >>= k) ≡ refused_at (number_of e.why) e.column
name_refuses x e ra ca h k = ap (λ (y : Way). y >>= k) h.is

-- a name that was read is handed on
name_hands : (x : Way) (n : Name) (ra : List (List ℕ)) (ca : List ℤ) → NameRead x (Ok n) ra ca → (k : Placed Form × ℕ → Way)
    → (x >>= k) ≡ k (placed (named n ra ca), n.next)
name_hands x n ra ca h k = ap (λ (y : Way). y >>= k) h.is

module _ (names table s : List ℕ) (at p : ℕ) (hp : p ≡ next s at) where
  -- the first name is not declared
  pub first_unread : (e : Unread) (ra : List (List ℕ)) (ca : List ℤ) → NameRead (way_name names table s p) (Err e) ra ca
      → (rows : List (List ℕ)) (coefs : List ℤ) → WayGives (way_triple names table s at) (Err e) rows coefs
  unfolding way_triple
  first_unread e ra ca h rows coefs =
      gives_refused _ e rows coefs (name_refuses _ e ra ca (subst (λ (k : ℕ). NameRead (way_name names table s k) (Err e) ra ca) hp h) _)

  module _ (x : Name) (ra : List (List ℕ)) (ca : List ℤ) (hx : NameRead (way_name names table s p) (Ok x) ra ca) where
    first-is : NameRead (way_name names table s (next s at)) (Ok x) ra ca
    first-is = subst (λ (k : ℕ). NameRead (way_name names table s k) (Ok x) ra ca) hp hx

    -- the second is not declared
    pub second-unread : (e : Unread) (rb : List (List ℕ)) (cb : List ℤ) → NameRead (way_name names table s x.next) (Err e) rb cb
        → (rows : List (List ℕ)) (coefs : List ℤ) → WayGives (way_triple names table s at) (Err e) rows coefs
    unfolding way_triple
    second-unread e rb cb hy rows coefs = gives_refused _ e rows coefs (name_hands _ x ra ca first-is _ ∙ name_refuses _ e rb cb hy _)

    module _ (y : Name) (rb : List (List ℕ)) (cb : List ℤ) (hy : NameRead (way_name names table s x.next) (Ok y) rb cb) where
      -- the third is not declared
      pub third-unread : (e : Unread) (rc : List (List ℕ)) (cc : List ℤ) → NameRead (way_name names table s y.next) (Err e) rc cc
          → (rows : List (List ℕ)) (coefs : List ℤ) → WayGives (way_triple names table s at) (Err e) rows coefs
      unfolding way_triple
      third-unread e rc cc hz rows coefs =
          gives_refused _ e rows coefs (name_hands _ x ra ca first-is _ ∙ name_hands _ y rb cb hy _ ∙ name_refuses _ e rc cc hz _)

      -- all are
      pub triple_read : (z : Name) (rc : List (List ℕ)) (cc : List ℤ) → NameRead (way_name names table s y.next) (Ok z) rc cc
          → (r : Reading) (rows : List (List ℕ)) (coefs : List ℤ) → TripleRead s at x ra ca y rb cb z rc cc r rows coefs
          → WayGives (way_triple names table s at) (Ok r) rows coefs
      unfolding way_triple
      triple_read z rc cc hz r rows coefs t =
          gives_read _ _ _ r rows coefs (name_hands _ x ra ca first-is _ ∙ name_hands _ y rb cb hy _ ∙ name_hands _ z rc cc hz _) t.is t.next_is t.read

-- ════ closing parentheses

module _ (s : List ℕ) (q : Std.Result Reading Unread) where
  -- what stands inside them is not read
  pub closed-unread : (e : Unread) → q ≡ Err e → ClosedAs s q (Err e)
  closed-unread e was = record {
    is = λ x rows coefs h. then_refused x e rows coefs (subst (λ (v : Std.Result Reading Unread). WayGives x v rows coefs) was h) (way_closed s) rows coefs;
  }

  module _ (r : Reading) (was : q ≡ Ok r) (b : ℕ) (hb : b ≡ get_or s r.next 0) where
    inside : (x : Way) (rows : List (List ℕ)) (coefs : List ℤ) → WayGives x q rows coefs → WayGives x (Ok r) rows coefs
    inside x rows coefs h = subst (λ (v : Std.Result Reading Unread). WayGives x v rows coefs) was h

    -- something else stands there
    pub closed-torn : (b ≡ 41 → ⊥) → ClosedAs s q (Err (record { why = Torn; column = r.next }))
    unfolding way_closed
    closed-torn n = record {
      is = λ x rows coefs h. gives_refused (x >>= way_closed s) _ rows coefs
          (then_read x r rows coefs (inside x rows coefs h) (way_closed s) ∙ rw (ne_eqb (get_or s r.next 0) 41 (λ z. n (hb ∙ z))));
    }

    -- a closing parenthesis is inside the text
    pub closed-inside : b ≡ 41 → r.next < length s
    closed-inside m = byte-there s r.next 40 (sym hb ∙ m)

    -- it is passed
    pub closed-passed : (after : ℕ) → b ≡ 41 → after ≡ next s r.next → ClosedAs s q (Ok (record { column = r.column; next = after; work = r.work }))
    unfolding way_closed
    closed-passed after m a = record {
      is = λ x rows coefs h. gives_read (x >>= way_closed s) (worked_at r.work r.column rows coefs) (next s r.next) _ rows coefs
          (then_read x r rows coefs (inside x rows coefs h) (way_closed s) ∙ rw (eq-eqb (get_or s r.next 0) 41 (sym hb ∙ m))) refl a
          (record { form = (inside x rows coefs h).read.form });
    }
