-- The whole text: too long, not read, something left, or all of it. Assumes nothing.
use mathlib.Core.Path.{◌≡◌, refl, sym, ◌∙◌, ap}
use mathlib.Core.Bool.{true}
use mathlib.Core.List.{List}
use Prim.Native.Nat.{ℕ, ◌≤◌, ◌<◌}
use native.Mathlib.Omega.{arith}
use borrow.Author.Tests.{le-leb, lt-leb}
use lib.IntN.{ℤ}
use lib.ListN.{length}
use Rattle.specification.specs.Terms.{Form}
use Rattle.specification.specs.Text.{Placed, refused_at, ◌>>=◌, at_column, skip, text_form}
use Rattle.theory.specs.Text.OnTheWay.{Way, way_whole, way_level, way_nested, way_text, way_text_lem}
use Rattle.std.specs.Prelude.{Ok, Err}
use Rattle.std.specs.Prelude as Std
use Rattle.std.proofs.Common.{rules}
use Rattle.std.proofs.lemmas.Result.{IfOk-at_ok}
use Rattle.refusal.specs.declared.Refusal.{Refusal}
use Rattle.refusal.specs.declared.Refusal.TheVariants.{TooLong, Torn}
use Rattle.refusal.specs.Numbers.{number_of}
use Rattle.rows.specs.declared.Worked.{Worked}
use Rattle.rows.specs.Rows.{FormRun}
use Rattle.texts.specs.declared.Unread.{Unread}
use Rattle.formulas.specs.declared.joining.Reading.{Reading}
use Rattle.formulas.specs.Readings.{worked_at, WayGives, TextRead}

-- a refusal
text_refused : (x : Placed Form) (e : Unread) (rows : List (List ℕ)) (coefs : List ℤ) → x ≡ refused_at (number_of e.why) e.column → TextRead x (Err e) rows coefs
text_refused x e rows coefs h = record { is = h; form = tt }

module _ (names table s : List ℕ) where
  -- too long
  pub text-long : (rows : List (List ℕ)) (coefs : List ℤ) → 4096 < length s → TextRead (text_form names table s) (Err (record { why = TooLong; column = 4096 })) rows coefs
  unfolding way_text
  text-long rows coefs h = text_refused _ _ rows coefs (sym (way_text_lem names table s) ∙ rw (lt-leb (length s) 4096 h))

  module _ (short : length s ≤ 4096) (start : ℕ) (hs : start ≡ skip s 0) where
    -- what the reader gives of the text
    abbrev read : Way
    read = way_level names table s (way_nested names table s 16) 4 true start

    whole : text_form names table s ≡ (read >>= way_whole s)
    unfolding way_text
    whole =
        sym (way_text_lem names table s)
        ∙ rw (le-leb (length s) 4096 short) (ap (λ (k : ℕ). way_level names table s (way_nested names table s 16) 4 true k >>= way_whole s) (sym hs))

    -- not read
    pub text-unread : (e : Unread) (rows : List (List ℕ)) (coefs : List ℤ) → WayGives read (Err e) rows coefs → TextRead (text_form names table s) (Err e) rows coefs
    text-unread e rows coefs g = text_refused _ e rows coefs (whole ∙ ap (λ (y : Way). y >>= way_whole s) g.is)

    module _ (r : Reading) (rows : List (List ℕ)) (coefs : List ℤ) (g : WayGives read (Ok r) rows coefs) where
      behind : text_form names table s ≡ way_whole s (worked_at r.work r.column rows coefs, r.next)
      behind = whole ∙ ap (λ (y : Way). y >>= way_whole s) g.is

      -- something is left
      pub text-left : r.next < length s → TextRead (text_form names table s) (Err (record { why = Torn; column = r.next })) rows coefs
      unfolding way_whole
      text-left h = text_refused _ _ rows coefs (behind ∙ rw (lt-leb (length s) r.next h))

      module _ (h : length s ≤ r.next) where
        all_read : text_form names table s ≡ worked_at r.work r.column rows coefs
        unfolding way_whole
        all_read = behind ∙ rw (le-leb (length s) r.next h)

        -- nothing is left: a form
        pub text-worked : (w : Worked) → r.work ≡ Ok w → TextRead (text_form names table s) (Ok w) rows coefs
        unfolding at_column
        text-worked w e = record { is = all_read ∙ rw e refl; form = IfOk-at_ok (λ x. FormRun x.kind x.count rows coefs) e g.read.form }

        -- what working refuses
        pub text-unworked : (e : Refusal) → r.work ≡ Err e → TextRead (text_form names table s) (Err (record { why = e; column = r.column })) rows coefs
        unfolding at_column
        text-unworked e q = text_refused _ _ rows coefs (all_read ∙ rw q refl)
