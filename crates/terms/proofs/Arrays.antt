-- Arrays up to a count: what stands at a place, what is left from it on, one more behind the others. Assumes nothing.
use mathlib.Core.Path.{◌≡◌, refl, ap, sym, ◌∙◌}
use mathlib.Core.List.{List, [], ◌∷◌, ◌++◌, map}
use Prim.Native.Nat.{ℕ, zero, suc, ◌+◌, ◌<◌, ◌≤◌}
use native.Mathlib.Omega.{arith}
use native.Mathlib.Numerals.{add-one}
use lib.IntN.{pos}
use lib.ListN.{length, get_or, take, drop, set, drop_of_length-le}
use lib.Seq.{drop-cons, get_or-take, length-take-le, take-suc}
use Rattle.theory.specs.Elements.{All}
use Rattle.terms.specs.declared.types.Part.TheVariants.{Nothing}
use Rattle.terms.specs.declared.types.Term.{Term}

-- what a list of terms has past its end
abbrev pub no_term : Term
no_term = record { coef = pos 0; factors = []; factor_count = 0; part = Nothing }

module _ {A : Type 0} where
  -- what holds of all holds at a place
  pub all-at : (P : A → Type 0) (l : List A) (n i : ℕ) (d : A) → n ≤ length l → i < n → All P (take n l) → P (get_or l i d)
  all-at P l zero i d h g a = absurd (omega arith)
  all-at P [] (suc n) i d h g a = absurd (omega arith)
  all-at P (x ∷ l) (suc n) zero d h g a = a.0
  all-at P (x ∷ l) (suc n) (suc i) d h g a = all-at P l n i d (omega arith) (omega arith) a.1

  -- what is left from a place on begins with what stands there
  pub rest_at : (l : List A) (n i : ℕ) (d : A) → n ≤ length l → i < n → drop i (take n l) ≡ get_or l i d ∷ drop (i + 1) (take n l)
  rest_at l n i d g h =
      let e : i < length (take n l) = omega (arith, length-take-le n l g) in
      drop-cons (take n l) i d e ∙ rw (get_or-take n l i d h, add-one)

  -- nothing is left from the count on
  pub nothing_left_lem : (l : List A) (n i : ℕ) → n ≤ length l → n ≤ i → drop i (take n l) ≡ []
  nothing_left_lem l n i g h = let a : length (take n l) ≤ i = omega (arith, length-take-le n l g) in drop_of_length-le (take n l) a

  -- one more stored behind the others
  pub stored-behind : (l : List A) (n : ℕ) (x : A) → n < length l → take (n + 1) (set l n x) ≡ take n l ++ x ∷ []
  stored-behind l n x g = rw add-one (go l n g)
    where
      go : (l : List A) (n : ℕ) → n < length l → take (suc n) (set l n x) ≡ take n l ++ x ∷ []
      go [] n g = absurd (omega arith)
      go (y ∷ l) zero g = refl
      go (y ∷ l) (suc n) g = ap (λ (z : List A). y ∷ z) (go l n (omega arith))

  -- one more copied
  pub copied_more : (g l : List A) (i : ℕ) (d : A) → take i g ≡ take i l → i < length g → i < length l → take (i + 1) (set g i (get_or l i d)) ≡ take (i + 1) l
  copied_more g l i d e h k = stored-behind g i (get_or l i d) h ∙ ap (λ (m : List A). m ++ get_or l i d ∷ []) e ∙ sym (rw add-one (take-suc l i d k))

  pub mapped-behind : {B : Type 0} (f : A → B) (l : List A) (x : A) → map f (l ++ x ∷ []) ≡ map f l ++ f x ∷ []
  mapped-behind f [] x = refl
  mapped-behind f (y ∷ l) x = ap (◌∷◌ (f y)) (mapped-behind f l x)

-- what is dropped may be mapped before or after
pub map-drop : {A B : Type 0} (f : A → B) (i : ℕ) (l : List A) → map f (drop i l) ≡ drop i (map f l)
map-drop f zero l = refl
map-drop f (suc i) [] = refl
map-drop f (suc i) (x ∷ l) = map-drop f i l
