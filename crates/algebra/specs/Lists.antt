-- Lists by their places: the values of a function in a row, so many from a place on, what stores leave. Assumes nothing.
use Rattle.std.specs.Prelude.{◌≡◌, refl, ◌⊎◌, List, [], ◌∷◌, ◌++◌, ℕ, zero, suc, ◌+◌, ◌-◌, ◌≤◌, ◌<◌, length, get_or, take, drop, set}
use Rattle.std.proofs.Common.{sym, ◌∙◌, ap, inl, inr, arith, length-drop, take-add, drop_at, drop-drop, length-take-le, get_or-append-add, get_or-set_other}
use Rattle.std.proofs.lemmas.List.Edits.{sets}

module _ {ℓ} {A : Type ℓ} where
  -- ════ the values of a function

  -- at 0, 1, …, n − 1
  abbrev pub tabulated : (n : ℕ) (f : ℕ → A) → List A
  tabulated zero f = []
  tabulated (suc n) f = f 0 ∷ tabulated n (λ i. f (suc i))

  pub length-tabulated : (n : ℕ) (f : ℕ → A) → length (tabulated n f) ≡ n
  length-tabulated zero f = refl
  length-tabulated (suc n) f = ap suc (length-tabulated n (λ i. f (suc i)))

  pub get_d_tabulated : (n : ℕ) (f : ℕ → A) (i : ℕ) (d : A) → i < n → get_or (tabulated n f) i d ≡ f i
  get_d_tabulated zero f i d h = absurd (omega arith)
  get_d_tabulated (suc n) f zero d h = refl
  get_d_tabulated (suc n) f (suc i) d h = get_d_tabulated n (λ i. f (suc i)) i d (omega arith)

  -- ════ parts

  -- n elements from s on, taken before or after the rest is dropped
  pub window : (l : List A) (s n : ℕ) → s + n ≤ length l → take n (drop s l) ≡ drop s (take (s + n) l)
  window l s n h = sym (ap (drop s) (take-add s n l) ∙ drop_at (take s l) (take n (drop s l)) s (length-take-le s l (omega arith)))

  pub length-window : (l : List A) (s n : ℕ) → s + n ≤ length l → length (take n (drop s l)) ≡ n
  length-window l s n h = length-take-le n (drop s l) (omega (arith, length-drop s l))

  -- lists that agree from a place on agree from every later one on
  pub drop-further : (a b : ℕ) (l m : List A) → a ≤ b → drop a l ≡ drop a m → drop b l ≡ drop b m
  drop-further a b l m h e =
      let q : b ≡ a + (b - a) = omega arith in
      rw (q, ← drop-drop (b - a) a l, ← drop-drop (b - a) a m, e)

  -- an element of the second of two lists joined
  pub get_d_second : (p q : List A) (n k : ℕ) (d : A) → length p ≡ n → get_or (p ++ q) (n + k) d ≡ get_or q k d
  get_d_second p q n k d e = rw (← e) (get_or-append-add p q k d)

  -- ════ stores

  -- an element that is not among those set stands
  pub sets-other : (l : List A) (at : ℕ) (vs : List A) (j : ℕ) (d : A) → (j < at) ⊎ (at + length vs ≤ j) → get_or (sets l at vs) j d ≡ get_or l j d
  sets-other l at [] j d h = refl
  sets-other l at (v ∷ vs) j d (inl h) = sets-other (set l at v) (suc at) vs j d (inl (omega arith)) ∙ get_or-set_other l at j v d (λ e. omega arith)
  sets-other l at (v ∷ vs) j d (inr h) = sets-other (set l at v) (suc at) vs j d (inr (omega arith)) ∙ get_or-set_other l at j v d (λ e. omega arith)
