-- Lists in general: every element passes a test, those that do, joining, the order of lists, sorting. Assumes nothing.
use Rattle.std.specs.Prelude.{Bool, true, false, ◌&&◌, List, [], ◌∷◌, ◌++◌, length, ltb, eqb}
use Prim.Native.Nat.{ℕ, zero, suc, Ordering}
use Rattle.specification.specs.Results.{when◌then◌else◌}

-- the first test decides; where it finds no difference, the second
abbrev pub then_by : Ordering → Ordering → Ordering
then_by Ordering.lt o = Ordering.lt
then_by Ordering.eq o = o
then_by Ordering.gt o = Ordering.gt

-- one of three, by an order
abbrev pub by_order {ℓ} : {A : Type ℓ} → Ordering → A → A → A → A
by_order Ordering.lt a b c = a
by_order Ordering.eq a b c = b
by_order Ordering.gt a b c = c

-- numbers by their size
unfoldable pub order : ℕ → ℕ → Ordering
order a b = when ltb a b then Ordering.lt else when eqb a b then Ordering.eq else Ordering.gt

-- strictly before
abbrev pub is_less : Ordering → Bool
is_less Ordering.lt = true
is_less Ordering.eq = false
is_less Ordering.gt = false

-- before or equal
abbrev pub is_not_more : Ordering → Bool
is_not_more Ordering.lt = true
is_not_more Ordering.eq = true
is_not_more Ordering.gt = false

-- the test holds at 0, 1, .., n − 1
unfoldable pub each : ℕ → (ℕ → Bool) → Bool
each zero f = true
each (suc n) f = each n f && f n

module _ {A : Type 0} where
  -- every element passes the test
  unfoldable pub all : (A → Bool) → List A → Bool
  all f [] = true
  all f (x ∷ xs) = f x && all f xs

  -- the elements that pass the test, in their order
  unfoldable pub select : (A → Bool) → List A → List A
  select f [] = []
  select f (x ∷ xs) = let rest = select f xs in when f x then x ∷ rest else rest

  -- lists one behind the other
  unfoldable pub joined : List (List A) → List A
  joined [] = []
  joined (x ∷ xs) = x ++ joined xs

  -- each neighbour passes the test with the next
  unfoldable pub ascend : (A → A → Bool) → List A → Bool
  ascend f [] = true
  ascend f (x ∷ []) = true
  ascend f (x ∷ y ∷ zs) = f x y && ascend f (y ∷ zs)

  -- the element passes the test after the last of the list, if there is one
  unfoldable pub follows : (A → A → Bool) → List A → A → Bool
  follows f [] y = true
  follows f (x ∷ []) y = f x y
  follows f (x ∷ z ∷ zs) y = follows f (z ∷ zs) y

  -- at the first difference
  unfoldable pub first_difference : (A → A → Ordering) → List A → List A → Ordering
  first_difference f [] [] = Ordering.eq
  first_difference f [] (y ∷ ys) = Ordering.lt
  first_difference f (x ∷ xs) [] = Ordering.gt
  first_difference f (x ∷ xs) (y ∷ ys) = then_by (f x y) (first_difference f xs ys)

  -- "Lists compare by length first, then at the first difference"
  unfoldable pub compare_lists : (A → A → Ordering) → List A → List A → Ordering
  compare_lists f xs ys = then_by (order (length xs) (length ys)) (first_difference f xs ys)

  -- an element put before the first that is not less: an ascending list stays ascending, equal ones are kept
  unfoldable pub put_into : (A → A → Ordering) → A → List A → List A
  put_into f x [] = x ∷ []
  put_into f x (y ∷ ys) = let behind = y ∷ put_into f x ys in when is_not_more (f x y) then x ∷ y ∷ ys else behind

  -- the list in ascending order, equal ones kept
  unfoldable pub sorted : (A → A → Ordering) → List A → List A
  sorted f [] = []
  sorted f (x ∷ xs) = put_into f x (sorted f xs)
