-- A tree worked with its columns is worked operator by operator: what code that works on the way computes. Assumes nothing.
use Rattle.std.specs.Prelude.{◌≡◌, refl, Bool, true, false, ℕ, ◌<◌, ◌≤◌, pos, nat_abs, T, leb}
use Rattle.std.proofs.Common.{sym, ◌∙◌, ap, arith, leb→le}
use Rattle.specification.specs.Results as S
use Rattle.specification.specs.Results.{Result, refused, given, when◌then◌else◌}
use Rattle.specification.specs.Terms.{Form, coef_within}
use Rattle.specification.specs.Expressions.{Expr, Letter, Constant, Sum, Difference, Negation, Times, Dot, Wedge, Triple}
use Rattle.specification.specs.Reduction.{negate_form, sum_forms, times_forms, dot_forms, wedge_forms, triple_forms, letter_form, constant_form, work_with, work}
use Rattle.specification.specs.Text.{Placed, refused_at, placed, ◌>>=◌, Tree, leaf, turned, two, three, plain, at_column, is_refused, blamed, worked}

-- two results that are the same are of the same
pub placed_same : {A : Type 0} {a b : A} → placed a ≡ placed b → a ≡ b
placed_same e = cc

-- a refusal is no result
pub refused≢placed : {A : Type 0} {n c : ℕ} {a : A} → refused_at n c ≡ placed a → ⊥
refused≢placed e = let z : ◌≡◌ {A = ℕ} 0 1 = cc in omega arith

-- the result without the column
unfoldable pub unplaced : {A : Type 0} → Placed A → Result A
unplaced (refused_at n c) = refused n
unplaced (placed a) = given a

at-unplaced : {A : Type 0} (c : ℕ) (r : Result A) → unplaced (at_column c r) ≡ r
unfolding unplaced at_column
at-unplaced c (refused n) = refl
at-unplaced c (given a) = refl

-- columns change no result
pub worked-unplaced : (t : Tree) → unplaced (worked t) ≡ work (plain t)
unfolding worked
worked-unplaced t = at-unplaced (blamed t) (work (plain t))

-- an operator between two: the left refusal, the right one, or the operator's at its own column
pub worked_two : (c : ℕ) (op : Expr → Expr → Expr) (forms : Form → Form → Result Form)
    → ((e f : Expr) → work (op e f) ≡ S.◌>>=◌ (work e) (λ u. S.◌>>=◌ (work f) (λ v. forms u v))) → (x y : Tree)
    → worked (two c op x y) ≡ (worked x >>= (λ u. worked y >>= (λ v. at_column c (forms u v))))
unfolding worked blamed plain at_column is_refused
worked_two c op forms law x y = rw (law (plain x) (plain y)) (go (work (plain x)) (work (plain y)))
  where
    go : (a b : Result Form) → at_column (when is_refused a then blamed x else when is_refused b then blamed y else c) (S.◌>>=◌ a (λ u. S.◌>>=◌ b (λ v. forms u v)))
        ≡ (at_column (blamed x) a >>= (λ u. at_column (blamed y) b >>= (λ v. at_column c (forms u v))))
    go (refused n) b = refl
    go (given u) (refused n) = refl
    go (given u) (given v) = refl

pub worked-sum : (c : ℕ) (x y : Tree) → worked (two c Sum x y) ≡ (worked x >>= (λ u. worked y >>= (λ v. at_column c (sum_forms u v))))
unfolding work_with
worked-sum c x y = worked_two c Sum sum_forms (λ e f. refl) x y

pub worked-difference : (c : ℕ) (x y : Tree) → worked (two c Difference x y) ≡ (worked x >>= (λ u. worked y >>= (λ v. at_column c (sum_forms u (negate_form v)))))
unfolding work_with
worked-difference c x y = worked_two c Difference (λ u v. sum_forms u (negate_form v)) (λ e f. refl) x y

pub worked-times : (c : ℕ) (x y : Tree) → worked (two c Times x y) ≡ (worked x >>= (λ u. worked y >>= (λ v. at_column c (times_forms u v))))
unfolding work_with
worked-times c x y = worked_two c Times times_forms (λ e f. refl) x y

pub worked-dot : (c : ℕ) (x y : Tree) → worked (two c Dot x y) ≡ (worked x >>= (λ u. worked y >>= (λ v. at_column c (dot_forms u v))))
unfolding work_with
worked-dot c x y = worked_two c Dot dot_forms (λ e f. refl) x y

pub worked-wedge : (c : ℕ) (x y : Tree) → worked (two c Wedge x y) ≡ (worked x >>= (λ u. worked y >>= (λ v. at_column c (wedge_forms u v))))
unfolding work_with
worked-wedge c x y = worked_two c Wedge wedge_forms (λ e f. refl) x y

-- a sign in front turns the signs
pub worked-turned : (c : ℕ) (x : Tree) → worked (turned c x) ≡ (worked x >>= (λ u. placed (negate_form u)))
unfolding worked blamed plain at_column work_with
worked-turned c x = go (work (plain x))
  where
    go : (a : Result Form) → at_column (blamed x) (S.◌>>=◌ a (λ u. given (negate_form u))) ≡ (at_column (blamed x) a >>= (λ u. placed (negate_form u)))
    go (refused n) = refl
    go (given u) = refl

-- a name
pub worked-name : (c n kind : ℕ) → worked (leaf c (Letter n kind)) ≡ placed (letter_form n kind)
unfolding worked blamed plain at_column work_with
worked-name c n kind = refl

-- a number
pub worked-number : (c n : ℕ) → worked (leaf c (Constant (pos n))) ≡ at_column c (constant_form (pos n))
unfolding worked blamed plain work_with
worked-number c n = refl

-- three operands, left to right, then the triple at its own column
pub worked-three : (c : ℕ) (x y z : Tree) → worked (three c x y z) ≡ (worked x >>= (λ u. worked y >>= (λ v. worked z >>= (λ w. at_column c (triple_forms u v w)))))
unfolding worked blamed plain at_column is_refused work_with
worked-three c x y z = go (work (plain x)) (work (plain y)) (work (plain z))
  where
    go : (a b d : Result Form)
        → at_column (when is_refused a then blamed x else when is_refused b then blamed y else when is_refused d then blamed z else c)
        (S.◌>>=◌ a (λ u. S.◌>>=◌ b (λ v. S.◌>>=◌ d (λ w. triple_forms u v w))))
        ≡ (at_column (blamed x) a >>= (λ u. at_column (blamed y) b >>= (λ v. at_column (blamed z) d >>= (λ w. at_column c (triple_forms u v w)))))
    go (refused n) b d = refl
    go (given u) (refused n) d = refl
    go (given u) (given v) (refused n) = refl
    go (given u) (given v) (given w) = refl

fails : {A : Type 0} (b : Bool) (n : ℕ) (r : Result A) → (T b → ⊥) → S.◌>>◌ (S.require b n) r ≡ refused n
fails true n r h = absurd (h tt)
fails false n r h = refl

-- a number beyond the limit is refused whatever it is, so that code may stop counting there
pub beyond_refused : (n : ℕ) → 2147483647 < n → constant_form (pos n) ≡ refused 9
unfolding constant_form coef_within
beyond_refused n h = fails (leb n 2147483647) 9 _ (λ t. let l = leb→le n 2147483647 t in omega arith)
