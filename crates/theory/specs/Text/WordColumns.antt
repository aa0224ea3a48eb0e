-- The column of a refusal that is told of an assignment, of two sides or of one line is in its line. Assumes nothing.
use Rattle.std.specs.Prelude.{◌≡◌, refl, Bool, ◌&&◌, ◌||◌, T, ltb, take, drop}
use Rattle.std.proofs.Math.Bool.{true, false}
use mathlib.Core.List.{List, [], ◌∷◌, ◌++◌}
use Prim.Native.Nat.{ℕ, zero, suc, ◌+◌, ◌-◌, ◌*◌, ◌≤◌, ◌<◌}
use Rattle.std.proofs.Common.{arith, ltb→lt}
use Rattle.std.proofs.Math.Dec.{leb, eqb}
use Rattle.std.proofs.Math.ListN.{length, get_or}
use Rattle.std.proofs.Math.Seq.{length-take-le}
use Rattle.specification.specs.Results.{when◌then◌else◌}
use Rattle.specification.specs.Letters.{scalar, kind_of}
use Rattle.specification.specs.Terms.{Form}
use Rattle.specification.specs.Evaluation.{good_assignment, value, assignment}
use Rattle.specification.specs.Words.{bytes}
use Rattle.specification.specs.Text.{Placed, refused_at, placed, ◌>>=◌, is_letter, is_digit, place_of, skip, next, text_form}
use Rattle.specification.specs.Lines.{Place, line_of, next_line, to_line, Lined, in_line, ◌>>>◌, Named, read_header}
use Rattle.specification.specs.LogTexts.{from, mark, nothing_left}
use Rattle.specification.specs.AssignmentTexts.{read_component, read_value, put_three, none_yet, read_assigned}
use Rattle.specification.specs.Commands.{value_text, value_input, paired, read_sides, read_one_line}
use Rattle.theory.specs.Text.Bounds.{there-byte, there-digit, there-letter, skip_within, next_within}
use Rattle.theory.specs.Text.LineColumns.{Within, ColumnWithin, then-within, line-within, header-within, formula_within}
use Rattle.theory.specs.Text.PartColumns.{Reads, reads_then, refused_reads, placed-reads, reads-within, Any, At, Behind, formula_reads, mark-reads, end-within}

-- ════ an assignment

module _ (line : List ℕ) where
  -- the position of a component's digit
  first_within : (at : ℕ) → At line at → At line (when eqb (get_or line at 0) 45 then next line at else at)
  first_within at l = go (eqb (get_or line at 0) 45) (there-byte line at 45 (omega arith))
    where
      go : (b : Bool) → (T b → at < length line) → At line (when b then next line at else at)
      go true f = next_within line at (f tt)
      go false f = l

  component-reads : (at : ℕ) → At line at → Reads line (Behind line) (read_component line at)
  unfolding read_component
  component-reads at l =
      let minus = eqb (get_or line at 0) 45 in
      let first = when minus then next line at else at in
      let size = get_or line first 0 - 48 in
      go first (when minus && leb 1 size then 256 - size else size) (first_within at l) (is_digit (get_or line first 0)) (ltb 6 size || is_digit (get_or line (first + 1) 0)) (there-digit line first)
    where
      go : (first byte : ℕ) → At line first → (a b : Bool) → (T a → first < length line)
          → Reads line (Behind line) (when a then (when b then refused_at 12 first else placed (byte, next line first)) else refused_at 4 first)
      go first byte k true true f = refused_reads line (Behind line) 12 first k
      go first byte k true false f = placed-reads line (Behind line) (byte, next line first) (next_within line first (f tt))
      go first byte k false b f = refused_reads line (Behind line) 4 first k

  -- a mark and what follows
  mark-then : {B : Type 0} (Q : B → Type 0) (b at : ℕ) (f : ℕ → Placed B) → 1 ≤ b → At line at → ((next : ℕ) → At line next → Reads line Q (f next))
      → Reads line Q (mark b line at >>= f)
  mark-then Q b at f h l g = reads_then line (At line) Q (mark b line at) f (mark-reads line b at h l) g

  -- a component and what follows
  component-then : {B : Type 0} (Q : B → Type 0) (at : ℕ) (f : ℕ × ℕ → Placed B) → At line at → ((x : ℕ × ℕ) → At line x.1 → Reads line Q (f x))
      → Reads line Q (read_component line at >>= f)
  component-then Q at f l g = reads_then line (Behind line) Q (read_component line at) f (component-reads at l) g

  value_reads : (kind at : ℕ) → At line at → Reads line (Behind line) (read_value kind line at)
  unfolding read_value
  value_reads kind at l = go (eqb kind scalar)
    where
      number : Reads line (Behind line) (read_component line at >>= λ x. placed (x.0 ∷ 0 ∷ 0 ∷ [], x.1))
      number = component-then (Behind line) at (λ x. placed (x.0 ∷ 0 ∷ 0 ∷ [], x.1)) l (λ x h. placed-reads line (Behind line) (x.0 ∷ 0 ∷ 0 ∷ [], x.1) h)

      three : Reads line (Behind line) (mark 40 line at >>= λ one. read_component line one >>= λ x. mark 44 line x.1 >>= λ two. read_component line two >>= λ y.
          mark 44 line y.1 >>= λ third. read_component line third >>= λ z. mark 41 line z.1 >>= λ end. placed (x.0 ∷ y.0 ∷ z.0 ∷ [], end))
      three =
          mark-then (Behind line) 40 at _ (omega arith) l λ one a.
          component-then (Behind line) one _ a λ x b.
          mark-then (Behind line) 44 x.1 _ (omega arith) b λ two c.
          component-then (Behind line) two _ c λ y d.
          mark-then (Behind line) 44 y.1 _ (omega arith) d λ third e.
          component-then (Behind line) third _ e λ z f.
          mark-then (Behind line) 41 z.1 _ (omega arith) f λ end g.
          placed-reads line (Behind line) (x.0 ∷ y.0 ∷ z.0 ∷ [], end) g

      go : (b : Bool) → Reads line (Behind line) (when b then (read_component line at >>= λ x. placed (x.0 ∷ 0 ∷ 0 ∷ [], x.1))
          else (mark 40 line at >>= λ one. read_component line one >>= λ x. mark 44 line x.1 >>= λ two. read_component line two >>= λ y.
          mark 44 line y.1 >>= λ third. read_component line third >>= λ z. mark 41 line z.1 >>= λ end. placed (x.0 ∷ y.0 ∷ z.0 ∷ [], end)))
      go true = number
      go false = three

  module _ (names table : List ℕ) where
    -- what comes behind a value: the next name, or the end
    abbrev behind_value : (most : ℕ) (n : ℕ) (so : List ℕ) → List ℕ × ℕ → Placed (List ℕ)
    behind_value most n so r =
        when leb (length line) r.1 then (when good_assignment table (put_three n r.0 so) then placed (put_three n r.0 so) else refused_at 12 r.1)
        else (mark 44 line r.1 >>= λ name. read_assigned most names table line name (put_three n r.0 so))

    assigned-reads : (most at : ℕ) (so : List ℕ) → At line at → Reads line Any (read_assigned most names table line at so)
    unfolding read_assigned
    assigned-reads zero at so l = refused_reads line Any 4 at l
    assigned-reads (suc most) at so l =
        go (is_letter (get_or line at 0)) (ltb n (length names)) (eqb (get_or so (3 * n) 0) 127) (there-letter line at) (λ name. assigned-reads most name)
      where
        n : ℕ
        n = place_of names (get_or line at 0)

        value_behind_lem : ((name : ℕ) (all : List ℕ) → At line name → Reads line Any (read_assigned most names table line name all)) → (r : List ℕ × ℕ) → At line r.1
            → Reads line Any (behind_value most n so r)
        value_behind_lem again r h = turn (leb (length line) r.1) (good_assignment table (put_three n r.0 so))
          where
            turn : (a b : Bool)
                → Reads line Any (when a then (when b then placed (put_three n r.0 so) else refused_at 12 r.1)
                else (mark 44 line r.1 >>= λ name. read_assigned most names table line name (put_three n r.0 so)))
            turn true true = placed-reads line Any (put_three n r.0 so) tt
            turn true false = refused_reads line Any 12 r.1 h
            turn false b = mark-then Any 44 r.1 _ (omega arith) h (λ name k. again name (put_three n r.0 so) k)

        go : (a b c : Bool) → (T a → at < length line)
            → ((name : ℕ) (all : List ℕ) → At line name → Reads line Any (read_assigned most names table line name all))
            → Reads line Any (when a then (when b then (when c then (mark 61 line (next line at) >>= λ value. read_value (kind_of table n) line value >>= behind_value most n so)
            else refused_at 12 at) else refused_at 5 at) else refused_at 4 at)
        go true true true f again =
            mark-then Any 61 (next line at) _ (omega arith) (next_within line at (f tt)) λ value h.
            reads_then line (Behind line) Any (read_value (kind_of table n) line value) (behind_value most n so) (value_reads (kind_of table n) value h) (value_behind_lem again)
        go true true false f again = refused_reads line Any 12 at l
        go true false c f again = refused_reads line Any 5 at l
        go false b c f again = refused_reads line Any 4 at l

    pub assigned-within : (so : List ℕ) → ColumnWithin line (read_assigned (length line) names table line (skip line 0) so)
    assigned-within so =
        reads-within line Any (read_assigned (length line) names table line (skip line 0) so) (assigned-reads (length line) (skip line 0) so (skip_within line 0 (omega arith)))

-- ════ two sides

module _ (names table line : List ℕ) where
  pair_reads : (at : ℕ) (f g : Form) → At line at → Reads line Any (paired at f g)
  unfolding paired
  pair_reads at f g l = go (eqb (length f.terms) 0) (eqb (length g.terms) 0) (eqb f.kind g.kind)
    where
      go : (a b c : Bool) → Reads line {A = Form × Form} Any (when a then placed (record { kind = g.kind; terms = [] }, g) else
          when b then placed (f, record { kind = f.kind; terms = [] }) else when c then placed (f, g) else refused_at 6 at)
      go true b c = placed-reads line Any _ tt
      go false true c = placed-reads line Any _ tt
      go false false true = placed-reads line Any _ tt
      go false false false = refused_reads line Any 6 at l

  -- the left side
  left-reads : (at : ℕ) → at < length line → Reads line Any (text_form names table (take at line))
  unfolding Reads ColumnWithin
  left-reads at l = go (text_form names table (take at line)) (formula_within names table (take at line))
    where
      go : (x : Placed Form) → ColumnWithin (take at line) x → Reads line Any x
      go (refused_at n c) h = omega (arith, length-take-le at line (omega arith))
      go (placed f) h = tt

  pub sides-within : ColumnWithin line (read_sides names table line)
  unfolding read_sides
  sides-within = reads-within line Any (read_sides names table line) (go (ltb (place_of line 61) (length line)) (ltb→lt (place_of line 61) (length line)))
    where
      at : ℕ
      at = place_of line 61

      go : (b : Bool) → (T b → at < length line)
          → Reads line Any (when b then (text_form names table (take at line) >>= λ f. from (at + 1) (text_form names table (drop (at + 1) line)) >>= λ g. paired at f g)
          else refused_at 4 (length line))
      go true f =
          let l = f tt in
          reads_then line Any Any (text_form names table (take at line)) _ (left-reads at l) λ g _.
          reads_then line Any Any (from (at + 1) (text_form names table (drop (at + 1) line))) _ (formula_reads line names table (at + 1) (omega arith)) λ h _.
          pair_reads at g h (omega arith)
      go false f = refused_reads line Any 4 (length line) (omega arith)

-- ════ inputs

-- one line behind the names
pub one_line-within : {A : Type 0} (read : (names table line : List ℕ) → Placed A) → ((names table line : List ℕ) → ColumnWithin line (read names table line)) → (s : List ℕ)
    → Within (read_one_line read s)
unfolding read_one_line
one_line-within read h s =
    then-within (read_header s) _ (header-within s) λ r.
    then-within (in_line r.1 (read r.0.0 r.0.1 (line_of r.1))) _ (line-within r.1 (read r.0.0 r.0.1 (line_of r.1)) (h r.0.0 r.0.1 (line_of r.1))) λ a.
    end-within (to_line (next_line r.1)) (r.0, a)

-- a formula and an assignment
pub value_within : (s : List ℕ) → Within (value_input s)
unfolding value_input
value_within s =
    then-within (read_header s) _ (header-within s) λ r.
    then-within (in_line r.1 (text_form r.0.0 r.0.1 (line_of r.1))) _ (line-within r.1 (text_form r.0.0 r.0.1 (line_of r.1)) (formula_within r.0.0 r.0.1 (line_of r.1))) λ f.
    (let q = to_line (next_line r.1) in
    then-within (in_line q (read_assigned (length (line_of q)) r.0.0 r.0.1 (line_of q) (skip (line_of q) 0) (none_yet r.0.1))) _
    (line-within q (read_assigned (length (line_of q)) r.0.0 r.0.1 (line_of q) (skip (line_of q) 0) (none_yet r.0.1)) (assigned-within (line_of q) r.0.0 r.0.1 (none_yet r.0.1))) λ a.
    end-within (to_line (next_line q)) _)
