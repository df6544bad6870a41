-- Laws of Λ's columns: the block of an effect; a column lies within its group, and so within the effects, and its numbers lie within theta. Assumes nothing.
use mathlib.Core.Path.{◌≡◌, refl, sym, ap, ◌∙◌}
use mathlib.Core.Logic.{⊎_elim}
use mathlib.Core.Bool.{true}
use Prim.Native.Nat.{ℕ, zero, suc, ◌+◌, ◌-◌, ◌*◌, ◌/◌, ◌%◌, ◌<◌, ◌≤◌}
use native.Mathlib.Nat.{le_refl, mod-lt, div-add-mod', div-lt_iff_lt-mul}
use native.Mathlib.Omega.{arith}
use lib.Dec.{eqb}
use borrow.Author.Tests.{le-leb, lt-leb, leb-true, leb-false, eqb-true}
use Rattle.base.specs.Sum.{◌!!◌}
use Rattle.base.proofs.Sums.{lt_or_ge, and_true}
use Rattle.base.proofs.Fills.{row_fits}
use Rattle.base.proofs.SparseRows.{find_last, find_holds, find_past, find_below}
use Rattle.model.specs.Shape.{total_to, block_effects, block_thetas, first_effect, first_theta, effects_of, theta_length, InRange}
use Rattle.model.specs.declared.sizes.Shape.{Shape}
use Rattle.model.proofs.Totals.{total_none, total_step, total_grows}
use Rattle.model.proofs.Shapes.{thetas_twice, thetas_small, effect_step, theta_step}
use Rattle.lambda.specs.Column.{begun_by, block_of, group_size, effect_in, column_length, column_start, column_in, column_of}
use Rattle.lambda.specs.Parts.{is_single}

-- effect j is one of block i's
pub record InBlock (s : Shape) (i j : ℕ) : Type 0 where
  pub block : i < s.count
  pub begun : first_effect s i ≤ j
  pub ends : j < first_effect s (i + 1)

-- then block i is its block
pub block_is : (s : Shape) (i j : ℕ) → InBlock s i j → block_of s j ≡ i
unfolding block_of
block_is s i j b =
    find_last (begun_by s j) s.count i b.block (le-leb _ _ b.begun)
    (λ a l m. lt-leb (first_effect s a) j (omega (arith, b.ends, total_grows (block_effects s) (i + 1) a (omega arith))))

-- and every effect has one
pub block_of_lem : (s : Shape) (j : ℕ) → InRange s → j < effects_of s → InBlock s (block_of s j) j
unfolding block_of total_to
block_of_lem s j r l =
    record {
      block = below;
      begun = leb-true (first_effect s b) j (find_holds (begun_by s j) s.count (le-leb 0 j (omega arith)));
      ends =
          ⊎_elim
          (λ (h : b + 1 < s.count). leb-false (first_effect s (b + 1)) j (find_past (begun_by s j) s.count (b + 1) (omega arith) h))
          (λ (h : s.count ≤ b + 1). let q : s.count ≡ b + 1 = omega (arith, below) in rw (← q) l)
          (lt_or_ge (b + 1) s.count);
    }
  where
    b : ℕ
    b = block_of s j

    below : b < s.count
    below = find_below (begun_by s j) s.count r.some

-- all columns of a lower triangle together
whole_triangle : (k : ℕ) → k ≤ 8 → column_start k k ≡ k * (k + 1) / 2
unfolding column_start total_to
whole_triangle zero l = refl
whole_triangle (suc zero) l = refl
whole_triangle (suc (suc zero)) l = refl
whole_triangle (suc (suc (suc zero))) l = refl
whole_triangle (suc (suc (suc (suc zero)))) l = refl
whole_triangle (suc (suc (suc (suc (suc zero))))) l = refl
whole_triangle (suc (suc (suc (suc (suc (suc zero)))))) l = refl
whole_triangle (suc (suc (suc (suc (suc (suc (suc zero))))))) l = refl
whole_triangle (suc (suc (suc (suc (suc (suc (suc (suc zero)))))))) l = refl
whole_triangle (suc (suc (suc (suc (suc (suc (suc (suc (suc k))))))))) l = absurd (omega arith)

-- before the first column nothing stands
pub start_none : (k : ℕ) → 0 ≡ column_start k 0
unfolding column_start
start_none k = total_none (column_length k)

-- one column more
pub start_step : (k c t : ℕ) → t ≡ column_start k c → t + (k - c) ≡ column_start k (c + 1)
unfolding column_start
start_step k c t e = total_step (column_length k) c t e

-- column c ends within the triangle
pub column_packed : (k c : ℕ) → k ≤ 8 → c < k → column_start k c + (k - c) ≤ k * (k + 1) / 2
unfolding column_start
column_packed k c l m =
    omega (arith, start_step k c (column_start k c) refl, total_grows (column_length k) (c + 1) k (omega arith), whole_triangle k l)

-- ---- column j, in block i
module _ (s : Shape) (r : InRange s) (i j : ℕ) (b : InBlock s i j) where
  some : 1 ≤ group_size s i
  some = r.k_some i b.block

  -- an effect's number is below its group's size
  pub effect_below : effect_in s i j < group_size s i
  effect_below = mod-lt (j - first_effect s i) some

  -- the column's rows end with a group of the block
  in_rows : j + (column_in s i j).count ≤ effects_of s
  unfolding column_in
  in_rows =
      let k = group_size s i in
      let d = j - first_effect s i in
      let next : first_effect s i + (s.m !! i) * k ≡ first_effect s (i + 1) = effect_step s i (first_effect s i) refl in
      let group : d / k < s.m !! i = (div-lt_iff_lt-mul some).1 (omega (arith, next, b.begun, b.ends)) in
      omega (arith, next, b.begun, div-add-mod' d k, row_fits (d / k) (s.m !! i) k group, effect_below, total_grows (block_effects s) (i + 1) s.count (omega (arith, b.block)))

  -- its numbers end within the block's
  in_theta : (column_in s i j).first + (column_in s i j).count ≤ theta_length s
  unfolding column_in
  in_theta =
      omega (arith, column_packed (group_size s i) (effect_in s i j) (r.k_few i b.block) effect_below, theta_step s i (first_theta s i) refl, total_grows (block_thetas s) (i + 1) s.count (omega (arith, b.block)))

-- ---- column j
pub column_rows : (s : Shape) (j : ℕ) → InRange s → j < effects_of s → j + (column_of s j).count ≤ effects_of s
unfolding column_of
column_rows s j r l = in_rows s r (block_of s j) j (block_of_lem s j r l)

pub column_theta : (s : Shape) (j : ℕ) → InRange s → j < effects_of s → (column_of s j).first + (column_of s j).count ≤ theta_length s
unfolding column_of
column_theta s j r l = in_theta s r (block_of s j) j (block_of_lem s j r l)

-- ---- the blocks passed on the way to effect j: the next is block i, of k effects a group, with `left` effects before j and its numbers of theta from `first` on
pub record Passed (s : Shape) (j k effects left first i : ℕ) : Type 0 where
  pub range : InRange s
  pub below : j < effects_of s
  pub block : i < s.count
  pub size : k ≡ s.k !! i
  pub all : effects ≡ (s.m !! i) * (s.k !! i)
  pub begun : first_effect s i + left ≡ j
  pub thetas : first ≡ first_theta s i

pub passed_none : (s : Shape) (j : ℕ) → InRange s → j < effects_of s → Passed s j (s.k !! 0) ((s.m !! 0) * (s.k !! 0)) j 0 0
unfolding total_to
passed_none s j r l =
    record { range = r; below = l; block = r.some; size = refl; all = refl; begun = omega arith; thetas = refl }

-- there is a next block where this one ends at j or before
pub next_block : {s : Shape} {j k effects left first i : ℕ} → Passed s j k effects left first i → effects ≤ left → i + 1 < s.count
next_block {s} {j} {k} {effects} {left} {first} {i} p l =
    ⊎_elim (λ (h : i + 1 < s.count). h)
    (λ (h : s.count ≤ i + 1).
    let q : s.count ≡ i + 1 = omega (arith, p.block) in
    let end : effects_of s ≡ first_effect s (i + 1) = ap (λ (n : ℕ). first_effect s n) q in
    absurd (omega (arith, end, p.below, effect_step s i (first_effect s i) refl, p.all, p.begun)))
    (lt_or_ge (i + 1) s.count)

pub passed_more : {s : Shape} {j k effects left first i : ℕ} → Passed s j k effects left first i → effects ≤ left
    → Passed s j (s.k !! (i + 1)) ((s.m !! (i + 1)) * (s.k !! (i + 1))) (left - effects) (first + k * (k + 1) / 2) (i + 1)
passed_more {s} {j} {k} {effects} {left} {first} {i} p l =
    record {
      range = p.range;
      below = p.below;
      block = next_block p l;
      size = refl;
      all = refl;
      begun = omega (arith, effect_step s i (first_effect s i) refl, p.all, p.begun);
      thetas = rw p.size (theta_step s i first p.thetas);
    }

-- block i is j's where it ends behind j
pub passed_in : {s : Shape} {j k effects left first i : ℕ} → Passed s j k effects left first i → left < effects → InBlock s i j
passed_in {s} {j} {k} {effects} {left} {first} {i} p l =
    record { block = p.block; begun = omega (arith, p.begun); ends = omega (arith, effect_step s i (first_effect s i) refl, p.all, p.begun) }

-- the sizes on the way are small
pub passed_small : {s : Shape} {j k effects left first i : ℕ} → Passed s j k effects left first i → (k ≤ 8) × (1 ≤ k) × (k * (k + 1) ≤ 72) × (first + k * (k + 1) / 2 ≤ 288) × (i < 8)
passed_small {s} {j} {k} {effects} {left} {first} {i} p = (
  rw p.size (p.range.k_few i p.block),
  rw p.size (p.range.k_some i p.block),
  rw p.size (thetas_twice s p.range i p.block),
  rw (p.size, p.thetas) (thetas_small s p.range i p.block),
  omega (arith, p.block, p.range.few),
)

-- what is found in block i is column j
pub passed_column : {s : Shape} {j k effects left first i : ℕ} → Passed s j k effects left first i → left < effects
    → record { first = first + column_start k (left % k); count = k - left % k } ≡ column_of s j
unfolding column_of column_in
passed_column {s} {j} {k} {effects} {left} {first} {i} p l =
    let b : block_of s j ≡ i = block_is s i j (passed_in p l) in
    let e : j - first_effect s i ≡ left = omega (arith, p.begun) in
    rw (b, e, p.size, p.thetas) refl

-- one block of one effect a group: every column is its diagonal, the one number of theta
pub one_column : (s : Shape) (j : ℕ) → InRange s → s.count ≡ 1 → s.k !! 0 ≡ 1 → j < effects_of s → column_of s j ≡ record { first = 0; count = 1 }
unfolding column_start total_to
one_column s j r n k l =
    let end : effects_of s ≡ first_effect s 1 = ap (λ (i : ℕ). first_effect s i) n in
    let inside : j < (s.m !! 0) * (s.k !! 0) = omega (arith, end, effect_step s 0 (first_effect s 0) refl, total_none (block_effects s), l) in
    let m : j % 1 ≡ 0 = omega (arith, mod-lt j (le_refl 1)) in
    sym (passed_column (passed_none s j r l) inside) ∙ rw (k, m) refl

pub single_is : (s : Shape) → is_single s ≡ true → (s.count ≡ 1) × (s.k !! 0 ≡ 1)
unfolding is_single
single_is s e =
    let both : (true ≡ eqb s.count 1) × (true ≡ eqb (s.k !! 0) 1) = and_true (eqb s.count 1) (eqb (s.k !! 0) 1) (sym e) in
    (eqb-true s.count 1 (sym both.0), eqb-true (s.k !! 0) 1 (sym both.1))

pub single_theta : (s : Shape) → InRange s → is_single s ≡ true → 1 ≤ theta_length s
single_theta s r e =
    let one : column_of s 0 ≡ record { first = 0; count = 1 } = one_column s 0 r (single_is s e).0 (single_is s e).1 r.q_some in
    rw one at (column_theta s 0 r r.q_some)
