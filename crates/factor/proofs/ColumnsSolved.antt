-- The substitutions on several right sides: zeros that are left out of one of them, the last row of each pass, and the three passes together. Assumes nothing.
use mathlib.Core.Path.{◌≡◌, refl, ap, ◌∙◌}
use mathlib.Core.List.{List}
use Prim.Native.Nat.{ℕ, ◌+◌, ◌-◌, ◌*◌, ◌<◌, ◌≤◌}
use native.Mathlib.Omega.{arith}
use lib.ListN.{length}
use lib.Ieee.{Float}
use Rattle.base.specs.Sum.{◌!◌}
use Rattle.base.specs.List.{at, grid_to}
use Rattle.base.specs.Rows.{row}
use Rattle.base.specs.InPlace.{fill_by, fill_down}
use Rattle.base.proofs.InPlace.{length_by}
use Rattle.base.proofs.Fills.{row_fits}
use Rattle.base.proofs.Rows.{row_at}
use Rattle.factor.specs.Substitution.{across_term, down_term, unit_forward_rule, unit_backward_rule, unit_forward, over_d, unit_backward, ldl_solve}
use Rattle.factor.specs.Heads.{Zeros}
use Rattle.factor.specs.Sides.{column_at, each_column, ldl_columns_at}
use Rattle.factor.proofs.EachColumn.{each_then}

-- ---- the zeros before the head, of one column lent as a part P
pub forward_part : (s i a r : ℕ) (L b P : List Float) → r ≤ s → ((k : ℕ) → k < s → P ! k ≡ at s b a k) → Zeros 0 r (across_term s L i (λ k. at s b a k)) → Zeros 0 r (across_term s L i (λ k. P ! k))
unfolding across_term
forward_part s i a r L b P h same z k l m = rw (same k (omega arith)) (z k l m)

pub backward_part : (s i a r : ℕ) (L b P : List Float) → r ≤ s → ((k : ℕ) → k < s → P ! k ≡ at s b a k) → Zeros (i + 1) r (down_term s L i (λ k. at s b a k)) → Zeros (i + 1) r (down_term s L i (λ k. P ! k))
unfolding down_term
backward_part s i a r L b P h same z k l m = rw (same k (omega arith)) (z k l m)

-- where the part is that column's row
row_same : (s n a : ℕ) (b P : List Float) → n * s ≤ length b → a < n → P ≡ row (a * s) s b → (k : ℕ) → k < s → P ! k ≡ at s b a k
row_same s n a b P fits m q k l = ap (λ (c : List Float). c ! k) q ∙ row_at (a * s) s b (omega (arith, row_fits a n s m)) k l

pub forward_row : (s i n a r : ℕ) (L b P : List Float) → r ≤ s → n * s ≤ length b → a < n → P ≡ row (a * s) s b → Zeros 0 r (across_term s L i (λ k. at s b a k)) → Zeros 0 r (across_term s L i (λ k. P ! k))
forward_row s i n a r L b P h fits m q z = forward_part s i a r L b P h (row_same s n a b P fits m q) z

pub backward_row : (s i n a r : ℕ) (L b P : List Float) → r ≤ s → n * s ≤ length b → a < n → P ≡ row (a * s) s b → Zeros (i + 1) r (down_term s L i (λ k. at s b a k)) → Zeros (i + 1) r (down_term s L i (λ k. P ! k))
backward_row s i n a r L b P h fits m q z = backward_part s i a r L b P h (row_same s n a b P fits m q) z

-- ---- the last row of a pass
pub forward_end : (s n i : ℕ) (L b X : List Float) → i ≤ s → s ≤ i → X ≡ each_column (fill_by (unit_forward_rule s L) i) s n b → X ≡ each_column (unit_forward s L) s n b
unfolding unit_forward
forward_end s n i L b X l m e = let q : i ≡ s = omega arith in rw q at e

pub backward_end : (s n i : ℕ) (L b X : List Float) → i ≡ 0 → X ≡ each_column (fill_down (unit_backward_rule s L) s (s - i)) s n b → X ≡ each_column (unit_backward s L) s n b
unfolding unit_backward
backward_end s n i L b X z e = let q : s - i ≡ s = omega arith in rw q at e

-- ---- the three passes
forward_length : (s : ℕ) (L c : List Float) → length (unit_forward s L c) ≡ length c
unfolding unit_forward
forward_length s L c = length_by (unit_forward_rule s L) s c

over_d_length : (s : ℕ) (L c : List Float) → length (over_d s L c) ≡ length c
unfolding over_d
over_d_length s L c = length_by _ s c

pub all_solved : (s n : ℕ) (L b X Y Z : List Float) → n * s ≤ length b → X ≡ each_column (unit_forward s L) s n b → Y ≡ each_column (over_d s L) s n X → Z ≡ each_column (unit_backward s L) s n Y
    → Z ≡ grid_to n s (ldl_columns_at s L b) b
unfolding each_column column_at ldl_columns_at ldl_solve
all_solved s n L b X Y Z fits eX eY eZ =
    let both : List Float → List Float = λ c. over_d s L (unit_forward s L c) in
    let made : Y ≡ each_column both s n b = each_then (over_d s L) (unit_forward s L) both s n b X Y fits (forward_length s L) (λ c. refl) eX eY in
    each_then (unit_backward s L) both (ldl_solve s L) s n b Y Z fits (λ c. over_d_length s L (unit_forward s L c) ∙ forward_length s L c) (λ c. refl) made eZ
