-- The rule of Cholesky below, on and above the diagonal, and the two ways on from a row. Assumes nothing.
use Rattle.std.specs.Prelude.{Ok, Err}
use Prim.{tt}
use mathlib.Core.Path.{◌≡◌, refl, sym, ap, ◌∙◌}
use mathlib.Core.List.{List}
use mathlib.Core.Bool.{Bool, true, false}
use Prim.Native.Nat.{ℕ, ◌+◌, ◌*◌, ◌<◌, ◌≤◌}
use native.Mathlib.Omega.{arith}
use lib.ListN.{length, set, take, drop}
use Rattle.base.proofs.Rows.{part_at}
use lib.Ieee.{Float}
use Rattle.base.specs.Number.{◌⊖◌, ◌⊘◌}
use Rattle.base.specs.Sum.{◌!◌, sum_to, product_from}
use Rattle.base.specs.List.{at}
use Rattle.base.specs.InPlace.{fill_by}
use Rattle.base.proofs.Sums.{sum_cong}
use Rattle.base.proofs.Fills.{place_row, place_column}
use Rattle.root.specs.Sqrt.{sqrt_of}
use Rattle.factor.specs.Triangle.{rows_dot, triangle, row_by, positive, first_bad, reach}
use Rattle.factor.specs.Factor.{cholesky_pivot, cholesky_below, cholesky_rule, cholesky_of, cholesky_passes, cholesky_end, CholeskyLeaves}
use Rattle.factor.proofs.PivotTests.{first_step, first_end, first_stop}
use Rattle.factor.proofs.RowByRow.{triangle_below, triangle_on, triangle_above, by_rest, row_step, row_reached, row_stays, row_done}

-- the product of row i and of the part that begins with row j
pub rows_product : (s i j io jo n m : ℕ) (X : List Float) (z : Float) → z ≡ sum_to n (product_from X io (take m (drop jo X))) → io ≡ i * s → jo ≡ j * s → n ≤ m
    → z ≡ rows_dot s (λ k. X ! k) i j n
unfolding rows_dot
rows_product s i j io jo n m X z q e e' h =
    q ∙ sum_cong n _ _ (λ k l. rw (e, e', part_at (j * s) m k X (omega arith)) refl)

cholesky_rule_at : (s i j : ℕ) (x : ℕ → Float) (a : Float) → j < s → cholesky_rule s (i * s + j) x a ≡ triangle i j (cholesky_below s i j x a) (sqrt_of (cholesky_pivot s i x a)) a
unfolding cholesky_rule
cholesky_rule_at s i j x a l = rw (place_row s i j l, place_column s i j l) refl

pub cholesky_below_lem : (s i j : ℕ) (x : ℕ → Float) (a : Float) → i < s → j < i → cholesky_rule s (i * s + j) x a ≡ cholesky_below s i j x a
cholesky_below_lem s i j x a l m = cholesky_rule_at s i j x a (omega arith) ∙ triangle_below i j _ _ _ m

pub cholesky_on : (s i : ℕ) (x : ℕ → Float) (a : Float) → i < s → cholesky_rule s (i * s + i) x a ≡ sqrt_of (cholesky_pivot s i x a)
cholesky_on s i x a l = cholesky_rule_at s i i x a l ∙ triangle_on i _ _ _

pub cholesky_above : (s i j : ℕ) → i < j → j < s → (x : ℕ → Float) (a : Float) → cholesky_rule s (i * s + j) x a ≡ a
cholesky_above s i j m l x a = cholesky_rule_at s i j x a l ∙ triangle_above i j _ _ _ m

-- one entry more of row i
pub cholesky_row_step : (s i j : ℕ) (b X : List Float) → i < s → j < i → X ≡ row_by (cholesky_rule s) (i * s) j b
    → set X (i * s + j) ((at s X i j ⊖ rows_dot s (λ k. X ! k) i j j) ⊘ at s X j j) ≡ row_by (cholesky_rule s) (i * s) (j + 1) b
unfolding cholesky_below
cholesky_row_step s i j b X l m e = rw (← cholesky_below_lem s i j (λ k. X ! k) (X ! (i * s + j)) l m) (row_step (cholesky_rule s) (i * s) j b X e)

-- ---- from row i, which begins at io: P before it, X with its entries before the diagonal, r the test of its pivot
module _ (s i io : ℕ) (A P X : List Float) (sum : Float) (r : Bool) (l : i < s) (h : s * s ≤ length A) (eo : io ≡ i * s) (eP : P ≡ fill_by (cholesky_rule s) (i * s) A)
    (eX : X ≡ row_by (cholesky_rule s) (i * s) i P) (es : sum ≡ rows_dot s (λ k. X ! k) i i i) (er : r ≡ positive ((X ! (io + i)) ⊖ sum)) (so : Ok tt ≡ first_bad i (cholesky_passes s A (cholesky_of s A))) where
  cholesky_pivot_lem : cholesky_pivot s i (λ k. cholesky_of s A ! k) (at s A i i) ≡ (X ! (io + i)) ⊖ sum
  unfolding cholesky_pivot rows_dot cholesky_of
  cholesky_pivot_lem =
      let old : X ! (i * s + i) ≡ A ! (i * s + i) =
      ap (λ (w : List Float). w ! (i * s + i)) (row_reached (cholesky_rule s) s i A P X l eP eX) ∙ by_rest (cholesky_rule s) (i * s + i) A (i * s + i) (omega arith) in
      rw (eo, es, old)
      (ap (λ (z : Float). (A ! (i * s + i)) ⊖ z) (sum_cong i _ _ (λ k m. rw (row_stays (cholesky_rule s) s i A P X l eP eX k m) refl)))

  cholesky_test : cholesky_passes s A (cholesky_of s A) i ≡ r
  unfolding cholesky_passes
  cholesky_test = ap positive cholesky_pivot_lem ∙ sym er

  -- its pivot fails
  pub cholesky_stop : r ≡ false → CholeskyLeaves s A (Err i) X
  unfolding cholesky_end reach
  cholesky_stop e =
      record {
        end = first_stop (cholesky_passes s A (cholesky_of s A)) s i so (cholesky_test ∙ e) l;
        out = row_reached (cholesky_rule s) s i A P X l eP eX;
      }

  -- it passes, and its root is written
  pub cholesky_go : r ≡ true
      → (set X (io + i) (sqrt_of ((X ! (io + i)) ⊖ sum)) ≡ fill_by (cholesky_rule s) ((i + 1) * s) A) × (Ok tt ≡ first_bad (i + 1) (cholesky_passes s A (cholesky_of s A)))
  unfolding cholesky_pivot
  cholesky_go e =
      let now : sqrt_of ((X ! (i * s + i)) ⊖ sum) ≡ cholesky_rule s (i * s + i) (λ k. X ! k) (X ! (i * s + i)) =
      rw es (sym (cholesky_on s i (λ k. X ! k) (X ! (i * s + i)) l)) in
      (rw eo (row_done (cholesky_rule s) s i A P X l eP eX _ (cholesky_above s i) now), first_step (cholesky_passes s A (cholesky_of s A)) i so (cholesky_test ∙ e))

-- no row is left
pub cholesky_done : (s i : ℕ) (A X : List Float) → i ≤ s → s ≤ i → X ≡ fill_by (cholesky_rule s) (i * s) A → Ok tt ≡ first_bad i (cholesky_passes s A (cholesky_of s A)) → CholeskyLeaves s A (Ok tt) X
unfolding cholesky_end reach
cholesky_done s i A X l m e so =
    let q : i ≡ s = omega arith in
    record { end = first_end (cholesky_passes s A (cholesky_of s A)) i s so l m; out = rw q at e }
