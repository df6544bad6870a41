-- The rule of LDL' below, on and above the diagonal, and the two ways on from a row. Assumes nothing.
use Rattle.std.specs.Prelude.{Ok, Err}
use Prim.{tt}
use mathlib.Core.Path.{◌≡◌, refl, sym, ap, ◌∙◌}
use mathlib.Core.List.{List}
use mathlib.Core.Bool.{Bool, true, false}
use Prim.Native.Nat.{ℕ, ◌+◌, ◌*◌, ◌<◌, ◌≤◌}
use native.Mathlib.Omega.{arith}
use lib.ListN.{length, set}
use lib.Ieee.{Float}
use Rattle.base.specs.Number.{◌⊖◌, ◌⊘◌}
use Rattle.base.specs.Sum.{◌!◌}
use Rattle.base.specs.List.{at}
use Rattle.base.specs.InPlace.{fill_by}
use Rattle.base.proofs.Fills.{place_row, place_column}
use Rattle.factor.specs.Triangle.{triangle, row_by, usable, first_bad, reach}
use Rattle.factor.specs.Factor.{ldl_sum, ldl_pivot, ldl_below, ldl_rule, ldl_of, ldl_passes, ldl_end, LdlLeaves}
use Rattle.factor.proofs.PivotTests.{first_step, first_end, first_stop}
use Rattle.factor.proofs.RowByRow.{triangle_below, triangle_on, triangle_above, row_step, row_reached, pivot_now, row_done}

-- ---- LDL'
ldl_rule_at : (s : ℕ) (A : List Float) (i j : ℕ) (x : ℕ → Float) (o : Float) → j < s → ldl_rule s A (i * s + j) x o ≡ triangle i j (ldl_below s i j x (at s A i j)) (ldl_pivot s i x (at s A i j)) o
unfolding ldl_rule
ldl_rule_at s A i j x o l = rw (place_row s i j l, place_column s i j l) refl

pub ldl_below_lem : (s : ℕ) (A : List Float) (i j : ℕ) (x : ℕ → Float) (o : Float) → i < s → j < i → ldl_rule s A (i * s + j) x o ≡ ldl_below s i j x (at s A i j)
ldl_below_lem s A i j x o l m = ldl_rule_at s A i j x o (omega arith) ∙ triangle_below i j _ _ _ m

pub ldl_on : (s : ℕ) (A : List Float) (i : ℕ) (x : ℕ → Float) (o : Float) → i < s → ldl_rule s A (i * s + i) x o ≡ ldl_pivot s i x (at s A i i)
ldl_on s A i x o l = ldl_rule_at s A i i x o l ∙ triangle_on i _ _ _

pub ldl_above : (s : ℕ) (A : List Float) (i j : ℕ) → i < j → j < s → (x : ℕ → Float) (o : Float) → ldl_rule s A (i * s + j) x o ≡ o
ldl_above s A i j m l x o = ldl_rule_at s A i j x o l ∙ triangle_above i j _ _ _ m

-- one entry more of row i
pub ldl_row_step : (s : ℕ) (A : List Float) (i j : ℕ) (b X : List Float) → i < s → j < i → X ≡ row_by (ldl_rule s A) (i * s) j b
    → set X (i * s + j) ((at s A i j ⊖ ldl_sum s (λ k. X ! k) i j) ⊘ at s X j j) ≡ row_by (ldl_rule s A) (i * s) (j + 1) b
unfolding ldl_below
ldl_row_step s A i j b X l m e = rw (← ldl_below_lem s A i j (λ k. X ! k) (X ! (i * s + j)) l m) (row_step (ldl_rule s A) (i * s) j b X e)

-- ---- from row i, which begins at io: P before it, X with its entries before the diagonal, r the test of its pivot
module _ (s i io : ℕ) (A b P X : List Float) (sum : Float) (r : Bool) (l : i < s) (h : s * s ≤ length b) (eo : io ≡ i * s) (eP : P ≡ fill_by (ldl_rule s A) (i * s) b)
    (eX : X ≡ row_by (ldl_rule s A) (i * s) i P) (es : sum ≡ ldl_sum s (λ k. X ! k) i i) (er : r ≡ usable ((A ! (io + i)) ⊖ sum)) (so : Ok tt ≡ first_bad i (ldl_passes s (ldl_of s A b))) where
  ldl_now : (A ! (io + i)) ⊖ sum ≡ ldl_rule s A (i * s + i) (λ k. X ! k) (X ! (i * s + i))
  unfolding ldl_pivot
  ldl_now = rw (eo, es) (sym (ldl_on s A i (λ k. X ! k) (X ! (i * s + i)) l))

  ldl_test : ldl_passes s (ldl_of s A b) i ≡ r
  unfolding ldl_passes ldl_of
  ldl_test = ap usable (pivot_now (ldl_rule s A) s i b P X l eP eX h ∙ sym ldl_now) ∙ sym er

  -- its pivot fails
  pub ldl_stop : r ≡ false → LdlLeaves s A b (Err i) X
  unfolding ldl_end reach
  ldl_stop e =
      record {
        end = first_stop (ldl_passes s (ldl_of s A b)) s i so (ldl_test ∙ e) l;
        out = row_reached (ldl_rule s A) s i b P X l eP eX;
      }

  -- it passes, and is written
  pub ldl_go : r ≡ true
      → (set X (io + i) ((A ! (io + i)) ⊖ sum) ≡ fill_by (ldl_rule s A) ((i + 1) * s) b) × (Ok tt ≡ first_bad (i + 1) (ldl_passes s (ldl_of s A b)))
  ldl_go e =
      let w : set X (i * s + i) ((A ! (io + i)) ⊖ sum) ≡ fill_by (ldl_rule s A) ((i + 1) * s) b =
      row_done (ldl_rule s A) s i b P X l eP eX ((A ! (io + i)) ⊖ sum) (ldl_above s A i) ldl_now in
      (rw eo (rw eo at w), first_step (ldl_passes s (ldl_of s A b)) i so (ldl_test ∙ e))

-- no row is left
pub ldl_done : (s i : ℕ) (A b X : List Float) → i ≤ s → s ≤ i → X ≡ fill_by (ldl_rule s A) (i * s) b → Ok tt ≡ first_bad i (ldl_passes s (ldl_of s A b)) → LdlLeaves s A b (Ok tt) X
unfolding ldl_end reach
ldl_done s i A b X l m e so =
    let q : i ≡ s = omega arith in
    record { end = first_end (ldl_passes s (ldl_of s A b)) i s so l m; out = rw q at e }
