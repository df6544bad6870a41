-- A and its factor, from what the four calls leave. Assumes nothing.
use Rattle.std.specs.Prelude.{Result, Ok, ⊤}
use Prim.{tt}
use mathlib.Core.Path.{◌≡◌, refl, sym, ap, ◌∙◌}
use mathlib.Core.List.{List}
use Prim.Native.Nat.{ℕ, ◌+◌, ◌*◌, ◌≤◌}
use native.Mathlib.Nat.{zero-add}
use native.Mathlib.Omega.{arith}
use lib.ListN.{length}
use lib.Ieee.{Float}
use Rattle.base.specs.Sum.{◌!◌}
use Rattle.base.specs.List.{build, zero_at, matrix, at, grid_to}
use Rattle.base.specs.Sparse.{Sparse}
use Rattle.base.specs.InPlace.{fill_by}
use Rattle.base.specs.Rows.{row, Wrote}
use Rattle.base.proofs.Fills.{build_length, row_fits, length_grid}
use Rattle.base.proofs.InPlace.{length_by}
use Rattle.base.proofs.Rows.{row_at, only_trans}
use Rattle.stored.specs.Stored.{ztwz_at}
use Rattle.model.specs.Shape.{effects_of}
use Rattle.model.specs.declared.sizes.Shape.{Shape}
use Rattle.lambda.specs.Product.{right_column_at, system_at}
use Rattle.factor.specs.Factor.{ldl_rule, ldl_of, LdlLeaves}
use Rattle.factor.specs.Triangle.{SameBelow, reach}
use Rattle.factor.proofs.LdlTextbook.{ldl_lower, ldl_end_same, ldl_only}
use Rattle.rule.specs.Solve.{ztwz_of, right_columns, system_of, factor_of}
use Rattle.solve.specs.Ready.{Whatever}
use Rattle.rule.specs.Given.{design_of}
use Rattle.solve.specs.System.{SystemLeaves}
use Rattle.base.proofs.Rows.{grid_wrote}

-- with one factor found, the front of the slice has its lower triangle
front_lower : (s : ℕ) (A b X F : List Float) (r : Result ⊤ ℕ) → s * s ≤ length b → LdlLeaves s A b r X → SameBelow s (ldl_of s A b) F → r ≡ (Ok tt)
    → SameBelow s (row 0 (s * s) X) F
unfolding reach ldl_of
front_lower s A b X F r h d same e i j l m =
    let x : X ≡ fill_by (ldl_rule s A) (s * s) b = d.out ∙ rw e refl in
    let n : length X ≡ length b = ap length x ∙ length_by (ldl_rule s A) (s * s) b in
    row_at 0 (s * s) X (omega arith) (i * s + j) (omega (arith, row_fits i s s l)) ∙ ap (λ (k : ℕ). X ! k) (zero-add (i * s + j)) ∙ ap (λ (z : List Float). at s z i j) x ∙ same i j l m

module _ (n q : ℕ) (shape : Shape) (theta : List Float) (zt : Sparse) (w t t' t'' m m' m'' S K A : List Float) (r : Result ⊤ ℕ) where
  pub system_made : q ≡ effects_of shape → q * q ≤ length t → q * q ≤ length m → m' ≡ grid_to q q (ztwz_at zt n w) m → S ≡ row 0 (q * q) m'
      → t' ≡ grid_to q q (right_column_at shape theta S) t → K ≡ row 0 (q * q) t' → m'' ≡ grid_to q q (system_at shape theta K) m' → A ≡ row 0 (q * q) m''
      → LdlLeaves q A t' r t'' → Whatever n shape theta zt (SystemLeaves w t t'' m m'' r)
  unfolding system_of right_columns ztwz_of factor_of
  system_made e ht hm em eS et eK em' eA d p offset x =
      let lm : length m' ≡ length m = ap length em ∙ length_grid q q _ m in
      let lt : length t' ≡ length t = ap length et ∙ length_grid q q _ t in
      let wS : Wrote 0 (q * q) (matrix q q (ztwz_at zt n w)) m m' = rw em (grid_wrote q q (ztwz_at zt n w) m hm) in
      let wK : Wrote 0 (q * q) (matrix q q (right_column_at shape theta S)) t t' = rw et (grid_wrote q q (right_column_at shape theta S) t ht) in
      let wA : Wrote 0 (q * q) (matrix q q (system_at shape theta K)) m' m'' = rw em' (grid_wrote q q (system_at shape theta K) m' (omega arith)) in
      let S' : S ≡ matrix q q (ztwz_at zt n w) = eS ∙ wS.row' in
      let K' : K ≡ matrix q q (right_column_at shape theta (matrix q q (ztwz_at zt n w))) = eK ∙ wK.row' ∙ rw S' refl in
      let A' : A ≡ system_of (design_of n p shape theta offset x zt) w = eA ∙ wA.row' ∙ rw (K', e) refl in
      let same : SameBelow q (ldl_of q A t') (ldl_of q A (build zero_at (q * q))) =
      ldl_lower q A A t' (build zero_at (q * q)) (omega arith) (omega (arith, build_length zero_at (q * q))) (λ i j a b. refl) in
      record {
        end = rw (← A', ← e) (d.end ∙ ldl_end_same q (ldl_of q A t') (ldl_of q A (build zero_at (q * q))) same);
        system = rw (← A', ← e) (record { row' = sym eA; only = only_trans wS.only wA.only });
        lower = rw (← A', ← e) (front_lower q A t' t'' (ldl_of q A (build zero_at (q * q))) r (omega arith) d same);
        frame = rw (← e) (only_trans wK.only (ldl_only q A t' t'' r d));
      }
